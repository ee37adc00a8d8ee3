-- What is told is the first fault, and the first fault is told. Assumes nothing.
use Rattle.std.proofs.Common.{◌≡◌, ℕ, zero, suc, ◌+◌, ◌-◌, ◌<◌, ◌≤◌, Bool, true, false, eqb, ◌⊎◌, List, [], ◌∷◌, length, get_or, take, drop, Some, None, Option, sym, refl, ap, ◌∙◌, subst, inl, inr, ⊎_elim, arith, drop-drop, MatchOption}
use Rattle.std.proofs.lemmas.List.{drop-take}
use Rattle.std.proofs.lemmas.Bool.{and_parts, and_from, leb-true, leb-false, le-leb, lt-leb, eqb-true, eqb-false, eq-eqb, ne_eqb, cond-true, cond-false, cases_Bool}
use Rattle.refusals.specs.declared.Kind.{Kind}
use Rattle.refusals.specs.declared.ByteFault.{ByteFault}
use Rattle.refusals.specs.declared.ByteFault.TheVariants.{Overruns, Undue}
use Rattle.refusals.specs.Numbers.{kind_number}
use Rattle.fields.specs.Fields.{be2, whole, content, after, size, tagged, text_tag}
use Rattle.layout.specs.Layout.{limits, kind_of, deposit_tag}
use Rattle.layout.specs.Reading.{is_deposit, in_form}
use Rattle.layout.proofs.Walks.{after_shorter, row_whole}
use Rattle.layout.proofs.Tags.{kind_of_number, kind_of_tag, row_tag}
use Rattle.form.specs.Look.{or_else, unless, text_fault, texts_fault, row_fault, due_fault, field_fault, rows_fault, deposit_fault, form_fault}
use Rattle.form.specs.Words.{InForm, BrokenText, BrokenTexts, BrokenRow, BrokenField, FirstAt, First, ToldAt, Told}
use Rattle.form.specs.Words as words
use Rattle.form.proofs.Onward.{none_both, unless_none, field_whole, rows_here, rows_on, rows_end}
use Rattle.form.proofs.Agrees.{clean, clean_none, clean_text, clean_texts, row_clean, clean_due, deposit_clean, form_clean}

-- which of two tests finds a fault
else_some : (a b : Option ByteFault) (x : ByteFault) → or_else a b ≡ Some x → (a ≡ Some x) ⊎ ((a ≡ None) × (b ≡ Some x))
else_some None b x h = inr (refl, h)
else_some (Some f) b x h = inl h

unless_some : (t : Bool) (f x : ByteFault) → unless t f ≡ Some x → (t ≡ false) × (x ≡ f)
unless_some true f x h = let z : ◌≡◌ {A = ℕ} 0 1 = cc in absurd (omega arith)
unless_some false f x h = (refl, cc)

-- and back: the test that finds it says which fault the two tell
else_first : (a b : Option ByteFault) (x : ByteFault) → a ≡ Some x → or_else a b ≡ Some x
else_first a b x e = ap (λ o. or_else o b) e

else_then : (a b : Option ByteFault) (x : ByteFault) → a ≡ None → b ≡ Some x → or_else a b ≡ Some x
else_then a b x e f = ap (λ o. or_else o b) e ∙ f

unless_told : (t : Bool) (f x : ByteFault) → t ≡ false → x ≡ f → unless t f ≡ Some x
unless_told t f x e g = cond-false t None (Some f) e ∙ ap Some (sym g)

unless_not : (t : Bool) (f : ByteFault) → t ≡ true → unless t f ≡ None
unless_not t f e = cond-true t None (Some f) e

-- a text
told_text : (m p : ℕ) (bs : List ℕ) (x : ByteFault) → text_fault m p bs ≡ Some x → BrokenText m p bs x
told_text m p bs x h =
    ⊎_elim
    (λ e. let u = unless_some _ _ x e in words.BrokenText.overruns u.0 u.1)
    (λ e.
    let w = unless_none _ _ e.0 in
    ⊎_elim
    (λ g. let u = unless_some _ _ x g in words.BrokenText.undue w (eqb-false _ _ u.0) u.1)
    (λ g. let u = unless_some _ _ x g.1 in words.BrokenText.too_long (and_from _ _ w (unless_none _ _ g.0)) (leb-false _ _ u.0) u.1)
    (else_some _ _ x e.1))
    (else_some _ _ x h)

text_told : (m p : ℕ) (bs : List ℕ) (x : ByteFault) → BrokenText m p bs x → text_fault m p bs ≡ Some x
text_told m p bs x (words.BrokenText.overruns w e) = else_first _ _ x (unless_told _ _ x w e)
text_told m p bs x (words.BrokenText.undue w t e) = else_then _ _ x (unless_not _ _ w) (else_first _ _ x (unless_told _ _ x (ne_eqb _ _ t) e))
text_told m p bs x (words.BrokenText.too_long t l e) =
    let q = and_parts (whole bs) (eqb (get_or bs 0 0) text_tag) t in
    else_then _ _ x (unless_not _ _ q.0) (else_then _ _ x (unless_not _ _ q.1) (unless_told _ _ x (lt-leb _ _ l) e))

-- texts, one behind the other
told_texts : (ms : List ℕ) (p : ℕ) (c : List ℕ) (x : ByteFault) → texts_fault ms p c ≡ Some x → BrokenTexts ms p c x
told_texts [] p c x h = let z : ◌≡◌ {A = ℕ} 0 1 = cc in absurd (omega arith)
told_texts (m ∷ ms) p c x h =
    ⊎_elim
    (λ e. inl (told_text m p c x e))
    (λ e. inr (sym (clean_text m p c) ∙ ap clean e.0, told_texts ms (p + size c) (after c) x e.1))
    (else_some (text_fault m p c) (texts_fault ms (p + size c) (after c)) x h)

texts_told : (ms : List ℕ) (p : ℕ) (c : List ℕ) (x : ByteFault) → BrokenTexts ms p c x → texts_fault ms p c ≡ Some x
texts_told [] p c x h = absurd h
texts_told (m ∷ ms) p c x h =
    ⊎_elim
    (λ e. else_first _ _ x (text_told m p c x e))
    (λ e. else_then _ _ x (clean_none (text_fault m p c) (clean_text m p c ∙ e.0)) (texts_told ms (p + size c) (after c) x e.1))
    h

-- the content of a row
told_row : (k : Kind) (p : ℕ) (c : List ℕ) (x : ByteFault) → row_fault k p c ≡ Some x → BrokenRow k p c x
told_row k p c x h =
    ⊎_elim
    (λ e. words.BrokenRow.a_text (told_texts (limits k) (p + 3) c x e))
    (λ e. let u = unless_some _ _ x e.1 in words.BrokenRow.the_numbers (sym (clean_texts (limits k) (p + 3) c) ∙ ap clean e.0) u.0 u.1)
    (else_some (texts_fault (limits k) (p + 3) c) _ x h)

row_told : (k : Kind) (p : ℕ) (c : List ℕ) (x : ByteFault) → BrokenRow k p c x → row_fault k p c ≡ Some x
row_told k p c x (words.BrokenRow.a_text b) = else_first _ _ x (texts_told (limits k) (p + 3) c x b)
row_told k p c x (words.BrokenRow.the_numbers t n e) =
    else_then _ _ x (clean_none (texts_fault (limits k) (p + 3) c) (clean_texts (limits k) (p + 3) c ∙ t)) (unless_told _ _ x n e)

-- a field where a row is due
told_field : (least p : ℕ) (bs : List ℕ) (x : ByteFault) → field_fault least p bs ≡ Some x → BrokenField least p bs x
told_field least p bs x h =
    ⊎_elim
    (λ e. let u = unless_some _ _ x e in words.BrokenField.overruns u.0 u.1)
    (λ e. by (unless_none _ _ e.0) (kind_of (get_or bs 0 0)) refl e.1)
    (else_some _ _ x h)
  where
    by : whole bs ≡ true → (o : Option Kind) → kind_of (get_or bs 0 0) ≡ o → due_fault o least p bs ≡ Some x → BrokenField least p bs x
    by w None e d =
        words.BrokenField.unknown w (λ k t. let f = ap kind_of t ∙ kind_of_number k in let z : ◌≡◌ {A = ℕ} 0 1 = cc in omega arith) (cc)
    by w (Some k) e d =
        let t = kind_of_tag (get_or bs 0 0) k e in
        ⊎_elim
        (λ g. let u = unless_some _ _ x g in words.BrokenField.backwards w (leb-false _ _ u.0) u.1)
        (λ g.
        let l = leb-true least (get_or bs 0 0) (unless_none _ _ g.0) in
        words.BrokenField.within k (and_from _ _ w (eq-eqb _ _ t)) (omega arith) (told_row k p (content bs) x g.1))
        (else_some _ _ x d)

due_told : (least p : ℕ) (bs : List ℕ) (x : ByteFault) → whole bs ≡ true → due_fault (kind_of (get_or bs 0 0)) least p bs ≡ Some x → field_fault least p bs ≡ Some x
due_told least p bs x w d = else_then _ _ x (unless_not _ _ w) d

field_told : (least p : ℕ) (bs : List ℕ) (x : ByteFault) → BrokenField least p bs x → field_fault least p bs ≡ Some x
field_told least p bs x (words.BrokenField.overruns w e) = else_first _ _ x (unless_told _ _ x w e)
field_told least p bs x (words.BrokenField.unknown w n e) = due_told least p bs x w (by (kind_of (get_or bs 0 0)) refl)
  where
    by : (o : Option Kind) → kind_of (get_or bs 0 0) ≡ o → due_fault o least p bs ≡ Some x
    by None f = ap Some (sym e)
    by (Some k) f = absurd (n k (kind_of_tag (get_or bs 0 0) k f))
field_told least p bs x (words.BrokenField.backwards w l e) = due_told least p bs x w (by (kind_of (get_or bs 0 0)))
  where
    by : (o : Option Kind) → due_fault o least p bs ≡ Some x
    by None = ap Some (sym e)
    by (Some k) = else_first _ _ x (unless_told _ _ x (lt-leb least (get_or bs 0 0) l) e)
field_told least p bs x (words.BrokenField.within k t l b) =
    let q = and_parts (whole bs) (eqb (get_or bs 0 0) (kind_number k)) t in
    let g = eqb-true (get_or bs 0 0) (kind_number k) q.1 in
    let m : least ≤ get_or bs 0 0 = omega arith in
    due_told least p bs x q.0 (ap (λ o. due_fault o least p bs) (ap kind_of g ∙ kind_of_number k) ∙ else_then _ _ x (unless_not _ _ (le-leb least (get_or bs 0 0) m)) (row_told k p (content bs) x b))

-- a field with a fault behind rows in form
record Found (least p : ℕ) (bs : List ℕ) (x : ByteFault) : Type 0 where
  tag : ℕ
  place : ℕ
  rest : List ℕ
  before : InForm least p bs tag place rest
  some : 0 < length rest
  broken : BrokenField tag place rest x

told_rows : (f least p : ℕ) (bs : List ℕ) (x : ByteFault) → rows_fault f least p bs ≡ Some x → Found least p bs x
told_rows zero least p bs x h = let z : ◌≡◌ {A = ℕ} 0 1 = cc in absurd (omega arith)
told_rows (suc f) least p bs x h =
    ⊎_elim
    (λ b. let n = sym (cond-true _ None _ b) ∙ h in let z : ◌≡◌ {A = ℕ} 0 1 = cc in absurd (omega arith))
    (λ b.
    let n = eqb-false (length bs) 0 b in
    ⊎_elim
    (λ e. record { tag = least; place = p; rest = bs; before = words.InForm.here; some = omega arith; broken = told_field least p bs x e })
    (λ e.
    let d = clean_due least p bs e.0 in
    let r : Found (kind_number d.kind) (p + size bs) (after bs) x = subst (λ t. Found t (p + size bs) (after bs) x) d.tag (told_rows f (get_or bs 0 0) (p + size bs) (after bs) x e.1) in
    record { tag = r.tag; place = r.place; rest = r.rest; before = words.InForm.row d.kind d.row d.due r.before; some = r.some; broken = r.broken })
    (else_some (field_fault least p bs) _ x (sym (cond-false _ None _ b) ∙ h)))
    (cases_Bool (eqb (length bs) 0))

-- rows in form are passed
passed : (least p : ℕ) (bs : List ℕ) (t q : ℕ) (rest : List ℕ) → InForm least p bs t q rest → rows_fault (length bs) least p bs ≡ rows_fault (length rest) t q rest
passed least p bs t q rest words.InForm.here = refl
passed least p bs t q rest (words.InForm.row k r l more) =
    let s = after_shorter bs (row_whole k bs r) in
    rows_on least p bs (omega arith) (row_clean k least p bs r l)
    ∙ ap (λ m. rows_fault (length (after bs)) m (p + size bs) (after bs)) (row_tag k bs r)
    ∙ passed (kind_number k) (p + size bs) (after bs) t q rest more

-- where nothing is found, rows in form lead to the end
record Ended (least p : ℕ) (bs : List ℕ) : Type 0 where
  tag : ℕ
  place : ℕ
  rest : List ℕ
  before : InForm least p bs tag place rest
  none : length rest ≡ 0

none_rows : (f least p : ℕ) (bs : List ℕ) → length bs ≤ f → rows_fault f least p bs ≡ None → Ended least p bs
none_rows zero least p bs l h = record { tag = least; place = p; rest = bs; before = words.InForm.here; none = omega arith }
none_rows (suc f) least p bs l h =
    ⊎_elim
    (λ b. record { tag = least; place = p; rest = bs; before = words.InForm.here; none = eqb-true (length bs) 0 b })
    (λ b.
    let e = none_both (field_fault least p bs) _ (sym (cond-false _ None _ b) ∙ h) in
    let d = clean_due least p bs e.0 in
    let s = after_shorter bs (field_whole least p bs e.0) in
    let r : Ended (kind_number d.kind) (p + size bs) (after bs) = subst (λ t. Ended t (p + size bs) (after bs)) d.tag (none_rows f (get_or bs 0 0) (p + size bs) (after bs) (omega arith) e.1) in
    record { tag = r.tag; place = r.place; rest = r.rest; before = words.InForm.row d.kind d.row d.due r.before; none = r.none })
    (cases_Bool (eqb (length bs) 0))

-- what is left stands where the place says
left_at : (l p : ℕ) (bs : List ℕ) (t q : ℕ) (rest : List ℕ) → InForm l p bs t q rest → (p ≤ q) × (rest ≡ drop (q - p) bs)
left_at l p bs t q rest words.InForm.here =
    let e : 0 ≡ p - p = omega arith in
    (omega arith, ap (λ n. drop n bs) e)
left_at l p bs t q rest (words.InForm.row k r d more) =
    let ih = left_at (kind_number k) (p + size bs) (after bs) t q rest more in
    let w = row_whole k bs r in
    let s : size bs ≡ 3 + be2 bs 1 = cond-true (whole bs) (3 + be2 bs 1) 0 w in
    let a : after bs ≡ drop (size bs) bs = cond-true (whole bs) (drop (3 + be2 bs 1) bs) [] w ∙ ap (λ n. drop n bs) (sym s) in
    let n : size bs + (q - (p + size bs)) ≡ q - p = omega (arith, ih.0) in
    (omega (arith, ih.0), ih.1 ∙ ap (drop (q - (p + size bs))) a ∙ drop-drop (q - (p + size bs)) (size bs) bs ∙ ap (λ m. drop m bs) n)

-- one deposit that is due at a place
module _ (p : ℕ) (bs : List ℕ) where
  told_first : (x : ByteFault) → deposit_fault p bs ≡ Some x → FirstAt p bs x
  told_first x h =
      ⊎_elim
      (λ e. let u = unless_some _ _ x e in words.FirstAt.overruns u.0 u.1)
      (λ e.
      let w = unless_none _ _ e.0 in
      ⊎_elim
      (λ g. let u = unless_some _ _ x g in words.FirstAt.undue w (eqb-false _ _ u.0) u.1)
      (λ g.
      let r = told_rows (length (content bs)) 0 (p + 3) (content bs) x g.1 in
      words.FirstAt.within r.tag r.place r.rest (and_from _ _ w (unless_none _ _ g.0)) r.before r.some r.broken)
      (else_some _ _ x e.1))
      (else_some _ _ x h)

  -- what is found in the rows of a deposit is found
  inside : tagged deposit_tag bs ≡ true → deposit_fault p bs ≡ rows_fault (length (content bs)) 0 (p + 3) (content bs)
  inside t =
      let q = and_parts (whole bs) (eqb (get_or bs 0 0) deposit_tag) t in
      ap (λ o. or_else o (or_else (unless (eqb (get_or bs 0 0) deposit_tag) (Undue p)) (rows_fault (length (content bs)) 0 (p + 3) (content bs)))) (unless_not (whole bs) (Overruns p) q.0)
      ∙ ap (λ o. or_else o (rows_fault (length (content bs)) 0 (p + 3) (content bs))) (unless_not (eqb (get_or bs 0 0) deposit_tag) (Undue p) q.1)

  first_told : (x : ByteFault) → FirstAt p bs x → deposit_fault p bs ≡ Some x
  first_told x (words.FirstAt.overruns w e) =
      else_first _ _ x (unless_told _ _ x w e)
  first_told x (words.FirstAt.undue w n e) =
      else_then _ _ x (unless_not _ _ w) (else_first _ _ x (unless_told _ _ x (ne_eqb _ _ n) e))
  first_told x (words.FirstAt.within l q rest t before some broken) =
      inside t ∙ passed 0 (p + 3) (content bs) l q rest before ∙ rows_here l q rest x some (field_told l q rest x broken)

  there_at : (l q : ℕ) (rest : List ℕ) → tagged deposit_tag bs ≡ true → InForm 0 (p + 3) (content bs) l q rest → (p ≤ q) × (rest ≡ drop (q - p) (take (size bs) bs))
  there_at l q rest t before =
      let w = (and_parts (whole bs) (eqb (get_or bs 0 0) deposit_tag) t).0 in
      let at = left_at 0 (p + 3) (content bs) l q rest before in
      let s : size bs ≡ 3 + be2 bs 1 = cond-true (whole bs) (3 + be2 bs 1) 0 w in
      let c : content bs ≡ drop 3 (take (size bs) bs) = cond-true (whole bs) (take (be2 bs 1) (drop 3 bs)) [] w ∙ sym (drop-take 3 (be2 bs 1) bs) ∙ ap (λ n. drop 3 (take n bs)) (sym s) in
      let n : 3 + (q - (p + 3)) ≡ q - p = omega (arith, at.0) in
      (omega (arith, at.0), at.1 ∙ ap (drop (q - (p + 3))) c ∙ drop-drop (q - (p + 3)) 3 (take (size bs) bs) ∙ ap (λ m. drop m (take (size bs) bs)) n)

  cases_at : (r : Option ByteFault) → r ≡ deposit_fault p bs → MatchOption r (is_deposit bs ≡ true) (FirstAt p bs)
  cases_at None e = sym (deposit_clean p bs) ∙ ap clean (sym e)
  cases_at (Some x) e = told_first x (sym e)

  pub told_at : (r : Option ByteFault) → r ≡ deposit_fault p bs → ToldAt p bs r
  told_at r e = record {
    reads = λ s. e ∙ clean_none (deposit_fault p bs) (deposit_clean p bs ∙ s);
    first = cases_at r e;
    only = λ x f. e ∙ first_told x f;
    there = there_at;
  }

-- one deposit, and nothing behind it
module _ (bs : List ℕ) where
  told_form : (x : ByteFault) → form_fault bs ≡ Some x → First bs x
  told_form x h =
      ⊎_elim
      (λ e. words.First.the_deposit (told_first 0 bs x e))
      (λ e.
      let u = unless_some _ _ x e.1 in
      let z = eqb-false (length (after bs)) 0 u.0 in
      let t = (and_parts (tagged deposit_tag bs) _ (sym (deposit_clean 0 bs) ∙ ap clean e.0)).0 in
      let r = none_rows (length (content bs)) 0 3 (content bs) (omega arith) (sym (inside 0 bs t) ∙ e.0) in
      words.First.behind r.tag r.place r.rest t r.before r.none (omega arith) u.1)
      (else_some (deposit_fault 0 bs) _ x h)

  form_told : (x : ByteFault) → First bs x → form_fault bs ≡ Some x
  form_told x (words.First.the_deposit f) = else_first _ _ x (first_told 0 bs x f)
  form_told x (words.First.behind l q rest t before none some e) =
      else_then _ _ x (inside 0 bs t ∙ passed 0 3 (content bs) l q rest before ∙ rows_end l q rest none) (unless_told _ _ x (ne_eqb (length (after bs)) 0 (λ z. omega arith)) e)

  there_form : (l p : ℕ) (rest : List ℕ) → tagged deposit_tag bs ≡ true → InForm 0 3 (content bs) l p rest → rest ≡ drop p (take (size bs) bs)
  there_form l p rest t before =
      let e : p - 0 ≡ p = omega arith in
      (there_at 0 bs l p rest t before).1 ∙ ap (λ n. drop n (take (size bs) bs)) e

  cases_form : (r : Option ByteFault) → r ≡ form_fault bs → MatchOption r (in_form bs ≡ true) (First bs)
  cases_form None e = sym (form_clean bs) ∙ ap clean (sym e)
  cases_form (Some x) e = told_form x (sym e)

  pub told : (r : Option ByteFault) → r ≡ form_fault bs → Told bs r
  told r e = record {
    reads = λ s. e ∙ clean_none (form_fault bs) (form_clean bs ∙ s);
    first = cases_form r e;
    only = λ x f. e ∙ form_told x f;
    there = there_form;
  }
