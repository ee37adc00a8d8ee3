-- No fault is found exactly in bytes that are in form. Assumes nothing.
use Rattle.std.proofs.Common.{◌≡◌, ℕ, zero, suc, ◌+◌, ◌≤◌, Bool, true, false, ◌&&◌, eqb, leb, List, [], ◌∷◌, length, get_or, Some, None, Option, sym, refl, ap, ◌∙◌, ⊎_elim, arith}
use Rattle.std.proofs.Math.Bool.{and_assoc}
use Rattle.std.proofs.lemmas.Bool.{and_from, leb-true, le-leb, eqb-true, eq-eqb, cond-true, cond-false, cases_Bool}
use Rattle.refusals.specs.declared.Kind.{Kind}
use Rattle.refusals.specs.declared.ByteFault.{ByteFault}
use Rattle.refusals.specs.declared.ByteFault.TheVariants.{Overruns, Undue, Misfits}
use Rattle.refusals.specs.Numbers.{kinds, kind_number}
use Rattle.fields.specs.Fields.{be2, whole, content, after, size, text_tag, text}
use Rattle.layout.specs.Layout.{limits, numbers, texts, after_texts, fits, kind_of, deposit_tag}
use Rattle.layout.specs.Reading.{is_row, rows_left, is_deposit, in_form}
use Rattle.layout.proofs.Walks.{after_shorter, row_whole, row_fits}
use Rattle.layout.proofs.Tags.{kind_of_number, kind_of_tag, row_tag}
use Rattle.layout.proofs.Sections.{sections, holds, all_held, sections_within, sections_none, sections_row}
use Rattle.form.specs.Look.{or_else, unless, text_fault, texts_fault, row_fault, due_fault, field_fault, rows_fault, deposit_fault, form_fault}
use Rattle.form.proofs.Onward.{none_both, unless_none, field_whole}

-- nothing was found
abbrev pub clean : Option ByteFault → Bool
clean None = true
clean (Some x) = false

pub clean_none : (x : Option ByteFault) → clean x ≡ true → x ≡ None
clean_none None h = refl
clean_none (Some f) h = cc

clean_unless : (b : Bool) (f : ByteFault) → clean (unless b f) ≡ b
clean_unless true f = refl
clean_unless false f = refl

clean_else : (x y : Option ByteFault) → clean (or_else x y) ≡ (clean x && clean y)
clean_else None y = refl
clean_else (Some f) y = refl

-- nothing is found where two tests hold, one after the other
clean_both : (x y : Option ByteFault) (a b : Bool) → clean x ≡ a → clean y ≡ b → clean (or_else x y) ≡ (a && b)
clean_both x y a b p q = clean_else x y ∙ ap (λ t. t && clean y) p ∙ ap (λ t. a && t) q

pub clean_text : (m p : ℕ) (bs : List ℕ) → clean (text_fault m p bs) ≡ text m bs
clean_text m p bs =
    clean_both _ _ _ _ (clean_unless (whole bs) (Overruns p)) (clean_both _ _ _ _ (clean_unless (eqb (get_or bs 0 0) text_tag) (Undue p)) (clean_unless (leb (be2 bs 1) m) (Misfits p)))
    ∙ sym (and_assoc (whole bs) (eqb (get_or bs 0 0) text_tag) (leb (be2 bs 1) m))

pub clean_texts : (ms : List ℕ) (p : ℕ) (c : List ℕ) → clean (texts_fault ms p c) ≡ texts ms c
clean_texts [] p c = refl
clean_texts (m ∷ ms) p c = clean_both _ _ _ _ (clean_text m p c) (clean_texts ms (p + size c) (after c))

clean_row : (k : Kind) (p : ℕ) (c : List ℕ) → clean (row_fault k p c) ≡ fits k c
clean_row k p c = clean_both _ _ _ _ (clean_texts (limits k) (p + 3) c) (clean_unless (numbers k (after_texts (limits k) c)) (Misfits p))

-- in a row that is due nothing is found
pub row_clean : (k : Kind) (least p : ℕ) (bs : List ℕ) → is_row k bs ≡ true → least ≤ kind_number k → field_fault least p bs ≡ None
row_clean k least p bs r h =
    let t = row_tag k bs r in
    let l : least ≤ get_or bs 0 0 = omega arith in
    let f : row_fault k p (content bs) ≡ None = clean_none _ (clean_row k p (content bs) ∙ row_fits k bs r) in
    let a : unless (whole bs) (Overruns p) ≡ None = cond-true (whole bs) None _ (row_whole k bs r) in
    let b : unless (leb least (get_or bs 0 0)) (Undue p) ≡ None = cond-true _ None _ (le-leb least (get_or bs 0 0) l) in
    ap (λ x. or_else x (due_fault (kind_of (get_or bs 0 0)) least p bs)) a
    ∙ ap (λ x. due_fault x least p bs) (ap kind_of t ∙ kind_of_number k)
    ∙ ap (λ x. or_else x (row_fault k p (content bs))) b
    ∙ f

-- a field in which nothing is found is a row that is due
pub record DueRow (least : ℕ) (bs : List ℕ) : Type 0 where
  pub kind : Kind
  pub row : is_row kind bs ≡ true
  pub due : least ≤ kind_number kind
  pub tag : get_or bs 0 0 ≡ kind_number kind

pub clean_due : (least p : ℕ) (bs : List ℕ) → field_fault least p bs ≡ None → DueRow least bs
clean_due least p bs h = by (kind_of (get_or bs 0 0)) refl (none_both _ _ h).1
  where
    by : (o : Option Kind) → kind_of (get_or bs 0 0) ≡ o → due_fault o least p bs ≡ None → DueRow least bs
    by None e d = let z : ◌≡◌ {A = ℕ} 0 1 = cc in absurd (omega arith)
    by (Some k) e d =
        let q = none_both (unless (leb least (get_or bs 0 0)) (Undue p)) (row_fault k p (content bs)) d in
        let t = kind_of_tag (get_or bs 0 0) k e in
        let l = leb-true least (get_or bs 0 0) (unless_none _ _ q.0) in
        record {
          kind = k;
          row = and_from _ _ (and_from _ _ (field_whole least p bs h) (eq-eqb _ _ t)) (sym (clean_row k p (content bs)) ∙ ap clean q.1);
          due = omega arith;
          tag = t;
        }

-- nothing is found in rows exactly where the rows of each kind in turn leave nothing
module _ (ks : List Kind) (all : (k : Kind) → holds (kind_number k) ks ≡ true) where
  nothing_left : (least : ℕ) (bs : List ℕ) → length bs ≡ 0 → eqb (length (sections ks least bs)) 0 ≡ true
  nothing_left least bs h = eq-eqb _ 0 (omega (arith, sections_within ks least bs))

  rows_clean : (f least p : ℕ) (bs : List ℕ) → length bs ≤ f → clean (rows_fault f least p bs) ≡ eqb (length (sections ks least bs)) 0
  rows_clean zero least p bs h = sym (nothing_left least bs (omega arith))
  rows_clean (suc f) least p bs h =
      ⊎_elim
      (λ b. ap clean (cond-true _ None _ b) ∙ sym (nothing_left least bs (eqb-true (length bs) 0 b)))
      (λ b. ap clean (cond-false _ None _ b) ∙ by (field_fault least p bs) refl b (λ t q cs. rows_clean f t q cs))
      (cases_Bool (eqb (length bs) 0))
    where
      by : (o : Option ByteFault) → field_fault least p bs ≡ o → eqb (length bs) 0 ≡ false → ((t q : ℕ) (cs : List ℕ) → length cs ≤ f → clean (rows_fault f t q cs) ≡ eqb (length (sections ks t cs)) 0) → clean (or_else o (rows_fault f (get_or bs 0 0) (p + size bs) (after bs))) ≡ eqb (length (sections ks least bs)) 0
      by None e b ih =
          let d = clean_due least p bs e in
          let s = after_shorter bs (field_whole least p bs e) in
          ih (get_or bs 0 0) (p + size bs) (after bs) (omega arith)
          ∙ ap (λ t. eqb (length (sections ks t (after bs))) 0) d.tag
          ∙ ap (λ l. eqb (length l) 0) (sym (sections_row ks d.kind least bs d.row d.due (all d.kind)))
      by (Some x) e b ih =
          let none : (k : Kind) → least ≤ kind_number k → is_row k bs ≡ false = λ k l. ⊎_elim (λ r. let c = row_clean k least p bs r l in let z : ◌≡◌ {A = ℕ} 0 1 = cc in absurd (omega arith)) (λ r. r) (cases_Bool (is_row k bs)) in
          sym (ap (λ l. eqb (length l) 0) (sections_none ks least bs none) ∙ b)

pub deposit_clean : (p : ℕ) (bs : List ℕ) → clean (deposit_fault p bs) ≡ is_deposit bs
deposit_clean p bs =
    let left = eqb (length (rows_left (content bs))) 0 in
    clean_both _ _ _ _ (clean_unless (whole bs) (Overruns p)) (clean_both _ _ _ left (clean_unless (eqb (get_or bs 0 0) deposit_tag) (Undue p)) (rows_clean kinds all_held (length (content bs)) 0 (p + 3) (content bs) (omega arith)))
    ∙ sym (and_assoc (whole bs) (eqb (get_or bs 0 0) deposit_tag) left)

pub form_clean : (bs : List ℕ) → clean (form_fault bs) ≡ in_form bs
form_clean bs = clean_both _ _ _ _ (deposit_clean 0 bs) (clean_unless (eqb (length (after bs)) 0) (Undue (size bs)))
