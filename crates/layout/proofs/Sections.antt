-- Rows in kind order are the rows of each kind in turn. Assumes nothing.
use Rattle.std.proofs.Common.{◌≡◌, ℕ, zero, suc, ◌-◌, ◌≤◌, Bool, true, false, cond, ◌&&◌, eqb, ltb, leb, List, [], ◌∷◌, length, sym, refl, ap, ◌∙◌, ⊎_elim, arith}
use Rattle.std.proofs.lemmas.Bool.{and_parts, leb-true, le-leb, lt-leb, ltb-true, eqb-true, cond-true, cond-false, cases_Bool}
use Rattle.refusals.specs.declared.Kind.{Kind}
use Rattle.refusals.specs.declared.Kind.TheVariants.{Head, Line, Stop, Profile, Special, Link, Section, Use, Pattern, Override, Journey}
use Rattle.refusals.specs.Numbers.{kinds, kind_number}
use Rattle.fields.specs.Fields.{after}
use Rattle.layout.specs.Reading.{is_row, past_in, past, rows_left}
use Rattle.layout.proofs.Walks.{after_shorter, row_whole, past_more, past_none, past_is}
use Rattle.layout.proofs.Tags.{same_kind, row_tag}

module _ (k : Kind) where
  past_fuel : (f g : ℕ) (bs : List ℕ) → length bs ≤ f → length bs ≤ g → past_in k f bs ≡ past_in k g bs
  past_fuel zero g bs h i =
      ⊎_elim (λ r. absurd (omega (arith, after_shorter bs (row_whole k bs r)))) (λ r. past_none k zero bs r ∙ sym (past_none k g bs r)) (cases_Bool (is_row k bs))
  past_fuel (suc f) zero bs h i =
      ⊎_elim (λ r. absurd (omega (arith, after_shorter bs (row_whole k bs r)))) (λ r. past_none k (suc f) bs r ∙ sym (past_none k zero bs r)) (cases_Bool (is_row k bs))
  past_fuel (suc f) (suc g) bs h i =
      ⊎_elim
      (λ r. let s = after_shorter bs (row_whole k bs r) in past_more k f bs r ∙ past_fuel f g (after bs) (omega arith) (omega arith) ∙ sym (past_more k g bs r))
      (λ r. past_none k (suc f) bs r ∙ sym (past_none k (suc g) bs r))
      (cases_Bool (is_row k bs))

  pub past_row : (bs : List ℕ) → is_row k bs ≡ true → past k bs ≡ past k (after bs)
  past_row bs r =
      let s = after_shorter bs (row_whole k bs r) in
      let e : length bs ≡ suc (length bs - 1) = omega arith in
      past_is k bs
      ∙ ap (λ f. past_in k f bs) e
      ∙ past_more k (length bs - 1) bs r
      ∙ past_fuel (length bs - 1) (length (after bs)) (after bs) (omega arith) (omega arith)
      ∙ sym (past_is k (after bs))

  pub past_no_row : (bs : List ℕ) → is_row k bs ≡ false → past k bs ≡ bs
  past_no_row bs r = past_is k bs ∙ past_none k (length bs) bs r

  past_in_within : (f : ℕ) (bs : List ℕ) → length (past_in k f bs) ≤ length bs
  past_in_within zero bs = omega arith
  past_in_within (suc f) bs =
      ⊎_elim
      (λ r. let s = after_shorter bs (row_whole k bs r) in let q = past_in_within f (after bs) in omega (arith, ap length (past_more k f bs r)))
      (λ r. omega (arith, ap length (past_none k (suc f) bs r)))
      (cases_Bool (is_row k bs))

  pub past_within : (bs : List ℕ) → length (past k bs) ≤ length bs
  past_within bs = omega (arith, ap length (past_is k bs), past_in_within (length bs) bs)

-- what stands behind the rows of one kind, if its tag is at least that of the row before
abbrev section : Kind → ℕ → List ℕ → List ℕ
section k least bs = cond (leb least (kind_number k)) (past k bs) bs

-- what stands behind the rows of each of some kinds in turn
abbrev pub sections : List Kind → ℕ → List ℕ → List ℕ
sections [] least bs = bs
sections (k ∷ ks) least bs = sections ks least (section k least bs)

-- every kind has at least that tag
abbrev from : ℕ → List Kind → Bool
from t [] = true
from t (k ∷ ks) = leb t (kind_number k) && from t ks

-- one kind has that tag, those before it a lower one and those behind it none that is lower
abbrev pub holds : ℕ → List Kind → Bool
holds t [] = false
holds t (k ∷ ks) = cond (ltb (kind_number k) t) (holds t ks) (eqb (kind_number k) t && from t ks)

pub all_held : (k : Kind) → holds (kind_number k) kinds ≡ true
all_held Head = refl
all_held Line = refl
all_held Stop = refl
all_held Profile = refl
all_held Special = refl
all_held Link = refl
all_held Section = refl
all_held Use = refl
all_held Pattern = refl
all_held Override = refl
all_held Journey = refl

-- behind no row every kind is due
pub sections_all : (bs : List ℕ) → sections kinds 0 bs ≡ rows_left bs
sections_all bs = refl

pub sections_within : (ks : List Kind) (least : ℕ) (bs : List ℕ) → length (sections ks least bs) ≤ length bs
sections_within [] least bs = omega arith
sections_within (k ∷ ks) least bs =
    let q = sections_within ks least (section k least bs) in
    ⊎_elim
    (λ b. omega (arith, ap length (cond-true _ (past k bs) bs b), past_within k bs))
    (λ b. omega (arith, ap length (cond-false _ (past k bs) bs b)))
    (cases_Bool (leb least (kind_number k)))

-- where no row is due, none is passed
section_none : (k : Kind) (least : ℕ) (bs : List ℕ) → (least ≤ kind_number k → is_row k bs ≡ false) → section k least bs ≡ bs
section_none k least bs none =
    ⊎_elim (λ b. cond-true _ (past k bs) bs b ∙ past_no_row k bs (none (leb-true _ _ b))) (λ b. cond-false _ (past k bs) bs b) (cases_Bool (leb least (kind_number k)))

pub sections_none : (ks : List Kind) (least : ℕ) (bs : List ℕ) → ((k : Kind) → least ≤ kind_number k → is_row k bs ≡ false) → sections ks least bs ≡ bs
sections_none [] least bs none = refl
sections_none (k ∷ ks) least bs none = ap (sections ks least) (section_none k least bs (none k)) ∙ sections_none ks least bs none

-- kinds that are due behind a higher tag are due behind a lower one too
sections_same : (ks : List Kind) (least t : ℕ) (bs : List ℕ) → least ≤ t → from t ks ≡ true → sections ks least bs ≡ sections ks t bs
sections_same [] least t bs h f = refl
sections_same (k ∷ ks) least t bs h f =
    let p = and_parts (leb t (kind_number k)) (from t ks) f in
    let l = leb-true t (kind_number k) p.0 in
    let e : section k least bs ≡ section k t bs = cond-true _ (past k bs) bs (le-leb least (kind_number k) (omega arith)) ∙ sym (cond-true _ (past k bs) bs p.0) in
    ap (sections ks least) e ∙ sections_same ks least t (section k t bs) h p.1

-- a row that is due is passed
pub sections_row : (ks : List Kind) (k : Kind) (least : ℕ) (bs : List ℕ) → is_row k bs ≡ true → least ≤ kind_number k → holds (kind_number k) ks ≡ true → sections ks least bs ≡ sections ks (kind_number k) (after bs)
sections_row [] k least bs r h y = let z : ◌≡◌ {A = ℕ} 0 1 = cc in absurd (omega arith)
sections_row (j ∷ js) k least bs r h y =
    ⊎_elim
    (λ b.
    let l = ltb-true (kind_number j) (kind_number k) b in
    let none : least ≤ kind_number j → is_row j bs ≡ false = λ _. ⊎_elim (λ q. absurd (omega (arith, row_tag j bs q, row_tag k bs r))) (λ q. q) (cases_Bool (is_row j bs)) in
    let y' : holds (kind_number k) js ≡ true = sym (cond-true _ (holds (kind_number k) js) _ b) ∙ y in
    let e : section j (kind_number k) (after bs) ≡ after bs = cond-false _ (past j (after bs)) (after bs) (lt-leb (kind_number k) (kind_number j) l) in
    ap (sections js least) (section_none j least bs none) ∙ sections_row js k least bs r h y' ∙ ap (sections js (kind_number k)) (sym e))
    (λ b.
    let p = and_parts (eqb (kind_number j) (kind_number k)) (from (kind_number k) js) (sym (cond-false _ (holds (kind_number k) js) _ b) ∙ y) in
    let t = eqb-true (kind_number j) (kind_number k) p.0 in
    let r' : is_row j bs ≡ true = ap (λ i. is_row i bs) (same_kind j k t) ∙ r in
    let before : section j least bs ≡ past j bs = cond-true _ (past j bs) bs (le-leb least (kind_number j) (omega arith)) in
    let behind : section j (kind_number k) (after bs) ≡ past j (after bs) = cond-true _ (past j (after bs)) (after bs) (le-leb (kind_number k) (kind_number j) (omega arith)) in
    ap (sections js least) (before ∙ past_row j bs r' ∙ sym behind) ∙ sections_same js least (kind_number k) (section j (kind_number k) (after bs)) h p.1)
    (cases_Bool (ltb (kind_number j) (kind_number k)))
