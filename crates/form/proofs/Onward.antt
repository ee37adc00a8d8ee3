-- Looking forwards over rows. Assumes nothing.
use Rattle.std.proofs.Common.{◌≡◌, ℕ, zero, suc, ◌+◌, ◌-◌, ◌<◌, ◌≤◌, Bool, true, false, cond, eqb, List, length, get_or, Some, None, Option, sym, refl, ap, ◌∙◌, arith}
use Rattle.std.proofs.lemmas.Bool.{eq-eqb, ne_eqb, cond-true, cond-false}
use Rattle.fields.specs.declared.reads.Field.{Field}
use Rattle.fields.specs.Firsts.{IsFirst}
use Rattle.fields.specs.Fields.{whole, after, size}
use Rattle.layout.proofs.Walks.{after_shorter}
use Rattle.refusals.specs.declared.ByteFault.{ByteFault}
use Rattle.refusals.specs.declared.ByteFault.TheVariants.{Overruns}
use Rattle.layout.specs.Layout.{kind_of}
use Rattle.form.specs.Look.{or_else, unless, due_fault, field_fault, rows_fault}

-- two tests that both find nothing
pub none_both : (x y : Option ByteFault) → or_else x y ≡ None → (x ≡ None) × (y ≡ None)
none_both None y h = (refl, h)
none_both (Some f) y h = (h, cc)

pub unless_none : (b : Bool) (f : ByteFault) → unless b f ≡ None → b ≡ true
unless_none true f h = refl
unless_none false f h = cc

pub else_same : (x y z : Option ByteFault) → (x ≡ None → y ≡ z) → or_else x y ≡ or_else x z
else_same None y z h = h refl
else_same (Some f) y z h = refl

cond_same : (b : Bool) (y z : Option ByteFault) → (b ≡ false → y ≡ z) → cond b None y ≡ cond b None z
cond_same true y z h = refl
cond_same false y z h = h refl

pub field_whole : (least p : ℕ) (bs : List ℕ) → field_fault least p bs ≡ None → whole bs ≡ true
field_whole least p bs h =
    unless_none (whole bs) (Overruns p) (none_both (unless (whole bs) (Overruns p)) (due_fault (kind_of (get_or bs 0 0)) least p bs) h).0

-- what is told does not hang on the fuel
pub rows_fuel : (f g least p : ℕ) (bs : List ℕ) → length bs ≤ f → length bs ≤ g → rows_fault f least p bs ≡ rows_fault g least p bs
rows_fuel zero zero least p bs h k = refl
rows_fuel zero (suc g) least p bs h k = sym (cond-true (eqb (length bs) 0) None _ (eq-eqb (length bs) 0 (omega arith)))
rows_fuel (suc f) zero least p bs h k = cond-true (eqb (length bs) 0) None _ (eq-eqb (length bs) 0 (omega arith))
rows_fuel (suc f) (suc g) least p bs h k =
    cond_same (eqb (length bs) 0) _ _ (λ some.
    else_same (field_fault least p bs) _ _ (λ e.
    let s = after_shorter bs (field_whole least p bs e) in
    rows_fuel f g (get_or bs 0 0) (p + size bs) (after bs) (omega arith) (omega arith)))

rows_open : (least p : ℕ) (bs : List ℕ) → 0 < length bs → rows_fault (length bs) least p bs ≡ or_else (field_fault least p bs) (rows_fault (length bs - 1) (get_or bs 0 0) (p + size bs) (after bs))
rows_open least p bs h =
    let e : length bs ≡ suc (length bs - 1) = omega arith in
    ap (λ f. rows_fault f least p bs) e ∙ cond-false (eqb (length bs) 0) None _ (ne_eqb (length bs) 0 (λ z. omega arith))

pub rows_here : (least p : ℕ) (bs : List ℕ) (x : ByteFault) → 0 < length bs → field_fault least p bs ≡ Some x → rows_fault (length bs) least p bs ≡ Some x
rows_here least p bs x h e = rows_open least p bs h ∙ ap (λ o. or_else o (rows_fault (length bs - 1) (get_or bs 0 0) (p + size bs) (after bs))) e

pub rows_on : (least p : ℕ) (bs : List ℕ) → 0 < length bs → field_fault least p bs ≡ None → rows_fault (length bs) least p bs ≡ rows_fault (length (after bs)) (get_or bs 0 0) (p + size bs) (after bs)
rows_on least p bs h e =
    let s = after_shorter bs (field_whole least p bs e) in
    rows_open least p bs h
    ∙ ap (λ o. or_else o (rows_fault (length bs - 1) (get_or bs 0 0) (p + size bs) (after bs))) e
    ∙ rows_fuel (length bs - 1) (length (after bs)) (get_or bs 0 0) (p + size bs) (after bs) (omega arith) (omega arith)

pub rows_end : (least p : ℕ) (bs : List ℕ) → length bs ≡ 0 → rows_fault (length bs) least p bs ≡ None
rows_end least p bs e = ap (λ f. rows_fault f least p bs) e

-- a row that is passed
pub rows_row : (least p : ℕ) (bs : List ℕ) (row : Field) → field_fault least p bs ≡ None → IsFirst bs row → rows_fault (length bs) least p bs ≡ rows_fault (length (after bs)) row.tag (p + size bs) (after bs)
rows_row least p bs row e f = rows_on least p bs (omega (arith, f.all)) e ∙ ap (λ t. rows_fault (length (after bs)) t (p + size bs) (after bs)) (sym f.tag)
