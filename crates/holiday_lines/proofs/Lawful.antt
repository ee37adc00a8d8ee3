-- Which days the text of a year is made of, and their order. Assumes nothing.
use Rattle.std.proofs.Common.{◌≡◌, ◌↔◌, ℕ, ◌+◌, ◌-◌, ◌<◌, ◌≤◌, Bool, true, List, ◌∷◌, ◌++◌, get_or, take, drop, filter, sym, refl, ap, ◌∙◌, subst, arith, take-append-drop}
use Rattle.std.specs.List.{range_with_len, All, Contains}
use Rattle.std.proofs.lemmas.List.FromFn.{length-range_with_len, get_or-range_with_len}
use Rattle.std.proofs.lemmas.List.Elements.{filter-append, filter_passes, All-filter, All-contains, Contains-append_right}
use Rattle.std.proofs.lemmas.List.Kept.{AllPairs-filter}
use Rattle.std.proofs.lemmas.List.{drop_more}
use Rattle.std.proofs.lemmas.Bool.{cond-true, ltb-true, lt-ltb}
use Rattle.calendar.specs.Dates.{day_number}
use Rattle.holiday_lines.specs.Texts.{is_holiday, holidays_from}
use Rattle.holiday_lines.specs.Words.{Climbs, Told}
use Rattle.holiday_lines.proofs.Named.{names}

-- what passes a filter is kept
kept : {X : Type 0} (p : X → Bool) (xs : List X) (x : X) → Contains xs x → p x ≡ true → Contains (filter p xs) x
kept p xs x h e =
    let k = h.0 in
    let zs = drop (k + 1) xs in
    let back : drop k xs ≡ x ∷ zs = drop_more xs k x h.1 ∙ ap (λ y. y ∷ zs) h.2 in
    let parts : filter p (take k xs) ++ (x ∷ filter p zs) ≡ filter p xs =
    ap (λ l. filter p (take k xs) ++ l) (sym (cond-true (p x) (x ∷ filter p zs) (filter p zs) e) ∙ ap (filter p) (sym back))
    ∙ sym (filter-append p (take k xs) (drop k xs))
    ∙ ap (filter p) (take-append-drop k xs)
    in
    subst (λ l. Contains l x) parts (Contains-append_right (filter p (take k xs)) (x ∷ filter p zs) x (0, omega arith, refl))

counted : (a n day : ℕ) → a ≤ day → day < a + n → Contains (range_with_len a n) day
counted a n day h k = (day - a, omega (arith, length-range_with_len a n), get_or-range_with_len a n (day - a) day (omega arith) ∙ omega arith)

all_counted : (a n : ℕ) → All (λ day. (a ≤ day) × (day < a + n)) (range_with_len a n)
all_counted a n i d h =
    let e : get_or (range_with_len a n) i d ≡ a + i = get_or-range_with_len a n i d (omega (arith, length-range_with_len a n)) in
    (omega arith, omega (arith, length-range_with_len a n))

-- the holidays from day a to day z
pub days_are : (kind : ℕ → ℕ) (a z day : ℕ) → Contains (holidays_from kind a (z + 1 - a)) day ↔ ((a ≤ day) × (day ≤ z) × (kind day ≡ 0 → ⊥))
days_are kind a z day = (there, back)
  where
    there : Contains (holidays_from kind a (z + 1 - a)) day → (a ≤ day) × (day ≤ z) × (kind day ≡ 0 → ⊥)
    there h =
        let p = is_holiday kind in
        let all = range_with_len a (z + 1 - a) in
        let within : (a ≤ day) × (day < a + (z + 1 - a)) = All-contains (λ d. (a ≤ d) × (d < a + (z + 1 - a))) (filter p all) day (All-filter p (λ d. (a ≤ d) × (d < a + (z + 1 - a))) all (all_counted a (z + 1 - a))) h in
        let some = ltb-true 0 (kind day) (All-contains (λ d. p d ≡ true) (filter p all) day (filter_passes p all) h) in
        (within.0, omega (arith, within.0, within.1), λ e. omega (arith, some, e))

    back : (a ≤ day) × (day ≤ z) × (kind day ≡ 0 → ⊥) → Contains (holidays_from kind a (z + 1 - a)) day
    back h =
        let some : 0 < kind day = omega (arith, h.2) in
        kept (is_holiday kind) (range_with_len a (z + 1 - a)) day (counted a (z + 1 - a) day h.0 (omega (arith, h.0, h.1))) (lt-ltb 0 (kind day) some)

climbs_counting : (a n : ℕ) → Climbs (range_with_len a n)
climbs_counting a n i j d lt h =
    let long : j < n = omega (arith, length-range_with_len a n) in
    omega (arith, get_or-range_with_len a n i d (omega arith), get_or-range_with_len a n j d long, lt)

pub told : (kind : ℕ → ℕ) → Told kind
told kind = record {
  names = names;
  order = λ y.
      let all = range_with_len (day_number y 1 1) (day_number y 12 31 + 1 - day_number y 1 1) in
      AllPairs-filter (λ day later. day < later) (is_holiday kind) all (climbs_counting (day_number y 1 1) (day_number y 12 31 + 1 - day_number y 1 1));
  days = λ y day. days_are kind (day_number y 1 1) (day_number y 12 31) day;
}
