-- Easter by the rule is a date, and the Sunday after the full moon, in every year of the calendar. Assumes nothing.
use Rattle.std.proofs.Common.{◌≡◌, ℕ, zero, suc, ◌+◌, ◌-◌, ◌<◌, ◌≤◌, Bool, true, ◌&&◌, eqb, ltb, get_or, IfOk, Ok, Err, Decides, Result, sym, refl, ap, ◌∙◌, subst, le_of_suc-le-suc, arith}
use Rattle.std.proofs.lemmas.Bool.Decides.{Decides-below_and, Decides-and, Decides-eqb, Decides-ltb}
use Rattle.refusals.specs.declared.Refusal.{Refusal}
use Rattle.calendar.specs.Dates.{leap, leaps, lengths, day_number, Valid, Joins}
use Rattle.calendar.specs.Weeks.{weekday_of}
use Rattle.computed_book.specs.Easters.{rule_date, easter_of, full_moon_day, Paschal, EasterTold}

-- what one test looks at of a year: the month, the day of the month, and Easter among its bounds
abbrev Facts : ℕ → ℕ → ℕ → ℕ → Type 0
Facts y m d day =
    (2 < m) × ((m < 5) × ((0 < d) × ((d < 1 + get_or (lengths (leap y)) (m - 1) 0) × ((weekday_of day ≡ 6) × ((day_number y 3 22 < 1 + day) × ((day < 1 + day_number y 4 25) × ((full_moon_day y < day) × (day < 1 + (full_moon_day y + 7)))))))))

abbrev facts : ℕ → ℕ → ℕ → ℕ → Bool
facts y m d day =
    ltb 2 m && (ltb m 5 && (ltb 0 d && (ltb d (1 + get_or (lengths (leap y)) (m - 1) 0) && (eqb (weekday_of day) 6 && (ltb (day_number y 3 22) (1 + day) && (ltb day (1 + day_number y 4 25) && (ltb (full_moon_day y) day && ltb day (1 + (full_moon_day y + 7)))))))))

facts_decides : (y m d day : ℕ) → Decides (facts y m d day) (Facts y m d day)
facts_decides y m d day =
    Decides-and _ _ (Decides-ltb 2 m) (Decides-and _ _ (Decides-ltb m 5) (Decides-and _ _ (Decides-ltb 0 d) (Decides-and _ _ (Decides-ltb d (1 + get_or (lengths (leap y)) (m - 1) 0)) (Decides-and _ _ (Decides-eqb (weekday_of day) 6) (Decides-and _ _ (Decides-ltb (day_number y 3 22) (1 + day)) (Decides-and _ _ (Decides-ltb day (1 + day_number y 4 25)) (Decides-and _ _ (Decides-ltb (full_moon_day y) day) (Decides-ltb day (1 + (full_moon_day y + 7))))))))))

abbrev Feast : ℕ → Type 0
Feast y = Facts y (rule_date y).0 (rule_date y).1 (easter_of y)

abbrev feast : ℕ → Bool
feast y = facts y (rule_date y).0 (rule_date y).1 (easter_of y)

abbrev feasts : ℕ → Bool
feasts zero = true
feasts (suc n) = feast (2000 + n) && feasts n

-- one test at each of the two hundred years
by_year : (n : ℕ) → n < 200 → Feast (2000 + n)
unfolding leaps
by_year = (Decides-below_and (λ n. feast (2000 + n)) (λ n. Feast (2000 + n)) feasts (λ n. facts_decides (2000 + n) (rule_date (2000 + n)).0 (rule_date (2000 + n)).1 (easter_of (2000 + n))) refl (λ _. refl) 200).0 refl

feast_of : (y : ℕ) → 2000 ≤ y → y < 2200 → Feast y
feast_of y h k =
    let there : 2000 + (y - 2000) ≡ y = omega arith in
    subst Feast there (by_year (y - 2000) (omega arith))

up_to : (a b : ℕ) → a < 1 + b → a ≤ b
up_to a b h = omega arith

pub paschal : (y : ℕ) → 2000 ≤ y → y < 2200 → Paschal y (easter_of y)
paschal y h k =
    let f = (feast_of y h k).1.1.1.1 in
    record {
      sunday = f.0;
      from = up_to (day_number y 3 22) (easter_of y) f.1.0;
      to = up_to (easter_of y) (day_number y 4 25) f.1.1.0;
      after_full_moon = f.1.1.1.0;
      in_a_week = up_to (easter_of y) (full_moon_day y + 7) f.1.1.1.1;
    }

-- the rule's month is March or April, and with its day a date
pub rule_valid : (y : ℕ) → 2000 ≤ y → y < 2200 → Valid y (rule_date y).0 (rule_date y).1 × (3 ≤ (rule_date y).0) × ((rule_date y).0 ≤ 4)
rule_valid y h k =
    let f = feast_of y h k in
    let m = (rule_date y).0 in
    let d = (rule_date y).1 in
    let low : 2 < m = f.0 in
    let high : m < 5 = f.1.0 in
    let some : 0 < d = f.1.1.0 in (
      record { year_from = h; year_to = k; month_from = weaker m low; month_to = upper m high; day_from = some; day_to = up_to d (get_or (lengths (leap y)) (m - 1) 0) f.1.1.1.0 },
      low,
      le_of_suc-le-suc high,
    )
  where
    weaker : (m : ℕ) → 2 < m → 1 ≤ m
    weaker m h = omega arith

    upper : (m : ℕ) → m < 5 → m ≤ 12
    upper m h = omega arith

pub easter_told : (y : ℕ) (t : ℕ × ℕ) (r : Result ℕ Refusal) → t ≡ rule_date y → 2000 ≤ y → y < 2200 → Joins y t.0 t.1 r → EasterTold y r × IfOk r (Paschal y)
easter_told y t (Ok n) e h k j =
    let is : n ≡ easter_of y = j.is ∙ ap (λ u. day_number y u.0 u.1) e in
    ((h, k, is), subst (Paschal y) (sym is) (paschal y h k))
easter_told y t (Err x) e h k j = absurd (j.0 (subst (λ (u : ℕ × ℕ). Valid y u.0 u.1) (sym e) (rule_valid y h k).0))
