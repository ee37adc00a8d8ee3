-- A day has one date, and a date one day. Assumes nothing.
use Rattle.std.proofs.Common.{◌≡◌, ℕ, ◌+◌, ◌-◌, ◌<◌, ◌≤◌, cond, Ok, Err, Result, sym, ap, ◌∙◌, subst, arith}
use Rattle.refusals.specs.declared.Refusal.{Refusal}
use Rattle.calendar.specs.Dates.{leap, leaps, year_start, month_start, last_day, Valid, Dated, Splits, Joins}
use Rattle.calendar.specs.declared.dates.Date.{Date}
use Rattle.calendar.specs.Made.{DateMade, DateTold}
use Rattle.calendar.proofs.Years.{leaps_next, year_le, same_year}
use Rattle.calendar.proofs.Months.{month_more, month_end, year_length, same_month}

-- the year of a date, and the month in its year, hold the day
module _ (day y m d : ℕ) (t : Dated day y m d) where
  v : Valid y m d
  v = t.valid

  abbrev pub day_of_year : ℕ
  day_of_year = month_start (leap y) m + (d - 1)

  pub in_month : (month_start (leap y) m ≤ day_of_year) × (day_of_year < month_start (leap y) (m + 1))
  unfolding v
  in_month = (omega arith, omega (arith, month_more (leap y) m v.month_from v.month_to, v.day_from, v.day_to))

  pub in_year : (year_start (y - 2000) ≤ day) × (day < year_start ((y - 2000) + 1))
  unfolding v
  in_year =
      let there : 2000 + (y - 2000) ≡ y = omega (arith, v.year_from) in
      let next : leaps ((y - 2000) + 1) ≡ leaps (y - 2000) + cond (leap y) 1 0 = rw there at (leaps_next (y - 2000)) in
      let whole = year_length (leap y) in
      let more = month_end (leap y) m v.month_from v.month_to in
      (omega (arith, t.is), omega (arith, t.is, in_month.1))

  pub dated_le : day ≤ last_day
  unfolding v
  dated_le = omega (arith, in_year.1, year_le ((y - 2000) + 1) (omega (arith, v.year_from, v.year_to)))

module _ (day y m d y' m' d' : ℕ) (t : Dated day y m d) (u : Dated day y' m' d') where
  pub one_year : y ≡ y'
  one_year =
      let p = in_year day y m d t in
      let q = in_year day y' m' d' u in
      let e : y - 2000 ≡ y' - 2000 = same_year day (y - 2000) (y' - 2000) p.0 p.1 q.0 q.1 in
      omega (arith, t.valid.year_from, u.valid.year_from)

  same_day : day_of_year day y m d t ≡ day_of_year day y' m' d' u
  same_day = let e : year_start (y - 2000) ≡ year_start (y' - 2000) = ap (λ k. year_start (k - 2000)) one_year in omega (arith, t.is, u.is)

  pub one_month : m ≡ m'
  one_month =
      let p = in_month day y m d t in
      let P : ℕ → Type 0 = λ k. (month_start (leap k) m' ≤ day_of_year day y' m' d' u) × (day_of_year day y' m' d' u < month_start (leap k) (m' + 1)) in
      let q : P y = subst P (sym one_year) (in_month day y' m' d' u) in
      same_month (leap y) (day_of_year day y m d t) m m' p.0 p.1 (rw (same_day) q.0) (rw (same_day) q.1)

  pub one_day : d ≡ d'
  one_day =
      let e : month_start (leap y) m ≡ month_start (leap y') m' = ap (λ k. month_start (leap k) m) one_year ∙ ap (λ k. month_start (leap y') k) one_month in
      omega (arith, same_day, t.valid.day_from, u.valid.day_from)

-- a date's day is the only one that joining can answer for it, and a day's date the only one that splitting can
pub joins_back : (day y m d : ℕ) → Dated day y m d → (s : Result ℕ Refusal) → Joins y m d s → s ≡ Ok day
joins_back day y m d t (Ok n) h = ap Ok (h.is ∙ sym t.is)
joins_back day y m d t (Err e) h = absurd (h.0 t.valid)

pub splits_back : (day y m d : ℕ) → Dated day y m d → (s : Result (ℕ × ℕ × ℕ) Refusal) → Splits day s → s ≡ Ok (y, m, d)
splits_back day y m d t (Ok (a, b, c)) h =
    let e = one_year day a b c y m d h t in
    let f = one_month day a b c y m d h t in
    let g = one_day day a b c y m d h t in
    cc
splits_back day y m d t (Err e) h = absurd (omega (arith, dated_le day y m d t, h.0))

-- what is answered for a date's day is its date
pub told_back : (day y m d : ℕ) → Dated day y m d → (s : Result Date Refusal) → DateTold day s → DateMade y m d s
told_back day y m d t (Ok date) h =
    let u : Dated day date.year date.month date.of_month = record { valid = date.valid; is = h } in
    let e = one_year day date.year date.month date.of_month y m d u t in
    let f = one_month day date.year date.month date.of_month y m d u t in
    let g = one_day day date.year date.month date.of_month y m d u t in
    cc
told_back day y m d t (Err e) h = absurd (omega (arith, dated_le day y m d t, h.0))
