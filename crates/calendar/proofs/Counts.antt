-- The date of a day by counting is the date of the day. Assumes nothing.
use Rattle.std.proofs.Common.{◌≡◌, ℕ, zero, suc, ◌+◌, ◌-◌, ◌<◌, ◌≤◌, min, true, false, leb, ap, ◌∙◌, ⊎_elim, arith}
use Rattle.std.proofs.lemmas.Bool.{cases_lt, le-leb, lt-leb}
use Rattle.calendar.specs.Dates.{leap, year_start, month_start, Dated, begun, years_to, month_in, by_years, in_year, in_month, date_of}
use Rattle.calendar.proofs.Years.{year_mono}
use Rattle.calendar.proofs.Months.{month_le}
use Rattle.calendar.proofs.Turns as turns

-- the starts that a day has reached are those up to its own
begun_is : (f : ℕ → ℕ) (day a : ℕ) → ((k : ℕ) → k ≤ a → f k ≤ day) → ((k : ℕ) → a < k → day < f k) → (n : ℕ) → begun f day n ≡ min n a
begun_is f day a p q zero = omega arith
begun_is f day a p q (suc n) =
    let ih = begun_is f day a p q n in
    ⊎_elim
    (λ h. let e : leb (f (suc n)) day ≡ false = lt-leb (f (suc n)) day (q (suc n) h) in rw (e, ih) (omega arith))
    (λ h. let e : leb (f (suc n)) day ≡ true = le-leb (f (suc n)) day (p (suc n) h) in rw (e, ih) (omega arith))
    (cases_lt a (suc n))

module _ (day y m d : ℕ) (t : Dated day y m d) where
  years_is : years_to day ≡ y - 2000
  years_is =
      let i = turns.in_year day y m d t in
      begun_is year_start day (y - 2000) (λ k h. omega (arith, i.0, year_mono k (y - 2000) h)) (λ k h. omega (arith, i.1, year_mono ((y - 2000) + 1) k (omega arith))) 199
      ∙ omega (arith, t.valid.year_to)

  month_is : month_in (leap y) (turns.day_of_year day y m d t) ≡ m
  month_is =
      let i = turns.in_month day y m d t in
      ap (λ k. k + 1) (begun_is (λ k. month_start (leap y) (k + 1)) (turns.day_of_year day y m d t) (m - 1) (λ k h. omega (arith, i.0, month_le (leap y) (k + 1) m (omega (arith, t.valid.month_from)))) (λ k h. omega (arith, i.1, month_le (leap y) (m + 1) (k + 1) (omega arith))) 11)
      ∙ omega (arith, t.valid.month_from, t.valid.month_to)

  pub date_is : date_of day ≡ (y, m, d)
  date_is =
      let back : 2000 + (y - 2000) ≡ y = omega (arith, t.valid.year_from) in
      let rest : day - year_start (y - 2000) ≡ turns.day_of_year day y m d t = omega (arith, t.is) in
      let of-month : turns.day_of_year day y m d t - month_start (leap y) m + 1 ≡ d = omega (arith, t.valid.day_from) in
      ap (by_years day) years_is
      ∙ ap (λ n. in_year n (leap n) (day - year_start (y - 2000))) back
      ∙ ap (in_year y (leap y)) rest
      ∙ ap (in_month y (leap y) (turns.day_of_year day y m d t)) month_is
      ∙ ap (λ k. (y, m, k)) of-month
