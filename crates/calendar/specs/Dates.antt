-- The Gregorian calendar from 2000 to 2199, counted year by year and month by month. Assumes nothing.
--
--   last_day      31 December 2199; day 0 is 1 January 2000
--   leap          every fourth year, but of the centuries only every fourth
--   year_start n  the days before the year 2000 + n
--   lengths l     the days of each month of a year, which is a leap year or not
--   month_start   the days of the year before a month; months count from 1
--   MonthHolds    a month of a year holds a day of the year, with so many of its days before it
--   Month         two numbers are a year and a month of the calendar
--   MonthTold     what is answered for them: the days of that month, or 40 where they are none
--   Valid         three numbers are a date of the calendar
--   day_number    the day of a date
--   Dated         the day is the day of that date
--   Splits        what splitting a day answers: its date, or 40 for a number past the last day
--   Joins         what joining three numbers answers: the day of that date, or 40 where they are none
--   date_of       the date of a day, by counting how many years and how many months have begun by then
use Rattle.std.specs.Prelude.{◌≡◌, ℕ, zero, suc, ◌+◌, ◌-◌, ◌*◌, ◌%◌, ◌<◌, ◌≤◌, Bool, cond, not, ◌&&◌, ◌||◌, List, [], ◌∷◌, take, Ok, Err, sum, Result, ◌==◌, nat_le, slice_index}
use Rattle.refusals.specs.declared.Refusal.{Refusal}
use Rattle.refusals.specs.declared.Refusal.TheVariants.{OutOfRange}

abbrev pub last_day : ℕ
last_day = 73048

abbrev pub leap : ℕ → Bool
leap y = (y % 4 == 0 && not (y % 100 == 0)) || y % 400 == 0

-- the leap years among the first n from 2000 on
unfoldable pub leaps : ℕ → ℕ
leaps zero = 0
leaps (suc n) = leaps n + cond (leap (2000 + n)) 1 0

abbrev pub year_start : ℕ → ℕ
year_start n = 365 * n + leaps n

abbrev pub lengths : Bool → List ℕ
lengths l = 31 ∷ cond l 29 28 ∷ 31 ∷ 30 ∷ 31 ∷ 30 ∷ 31 ∷ 31 ∷ 30 ∷ 31 ∷ 30 ∷ 31 ∷ []

abbrev pub month_start : Bool → ℕ → ℕ
month_start l m = sum (take (m - 1) (lengths l))

pub record MonthHolds (l : Bool) (of_year m left : ℕ) : Type 0 where
  pub month_from : 1 ≤ m
  pub month_to : m ≤ 12
  pub is : left + month_start l m ≡ of_year
  pub within : left < slice_index (lengths l) (m - 1)

pub record Month (y m : ℕ) : Type 0 where
  pub year_from : 2000 ≤ y
  pub year_to : y < 2200
  pub month_from : 1 ≤ m
  pub month_to : m ≤ 12

abbrev pub MonthTold : ℕ → ℕ → Result ℕ Refusal → Type 0
MonthTold y m (Ok n) = Month y m × (n ≡ slice_index (lengths (leap y)) (m - 1))
MonthTold y m (Err e) = (Month y m → ⊥) × (e ≡ OutOfRange)

pub record Valid (y m d : ℕ) : Type 0 where
  pub year_from : 2000 ≤ y
  pub year_to : y < 2200
  pub month_from : 1 ≤ m
  pub month_to : m ≤ 12
  pub day_from : 1 ≤ d
  pub day_to : d ≤ slice_index (lengths (leap y)) (m - 1)

abbrev pub day_number : ℕ → ℕ → ℕ → ℕ
day_number y m d = year_start (y - 2000) + month_start (leap y) m + (d - 1)

pub record Dated (day y m d : ℕ) : Type 0 where
  pub valid : Valid y m d
  pub is : day ≡ day_number y m d

abbrev pub Splits : ℕ → Result (ℕ × ℕ × ℕ) Refusal → Type 0
Splits day (Ok t) = Dated day t.0 t.1 t.2
Splits day (Err e) = (last_day < day) × (e ≡ OutOfRange)

abbrev pub Joins : ℕ → ℕ → ℕ → Result ℕ Refusal → Type 0
Joins y m d (Ok day) = Dated day y m d
Joins y m d (Err e) = (Valid y m d → ⊥) × (e ≡ OutOfRange)

-- how many of the starts f 1 to f n are no later than the day
abbrev pub begun : (ℕ → ℕ) → ℕ → ℕ → ℕ
begun f day zero = 0
begun f day (suc n) = begun f day n + cond (nat_le (f (suc n)) day) 1 0

abbrev pub years_to : ℕ → ℕ
years_to day = begun year_start day 199

abbrev pub month_in : Bool → ℕ → ℕ
month_in l rest = begun (λ k. month_start l (k + 1)) rest 11 + 1

-- the date of the day with so many days of the year before it
abbrev pub in_month : ℕ → Bool → ℕ → ℕ → ℕ × ℕ × ℕ
in_month y l rest m = (y, m, rest - month_start l m + 1)

abbrev pub in_year : ℕ → Bool → ℕ → ℕ × ℕ × ℕ
in_year y l rest = in_month y l rest (month_in l rest)

abbrev pub by_years : ℕ → ℕ → ℕ × ℕ × ℕ
by_years day n = in_year (2000 + n) (leap (2000 + n)) (day - year_start n)

abbrev pub date_of : ℕ → ℕ × ℕ × ℕ
date_of day = by_years day (years_to day)
