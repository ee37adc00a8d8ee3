-- The holidays in words: what it is for a day to be each of them. Assumes nothing.
--
--   On day m d        the day is that date of some year
--   FirstMonday       it is a Monday of the month, and no Monday of that month comes before it
--   LastMonday        it is a Monday of the month, and no Monday of that month comes after it
--   BeforeEaster, AfterEaster   it is so many days before or after the Easter Sunday of some year
--   Holidays day k    the kind k, a number, is each holiday's exactly on its day
use Rattle.std.specs.Prelude.{◌≡◌, ℕ, ◌+◌, ◌<◌, ◌≤◌, ◌↔◌}
use Rattle.calendar.specs.Dates.{Dated}
use Rattle.calendar.specs.Weeks.{weekday_of}
use Rattle.computed_book.specs.Easters.{easter_of}

abbrev pub On : ℕ → ℕ → ℕ → Type 0
On day m d = (y : ℕ) × Dated day y m d

abbrev pub Monday : ℕ → Type 0
Monday day = weekday_of day ≡ 0

abbrev pub FirstMonday : ℕ → ℕ → Type 0
FirstMonday day m = (y : ℕ) × (d : ℕ) × Dated day y m d × Monday day × ((n e : ℕ) → Dated n y m e → Monday n → day ≤ n)

abbrev pub LastMonday : ℕ → ℕ → Type 0
LastMonday day m = (y : ℕ) × (d : ℕ) × Dated day y m d × Monday day × ((n e : ℕ) → Dated n y m e → Monday n → n ≤ day)

abbrev pub BeforeEaster : ℕ → ℕ → Type 0
BeforeEaster day days = (y : ℕ) × (2000 ≤ y) × (y < 2200) × (day + days ≡ easter_of y)

abbrev pub AfterEaster : ℕ → ℕ → Type 0
AfterEaster day days = (y : ℕ) × (2000 ≤ y) × (y < 2200) × (day ≡ easter_of y + days)

pub record Holidays (day k : ℕ) : Type 0 where
  pub new_years_day : (k ≡ 1) ↔ On day 1 1
  pub good_friday : (k ≡ 2) ↔ BeforeEaster day 2
  pub easter_monday : (k ≡ 3) ↔ AfterEaster day 1
  pub may_day : (k ≡ 4) ↔ FirstMonday day 5
  pub spring : (k ≡ 5) ↔ LastMonday day 5
  pub late_summer : (k ≡ 6) ↔ LastMonday day 8
  pub christmas_day : (k ≡ 7) ↔ On day 12 25
  pub boxing_day : (k ≡ 8) ↔ On day 12 26
