-- The days of the week. Assumes nothing.
--
--   weekday_number   0 for Monday to 6 for Sunday
--   weekday_name     the English name, as bytes
--   weekday_of       the number of the weekday of a day: day 0, 1 January 2000, is a Saturday
--   Week             what makes it the week: day 0 is a Saturday, and each day is followed by the next weekday, Sunday by Monday
use Rattle.std.specs.Prelude.{◌≡◌, ℕ, ◌+◌, ◌%◌, ◌<◌, List, codes}
use Rattle.calendar.specs.declared.weeks.Weekday.{Weekday}
use Rattle.calendar.specs.declared.weeks.Weekday.TheVariants.{Monday, Tuesday, Wednesday, Thursday, Friday, Saturday, Sunday}

abbrev pub weekday_number : Weekday → ℕ
weekday_number Monday = 0
weekday_number Tuesday = 1
weekday_number Wednesday = 2
weekday_number Thursday = 3
weekday_number Friday = 4
weekday_number Saturday = 5
weekday_number Sunday = 6

abbrev pub weekday_name : Weekday → List ℕ
weekday_name Monday = codes "Monday"
weekday_name Tuesday = codes "Tuesday"
weekday_name Wednesday = codes "Wednesday"
weekday_name Thursday = codes "Thursday"
weekday_name Friday = codes "Friday"
weekday_name Saturday = codes "Saturday"
weekday_name Sunday = codes "Sunday"

abbrev pub weekday_of : ℕ → ℕ
weekday_of day = (day + 5) % 7

pub record Week : Type 0 where
  pub begins : weekday_of 0 ≡ weekday_number Saturday
  pub goes_on : (day : ℕ) → weekday_of day < 6 → weekday_of (day + 1) ≡ weekday_of day + 1
  pub comes_round : (day : ℕ) → weekday_of day ≡ 6 → weekday_of (day + 1) ≡ 0
