-- What the text of a year is, in words. Assumes nothing.
--
--   Climbs         each day of a list comes before every day behind it
--   Names line y   the line is the four digits of a year of the calendar
--   Told kind      of every line and every year: which year a line names, in which order the lines of its holidays stand,
--                  and which days they are
use Rattle.std.specs.Prelude.{◌≡◌, ◌↔◌, ℕ, ◌<◌, ◌≤◌, List, Some, ◌≢◌}
use Rattle.std.specs.List.{AllPairs, Contains}
use Rattle.calendar.specs.Dates.{day_number}
use Rattle.writing.specs.Puts.{padded}
use Rattle.holiday_lines.specs.Reads.{year_read}
use Rattle.holiday_lines.specs.Texts.{holidays_of}

abbrev pub Climbs : List ℕ → Type 0
Climbs days = AllPairs (λ day later. day < later) days

abbrev pub Names : List ℕ → ℕ → Type 0
Names line y = (2000 ≤ y) × (y < 2200) × (line ≡ padded 4 y)

pub record Told (kind : ℕ → ℕ) : Type 0 where
  pub names : (line : List ℕ) (y : ℕ) → (year_read line ≡ Some y) ↔ Names line y
  pub order : (y : ℕ) → Climbs (holidays_of kind y)
  pub days : (y day : ℕ) → Contains (holidays_of kind y) day ↔ ((day_number y 1 1 ≤ day) × (day ≤ day_number y 12 31) × (kind day ≢ 0))
