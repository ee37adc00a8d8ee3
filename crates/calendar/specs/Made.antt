-- Dates as the code holds them. Assumes nothing.
--
--   parts     the year, the month and the day of the month of a date
--   day_of    the day of a date
--   DateMade  what is answered for three numbers: their date, or 40 where they are none
--   DateTold  what is answered for a day: its date, or 40 for a number past the last day
use Rattle.std.specs.Prelude.{◌≡◌, ℕ, ◌<◌, Ok, Err, Result}
use Rattle.refusals.specs.declared.Refusal.{Refusal}
use Rattle.refusals.specs.declared.Refusal.TheVariants.{OutOfRange}
use Rattle.calendar.specs.Dates.{Valid, day_number, last_day}
use Rattle.calendar.specs.declared.dates.Date.{Date}

abbrev pub parts : Date → ℕ × ℕ × ℕ
parts date = (date.year, date.month, date.of_month)

abbrev pub day_of : Date → ℕ
day_of date = day_number date.year date.month date.of_month

abbrev pub DateMade : ℕ → ℕ → ℕ → Result Date Refusal → Type 0
DateMade y m d (Ok date) = parts date ≡ (y, m, d)
DateMade y m d (Err e) = (Valid y m d → ⊥) × (e ≡ OutOfRange)

abbrev pub DateTold : ℕ → Result Date Refusal → Type 0
DateTold day (Ok date) = day ≡ day_of date
DateTold day (Err e) = (last_day < day) × (e ≡ OutOfRange)
