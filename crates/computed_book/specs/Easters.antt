-- Easter by the Meeus/Jones/Butcher rule, and what Easter is: the Sunday after the full moon of the church. Assumes nothing.
--
--   rule_date     the month and the day of the month of Easter Sunday in a year, by the rule; its letters are the published ones
--   easter_of     that date's day
--   golden        the place of a year in the moon's cycle of 19 years
--   epact         the moon's age on 1 January, by the church's tables; 24, and 25 late in the cycle, are passed over
--   full_moon     the full moon of the church on or after 21 March, as a day of March that may go on into April
--   Paschal y n   day n is a Sunday of year y from 22 March to 25 April, after the full moon and at most seven days after it
--   EasterTold    what is answered for a year: its Easter Sunday, or 40 for a year outside the calendar
use Rattle.std.specs.Prelude.{◌≡◌, ℕ, ◌+◌, ◌-◌, ◌*◌, ◌/◌, ◌%◌, ◌<◌, ◌≤◌, cond, ◌&&◌, ◌||◌, Ok, Err, Result, ◌==◌, nat_lt}
use Rattle.refusals.specs.declared.Refusal.{Refusal}
use Rattle.refusals.specs.declared.Refusal.TheVariants.{OutOfRange}
use Rattle.calendar.specs.Dates.{day_number}
use Rattle.calendar.specs.Weeks.{weekday_of}

abbrev pub rule_h : ℕ → ℕ → ℕ
rule_h a b = (19 * a + b - b / 4 - (b - (b + 8) / 25 + 1) / 3 + 15) % 30

abbrev pub rule_l : ℕ → ℕ → ℕ → ℕ
rule_l b c h = (32 + 2 * (b % 4) + 2 * (c / 4) - h - c % 4) % 7

abbrev pub rule_n : ℕ → ℕ → ℕ → ℕ
rule_n a h l = h + l + 114 - 7 * ((a + 11 * h + 22 * l) / 451)

abbrev rule_end : ℕ → ℕ × ℕ
rule_end n = (n / 31, n % 31 + 1)

abbrev rule_by : ℕ → ℕ → ℕ → ℕ → ℕ × ℕ
rule_by a b c h = rule_end (rule_n a h (rule_l b c h))

abbrev pub rule_date : ℕ → ℕ × ℕ
rule_date y = rule_by (y % 19) (y / 100) (y % 100) (rule_h (y % 19) (y / 100))

abbrev pub easter_of : ℕ → ℕ
easter_of y = day_number y (rule_date y).0 (rule_date y).1

abbrev golden : ℕ → ℕ
golden y = y % 19 + 1

abbrev century : ℕ → ℕ
century y = y / 100 + 1

-- the leap years that the centuries have left out, and the correction of the moon's cycle
abbrev left_out : ℕ → ℕ
left_out y = 3 * century y / 4 - 12

abbrev moon_moved : ℕ → ℕ
moon_moved y = (8 * century y + 5) / 25 - 5

abbrev passed_over : ℕ → ℕ → ℕ
passed_over g e = cond (e == 24 || (e == 25 && nat_lt 11 g)) (e + 1) e

abbrev pub epact : ℕ → ℕ
epact y = passed_over (golden y) ((11 * golden y + 20 + moon_moved y - left_out y) % 30)

abbrev moon_by : ℕ → ℕ
moon_by e = cond (nat_lt 23 e) (74 - e) (44 - e)

abbrev pub full_moon : ℕ → ℕ
full_moon y = moon_by (epact y)

abbrev pub full_moon_day : ℕ → ℕ
full_moon_day y = day_number y 3 1 + full_moon y - 1

pub record Paschal (y day : ℕ) : Type 0 where
  pub sunday : weekday_of day ≡ 6
  pub from : day_number y 3 22 ≤ day
  pub to : day ≤ day_number y 4 25
  pub after_full_moon : full_moon_day y < day
  pub in_a_week : day ≤ full_moon_day y + 7

abbrev pub EasterTold : ℕ → Result ℕ Refusal → Type 0
EasterTold y (Ok day) = (2000 ≤ y) × (y < 2200) × (day ≡ easter_of y)
EasterTold y (Err e) = ((2000 ≤ y) × (y < 2200) → ⊥) × (e ≡ OutOfRange)
