-- The year that an input line names. Assumes nothing.
--
--   digit         a byte is an ASCII digit
--   number_of     the number that four digits write
--   in_calendar   a year from 2000 to 2199
--   year_read     the year that a line names: exactly four digits, and their number is a year of the calendar; else none
use Rattle.std.specs.Prelude.{ℕ, ◌+◌, ◌-◌, ◌*◌, Bool, cond, ◌&&◌, List, length, Some, None, Option, ◌==◌, nat_le, nat_lt, slice_index}

abbrev pub digit : ℕ → Bool
digit b = nat_le 48 b && nat_le b 57

abbrev pub number_of : ℕ → ℕ → ℕ → ℕ → ℕ
number_of a b c d = 1000 * (a - 48) + 100 * (b - 48) + 10 * (c - 48) + (d - 48)

abbrev pub in_calendar : ℕ → Bool
in_calendar y = nat_le 2000 y && nat_lt y 2200

abbrev pub year_of : ℕ → ℕ → ℕ → ℕ → Option ℕ
year_of a b c d = cond (digit a && digit b && (digit c && digit d) && in_calendar (number_of a b c d)) (Some (number_of a b c d)) None

abbrev pub year_read : List ℕ → Option ℕ
year_read line = cond (length line == 4) (year_of (slice_index line 0) (slice_index line 1) (slice_index line 2) (slice_index line 3)) None
