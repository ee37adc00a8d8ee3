-- The lines of a year's holidays. Assumes nothing.
-- In all of it `kind` is a day book's table: the number of the kind of each day, 0 for none.
--
--   date_word       the date of a day, so written
--   weekdays, kinds the weekdays from number 0 on, and the kinds from number 1 on
--   weekday_word    the English name of a day's weekday
--   kind_word       the English name of the kind with a number
--   line_of         a holiday's line: date, weekday, day number, kind number, kind name, single blanks between, a newline
--   is_holiday      the book gives the day a kind
--   text_on         a day's part of the text: its line, or nothing where it is no holiday
--   holidays_from   the holidays among the n days from a first one on, in the order of the days
--   holidays_of     the holidays of a year, from 1 January to 31 December
--   lines_of        the lines of some holidays, one behind another
--   text_of         the text that answers a line by the year that it names: the lines of its holidays, or refusal 40 where it names none
--   year_text       the text that answers an input line
use Rattle.std.specs.Prelude.{ℕ, ◌+◌, ◌-◌, Bool, cond, List, [], ◌∷◌, ◌++◌, Some, None, decimal, filter, Option, nat_lt, slice_index_or}
use Rattle.std.specs.List.{range_with_len, flat_map}
use Rattle.refusals.specs.declared.Refusal.TheVariants.{OutOfRange}
use Rattle.calendar.specs.declared.weeks.Weekday.{Weekday}
use Rattle.calendar.specs.declared.weeks.Weekday.TheVariants.{Monday, Tuesday, Wednesday, Thursday, Friday, Saturday, Sunday}
use Rattle.calendar.specs.declared.books.HolidayKind.{HolidayKind}
use Rattle.calendar.specs.declared.books.HolidayKind.TheVariants.{NewYearsDay, GoodFriday, EasterMonday, MayDay, SpringBank, LateSummerBank, ChristmasDay, BoxingDay}
use Rattle.calendar.specs.Dates.{day_number, date_of}
use Rattle.calendar.specs.Weeks.{weekday_name, weekday_of}
use Rattle.calendar.specs.Kinds.{kind_name}
use Rattle.pieces.specs.Texts.{date_text}
use Rattle.lines.specs.Texts.{refused_text}
use Rattle.holiday_lines.specs.Reads.{year_read}

-- shut, since the date of a day is counted through the years
unfoldable pub date_word : ℕ → List ℕ
date_word day = date_text (date_of day)

abbrev pub weekdays : List Weekday
weekdays = Monday ∷ Tuesday ∷ Wednesday ∷ Thursday ∷ Friday ∷ Saturday ∷ Sunday ∷ []

abbrev pub kinds : List HolidayKind
kinds = NewYearsDay ∷ GoodFriday ∷ EasterMonday ∷ MayDay ∷ SpringBank ∷ LateSummerBank ∷ ChristmasDay ∷ BoxingDay ∷ []

unfoldable pub weekday_word : ℕ → List ℕ
weekday_word day = weekday_name (slice_index_or weekdays (weekday_of day) Monday)

unfoldable pub kind_word : ℕ → List ℕ
kind_word k = kind_name (slice_index_or kinds (k - 1) NewYearsDay)

unfoldable pub line_of : ℕ → ℕ → List ℕ
line_of day k =
    date_word day ++ ((32 ∷ weekday_word day) ++ ((32 ∷ decimal day) ++ ((32 ∷ decimal k) ++ ((32 ∷ kind_word k) ++ (10 ∷ [])))))

abbrev pub is_holiday : (ℕ → ℕ) → ℕ → Bool
is_holiday kind day = nat_lt 0 (kind day)

abbrev pub text_on : (ℕ → ℕ) → ℕ → List ℕ
text_on kind day = cond (is_holiday kind day) (line_of day (kind day)) []

abbrev pub holidays_from : (ℕ → ℕ) → ℕ → ℕ → List ℕ
holidays_from kind first n = filter (is_holiday kind) (range_with_len first n)

abbrev pub holidays_of : (ℕ → ℕ) → ℕ → List ℕ
holidays_of kind y = holidays_from kind (day_number y 1 1) (day_number y 12 31 + 1 - day_number y 1 1)

abbrev pub lines_of : (ℕ → ℕ) → List ℕ → List ℕ
lines_of kind days = flat_map (λ day. line_of day (kind day)) days

abbrev pub text_of : (ℕ → ℕ) → Option ℕ → List ℕ
text_of kind (Some y) = lines_of kind (holidays_of kind y)
text_of kind None = refused_text OutOfRange

abbrev pub year_text : (ℕ → ℕ) → List ℕ → List ℕ
year_text kind line = text_of kind (year_read line)
