-- The rules of the holidays, and the kind that they give each day. Assumes nothing.
--
--   keeps          a day with its date falls by a rule
--   first_kind     the number of the first holiday whose rule a day keeps, or 0
--   holidays       the kinds with their rules
--   computed_kind  the kind of a day in the computed book, 0 for none and for a day past the calendar
--   computed_few, computed_ends   the laws of a day book, of it
use Rattle.std.specs.Prelude.{◌≡◌, ℕ, ◌+◌, ◌-◌, ◌<◌, ◌≤◌, Bool, cond, ◌&&◌, List, [], ◌∷◌, ◌==◌, nat_le, nat_lt, slice_index}
use Rattle.std.proofs.Common.{arith}
use Rattle.std.proofs.lemmas.Bool.{cond_both, cond-false, lt-leb}
use Rattle.calendar.specs.declared.books.HolidayKind.{HolidayKind}
use Rattle.calendar.specs.declared.books.HolidayKind.TheVariants.{NewYearsDay, GoodFriday, EasterMonday, MayDay, SpringBank, LateSummerBank, ChristmasDay, BoxingDay}
use Rattle.calendar.specs.declared.tables.HolidayRule.{HolidayRule}
use Rattle.calendar.specs.declared.tables.HolidayRule.TheVariants.{Date, First, Last, BeforeEaster, AfterEaster}
use Rattle.calendar.specs.declared.tables.Holiday.{Holiday}
use Rattle.calendar.specs.declared.weeks.Weekday.TheVariants.{Monday}
use Rattle.calendar.specs.Dates.{last_day, leap, lengths, date_of}
use Rattle.calendar.specs.Weeks.{weekday_number, weekday_of}
use Rattle.computed_book.specs.Easters.{easter_of}
use Rattle.calendar.specs.Kinds.{greatest_kind, kind_number}

abbrev pub keeps : HolidayRule → ℕ → ℕ → ℕ → ℕ → Bool
keeps (Date month of-month) day y m d = m == month && d == of-month
keeps (First weekday month) day y m d = m == month && (weekday_of day == weekday_number weekday && nat_le d 7)
keeps (Last weekday month) day y m d = m == month && (weekday_of day == weekday_number weekday && nat_lt (slice_index (lengths (leap y)) (m - 1)) (d + 7))
keeps (BeforeEaster days) day y m d = day + days == easter_of y
keeps (AfterEaster days) day y m d = day == easter_of y + days

abbrev pub first_kind : List Holiday → ℕ → ℕ → ℕ → ℕ → ℕ
first_kind [] day y m d = 0
first_kind (h ∷ hs) day y m d = cond (keeps h.rule day y m d) (kind_number h.kind) (first_kind hs day y m d)

abbrev by_rule : HolidayKind → HolidayRule → Holiday
by_rule k r = record { kind = k; rule = r }

abbrev pub holidays : List Holiday
holidays =
    by_rule NewYearsDay (Date 1 1)
    ∷ by_rule GoodFriday (BeforeEaster 2)
    ∷ by_rule EasterMonday (AfterEaster 1)
    ∷ by_rule MayDay (First Monday 5)
    ∷ by_rule SpringBank (Last Monday 5)
    ∷ by_rule LateSummerBank (Last Monday 8)
    ∷ by_rule ChristmasDay (Date 12 25)
    ∷ by_rule BoxingDay (Date 12 26)
    ∷ []

abbrev pub kind_on : ℕ → ℕ × ℕ × ℕ → ℕ
kind_on day t = first_kind holidays day t.0 t.1 t.2

abbrev pub computed_kind : ℕ → ℕ
computed_kind day = cond (nat_le day last_day) (kind_on day (date_of day)) 0

number_le : (k : HolidayKind) → kind_number k ≤ greatest_kind
number_le NewYearsDay = omega arith
number_le GoodFriday = omega arith
number_le EasterMonday = omega arith
number_le MayDay = omega arith
number_le SpringBank = omega arith
number_le LateSummerBank = omega arith
number_le ChristmasDay = omega arith
number_le BoxingDay = omega arith

first_few : (hs : List Holiday) (day y m d : ℕ) → first_kind hs day y m d ≤ greatest_kind
first_few [] day y m d = omega arith
first_few (h ∷ hs) day y m d = cond_both (keeps h.rule day y m d) (kind_number h.kind) (first_kind hs day y m d) (λ k. k ≤ greatest_kind) (λ _. number_le h.kind) (λ _. first_few hs day y m d)

pub computed_few : (day : ℕ) → computed_kind day ≤ greatest_kind
computed_few day = cond_both (nat_le day last_day) (kind_on day (date_of day)) 0 (λ k. k ≤ greatest_kind) (λ _. first_few holidays day (date_of day).0 (date_of day).1 (date_of day).2) (λ _. omega arith)

pub computed_ends : (day : ℕ) → last_day < day → computed_kind day ≡ 0
computed_ends day h = cond-false (nat_le day last_day) (kind_on day (date_of day)) 0 (lt-leb day last_day h)
