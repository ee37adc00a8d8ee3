-- The kinds of holidays. Assumes nothing.
--
--   greatest_kind  kinds have the numbers 1 to this one
--   kind_number    the number of a kind
--   kind_name      its English name, as bytes
--   told_kind      what a day book tells, as a number: 0 where it tells no kind
--   kind_told      which kind a number stands for, as that same number, or 0 for a number that is none
--   KindRead       what reading a number answers: the kind that it stands for, or 40 for a number that is none
use Rattle.std.specs.Prelude.{◌≡◌, ℕ, cond, List, Some, None, codes, Ok, Err, Option, Result, nat_le}
use Rattle.refusals.specs.declared.Refusal.{Refusal}
use Rattle.refusals.specs.declared.Refusal.TheVariants.{OutOfRange}
use Rattle.calendar.specs.declared.books.HolidayKind.{HolidayKind}
use Rattle.calendar.specs.declared.books.HolidayKind.TheVariants.{NewYearsDay, GoodFriday, EasterMonday, MayDay, SpringBank, LateSummerBank, ChristmasDay, BoxingDay}

abbrev pub greatest_kind : ℕ
greatest_kind = 8

abbrev pub kind_number : HolidayKind → ℕ
kind_number NewYearsDay = 1
kind_number GoodFriday = 2
kind_number EasterMonday = 3
kind_number MayDay = 4
kind_number SpringBank = 5
kind_number LateSummerBank = 6
kind_number ChristmasDay = 7
kind_number BoxingDay = 8

abbrev pub kind_name : HolidayKind → List ℕ
kind_name NewYearsDay = codes "New Year's Day"
kind_name GoodFriday = codes "Good Friday"
kind_name EasterMonday = codes "Easter Monday"
kind_name MayDay = codes "May Day"
kind_name SpringBank = codes "Spring Bank Holiday"
kind_name LateSummerBank = codes "Late Summer Bank Holiday"
kind_name ChristmasDay = codes "Christmas Day"
kind_name BoxingDay = codes "Boxing Day"

abbrev pub told_kind : Option HolidayKind → ℕ
told_kind None = 0
told_kind (Some k) = kind_number k

abbrev pub kind_told : ℕ → ℕ
kind_told n = cond (nat_le n greatest_kind) n 0

abbrev pub KindRead : ℕ → Result HolidayKind Refusal → Type 0
KindRead n (Ok k) = kind_number k ≡ kind_told n
KindRead n (Err e) = (kind_told n ≡ 0) × (e ≡ OutOfRange)
