-- The words of a holiday's line, from what the calendar tells, and their lengths. Assumes nothing.
use Rattle.std.proofs.Common.{◌≡◌, ℕ, ◌+◌, ◌-◌, ◌≤◌, List, [], ◌∷◌, ◌++◌, length, get_or, decimal, sym, refl, ap, ◌∙◌, arith, lit≤, length-append}
use Rattle.std.proofs.lemmas.Fmt.{length-decimal-le}
use Rattle.calendar.specs.declared.weeks.Weekday.{Weekday}
use Rattle.calendar.specs.declared.weeks.Weekday.TheVariants.{Monday, Tuesday, Wednesday, Thursday, Friday, Saturday, Sunday}
use Rattle.calendar.specs.declared.books.HolidayKind.{HolidayKind}
use Rattle.calendar.specs.declared.books.HolidayKind.TheVariants.{NewYearsDay, GoodFriday, EasterMonday, MayDay, SpringBank, LateSummerBank, ChristmasDay, BoxingDay}
use Rattle.calendar.specs.declared.dates.Date.{Date}
use Rattle.calendar.specs.Made.{parts, day_of}
use Rattle.calendar.specs.Dates.{Dated, last_day, date_of}
use Rattle.calendar.specs.Weeks.{weekday_name, weekday_number, weekday_of}
use Rattle.calendar.specs.Kinds.{kind_name, kind_number}
use Rattle.calendar.proofs.Counts.{date_is}
use Rattle.pieces.specs.Texts.{date_text}
use Rattle.holiday_lines.specs.Texts.{date_word, weekdays, weekday_word, kinds, kind_word, line_of}

pub date_word_is : (day y m d : ℕ) → Dated day y m d → date_word day ≡ date_text (y, m, d)
unfolding date_word
date_word_is day y m d t = ap date_text (date_is day y m d t)

numbered : (w : Weekday) → weekday_name (get_or weekdays (weekday_number w) Monday) ≡ weekday_name w
numbered Monday = refl
numbered Tuesday = refl
numbered Wednesday = refl
numbered Thursday = refl
numbered Friday = refl
numbered Saturday = refl
numbered Sunday = refl

pub weekday_word_is : (w : Weekday) (day : ℕ) → weekday_number w ≡ weekday_of day → weekday_word day ≡ weekday_name w
unfolding weekday_word
weekday_word_is w day e = ap (λ n. weekday_name (get_or weekdays n Monday)) (sym e) ∙ numbered w

pub kind_word_is : (k : HolidayKind) → kind_word (kind_number k) ≡ kind_name k
unfolding kind_word
kind_word_is NewYearsDay = refl
kind_word_is GoodFriday = refl
kind_word_is EasterMonday = refl
kind_word_is MayDay = refl
kind_word_is SpringBank = refl
kind_word_is LateSummerBank = refl
kind_word_is ChristmasDay = refl
kind_word_is BoxingDay = refl

-- the line of a holiday, piece after piece
pub line_is : (day : ℕ) (kind : HolidayKind) (date : Date) (weekday : Weekday) (w n : List ℕ) (k : ℕ) → day ≡ day_of date → weekday_number weekday ≡ weekday_of day → w ≡ weekday_name weekday → k ≡ kind_number kind → n ≡ kind_name kind → date_text (parts date) ++ (32 ∷ (w ++ (32 ∷ (decimal day ++ (32 ∷ (decimal k ++ (32 ∷ (n ++ (10 ∷ []))))))))) ≡ line_of day (kind_number kind)
unfolding line_of
line_is day kind date weekday w n k is of name number told =
    let first : date_word day ≡ date_text (parts date) = date_word_is day date.year date.month date.of_month (record { valid = date.valid; is = is }) in
    let second : w ≡ weekday_word day = name ∙ sym (weekday_word_is weekday day of) in
    let last : n ≡ kind_word (kind_number kind) = told ∙ sym (kind_word_is kind) in
    cc

pub weekday_name_le : (w : Weekday) → length (weekday_name w) ≤ 9
weekday_name_le Monday = lit≤ tt
weekday_name_le Tuesday = lit≤ tt
weekday_name_le Wednesday = lit≤ tt
weekday_name_le Thursday = lit≤ tt
weekday_name_le Friday = lit≤ tt
weekday_name_le Saturday = lit≤ tt
weekday_name_le Sunday = lit≤ tt

pub kind_name_le : (k : HolidayKind) → length (kind_name k) ≤ 24
kind_name_le NewYearsDay = lit≤ tt
kind_name_le GoodFriday = lit≤ tt
kind_name_le EasterMonday = lit≤ tt
kind_name_le MayDay = lit≤ tt
kind_name_le SpringBank = lit≤ tt
kind_name_le LateSummerBank = lit≤ tt
kind_name_le ChristmasDay = lit≤ tt
kind_name_le BoxingDay = lit≤ tt

number_le : (k : HolidayKind) → kind_number k ≤ 8
number_le NewYearsDay = lit≤ tt
number_le GoodFriday = lit≤ tt
number_le EasterMonday = lit≤ tt
number_le MayDay = lit≤ tt
number_le SpringBank = lit≤ tt
number_le LateSummerBank = lit≤ tt
number_le ChristmasDay = lit≤ tt
number_le BoxingDay = lit≤ tt

length-date_text : (t : ℕ × ℕ × ℕ) → length (date_text t) ≡ 10
length-date_text t = refl

pub length-date : (day : ℕ) → length (date_word day) ≡ 10
unfolding date_word
length-date day = length-date_text (date_of day)

-- all but the words takes 15 bytes: the date, four blanks and the newline
pub length-line : (day k : ℕ) → length (line_of day k) ≡ 15 + length (weekday_word day) + (length (decimal day) + length (decimal k)) + length (kind_word k)
unfolding line_of
length-line day k =
    let last = (32 ∷ kind_word k) ++ (10 ∷ []) in
    let number = (32 ∷ decimal k) ++ last in
    let count = (32 ∷ decimal day) ++ number in
    omega (arith, length-date day, length-append (date_word day) ((32 ∷ weekday_word day) ++ count), length-append (weekday_word day) count, length-append (decimal day) number, length-append (decimal k) last, length-append (kind_word k) (10 ∷ []))

weekday_word_le : (day : ℕ) → length (weekday_word day) ≤ 9
unfolding weekday_word
weekday_word_le day = weekday_name_le (get_or weekdays (weekday_of day) Monday)

kind_word_le : (k : ℕ) → length (kind_word k) ≤ 24
unfolding kind_word
kind_word_le k = kind_name_le (get_or kinds (k - 1) NewYearsDay)

-- the line of a holiday is short
pub line_le : (day : ℕ) (kind : HolidayKind) → day ≤ last_day → length (line_of day (kind_number kind)) ≤ 80
line_le day kind h =
    let k = kind_number kind in
    omega (arith, length-line day k, weekday_word_le day, kind_word_le k, length-decimal-le 10 day (omega arith) (omega arith) (omega arith), length-decimal-le 10 k (omega arith) (omega (arith, number_le kind)) (omega (arith, number_le kind)))
