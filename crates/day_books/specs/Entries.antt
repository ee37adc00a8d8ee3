-- Lists of days with kinds, and what a list tells of each day. Assumes nothing.
--
--   dated       the entry of a day and a number
--   no_later    an entry ranks no later than another: its day is no later
--   has_day     some entry of the list is of that day
--   first_kind  the number that the first entry of a day has; 0 where no entry is of that day
--   told_by     what the list tells of a day: the kind of its first entry there, and 0 where that number is no kind
--   kind_by     the same up to the calendar's last day; 0 past it, whatever is listed
--   kind_after  what the list tells of a day when a new entry has come: of the new entry's day, if no entry was of that day
--               before, the new kind; of any other day, and of a day that was listed before, what it told before
use Rattle.std.specs.Prelude.{ℕ, Bool, cond, not, ◌&&◌, List, [], ◌∷◌, ◌==◌, nat_le}
use Rattle.std.specs.List.{list_any}
use Rattle.calendar.specs.Dates.{last_day}
use Rattle.calendar.specs.Kinds.{kind_told}
use Rattle.day_books.specs.declared.dated.DatedKind.{DatedKind}

abbrev pub dated : ℕ → ℕ → DatedKind
dated day kind = record { day = day; kind = kind }

abbrev pub no_later : DatedKind → DatedKind → Bool
no_later x y = nat_le x.day y.day

abbrev pub has_day : List DatedKind → ℕ → Bool
has_day xs d = list_any (λ x. x.day == d) xs

abbrev pub first_kind : List DatedKind → ℕ → ℕ
first_kind [] d = 0
first_kind (x ∷ xs) d = cond (x.day == d) x.kind (first_kind xs d)

abbrev pub told_by : List DatedKind → ℕ → ℕ
told_by xs d = kind_told (first_kind xs d)

abbrev pub kind_by : List DatedKind → ℕ → ℕ
kind_by xs d = cond (nat_le d last_day) (told_by xs d) 0

abbrev pub kind_after : DatedKind → List DatedKind → ℕ → ℕ
kind_after x xs d = cond (x.day == d && not (has_day xs d)) (kind_by (x ∷ []) d) (kind_by xs d)
