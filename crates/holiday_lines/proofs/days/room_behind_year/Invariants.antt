use Rattle.std.proofs.Common.{◌≡◌, ◌+◌, ◌-◌, length}
use Rattle.calendar.specs.Dates.{day_number}
use Rattle.holiday_lines.proofs.Gathered.{so_far}
use Rattle.holiday_lines.proofs.days.room_behind_year.Given as goal

abbrev pub invariant-loop-day : goal.invariant-loop-day
invariant-loop-day g l =
    let first = day_number l.fn.year.number 1 1 in
    l.left + length (so_far (g.B.DayBook.kind_of l.book) first (l.day - first)) ≡ l.room
