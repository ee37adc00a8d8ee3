use Rattle.std.proofs.Common.{◌-◌}
use Rattle.calendar.specs.Dates.{day_number}
use Rattle.writing.specs.Puts.{Put}
use Rattle.holiday_lines.proofs.Gathered.{so_far}
use Rattle.holiday_lines.proofs.days.put_year.Given as goal

abbrev pub invariant-loop-day : goal.invariant-loop-day
invariant-loop-day g l =
    let first = day_number l.fn.year.number 1 1 in
    Put l.initial.out 0 (so_far (g.B.DayBook.kind_of l.book) first (l.day - first)) l.out l.at
