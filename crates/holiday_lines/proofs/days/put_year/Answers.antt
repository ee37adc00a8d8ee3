use Rattle.std.proofs.Common.{◌+◌, arith}
use Rattle.calendar.specs.Dates.{day_number}
use Rattle.writing.proofs.Putting.{put_as}
use Rattle.holiday_lines.proofs.Gathered.{so_far_all, day_room, put_next}
use Rattle.holiday_lines.proofs.days.put_year.Goals as goal

pub put_day-at-requires-clause-room : goal.put_day-at-requires-clause-room
put_day-at-requires-clause-room g c =
    let first = day_number c.args.year.number 1 1 in
    let end = day_number c.args.year.number 12 31 + 1 in
    omega (arith, day_room (g.B.DayBook.kind_of c.args.book.now) first c.loop-day.day end (omega arith) (omega arith), c.loop-day.invariant.next, c.requires)

pub loop-day-preserved : goal.loop-day-preserved
loop-day-preserved g c =
    let first = day_number c.args.year.number 1 1 in
    put_next (g.B.DayBook.kind_of c.args.book.now) first c.loop-day.day (omega arith) c.loop-day.invariant c.put_day-at.ensures

pub returns-2 : goal.returns-2
returns-2 g c =
    let kind = g.B.DayBook.kind_of c.args.book.now in
    let first = day_number c.args.year.number 1 1 in
    let all = so_far_all kind c.args.year.number (c.loop-day.day + 1) (omega arith) in
    put_as all (put_next kind first c.loop-day.day (omega arith) c.loop-day.invariant c.put_day-at.ensures)
