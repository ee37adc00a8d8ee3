use Rattle.std.proofs.Common.{◌+◌, length, ap, arith}
use Rattle.calendar.specs.Dates.{day_number}
use Rattle.holiday_lines.proofs.Gathered.{so_far_all, length-next, day_room}
use Rattle.holiday_lines.proofs.days.room_behind_year.Goals as goal

pub returns-in_err-left : goal.returns-in_err-left
returns-in_err-left g c =
    let first = day_number c.args.year.number 1 1 in
    let end = day_number c.args.year.number 12 31 + 1 in
    let room = day_room (g.B.DayBook.kind_of c.args.book.now) first c.loop-day.day end (omega arith) (omega arith) in
    rw c.from_residual.ensures (omega (arith, room, c.in_err-left.ensures, c.loop-day.invariant))

pub loop-day-preserved : goal.loop-day-preserved
loop-day-preserved g c =
    let first = day_number c.args.year.number 1 1 in
    omega (arith, length-next (g.B.DayBook.kind_of c.args.book.now) first c.loop-day.day (omega arith), c.in_ok-left.ensures, c.loop-day.invariant)

pub returns-in_ok-left : goal.returns-in_ok-left
returns-in_ok-left g c =
    let kind = g.B.DayBook.kind_of c.args.book.now in
    let first = day_number c.args.year.number 1 1 in
    let all = so_far_all kind c.args.year.number (c.loop-day.day + 1) (omega arith) in
    omega (arith, ap length all, length-next kind first c.loop-day.day (omega arith), c.in_ok-left.ensures, c.loop-day.invariant)
