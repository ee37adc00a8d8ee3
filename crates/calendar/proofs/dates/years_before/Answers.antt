use Rattle.std.proofs.Common.{◌*◌, ◌/◌, arith}
use Rattle.calendar.proofs.Years.{Within, within_early, within_late}
use Rattle.calendar.proofs.dates.years_before.Goals as goal
use Rattle.calendar.proofs.dates.years_before.Goals.{then-day-ge-CENTURY, else-day-ge-CENTURY}

pub returns : goal.returns
returns c =
    let w : Within c.args.day (4 * c.if-day-ge-CENTURY.shifted / 1461) = elim c.if-day-ge-CENTURY.branch [
      | then-day-ge-CENTURY w ↦ within_late c.args.day _ (omega (arith, w.shifted-is)) (omega (arith, w.if-day-ge-CENTURY.true)) (omega arith)
      | else-day-ge-CENTURY w ↦ within_early c.args.day _ (omega (arith, w.shifted-is)) (omega (arith, w.if-day-ge-CENTURY.false))
    ] in
    record { within = w.0; begun = w.1.0; last = w.1.1 }
