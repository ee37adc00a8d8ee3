use Rattle.std.proofs.Common.{arith}
use Rattle.calendar.proofs.Years.{leaps_early, leaps_late}
use Rattle.calendar.proofs.dates.days_before_year.Goals as goal

pub returns-then-years-gt100 : goal.returns-then-years-gt100
returns-then-years-gt100 c = omega (arith, leaps_late c.args.years (omega arith) (omega arith))

pub returns-else-years-gt100 : goal.returns-else-years-gt100
returns-else-years-gt100 c = omega (arith, leaps_early c.args.years (omega arith))
