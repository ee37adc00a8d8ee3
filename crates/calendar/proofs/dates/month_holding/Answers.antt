use Rattle.std.proofs.Common.{◌≡◌, ◌+◌, rules, arith}
use Rattle.calendar.specs.Dates.{leap, month_start}
use Rattle.calendar.proofs.dates.month_holding.Goals as goal

pub returns : goal.returns
returns c =
    let last : c.loop-month.month ≡ 12 = omega arith in
    let is : c.loop-month.left + month_start (leap c.args.year) 12 ≡ c.args.of_year = rw last at c.loop-month.invariant in
    search rules
