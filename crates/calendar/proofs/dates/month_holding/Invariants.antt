use Rattle.std.proofs.Common.{◌≡◌, ◌+◌}
use Rattle.calendar.specs.Dates.{leap, month_start}
use Rattle.calendar.proofs.dates.month_holding.Given as goal

abbrev pub invariant-loop-month : goal.invariant-loop-month
invariant-loop-month l = l.left + month_start (leap l.year) l.month ≡ l.of_year
