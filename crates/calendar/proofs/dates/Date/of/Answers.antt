use Rattle.std.proofs.Common.{◌+◌, arith}
use Rattle.calendar.specs.Dates.{leap}
use Rattle.calendar.proofs.Years.{leaps_next}
use Rattle.calendar.proofs.Months.{year_length}
use Rattle.calendar.proofs.dates.Date.of.Goals as goal

pub month_holding-month-requires : goal.month_holding-month-requires
month_holding-month-requires c =
    let n = c.years_before-years.result in
    let whole = year_length (leap (2000 + n)) in
    omega (arith, leaps_next n, whole, c.years_before-years.ensures.begun, c.years_before-years.ensures.last, c.days_before_year.ensures)
