use Rattle.std.proofs.Common.{◌≤◌, rules, arith}
use Rattle.calendar.proofs.Years.{year_le}
use Rattle.calendar.proofs.Months.{start_le}
use Rattle.calendar.proofs.Turns.{dated_le, told_back}
use Rattle.calendar.proofs.dates.Date.day.Goals as goal

pub overflow_add-result : goal.overflow_add-result
overflow_add-result c =
    let short : c.total-before_month.result ≤ 366 = search (rules, start_le) in
    omega (arith, year_le c.from.result (omega arith))

pub overflow_add-result-2 : goal.overflow_add-result-2
overflow_add-result-2 c =
    let short : c.total-before_month.result ≤ 366 = search (rules, start_le) in
    omega (arith, year_le c.from.result (omega arith))

pub returns-clause-within : goal.returns-clause-within
returns-clause-within c = dated_le _ c.args.self.year c.args.self.month c.args.self.of_month (record { valid = c.args.self.valid; is = search rules })

pub returns-clause-back : goal.returns-clause-back
returns-clause-back c = told_back _ c.args.self.year c.args.self.month c.args.self.of_month (record { valid = c.args.self.valid; is = search rules })
