use Rattle.std.proofs.Common.{rules}
use Rattle.calendar.proofs.Turns.{splits_back}
use Rattle.calendar.proofs.dates.join.Goals as goal

pub returns-clause-back : goal.returns-clause-back
returns-clause-back c = splits_back c.day.result c.args.year c.args.month c.args.of_month (search rules)
