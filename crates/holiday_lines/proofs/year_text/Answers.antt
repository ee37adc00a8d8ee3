use Rattle.holiday_lines.proofs.Lawful.{told}
use Rattle.holiday_lines.proofs.year_text.Goals as goal

pub returns-in-Some-clause-words : goal.returns-in-Some-clause-words
returns-in-Some-clause-words g c = told (g.B.DayBook.kind_of c.args.book.now)

pub returns-in-None-clause-words : goal.returns-in-None-clause-words
returns-in-None-clause-words g c = told (g.B.DayBook.kind_of c.args.book.now)
