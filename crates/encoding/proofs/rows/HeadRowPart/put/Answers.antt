use Rattle.encoding.proofs.RowLengths.{given_is}
use Rattle.encoding.proofs.rows.HeadRowPart.put.Goals as goal

pub returns : goal.returns
returns c = rw (given_is c.args.self.modified) (rw (c.then-6.ensures, c.then-numbers.ensures, c.then-5.ensures, c.then-4.ensures, c.then-3.ensures, c.then-2.ensures, c.then.ensures) at c.put.ensures)
