use Rattle.std.proofs.lemmas.Bool.Decides.{Decides-at}
use Rattle.ranges.proofs.Decided.{range_decides}
use Rattle.ranges.proofs.rows.in_range.Goals as goal

pub returns-clause-words : goal.returns-clause-words
returns-clause-words g c =
    Decides-at c.row_in_range.result _ c.row_in_range.ensures (range_decides (g.C.Carrier.meaning c.args.c.now) c.args.kind c.args.row)
