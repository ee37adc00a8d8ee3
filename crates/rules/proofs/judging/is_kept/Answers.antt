use Rattle.std.proofs.lemmas.Bool.Decides.{Decides-at}
use Rattle.rules.proofs.Decided.{sound_decides}
use Rattle.rules.proofs.judging.is_kept.Goals as goal

pub returns-clause-words : goal.returns-clause-words
returns-clause-words g c =
    Decides-at c.row_keeps.result _ c.row_keeps.ensures (sound_decides c.args.rule (g.C.Carrier.meaning c.args.c.now) c.args.kind c.args.row)
