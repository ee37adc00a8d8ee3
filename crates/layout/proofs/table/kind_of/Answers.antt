use Rattle.std.proofs.Common.{◌∙◌}
use Rattle.layout.proofs.Tags.{tried_kind}
use Rattle.layout.proofs.table.kind_of.Goals as goal

pub returns : goal.returns
returns c = c.ok.ensures.value ∙ tried_kind c.args.tag c.try_from.result c.try_from.ensures
