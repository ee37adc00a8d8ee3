use Rattle.std.proofs.Common.{rules}
use Rattle.std.proofs.lemmas.Bool.Decides.{Decides-at}
use Rattle.ranges.specs.Texts.{is_code}
use Rattle.ranges.proofs.Decided.{decides_code}
use Rattle.ranges.proofs.texts.is_code.Goals as goal

pub returns-then-is_name-clause-words : goal.returns-then-is_name-clause-words
returns-then-is_name-clause-words c =
    Decides-at c.all_visible.result (is_code c.args.most c.args.bytes.now) (search rules) (decides_code c.args.most c.args.bytes.now)
