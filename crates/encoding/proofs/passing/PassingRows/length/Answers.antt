use Rattle.std.proofs.Common.{length, ap, ◌∙◌, arith}
use Rattle.std.proofs.lemmas.List.{take_all}
use Rattle.refusals.specs.Numbers.{kinds}
use Rattle.layout.specs.Writing.{rows_of, deposit_content}
use Rattle.encoding.proofs.passing.PassingRows.length.Goals as goal

pub returns : goal.returns
unfolding deposit_content
returns g c =
    let d = g.C.Carrier.meaning c.args.self.now.carrier.now in
    c.loop-kind.invariant.0 ∙ ap (λ l. length (rows_of d l)) (take_all c.loop-kind.kind-index kinds (omega arith))
