use Rattle.std.proofs.Common.{ap, arith}
use Rattle.std.proofs.lemmas.List.{take_all}
use Rattle.refusals.specs.declared.Kind.TheVariants as kind
use Rattle.refusals.specs.Numbers.{kinds}
use Rattle.layout.specs.Writing.{rows_of, deposit_content}
use Rattle.writing.proofs.Putting.{put_as}
use Rattle.encoding.proofs.FieldLists.{rows_fit, rows_put}
use Rattle.encoding.proofs.passing.PassingRows.put.Goals as goal

pub put_kind-next-requires : goal.put_kind-next-requires
unfolding deposit_content
put_kind-next-requires g c =
    let d = g.C.Carrier.meaning c.args.self.now.carrier.now in
    rows_fit d kinds c.loop-kind.kind-index kind.Head (omega arith) c.requires c.loop-kind.invariant

pub loop-kind-preserved : goal.loop-kind-preserved
loop-kind-preserved g c =
    let d = g.C.Carrier.meaning c.args.self.now.carrier.now in
    rows_put d kinds c.loop-kind.kind-index kind.Head (omega arith) c.loop-kind.invariant c.put_kind-next.ensures

pub returns : goal.returns
unfolding deposit_content
returns g c =
    let d = g.C.Carrier.meaning c.args.self.now.carrier.now in
    put_as (ap (rows_of d) (take_all c.loop-kind.kind-index kinds (omega arith))) c.loop-kind.invariant
