use Rattle.std.proofs.Common.{◌<◌, arith}
use Rattle.deposit.specs.Deposit.{count_of}
use Rattle.encoding.proofs.FieldLists.{kind_fits, kind_put}
use Rattle.encoding.proofs.passing.PassingRows.put_kind.Goals as goal

pub put_row-next-requires-clause-room : goal.put_row-next-requires-clause-room
put_row-next-requires-clause-room g c =
    let d = g.C.Carrier.meaning c.args.self.now.carrier.now in
    let within : c.loop-row.row < count_of d c.args.kind = omega (arith, c.count-row-end.ensures) in
    kind_fits d c.args.kind c.loop-row.row within c.requires c.loop-row.invariant

pub loop-row-preserved : goal.loop-row-preserved
loop-row-preserved g c =
    let d = g.C.Carrier.meaning c.args.self.now.carrier.now in
    let within : c.loop-row.row < count_of d c.args.kind = omega (arith, c.count-row-end.ensures) in
    kind_put d c.args.kind c.loop-row.row within c.loop-row.invariant c.put_row-next.ensures
