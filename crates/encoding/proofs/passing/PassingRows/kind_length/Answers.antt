use Rattle.std.proofs.Common.{◌<◌, arith}
use Rattle.deposit.specs.Deposit.{count_of}
use Rattle.encoding.proofs.FieldLists.{kind_long}
use Rattle.encoding.proofs.Judged.{judged_fit}
use Rattle.encoding.proofs.passing.PassingRows.kind_length.Goals as goal

pub overflow_add-total-in-loop-row : goal.overflow_add-total-in-loop-row
overflow_add-total-in-loop-row g c =
    let few = (judged_fit _ c.args.self.now.passes).few c.args.kind in
    record { fits = omega (arith, c.loop-row.invariant.1, c.row_length.ensures.few, few, c.count-row-end.ensures) }

pub loop-row-preserved : goal.loop-row-preserved
loop-row-preserved g c =
    let d = g.C.Carrier.meaning c.args.self.now.carrier.now in
    let within : c.loop-row.row < count_of d c.args.kind = omega (arith, c.count-row-end.ensures) in
    (omega (arith, c.loop-row.invariant.0, c.row_length.ensures.value, kind_long d c.args.kind c.loop-row.row within), omega (arith, c.loop-row.invariant.1, c.row_length.ensures.few))

pub returns-clause-few : goal.returns-clause-few
returns-clause-few g c =
    let few = (judged_fit _ c.args.self.now.passes).few c.args.kind in
    omega (arith, c.loop-row.invariant.1, few, c.count-row-end.ensures)
