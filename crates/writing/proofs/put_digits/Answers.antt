use Rattle.std.proofs.Common.{◌+◌, ◌-◌, arith}
use Rattle.writing.proofs.Padding.{from_none, from_place, from_all}
use Rattle.writing.proofs.put_digits.Goals as goal

pub loop-place-init : goal.loop-place-init
loop-place-init c = from_none c.args.out.now c.args.at c.args.width c.args.number (c.args.at + c.args.width - c.args.at) (omega arith) (omega arith)

pub loop-place-preserved : goal.loop-place-preserved
loop-place-preserved c =
    let place = c.loop-place.place in
    from_place c.args.out.now c.args.at c.args.width c.args.number c.loop-place.out c.loop-place.rest (place - 1 - c.args.at) (place - c.args.at) (place - 1) (omega arith) (omega arith) (omega arith) c.loop-place.invariant

pub returns : goal.returns
returns c = record {
  bytes = from_all c.args.out.now c.args.at c.args.width c.args.number c.loop-place.out (c.loop-place.place - c.args.at) c.loop-place.rest (omega arith) c.loop-place.invariant (omega arith);
}
