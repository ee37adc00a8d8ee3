use Rattle.std.proofs.Common.{arith}
use Rattle.writing.proofs.Putting.{then, put_as}
use Rattle.pieces.proofs.Pieces.{hex_more, hex_room}
use Rattle.pieces.proofs.write.put_hex.Goals as goal

pub put_bytes-next-requires : goal.put_bytes-next-requires
put_bytes-next-requires c =
    omega (arith, hex_room c.args.bytes.now c.loop-byte.byte-index c.loop-byte-test.true, c.loop-byte.invariant.next)

pub loop-byte-preserved : goal.loop-byte-preserved
loop-byte-preserved c =
    let more = hex_more c.args.bytes.now c.loop-byte.byte-index c.loop-byte-test.true in
    put_as (cc (more, c.hex_digit.ensures, c.hex_digit-in-loop-byte.ensures)) (then c.loop-byte.invariant c.put_bytes-next.ensures.bytes)
