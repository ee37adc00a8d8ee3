use Rattle.std.proofs.Common.{arith}
use Rattle.pieces.proofs.Pieces.{no_piece, pieces_long, pieces_room}
use Rattle.pieces.proofs.write.room_behind.Goals as goal

pub returns-in_err-left : goal.returns-in_err-left
returns-in_err-left c =
    let room = pieces_room c.args.pieces.now c.loop-piece.piece-index no_piece c.loop-piece-test.true in
    record { answer = rw c.from_residual.ensures (omega (arith, room, c.in_err-left.ensures, c.loop-piece.invariant)) }

pub loop-piece-preserved : goal.loop-piece-preserved
loop-piece-preserved c =
    let long = pieces_long c.args.pieces.now c.loop-piece.piece-index no_piece c.loop-piece-test.true in
    omega (arith, long, c.in_ok-left.ensures, c.loop-piece.invariant)
