use Rattle.std.proofs.Common.{sym, arith}
use Rattle.writing.proofs.Putting.{then, put_as}
use Rattle.pieces.proofs.Pieces.{no_piece, pieces_more, pieces_room}
use Rattle.pieces.proofs.write.put_pieces.Goals as goal

pub put_piece-next-requires : goal.put_piece-next-requires
put_piece-next-requires c =
    omega (arith, pieces_room c.args.pieces.now c.loop-piece.piece-index no_piece c.loop-piece-test.true, c.loop-piece.invariant.next)

pub loop-piece-preserved : goal.loop-piece-preserved
loop-piece-preserved c = put_as (sym (pieces_more c.args.pieces.now c.loop-piece.piece-index no_piece c.loop-piece-test.true)) (then c.loop-piece.invariant c.put_piece-next.ensures)
