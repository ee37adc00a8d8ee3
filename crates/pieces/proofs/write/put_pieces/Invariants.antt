use Rattle.std.proofs.Common.{take}
use Rattle.writing.specs.Puts.{Put}
use Rattle.pieces.specs.Texts.{pieces_text}
use Rattle.pieces.proofs.write.put_pieces.Given as goal

abbrev pub invariant-loop-piece : goal.invariant-loop-piece
invariant-loop-piece l = Put l.initial.out l.at (pieces_text (take l.piece-index l.pieces)) l.out l.next
