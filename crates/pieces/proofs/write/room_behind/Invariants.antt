use Rattle.std.proofs.Common.{◌≡◌, ◌+◌, length, take}
use Rattle.pieces.specs.Texts.{pieces_text}
use Rattle.pieces.proofs.write.room_behind.Given as goal

abbrev pub invariant-loop-piece : goal.invariant-loop-piece
invariant-loop-piece l = l.left + length (pieces_text (take l.piece-index l.pieces)) ≡ l.room
