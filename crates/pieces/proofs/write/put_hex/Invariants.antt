use Rattle.std.proofs.Common.{take}
use Rattle.writing.specs.Puts.{Put}
use Rattle.pieces.specs.Texts.{hex_text}
use Rattle.pieces.proofs.write.put_hex.Given as goal

abbrev pub invariant-loop-byte : goal.invariant-loop-byte
invariant-loop-byte l = Put l.initial.out l.at (hex_text (take l.byte-index l.bytes)) l.out l.next
