use Rattle.std.proofs.Common.{arith}
use Rattle.std.proofs.lemmas.Grind.{common_steps}
use Rattle.pieces.proofs.Pieces.{length-hex_piece}
use Rattle.pieces.proofs.write.room_behind_piece.Goals as goal

pub returns-in_err-checked_mul-in-Hex : goal.returns-in_err-checked_mul-in-Hex
returns-in_err-checked_mul-in-Hex c =
    let long = length-hex_piece c.args.piece c.in-Hex.bytes c.in-Hex.is in
    grind (arith, common_steps)

pub returns-in_ok-checked_mul-in-Hex : goal.returns-in_ok-checked_mul-in-Hex
returns-in_ok-checked_mul-in-Hex c =
    let long = length-hex_piece c.args.piece c.in-Hex.bytes c.in-Hex.is in
    grind (arith, common_steps)
