-- Texts made of pieces, and what a call leaves that writes a text into a lent buffer. Assumes nothing.
--
--   date_text                a year, a month and a day of the month as yyyy-mm-dd
--   hex_digit                a hexadecimal digit
--   hex_text                 each byte as a blank and two hexadecimal digits
--   piece_text               the bytes of a piece
--   pieces_text              the bytes of pieces, one behind the other
--   RoomBehind text room r   what is left of so many bytes behind the text; or it does not fit into them, and nothing is told
--   Written text old r new   the text stands at the front of the buffer, and its length is told; or the buffer is too short, which is 44.
--                            Behind the text, and in a buffer that is too short, every byte is as it was
use Rattle.std.specs.Prelude.{◌≡◌, ℕ, ◌+◌, ◌/◌, ◌%◌, ◌<◌, cond, List, [], ◌∷◌, ◌++◌, length, drop, Some, None, Option, Ok, Err, decimal, Result, nat_lt}
use Rattle.refusals.specs.declared.Refusal.{Refusal}
use Rattle.refusals.specs.declared.Refusal.TheVariants.{TooShort}
use Rattle.writing.specs.Puts.{padded}
use Rattle.pieces.specs.declared.piece.Piece.{Piece}
use Rattle.pieces.specs.declared.piece.Piece.TheVariants.{Text, Number, Date, Hex}

abbrev pub date_text : ℕ × ℕ × ℕ → List ℕ
date_text t = padded 4 t.0 ++ (45 ∷ (padded 2 t.1 ++ (45 ∷ padded 2 t.2)))

abbrev pub hex_digit : ℕ → ℕ
hex_digit n = cond (nat_lt n 10) (48 + n) (55 + n)

abbrev pub hex_text : List ℕ → List ℕ
hex_text [] = []
hex_text (b ∷ bs) = 32 ∷ hex_digit (b / 16) ∷ hex_digit (b % 16) ∷ hex_text bs

abbrev pub piece_text : Piece → List ℕ
piece_text (Text t) = t.now
piece_text (Number n) = decimal n
piece_text (Date y m d) = date_text (y, m, d)
piece_text (Hex bs) = hex_text bs.now

abbrev pub pieces_text : List Piece → List ℕ
pieces_text [] = []
pieces_text (p ∷ ps) = piece_text p ++ pieces_text ps

abbrev pub RoomBehind : List ℕ → ℕ → Option ℕ → Type 0
RoomBehind text room (Some left) = left + length text ≡ room
RoomBehind text room None = room < length text

abbrev pub Written : List ℕ → List ℕ → Result ℕ Refusal → List ℕ → Type 0
Written text old (Ok n) new = (n ≡ length text) × (new ≡ text ++ drop n old)
Written text old (Err e) new = (e ≡ TooShort) × (length old < length text) × (new ≡ old)
