-- Pieces one behind the other, and their lengths. Assumes nothing.
use Rattle.std.proofs.Common.{◌≡◌, ℕ, ◌+◌, ◌*◌, ◌/◌, ◌%◌, ◌<◌, ◌≤◌, List, [], ◌∷◌, ◌++◌, length, get_or, take, drop, sym, refl, ap, ◌∙◌, append_assoc, append-nil, arith, Bor, length-append, take-append-drop}
use Rattle.std.proofs.lemmas.List.{take_more, length-take-le}
use Rattle.pieces.specs.declared.piece.Piece.{Piece}
use Rattle.pieces.specs.declared.piece.Piece.TheVariants.{Text, Hex}
use Rattle.pieces.specs.Texts.{hex_digit, hex_text, piece_text, pieces_text}

-- what stands past the end of a list of pieces
abbrev pub no_piece : Piece
no_piece = Text (record { ref_ptr = (0, 0); now = [] })

pub pieces_append : (ps qs : List Piece) → pieces_text (ps ++ qs) ≡ pieces_text ps ++ pieces_text qs
pieces_append [] qs = refl
pieces_append (p ∷ ps) qs = ap (λ l. piece_text p ++ l) (pieces_append ps qs) ∙ sym (append_assoc (piece_text p) (pieces_text ps) (pieces_text qs))

module _ (ps : List Piece) (i : ℕ) (d : Piece) (h : i < length ps) where
  pub pieces_more : pieces_text (take (i + 1) ps) ≡ pieces_text (take i ps) ++ piece_text (get_or ps i d)
  pieces_more =
      ap pieces_text (take_more ps i d h)
      ∙ pieces_append (take i ps) (get_or ps i d ∷ [])
      ∙ ap (λ l. pieces_text (take i ps) ++ l) (append-nil (piece_text (get_or ps i d)))

  pub pieces_long : length (pieces_text (take (i + 1) ps)) ≡ length (pieces_text (take i ps)) + length (piece_text (get_or ps i d))
  pieces_long = ap length pieces_more ∙ length-append (pieces_text (take i ps)) (piece_text (get_or ps i d))

  pub pieces_room : length (pieces_text (take i ps)) + length (piece_text (get_or ps i d)) ≤ length (pieces_text ps)
  pieces_room =
      let all : pieces_text (take (i + 1) ps) ++ pieces_text (drop (i + 1) ps) ≡ pieces_text ps = sym (pieces_append (take (i + 1) ps) (drop (i + 1) ps)) ∙ ap pieces_text (take-append-drop (i + 1) ps) in
      omega (arith, ap length all, length-append (pieces_text (take (i + 1) ps)) (pieces_text (drop (i + 1) ps)), pieces_long)

length-hex : (bs : List ℕ) → length (hex_text bs) ≡ 3 * length bs
length-hex [] = refl
length-hex (b ∷ bs) = omega (arith, length-hex bs)

pub length-hex_piece : (piece : Piece) (bytes : Bor (List ℕ)) → piece ≡ Hex bytes → length (piece_text piece) ≡ 3 * length bytes.now
length-hex_piece piece bytes is = ap (λ p. length (piece_text p)) is ∙ length-hex bytes.now

hex_append : (xs ys : List ℕ) → hex_text (xs ++ ys) ≡ hex_text xs ++ hex_text ys
hex_append [] ys = refl
hex_append (x ∷ xs) ys = ap (λ l. 32 ∷ hex_digit (x / 16) ∷ hex_digit (x % 16) ∷ l) (hex_append xs ys)

module _ (bs : List ℕ) (i : ℕ) (h : i < length bs) where
  pub hex_more : hex_text (take (i + 1) bs) ≡ hex_text (take i bs) ++ 32 ∷ hex_digit (get_or bs i 0 / 16) ∷ hex_digit (get_or bs i 0 % 16) ∷ []
  hex_more = ap hex_text (take_more bs i 0 h) ∙ hex_append (take i bs) (get_or bs i 0 ∷ [])

  pub hex_room : length (hex_text (take i bs)) + 3 ≤ length (hex_text bs)
  hex_room = omega (arith, length-hex (take i bs), length-hex bs, length-take-le i bs (omega arith))
