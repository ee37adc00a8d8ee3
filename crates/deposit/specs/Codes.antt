-- Equal codes. Assumes nothing.
--
--   same_code   two codes are the same bytes
use Rattle.std.specs.Prelude.{ℕ, Bool, true, false, ◌&&◌, List, [], ◌∷◌, ◌==◌}

abbrev pub same_code : List ℕ → List ℕ → Bool
same_code [] [] = true
same_code [] (y ∷ ys) = false
same_code (x ∷ xs) [] = false
same_code (x ∷ xs) (y ∷ ys) = x == y && same_code xs ys
