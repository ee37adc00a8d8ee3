-- What a write leaves in lent bytes. Assumes nothing.
--
--   Put old i bs new end   bs fits into old from place i on; new is old with bs there, all before and behind as it was; end is the place behind bs
--   padded w n             the last w decimal digits of n, as ASCII bytes, with zeros in front where it has fewer
use Rattle.std.specs.Prelude.{◌≡◌, ℕ, zero, suc, ◌+◌, ◌/◌, ◌%◌, ◌≤◌, List, [], ◌∷◌, ◌++◌, length, take, drop}

pub record Put (old : List ℕ) (i : ℕ) (bs : List ℕ) (new : List ℕ) (end : ℕ) : Type 0 where
  pub room : i + length bs ≤ length old
  pub next : end ≡ i + length bs
  pub out : new ≡ take i old ++ (bs ++ drop (i + length bs) old)

abbrev pub padded : ℕ → ℕ → List ℕ
padded zero n = []
padded (suc w) n = padded w (n / 10) ++ ((48 + n % 10) ∷ [])
