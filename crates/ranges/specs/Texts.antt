-- Codes and other texts. Assumes nothing.
--
--   visible      a byte from 33 to 126
--   all_visible  every byte is
--   is_code      a text of 1 to so many bytes, all visible
--   is_name      a text of 1 to so many bytes
--   Code, Name   the same in words
use Rattle.std.specs.Prelude.{ℕ, ◌≤◌, Bool, true, ◌&&◌, List, [], ◌∷◌, length, nat_le}
use Rattle.std.specs.List.{AllByRecursion}

abbrev pub visible : ℕ → Bool
visible b = nat_le 33 b && nat_le b 126

abbrev pub all_visible : List ℕ → Bool
all_visible [] = true
all_visible (b ∷ bs) = visible b && all_visible bs

abbrev pub is_name : ℕ → List ℕ → Bool
is_name most bs = nat_le 1 (length bs) && nat_le (length bs) most

abbrev pub is_code : ℕ → List ℕ → Bool
is_code most bs = is_name most bs && all_visible bs

abbrev pub Name : ℕ → List ℕ → Type 0
Name most bs = (1 ≤ length bs) × (length bs ≤ most)

abbrev pub Visible : ℕ → Type 0
Visible b = (33 ≤ b) × (b ≤ 126)

abbrev pub Code : ℕ → List ℕ → Type 0
Code most bs = Name most bs × AllByRecursion Visible bs
