-- Writing: numbers and fields as bytes. Assumes nothing.
--
--   byte_of          a number in one byte
--   bytes2, bytes4   a number in two or four bytes, the greatest first
--   given2, given4   an optional number: where it is missing, bytes of ones
--   field t c        the field of a tag and a content
use Rattle.std.specs.Prelude.{ℕ, ◌/◌, ◌%◌, List, [], ◌∷◌, ◌++◌, length, Option}
use Rattle.std.specs.Option.{unwrap_or}

abbrev pub byte_of : ℕ → List ℕ
byte_of n = n ∷ []

abbrev pub bytes2 : ℕ → List ℕ
bytes2 n = n / 256 ∷ n % 256 ∷ []

abbrev pub bytes4 : ℕ → List ℕ
bytes4 n = bytes2 (n / 65536) ++ bytes2 (n % 65536)

abbrev pub given2 : Option ℕ → List ℕ
given2 o = bytes2 (unwrap_or o 65535)

abbrev pub given4 : Option ℕ → List ℕ
given4 o = bytes4 (unwrap_or o 4294967295)

abbrev pub field : ℕ → List ℕ → List ℕ
field t c = t ∷ (bytes2 (length c) ++ c)
