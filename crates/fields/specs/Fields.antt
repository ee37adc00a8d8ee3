-- Reading: the numbers in bytes, and the field that bytes begin with. All of it is total. Assumes nothing.
--
--   byte_at     the byte at a place
--   be2, be4    the number in the two or four bytes from a place on, the greatest first
--   whole       the bytes begin with a field: a tag, a length of two bytes, and as many bytes of content
--   content     the content of that field; nothing where there is none
--   after       what stands behind it; nothing where there is none
--   size        how many bytes it takes; 0 where there is none
--   tagged      the bytes begin with a field of that tag
--   text_tag    the tag of a text in a row
--   text        the bytes begin with a text of at most so many bytes
use Rattle.std.specs.Prelude.{ℕ, ◌+◌, ◌-◌, ◌*◌, Bool, cond, ◌&&◌, List, [], length, take, drop, ◌==◌, nat_le, slice_index}

abbrev pub byte_at : List ℕ → ℕ → ℕ
byte_at bs i = slice_index bs i

abbrev pub be2 : List ℕ → ℕ → ℕ
be2 bs i = slice_index bs i * 256 + slice_index bs (i + 1)

abbrev pub be4 : List ℕ → ℕ → ℕ
be4 bs i = be2 bs i * 65536 + be2 bs (i + 2)

abbrev pub whole : List ℕ → Bool
whole bs = nat_le 3 (length bs) && nat_le (be2 bs 1) (length bs - 3)

abbrev pub content : List ℕ → List ℕ
content bs = cond (whole bs) (take (be2 bs 1) (drop 3 bs)) []

abbrev pub after : List ℕ → List ℕ
after bs = cond (whole bs) (drop (3 + be2 bs 1) bs) []

abbrev pub size : List ℕ → ℕ
size bs = cond (whole bs) (3 + be2 bs 1) 0

abbrev pub tagged : ℕ → List ℕ → Bool
tagged t bs = whole bs && slice_index bs 0 == t

abbrev pub text_tag : ℕ
text_tag = 32

abbrev pub text : ℕ → List ℕ → Bool
text most bs = tagged text_tag bs && nat_le (be2 bs 1) most
