-- The field that bytes begin with, part by part. Assumes nothing.
--
--   IsFirst bs f   bs begins with a field, and f is that: its tag, its content and what stands behind it; its size is that of the
--                  definitions, and with what stands behind it it takes all bytes
use Rattle.std.specs.Prelude.{◌≡◌, ℕ, ◌+◌, ◌≤◌, true, List, length, slice_index}
use Rattle.fields.specs.declared.reads.Field.{Field}
use Rattle.fields.specs.Fields.{whole, content, after, size}

pub record IsFirst (bs : List ℕ) (f : Field) : Type 0 where
  pub whole : whole bs ≡ true
  pub tag : f.tag ≡ slice_index bs 0
  pub content : f.content.now ≡ content bs
  pub after : f.after.now ≡ after bs
  pub size : 3 + length f.content.now ≡ size bs
  pub all : 3 + length f.content.now + length f.after.now ≡ length bs
  pub few : length f.content.now ≤ 65535
