-- How many bytes a field takes, and what is written of a moment that can be missing. Assumes nothing.
use Rattle.std.proofs.Common.{◌≡◌, ℕ, ◌+◌, List, length, Some, None, Option, unwrap_or, refl, arith}
use Rattle.times.specs.declared.moments.Moment.{Moment}
use Rattle.fields.specs.Forms.{field}
use Rattle.encoding.specs.Parts.{missing_moment}
use Rattle.layout.specs.Writing.{moment, given_moment}

pub length-field : (t : ℕ) (c : List ℕ) → length (field t c) ≡ 3 + length c
length-field t c = omega arith

-- what is written of a moment that can be missing
pub given_is : (o : Option Moment) → given_moment o ≡ moment (unwrap_or o missing_moment)
given_is None = refl
given_is (Some m) = refl
