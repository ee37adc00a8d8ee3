-- A number that was written is read again. Assumes nothing.
--
--   byte_back, two_back, four_back   a number in one, two or four bytes
use Rattle.std.proofs.Common.{◌≡◌, ℕ, ◌+◌, ◌*◌, ◌/◌, ◌%◌, refl, ap, ◌∙◌}
use Rattle.std.proofs.lemmas.Nat.{div-add-mod'}
use Rattle.fields.specs.Fields.{byte_at, be2, be4}
use Rattle.fields.specs.Forms.{byte_of, bytes2, bytes4}

pub byte_back : (n : ℕ) → byte_at (byte_of n) 0 ≡ n
byte_back n = refl

pub two_back : (n : ℕ) → be2 (bytes2 n) 0 ≡ n
two_back n = div-add-mod' n 256

pub four_back : (n : ℕ) → be4 (bytes4 n) 0 ≡ n
four_back n =
    ap (λ a. a * 65536 + be2 (bytes2 (n % 65536)) 0) (two_back (n / 65536))
    ∙ ap (λ b. n / 65536 * 65536 + b) (two_back (n % 65536))
    ∙ div-add-mod' n 65536
