-- What is written of a deposit that passes, and what it is read as. Assumes nothing.
use Rattle.std.proofs.Common.{◌≡◌, ℕ, ◌+◌, ◌-◌, ◌≤◌, false, List, ◌∷◌, ◌++◌, length, take, drop, is_some, Some, Ok, ap, ◌∙◌, arith}
use Rattle.profile.specs.Verdict.{verdict}
use Rattle.deposit.specs.Deposit.{Deposit}
use Rattle.fields.specs.Forms.{bytes2}
use Rattle.layout.specs.Layout.{deposit_tag}
use Rattle.layout.specs.Reading.{decode}
use Rattle.layout.specs.Writing.{deposit_content, encode}
use Rattle.writing.specs.Puts.{Put}
use Rattle.writing.proofs.Putting.{then, put_as, put_length}
use borrow.Rule.Slice.PartMut.{put_mid}
use Rattle.encoding.specs.Write.{write_bytes}
use Rattle.encoding.proofs.Behind.{put_behind}
use Rattle.encoding.proofs.Judged.{judged_fit}
use Rattle.encoding.proofs.RowLengths.{length-field}
use Rattle.encoding.proofs.ReadAgain.{read_again}

pub record Written (d : Deposit) (old : List ℕ) (at n : ℕ) (new : List ℕ) : Type 0 where
  pub bytes : new ≡ write_bytes d old at (Ok (3 + n))
  pub again : decode (take (3 + n) (drop at new)) ≡ Some d

-- the tag and the length of a deposit at a place, and behind them its rows
pub written : (d : Deposit) {old part rest : List ℕ} {at head taken n : ℕ} → is_some (verdict d) ≡ false → n ≡ length (deposit_content d) → at ≤ length old → Put (take (length old - at) (drop at old)) 0 (deposit_tag ∷ bytes2 n) part head → let mid = put_mid at (length old - at) old part in Put (take (length mid - (at + head)) (drop (at + head) mid)) 0 (deposit_content d) rest taken → Written d old at n (put_mid (at + head) (length mid - (at + head)) mid rest)
written d {old} {part} {rest} {at} {head} {taken} {n} passes e h first second =
    let mid = put_mid at (length old - at) old part in
    let new = put_mid (at + head) (length mid - (at + head)) mid rest in
    let front : Put old at (deposit_tag ∷ bytes2 n) mid (at + head) = put_behind h first in
    let back : Put mid (at + head) (deposit_content d) new (at + head + taken) = put_behind (omega (arith, front.room, front.next, put_length front)) second in
    let all : Put old at (encode d) new (at + head + taken) = put_as (ap (λ m. deposit_tag ∷ (bytes2 m ++ deposit_content d)) e) (then front back) in
    let long : length (encode d) ≡ 3 + n = omega (arith, length-field deposit_tag (deposit_content d)) in
    let bytes : new ≡ write_bytes d old at (Ok (3 + n)) = all.out ∙ ap (λ k. take at old ++ (encode d ++ drop (at + k) old)) long in
    record { bytes = bytes; again = read_again d old new at n (judged_fit d passes) e h bytes }
