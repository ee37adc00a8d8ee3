-- Writing a deposit into lent bytes. Assumes nothing.
--
--   most_content              the greatest length of the content of a field
--   write_fit d size at       the answer for a deposit that passes, into so many bytes at a place: its length; 21 where its rows
--                             take too many bytes, then 32 where there is no room for them
--   write_answer d size at    the answer for any deposit: first the rules
--   write_bytes d old at r    what the bytes then hold: the deposit at its place, every other byte as it was; after a refusal all as it was
use Rattle.std.specs.Prelude.{ℕ, ◌+◌, cond, List, ◌++◌, length, take, drop, Some, None, Ok, Err, Option, Result, nat_le}
use Rattle.refusals.specs.declared.DepositFault as fault
use Rattle.encoding.specs.declared.faults.WriteFault.{WriteFault}
use Rattle.encoding.specs.declared.faults.WriteFault.TheVariants.{Broken, TooLong, NoRoom}
use Rattle.deposit.specs.Deposit.{Deposit}
use Rattle.profile.specs.Verdict.{verdict}
use Rattle.layout.specs.Writing.{deposit_content, encode}

abbrev pub most_content : ℕ
most_content = 65535

abbrev pub write_fit : Deposit → ℕ → ℕ → Result ℕ WriteFault
write_fit d size at =
    cond (nat_le (length (deposit_content d)) most_content) (cond (nat_le (at + (3 + length (deposit_content d))) size) (Ok (3 + length (deposit_content d))) (Err NoRoom)) (Err TooLong)

abbrev pub write_by : Option fault.DepositFault → Deposit → ℕ → ℕ → Result ℕ WriteFault
write_by None d size at = write_fit d size at
write_by (Some f) d size at = Err (Broken f)

abbrev pub write_answer : Deposit → ℕ → ℕ → Result ℕ WriteFault
write_answer d size at = write_by (verdict d) d size at

abbrev pub write_bytes : Deposit → List ℕ → ℕ → Result ℕ WriteFault → List ℕ
write_bytes d old at (Ok n) = take at old ++ (encode d ++ drop (at + n) old)
write_bytes d old at (Err e) = old
