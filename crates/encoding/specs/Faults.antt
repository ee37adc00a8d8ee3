-- Why a deposit is not written. Assumes nothing.
--
--   write_number   the number of a fault of writing
use Rattle.std.specs.Prelude.{ℕ}
use Rattle.refusals.specs.Numbers.{told_fault}
use Rattle.encoding.specs.declared.faults.WriteFault.{WriteFault}
use Rattle.encoding.specs.declared.faults.WriteFault.TheVariants.{Broken, TooLong, NoRoom}

abbrev pub write_number : WriteFault → ℕ
write_number (Broken fault) = (told_fault fault).number
write_number TooLong = 21
write_number NoRoom = 32
