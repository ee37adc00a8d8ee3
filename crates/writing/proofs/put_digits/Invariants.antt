use Rattle.std.proofs.Common.{◌-◌}
use Rattle.writing.proofs.Padding.{WrittenFrom}
use Rattle.writing.proofs.put_digits.Given as goal

abbrev pub invariant-loop-place : goal.invariant-loop-place
invariant-loop-place l = WrittenFrom l.initial.out l.at l.width l.number l.out (l.place - l.at) l.rest
