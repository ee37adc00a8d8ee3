use Rattle.std.proofs.Common.{◌≡◌, length}
use Rattle.accession.proofs.main.Given as goal

abbrev pub invariant-loop-title : goal.invariant-loop-title
invariant-loop-title l = length l.buffer ≡ 128
