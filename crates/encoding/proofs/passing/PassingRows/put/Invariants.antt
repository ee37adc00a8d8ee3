use Rattle.std.proofs.Common.{take}
use Rattle.refusals.specs.Numbers.{kinds}
use Rattle.writing.specs.Puts.{Put}
use Rattle.layout.specs.Writing.{rows_of}
use Rattle.encoding.proofs.passing.PassingRows.put.Given as goal

abbrev pub invariant-loop-kind : goal.invariant-loop-kind
invariant-loop-kind g l = Put l.initial.out 0 (rows_of (g.C.Carrier.meaning l.self.carrier.now) (take l.kind-index kinds)) l.out l.next
