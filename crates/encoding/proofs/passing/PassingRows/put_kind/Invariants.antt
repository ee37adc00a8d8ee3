use Rattle.std.proofs.Common.{take}
use Rattle.refusals.specs.Numbers.{kind_number}
use Rattle.writing.specs.Puts.{Put}
use Rattle.layout.specs.Writing.{bodies, fields_of}
use Rattle.encoding.proofs.passing.PassingRows.put_kind.Given as goal

abbrev pub invariant-loop-row : goal.invariant-loop-row
invariant-loop-row g l =
    Put l.initial.out 0 (fields_of (kind_number l.kind) (take l.row (bodies (g.C.Carrier.meaning l.self.carrier.now) l.kind))) l.out l.next
