use Rattle.std.proofs.Common.{◌≡◌, ◌*◌, ◌≤◌, length, take}
use Rattle.refusals.specs.Numbers.{kind_number}
use Rattle.layout.specs.Writing.{bodies, fields_of}
use Rattle.encoding.proofs.passing.PassingRows.kind_length.Given as goal

abbrev pub invariant-loop-row : goal.invariant-loop-row
invariant-loop-row g l =
    (l.total ≡ length (fields_of (kind_number l.kind) (take l.row (bodies (g.C.Carrier.meaning l.self.carrier.now) l.kind))))
    × (l.total ≤ 200 * l.row)
