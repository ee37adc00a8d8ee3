use Rattle.std.proofs.Common.{◌≡◌, ◌*◌, ◌≤◌, length, take}
use Rattle.refusals.specs.Numbers.{kinds}
use Rattle.layout.specs.Writing.{rows_of}
use Rattle.encoding.proofs.passing.PassingRows.length.Given as goal

abbrev pub invariant-loop-kind : goal.invariant-loop-kind
invariant-loop-kind g l =
    (l.total ≡ length (rows_of (g.C.Carrier.meaning l.self.carrier.now) (take l.kind-index kinds)))
    × (l.total ≤ 200000 * l.kind-index)
