use Rattle.std.proofs.Common.{◌≡◌}
use Rattle.patterns.specs.Links.{shown}
use Rattle.rules.specs.Tests.{rise_end}
use Rattle.rules.proofs.journeys.rise_end.Given as goal

abbrev pub invariant-loop-at : goal.invariant-loop-at
invariant-loop-at g l =
    let os = (g.C.Carrier.meaning l.c).overrides in
    rise_end 0 (shown l.initial.span os) ≡ rise_end l.least (shown l.span os)

abbrev pub decreases-loop-at : goal.decreases-loop-at
decreases-loop-at g l = l.span.left
