use Rattle.std.proofs.Common.{◌≡◌}
use Rattle.patterns.specs.Links.{links_left}
use Rattle.rules.specs.Tests.{joined, joining_kept}
use Rattle.rules.proofs.joins.joining_kept.Given as goal

abbrev pub invariant-loop-link : goal.invariant-loop-link
invariant-loop-link g l =
    let left = links_left g.C.Carrier.meaning l.link-iterator in
    joining_kept (g.C.Carrier.meaning l.c) l.row ≡ joined l.left l.before left
