use Rattle.std.proofs.Common.{◌≡◌}
use Rattle.patterns.specs.Links.{ahead}
use Rattle.patterns.proofs.links.next_link.Given as goal

abbrev pub invariant-loop-link : goal.invariant-loop-link
invariant-loop-link g l = ahead (g.C.Carrier.meaning l.c) l.initial.cursor ≡ ahead (g.C.Carrier.meaning l.c) l.cursor

abbrev pub decreases-loop-link : goal.decreases-loop-link
decreases-loop-link g l = l.cursor.uses.left
