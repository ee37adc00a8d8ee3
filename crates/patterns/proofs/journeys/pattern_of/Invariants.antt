use Rattle.std.proofs.Common.{◌≡◌, ◌-◌}
use Rattle.deposit.specs.Deposit.{journey_of}
use Rattle.patterns.specs.Journeys.{steps_to_pattern, pattern_of}
use Rattle.patterns.proofs.Within.{named_within}
use Rattle.patterns.proofs.journeys.pattern_of.Given as goal

abbrev pub invariant-loop : goal.invariant-loop
invariant-loop g l =
    pattern_of (g.C.Carrier.meaning l.c) l.journey ≡ named_within (steps_to_pattern - l.counter) (g.C.Carrier.meaning l.c) (journey_of l.row)
