-- The pattern that a journey names, by its row. Assumes nothing.
use Rattle.std.proofs.Common.{ℕ, zero, suc, Option}
use Rattle.std.specs.Option.{option_or}
use Rattle.deposit.specs.Deposit.{Deposit, Journey}
use Rattle.patterns.specs.Journeys.{where_named, pattern_within}

-- itself or within so many references
abbrev pub named_within : ℕ → Deposit → Journey → Option ℕ
named_within zero d j = j.pattern
named_within (suc s) d j = option_or j.pattern (where_named j.other (pattern_within s d))
