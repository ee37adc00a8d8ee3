-- The pattern of a journey, and its overrides. Assumes nothing.
--
--   steps_to_pattern      how many references to other journeys may lead to a pattern
--   where_named o f       what f gives for the row that is named, or nothing where none is named
--   pattern_within s d n  the pattern that journey row n names, itself or within s references to other journeys
--   pattern_of d n        the pattern of journey row n
--   overrides_of d j      the override rows of a journey, in order
use Rattle.std.specs.Prelude.{ℕ, zero, suc, List, Some, None, Option, slice_index_or}
use Rattle.std.specs.Option.{option_or}
use Rattle.deposit.specs.declared.rows.OverrideRow.{OverrideRow}
use Rattle.deposit.specs.Deposit.{Deposit, Journey, no_journey}
use Rattle.patterns.specs.Links.{part}

abbrev pub steps_to_pattern : ℕ
steps_to_pattern = 1

abbrev pub where_named : Option ℕ → (ℕ → Option ℕ) → Option ℕ
where_named None f = None
where_named (Some m) f = f m

abbrev pub pattern_within : ℕ → Deposit → ℕ → Option ℕ
pattern_within zero d n = (slice_index_or d.journeys n no_journey).pattern
pattern_within (suc s) d n = option_or (slice_index_or d.journeys n no_journey).pattern (where_named (slice_index_or d.journeys n no_journey).other (pattern_within s d))

abbrev pub pattern_of : Deposit → ℕ → Option ℕ
pattern_of d n = pattern_within steps_to_pattern d n

abbrev pub overrides_of : Deposit → Journey → List OverrideRow
overrides_of d j = part j.first j.overrides d.overrides
