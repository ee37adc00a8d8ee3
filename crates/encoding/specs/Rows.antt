-- What holds of a deposit that passes, as far as writing needs it, and the bytes of its rows one by one. Assumes nothing.
--
--   Fit d           no kind has more rows than it may, and every row is in its ranges, as the rules ask
--   body_at d k n   the content of row n of kind k
use Rattle.std.specs.Prelude.{ℕ, ◌<◌, ◌≤◌, List, slice_index_or}
use Rattle.refusals.specs.declared.Kind as kind
use Rattle.refusals.specs.declared.Kind.TheVariants as kinds
use Rattle.deposit.specs.Deposit.{Deposit, count_of, no_head, no_line, no_stop, no_profile, no_special, no_link, no_section, no_use, no_pattern, no_override, no_journey}
use Rattle.ranges.specs.Words.{InRange}
use Rattle.rules.specs.Tests.{most_rows}
use Rattle.layout.specs.Writing.{head_body, line_body, stop_body, profile_body, special_body, link_body, section_body, use_body, pattern_body, override_body, journey_body}

pub record Fit (d : Deposit) : Type 0 where
  pub few : (k : kind.Kind) → count_of d k ≤ most_rows
  pub in_range : (k : kind.Kind) (n : ℕ) → n < count_of d k → InRange d k n

abbrev pub body_at : Deposit → kind.Kind → ℕ → List ℕ
body_at d kinds.Head n = head_body (slice_index_or d.heads n no_head)
body_at d kinds.Line n = line_body (slice_index_or d.lines n no_line)
body_at d kinds.Stop n = stop_body (slice_index_or d.stops n no_stop)
body_at d kinds.Profile n = profile_body (slice_index_or d.profiles n no_profile)
body_at d kinds.Special n = special_body (slice_index_or d.specials n no_special)
body_at d kinds.Link n = link_body (slice_index_or d.links n no_link)
body_at d kinds.Section n = section_body (slice_index_or d.sections n no_section)
body_at d kinds.Use n = use_body (slice_index_or d.uses n no_use)
body_at d kinds.Pattern n = pattern_body (slice_index_or d.patterns n no_pattern)
body_at d kinds.Override n = override_body (slice_index_or d.overrides n no_override)
body_at d kinds.Journey n = journey_body (slice_index_or d.journeys n no_journey)
