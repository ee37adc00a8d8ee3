-- The ranges of the values of a row and its references, in words. Assumes nothing.
--
--   Given P o        P holds of what is given; nothing need be given
--   Between a b n    n is from a to b
--   MomentIn         the day is in the calendar, and the second in the day
--   HeadIn ..        the values of a row of that kind are in their ranges, and its references are rows of the deposit
--   InRange d k n    this of row n of kind k
use Rattle.std.specs.Prelude.{ℕ, ◌+◌, ◌<◌, ◌≤◌, length, Some, None, Option, slice_index_or}
use Rattle.calendar.specs.Dates.{last_day}
use Rattle.times.specs.declared.moments.Moment.{Moment}
use Rattle.refusals.specs.declared.Kind as kind
use Rattle.refusals.specs.declared.Kind.TheVariants as kinds
use Rattle.deposit.specs.declared.rows.ProfileRow.{ProfileRow}
use Rattle.deposit.specs.declared.rows.SpecialRow.{SpecialRow}
use Rattle.deposit.specs.declared.rows.LinkRow.{LinkRow}
use Rattle.deposit.specs.declared.rows.SectionRow.{SectionRow}
use Rattle.deposit.specs.declared.rows.PatternRow.{PatternRow}
use Rattle.deposit.specs.declared.rows.OverrideRow.{OverrideRow}
use Rattle.deposit.specs.Deposit.{Head, Line, Stop, Journey, Deposit, no_head, no_line, no_stop, no_profile, no_special, no_link, no_section, no_use, no_pattern, no_override, no_journey}
use Rattle.ranges.specs.Texts.{Name, Code}

abbrev pub Given : {X : Type 0} → (X → Type 0) → Option X → Type 0
Given P None = Unit {0}
Given P (Some x) = P x

abbrev pub Between : ℕ → ℕ → ℕ → Type 0
Between a b n = (a ≤ n) × (n ≤ b)

abbrev pub MomentIn : Moment → Type 0
MomentIn m = (m.day ≤ last_day) × (m.second ≤ 86399)

pub record HeadIn (d : Deposit) (h : Head) : Type 0 where
  pub service : Code 24 h.service
  pub revision : h.revision ≤ 65535
  pub created : MomentIn h.created
  pub modified : Given MomentIn h.modified
  pub modification : Between 1 2 h.modification
  pub start : h.start ≤ last_day
  pub end : Given (λ n. n ≤ last_day) h.end
  pub profile : Given (λ n. n < length d.profiles) h.profile

pub record LineIn (l : Line) : Type 0 where
  pub name : Name 24 l.name
  pub outbound : length l.outbound ≤ 80
  pub inbound : length l.inbound ≤ 80

pub record StopIn (s : Stop) : Type 0 where
  pub code : Code 12 s.code
  pub name : Name 48 s.name

pub record ProfileIn (d : Deposit) (p : ProfileRow) : Type 0 where
  pub weekdays : p.weekdays ≤ 127
  pub runs : p.runs ≤ 255
  pub not_runs : p.not_runs ≤ 255
  pub specials : p.first_special + p.specials ≤ length d.specials

pub record SpecialIn (s : SpecialRow) : Type 0 where
  pub first : s.first ≤ last_day
  pub last : s.last ≤ last_day
  pub runs : s.runs ≤ 1

pub record LinkIn (d : Deposit) (l : LinkRow) : Type 0 where
  pub run : l.run ≤ 21600
  pub from_wait : l.from_wait ≤ 3600
  pub to_wait : l.to_wait ≤ 3600
  pub from_activity : Between 1 4 l.from_activity
  pub to_activity : Between 1 4 l.to_activity
  pub from : l.from < length d.stops
  pub to : l.to < length d.stops

pub record SectionIn (d : Deposit) (s : SectionRow) : Type 0 where
  pub some : 1 ≤ s.links
  pub links : s.first_link + s.links ≤ length d.links

pub record PatternIn (d : Deposit) (p : PatternRow) : Type 0 where
  pub direction : Between 1 2 p.direction
  pub some : 1 ≤ p.uses
  pub uses : p.first_use + p.uses ≤ length d.uses

pub record OverrideIn (o : OverrideRow) : Type 0 where
  pub position : o.position ≤ 199
  pub run : Given (λ n. n ≤ 21600) o.run
  pub from_wait : Given (λ n. n ≤ 3600) o.from_wait
  pub to_wait : Given (λ n. n ≤ 3600) o.to_wait

pub record JourneyIn (d : Deposit) (j : Journey) : Type 0 where
  pub code : Code 24 j.code
  pub departure : j.departure ≤ 86399
  pub shift : j.shift ≤ 1
  pub line : j.line < length d.lines
  pub pattern : Given (λ n. n < length d.patterns) j.pattern
  pub other : Given (λ n. n < length d.journeys) j.other
  pub profile : Given (λ n. n < length d.profiles) j.profile
  pub overrides : j.first + j.overrides ≤ length d.overrides

abbrev pub InRange : Deposit → kind.Kind → ℕ → Type 0
InRange d kinds.Head n = HeadIn d (slice_index_or d.heads n no_head)
InRange d kinds.Line n = LineIn (slice_index_or d.lines n no_line)
InRange d kinds.Stop n = StopIn (slice_index_or d.stops n no_stop)
InRange d kinds.Profile n = ProfileIn d (slice_index_or d.profiles n no_profile)
InRange d kinds.Special n = SpecialIn (slice_index_or d.specials n no_special)
InRange d kinds.Link n = LinkIn d (slice_index_or d.links n no_link)
InRange d kinds.Section n = SectionIn d (slice_index_or d.sections n no_section)
InRange d kinds.Use n = (slice_index_or d.uses n no_use).section < length d.sections
InRange d kinds.Pattern n = PatternIn d (slice_index_or d.patterns n no_pattern)
InRange d kinds.Override n = OverrideIn (slice_index_or d.overrides n no_override)
InRange d kinds.Journey n = JourneyIn d (slice_index_or d.journeys n no_journey)
