-- The ranges of the values of a row, and the references of a row within its deposit, as tests. Assumes nothing.
--
--   given p o        what is given passes p; nothing need be given
--   between a b n    n is from a to b
--   within           first + count is at most the length of the list
--   below            a reference is a row of a list of that length
--   X_values         the values of a row of kind X are in their ranges
--   X_refs           its references are within the lists of the deposit
--   in_range d k n   both, of row n of kind k
use Rattle.std.specs.Prelude.{ℕ, ◌+◌, Bool, true, ◌&&◌, length, Some, None, Option, nat_le, nat_lt, slice_index_or}
use Rattle.calendar.specs.Dates.{last_day}
use Rattle.times.specs.declared.moments.Moment.{Moment}
use Rattle.refusals.specs.declared.Kind as kind
use Rattle.refusals.specs.declared.Kind.TheVariants as kinds
use Rattle.deposit.specs.declared.rows.ProfileRow.{ProfileRow}
use Rattle.deposit.specs.declared.rows.SpecialRow.{SpecialRow}
use Rattle.deposit.specs.declared.rows.LinkRow.{LinkRow}
use Rattle.deposit.specs.declared.rows.SectionRow.{SectionRow}
use Rattle.deposit.specs.declared.rows.UseRow.{UseRow}
use Rattle.deposit.specs.declared.rows.PatternRow.{PatternRow}
use Rattle.deposit.specs.declared.rows.OverrideRow.{OverrideRow}
use Rattle.deposit.specs.Deposit.{Head, Line, Stop, Journey, Deposit, no_head, no_line, no_stop, no_profile, no_special, no_link, no_section, no_use, no_pattern, no_override, no_journey}
use Rattle.ranges.specs.Texts.{is_name, is_code}

abbrev pub given : {X : Type 0} → (X → Bool) → Option X → Bool
given p None = true
given p (Some x) = p x

abbrev pub between : ℕ → ℕ → ℕ → Bool
between a b n = nat_le a n && nat_le n b

abbrev pub within : ℕ → ℕ → ℕ → Bool
within first count length = nat_le (first + count) length

abbrev pub below : ℕ → ℕ → Bool
below length n = nat_lt n length

abbrev pub up_to : ℕ → ℕ → Bool
up_to most n = nat_le n most

abbrev pub is_moment : Moment → Bool
is_moment m = nat_le m.day last_day && nat_le m.second 86399

abbrev pub head_moments : Head → Bool
head_moments h = is_moment h.created && given is_moment h.modified

abbrev pub head_dates : Head → Bool
head_dates h = between 1 2 h.modification && (nat_le h.start last_day && given (up_to last_day) h.end)

abbrev pub head_values : Head → Bool
head_values h = is_code 24 h.service && (nat_le h.revision 65535 && (head_moments h && head_dates h))

abbrev pub head_refs : Deposit → Head → Bool
head_refs d h = given (below (length d.profiles)) h.profile

abbrev pub line_values : Line → Bool
line_values l = is_name 24 l.name && (nat_le (length l.outbound) 80 && nat_le (length l.inbound) 80)

abbrev pub stop_values : Stop → Bool
stop_values s = is_code 12 s.code && is_name 48 s.name

abbrev pub profile_values : ProfileRow → Bool
profile_values p = nat_le p.weekdays 127 && (nat_le p.runs 255 && nat_le p.not_runs 255)

abbrev pub profile_refs : Deposit → ProfileRow → Bool
profile_refs d p = within p.first_special p.specials (length d.specials)

abbrev pub special_values : SpecialRow → Bool
special_values s = nat_le s.first last_day && (nat_le s.last last_day && nat_le s.runs 1)

abbrev pub link_activities : LinkRow → Bool
link_activities l = between 1 4 l.from_activity && between 1 4 l.to_activity

abbrev pub link_values : LinkRow → Bool
link_values l = nat_le l.run 21600 && (nat_le l.from_wait 3600 && (nat_le l.to_wait 3600 && link_activities l))

abbrev pub link_refs : Deposit → LinkRow → Bool
link_refs d l = below (length d.stops) l.from && below (length d.stops) l.to

abbrev pub section_values : SectionRow → Bool
section_values s = nat_le 1 s.links

abbrev pub section_refs : Deposit → SectionRow → Bool
section_refs d s = within s.first_link s.links (length d.links)

abbrev pub use_refs : Deposit → UseRow → Bool
use_refs d u = below (length d.sections) u.section

abbrev pub pattern_values : PatternRow → Bool
pattern_values p = between 1 2 p.direction && nat_le 1 p.uses

abbrev pub pattern_refs : Deposit → PatternRow → Bool
pattern_refs d p = within p.first_use p.uses (length d.uses)

abbrev pub override_values : OverrideRow → Bool
override_values o =
    nat_le o.position 199 && (given (up_to 21600) o.run && (given (up_to 3600) o.from_wait && given (up_to 3600) o.to_wait))

abbrev pub journey_values : Journey → Bool
journey_values j = is_code 24 j.code && (nat_le j.departure 86399 && nat_le j.shift 1)

abbrev pub journey_names : Deposit → Journey → Bool
journey_names d j =
    given (below (length d.patterns)) j.pattern
    && (given (below (length d.journeys)) j.other && given (below (length d.profiles)) j.profile)

abbrev pub journey_refs : Deposit → Journey → Bool
journey_refs d j = below (length d.lines) j.line && (journey_names d j && within j.first j.overrides (length d.overrides))

abbrev pub in_range : Deposit → kind.Kind → ℕ → Bool
in_range d kinds.Head n = head_values (slice_index_or d.heads n no_head) && head_refs d (slice_index_or d.heads n no_head)
in_range d kinds.Line n = line_values (slice_index_or d.lines n no_line)
in_range d kinds.Stop n = stop_values (slice_index_or d.stops n no_stop)
in_range d kinds.Profile n = profile_values (slice_index_or d.profiles n no_profile) && profile_refs d (slice_index_or d.profiles n no_profile)
in_range d kinds.Special n = special_values (slice_index_or d.specials n no_special)
in_range d kinds.Link n = link_values (slice_index_or d.links n no_link) && link_refs d (slice_index_or d.links n no_link)
in_range d kinds.Section n = section_values (slice_index_or d.sections n no_section) && section_refs d (slice_index_or d.sections n no_section)
in_range d kinds.Use n = use_refs d (slice_index_or d.uses n no_use)
in_range d kinds.Pattern n = pattern_values (slice_index_or d.patterns n no_pattern) && pattern_refs d (slice_index_or d.patterns n no_pattern)
in_range d kinds.Override n = override_values (slice_index_or d.overrides n no_override)
in_range d kinds.Journey n = journey_values (slice_index_or d.journeys n no_journey) && journey_refs d (slice_index_or d.journeys n no_journey)
