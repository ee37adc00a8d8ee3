-- The ten rules of the profile as tests: which kinds each looks at, how many rows of them, and whether a row keeps it.
-- Assumes nothing.
--
--   none_below              no number below n passes a test
--   most_rows, most_links   at most so many rows of a kind, and so many links of a pattern
--   head_at .. journey_at   row n of a kind
--   judged                  the kinds that a rule looks at, in the order of their numbers
--   subjects                how many rows of a kind it judges: every row; of the rule on counts, the list itself as row 0
--   count_kept              there are as many rows of a kind as there may be
--   revision_kept           revision, modification and modified moment agree
--   period_kept             the period does not end before it starts
--   description_kept        a line has a description
--   days_kept               a profile's masks share no bit; a special does not end before it starts
--   reference_kept          a journey names one pattern, its own or a lower journey's, and it or the head a profile
--   joining_kept            a pattern's links are few enough, and each begins where and as the one before ends
--   overriding_kept         a journey's overrides rise and lie inside its pattern
--   codes_kept              a code repeats no earlier one of its kind
--   kept r d k n            row n of kind k keeps rule r
use Rattle.std.specs.Prelude.{ℕ, zero, suc, ◌+◌, ◌-◌, Bool, true, false, cond, not, ◌&&◌, ◌||◌, List, [], ◌∷◌, length, is_some, Some, None, Option, ◌==◌, bit_and, nat_le, nat_lt, slice_index_or}
use Rattle.times.specs.declared.moments.Moment.{Moment}
use Rattle.times.specs.Moments.{later}
use Rattle.refusals.specs.declared.Kind as kind
use Rattle.refusals.specs.declared.Kind.TheVariants as kinds
use Rattle.refusals.specs.declared.Rule as rule
use Rattle.refusals.specs.declared.Rule.TheVariants as rules
use Rattle.refusals.specs.Numbers as numbers
use Rattle.deposit.specs.declared.rows.LinkRow.{LinkRow}
use Rattle.deposit.specs.declared.rows.ProfileRow.{ProfileRow}
use Rattle.deposit.specs.declared.rows.SpecialRow.{SpecialRow}
use Rattle.deposit.specs.declared.rows.OverrideRow.{OverrideRow}
use Rattle.deposit.specs.Deposit.{Head, Line, Journey, Deposit, count_of, no_head, no_line, no_stop, no_profile, no_special, no_journey}
use Rattle.deposit.specs.Codes.{same_code}
use Rattle.patterns.specs.Links.{links_of}
use Rattle.patterns.specs.Journeys.{steps_to_pattern, pattern_of, overrides_of}
use Rattle.ranges.specs.Values.{given, between, in_range}

abbrev pub none_below : (ℕ → Bool) → ℕ → Bool
none_below test zero = true
none_below test (suc n) = none_below test n && not (test n)

abbrev pub most_rows : ℕ
most_rows = 1000

abbrev pub most_links : ℕ
most_links = 200

abbrev pub head_at : Deposit → ℕ → Head
head_at d n = slice_index_or d.heads n no_head

abbrev pub line_at : Deposit → ℕ → Line
line_at d n = slice_index_or d.lines n no_line

abbrev pub profile_at : Deposit → ℕ → ProfileRow
profile_at d n = slice_index_or d.profiles n no_profile

abbrev pub special_at : Deposit → ℕ → SpecialRow
special_at d n = slice_index_or d.specials n no_special

abbrev pub journey_at : Deposit → ℕ → Journey
journey_at d n = slice_index_or d.journeys n no_journey

abbrev pub judged : rule.Rule → List kind.Kind
judged rules.Counts = numbers.kinds
judged rules.Ranges = numbers.kinds
judged rules.Revision = kinds.Head ∷ []
judged rules.Period = kinds.Head ∷ []
judged rules.Description = kinds.Line ∷ []
judged rules.Days = kinds.Profile ∷ kinds.Special ∷ []
judged rules.Reference = kinds.Journey ∷ []
judged rules.Joining = kinds.Pattern ∷ []
judged rules.Overriding = kinds.Journey ∷ []
judged rules.Codes = kinds.Stop ∷ kinds.Journey ∷ []

abbrev pub subjects : rule.Rule → Deposit → kind.Kind → ℕ
subjects rules.Counts d k = 1
subjects rules.Ranges d k = count_of d k
subjects rules.Revision d k = count_of d k
subjects rules.Period d k = count_of d k
subjects rules.Description d k = count_of d k
subjects rules.Days d k = count_of d k
subjects rules.Reference d k = count_of d k
subjects rules.Joining d k = count_of d k
subjects rules.Overriding d k = count_of d k
subjects rules.Codes d k = count_of d k

abbrev pub count_kept : kind.Kind → ℕ → Bool
count_kept kinds.Head n = n == 1
count_kept kinds.Line n = between 1 most_rows n
count_kept kinds.Stop n = between 1 most_rows n
count_kept kinds.Profile n = nat_le n most_rows
count_kept kinds.Special n = nat_le n most_rows
count_kept kinds.Link n = nat_le n most_rows
count_kept kinds.Section n = nat_le n most_rows
count_kept kinds.Use n = nat_le n most_rows
count_kept kinds.Pattern n = nat_le n most_rows
count_kept kinds.Override n = nat_le n most_rows
count_kept kinds.Journey n = between 1 most_rows n

abbrev pub same_moment : Moment → Moment → Bool
same_moment x y = x.day == y.day && x.second == y.second

abbrev pub modified_later : Moment → Option Moment → Bool
modified_later created None = false
modified_later created (Some m) = later m created

abbrev pub revision_kept : Head → Bool
revision_kept h =
    cond (h.revision == 0)
    (h.modification == 1 && given (same_moment h.created) h.modified)
    (h.modification == 2 && modified_later h.created h.modified)

abbrev pub period_kept : Head → Bool
period_kept h = given (nat_le h.start) h.end

abbrev pub description_kept : Line → Bool
description_kept l = nat_lt 0 (length l.outbound) || nat_lt 0 (length l.inbound)

abbrev pub days_kept : Deposit → kind.Kind → ℕ → Bool
days_kept d kinds.Head n = true
days_kept d kinds.Line n = true
days_kept d kinds.Stop n = true
days_kept d kinds.Profile n = bit_and (profile_at d n).runs (profile_at d n).not_runs == 0
days_kept d kinds.Special n = nat_le (special_at d n).first (special_at d n).last
days_kept d kinds.Link n = true
days_kept d kinds.Section n = true
days_kept d kinds.Use n = true
days_kept d kinds.Pattern n = true
days_kept d kinds.Override n = true
days_kept d kinds.Journey n = true

-- a pattern or another journey, not both
abbrev pub names_one : Journey → Bool
names_one j = cond (is_some j.pattern) (not (is_some j.other)) (is_some j.other)

-- a lower row that leads to a pattern
abbrev pub leads_lower : (ℕ → Bool) → ℕ → Option ℕ → Bool
leads_lower leads n None = false
leads_lower leads n (Some o) = nat_lt o n && leads o

-- the journey names a pattern, or leads to one by so many references, each to a lower row
abbrev pub leads : ℕ → Deposit → ℕ → Bool
leads zero d n = is_some (journey_at d n).pattern
leads (suc s) d n = is_some (journey_at d n).pattern || leads_lower (leads s d) n (journey_at d n).other

abbrev pub has_profile : Deposit → Journey → Bool
has_profile d j = is_some j.profile || is_some (head_at d 0).profile

abbrev pub reference_kept : Deposit → ℕ → Bool
reference_kept d n = names_one (journey_at d n) && (leads steps_to_pattern d n && has_profile d (journey_at d n))

abbrev pub meets : LinkRow → LinkRow → Bool
meets l m = l.to == m.from && l.to_activity == m.from_activity

abbrev pub follows : Option LinkRow → LinkRow → Bool
follows None m = true
follows (Some l) m = meets l m

-- one more link may come, and it follows the one before
abbrev pub may_follow : ℕ → Option LinkRow → LinkRow → Bool
may_follow left before l = nat_lt 0 left && follows before l

-- at most so many links, each following the one before
abbrev pub joined : ℕ → Option LinkRow → List LinkRow → Bool
joined left before [] = true
joined left before (l ∷ ls) = may_follow left before l && joined (left - 1) (Some l) ls

abbrev pub joining_kept : Deposit → ℕ → Bool
joining_kept d n = joined most_links None (links_of d n)

abbrev pub links_by_pattern : Deposit → Option ℕ → List LinkRow
links_by_pattern d None = []
links_by_pattern d (Some p) = links_of d p

-- the links of a journey's pattern, its own or the one that it refers to
abbrev pub links_along : Deposit → ℕ → List LinkRow
links_along d n = links_by_pattern d (pattern_of d n)

-- behind the last position, where each is at least the one behind the position before
abbrev pub rise_end : ℕ → List OverrideRow → Option ℕ
rise_end least [] = Some least
rise_end least (o ∷ os) = cond (nat_le least o.position) (rise_end (o.position + 1) os) None

abbrev pub ends_by : ℕ → Option ℕ → Bool
ends_by most None = false
ends_by most (Some e) = nat_le e most

abbrev pub overriding_kept : Deposit → ℕ → Bool
overriding_kept d n = ends_by (length (links_along d n)) (rise_end 0 (overrides_of d (journey_at d n)))

abbrev pub code_at : Deposit → kind.Kind → ℕ → List ℕ
code_at d kinds.Head n = []
code_at d kinds.Line n = []
code_at d kinds.Stop n = (slice_index_or d.stops n no_stop).code
code_at d kinds.Profile n = []
code_at d kinds.Special n = []
code_at d kinds.Link n = []
code_at d kinds.Section n = []
code_at d kinds.Use n = []
code_at d kinds.Pattern n = []
code_at d kinds.Override n = []
code_at d kinds.Journey n = (journey_at d n).code

abbrev pub codes_kept : Deposit → kind.Kind → ℕ → Bool
codes_kept d k n = none_below (λ m. same_code (code_at d k m) (code_at d k n)) n

abbrev pub kept : rule.Rule → Deposit → kind.Kind → ℕ → Bool
kept rules.Counts d k n = count_kept k (count_of d k)
kept rules.Ranges d k n = in_range d k n
kept rules.Revision d k n = revision_kept (head_at d n)
kept rules.Period d k n = period_kept (head_at d n)
kept rules.Description d k n = description_kept (line_at d n)
kept rules.Days d k n = days_kept d k n
kept rules.Reference d k n = reference_kept d n
kept rules.Joining d k n = joining_kept d n
kept rules.Overriding d k n = overriding_kept d n
kept rules.Codes d k n = codes_kept d k n
