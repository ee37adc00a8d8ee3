-- The ten rules of the profile in words: what each asks of a row. Assumes nothing.
--
--   IsGiven o         a value is given
--   Named P o         a value is given, and P holds of it
--   Counted           exactly one head; at least one line, stop and journey; at most a thousand rows of any kind
--   Revised           a first issue has revision 0, is New and was not modified, or at its creation; a later revision is
--                     Revise and was modified after its creation
--   Described         a line has a description of at least one direction
--   DaysAgree         no holiday is both one to run on and one not to; a special's last day is not before its first
--   OneOf             one of two values is given, not both
--   Leads             a journey names a pattern, or by so many references, each to a lower row, a journey that does
--   Referred          a journey names a pattern or another journey, not both; it leads to a pattern; it or the head has a profile
--   Joins             at most 200 links, and each link's to stop and to activity are the next one's from stop and from activity
--   Overrides         the positions of a journey's overrides strictly rise and lie inside its pattern
--   Distinct          no earlier row of the kind has that code
--   Sound r d k n     what rule r asks of row n of kind k
--   Holds r d         rule r holds: every row that it judges is sound
use Rattle.std.specs.Prelude.{◌≡◌, ℕ, zero, suc, ◌+◌, ◌<◌, ◌≤◌, true, ◌⊎◌, List, length, Some, None, Option, ◌≢◌, bit_and, slice_index_or}
use Rattle.std.specs.List.{AllByRecursion}
use Rattle.times.specs.Moments.{later}
use Rattle.refusals.specs.declared.Kind as kind
use Rattle.refusals.specs.declared.Kind.TheVariants as kinds
use Rattle.refusals.specs.declared.Rule as rule
use Rattle.refusals.specs.declared.Rule.TheVariants as rules
use Rattle.deposit.specs.declared.rows.LinkRow.{LinkRow}
use Rattle.deposit.specs.declared.rows.OverrideRow.{OverrideRow}
use Rattle.deposit.specs.Deposit.{Head, Line, Deposit, count_of, no_link, no_override}
use Rattle.patterns.specs.Links.{links_of}
use Rattle.patterns.specs.Journeys.{steps_to_pattern, overrides_of}
use Rattle.ranges.specs.Words.{Given, Between, InRange}
use Rattle.rules.specs.Tests.{most_rows, most_links, head_at, line_at, profile_at, special_at, journey_at, judged, subjects, links_along, code_at}

abbrev pub IsGiven : {X : Type 0} → Option X → Type 0
IsGiven None = ⊥
IsGiven (Some x) = Unit {0}

abbrev pub Named : {X : Type 0} → (X → Type 0) → Option X → Type 0
Named P None = ⊥
Named P (Some x) = P x

abbrev pub Counted : kind.Kind → ℕ → Type 0
Counted kinds.Head n = n ≡ 1
Counted kinds.Line n = Between 1 most_rows n
Counted kinds.Stop n = Between 1 most_rows n
Counted kinds.Profile n = n ≤ most_rows
Counted kinds.Special n = n ≤ most_rows
Counted kinds.Link n = n ≤ most_rows
Counted kinds.Section n = n ≤ most_rows
Counted kinds.Use n = n ≤ most_rows
Counted kinds.Pattern n = n ≤ most_rows
Counted kinds.Override n = n ≤ most_rows
Counted kinds.Journey n = Between 1 most_rows n

pub record Revised (h : Head) : Type 0 where
  pub first_issue : h.revision ≡ 0 → (h.modification ≡ 1) × Given (λ m. m ≡ h.created) h.modified
  pub revision : 0 < h.revision → (h.modification ≡ 2) × Named (λ m. later m h.created ≡ true) h.modified

abbrev pub Described : Line → Type 0
Described l = (0 < length l.outbound) ⊎ (0 < length l.inbound)

abbrev pub DaysAgree : Deposit → kind.Kind → ℕ → Type 0
DaysAgree d kinds.Head n = Unit {0}
DaysAgree d kinds.Line n = Unit {0}
DaysAgree d kinds.Stop n = Unit {0}
DaysAgree d kinds.Profile n = bit_and (profile_at d n).runs (profile_at d n).not_runs ≡ 0
DaysAgree d kinds.Special n = (special_at d n).first ≤ (special_at d n).last
DaysAgree d kinds.Link n = Unit {0}
DaysAgree d kinds.Section n = Unit {0}
DaysAgree d kinds.Use n = Unit {0}
DaysAgree d kinds.Pattern n = Unit {0}
DaysAgree d kinds.Override n = Unit {0}
DaysAgree d kinds.Journey n = Unit {0}

abbrev pub OneOf : {X Y : Type 0} → Option X → Option Y → Type 0
OneOf None None = ⊥
OneOf None (Some y) = Unit {0}
OneOf (Some x) None = Unit {0}
OneOf (Some x) (Some y) = ⊥

abbrev pub Leads : ℕ → Deposit → ℕ → Type 0
Leads zero d n = IsGiven (journey_at d n).pattern
Leads (suc s) d n = IsGiven (journey_at d n).pattern ⊎ Named (λ o. (o < n) × Leads s d o) (journey_at d n).other

pub record Referred (d : Deposit) (n : ℕ) : Type 0 where
  pub one : OneOf (journey_at d n).pattern (journey_at d n).other
  pub leads : Leads steps_to_pattern d n
  pub profile : IsGiven (journey_at d n).profile ⊎ IsGiven (head_at d 0).profile

abbrev pub Meets : LinkRow → LinkRow → Type 0
Meets l m = (l.to ≡ m.from) × (l.to_activity ≡ m.from_activity)

pub record Joins (ls : List LinkRow) : Type 0 where
  pub few : length ls ≤ most_links
  pub joins : (k : ℕ) → k + 1 < length ls → Meets (slice_index_or ls k no_link) (slice_index_or ls (k + 1) no_link)

pub record Overrides (links : ℕ) (os : List OverrideRow) : Type 0 where
  pub rises : (k : ℕ) → k + 1 < length os → (slice_index_or os k no_override).position < (slice_index_or os (k + 1) no_override).position
  pub inside : (k : ℕ) → k < length os → (slice_index_or os k no_override).position < links

abbrev pub Distinct : Deposit → kind.Kind → ℕ → Type 0
Distinct d k n = (m : ℕ) → m < n → code_at d k m ≢ code_at d k n

abbrev pub Sound : rule.Rule → Deposit → kind.Kind → ℕ → Type 0
Sound rules.Counts d k n = Counted k (count_of d k)
Sound rules.Ranges d k n = InRange d k n
Sound rules.Revision d k n = Revised (head_at d n)
Sound rules.Period d k n = Given (λ e. (head_at d n).start ≤ e) (head_at d n).end
Sound rules.Description d k n = Described (line_at d n)
Sound rules.Days d k n = DaysAgree d k n
Sound rules.Reference d k n = Referred d n
Sound rules.Joining d k n = Joins (links_of d n)
Sound rules.Overriding d k n = Overrides (length (links_along d n)) (overrides_of d (journey_at d n))
Sound rules.Codes d k n = Distinct d k n

abbrev pub Holds : rule.Rule → Deposit → Type 0
Holds r d = AllByRecursion (λ k. (n : ℕ) → n < subjects r d k → Sound r d k n) (judged r)
