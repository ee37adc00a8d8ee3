-- Each test of a range decides what its words say. Assumes nothing.
use Rattle.std.proofs.Common.{ℕ, ◌+◌, ◌<◌, ◌≤◌, Bool, ◌&&◌, leb, List, length, get_or, Some, None, Decides, Option, refl}
use Rattle.std.specs.List.{AllByRecursion as All}
use Rattle.std.proofs.lemmas.Bool.{leb-true, le-leb}
use Rattle.std.proofs.lemmas.Bool.Decides.{Decides-and, Decides-ltb, Decides-like}
use Rattle.std.proofs.ByRecursion.{Decides-by_and}
use Rattle.calendar.specs.Dates.{last_day}
use Rattle.times.specs.declared.moments.Moment.{Moment}
use Rattle.refusals.specs.declared.Kind as kind
use Rattle.refusals.specs.declared.Kind.TheVariants as kinds
use Rattle.deposit.specs.declared.rows.ProfileRow.{ProfileRow}
use Rattle.deposit.specs.declared.rows.SpecialRow.{SpecialRow}
use Rattle.deposit.specs.declared.rows.LinkRow.{LinkRow}
use Rattle.deposit.specs.declared.rows.SectionRow.{SectionRow}
use Rattle.deposit.specs.declared.rows.PatternRow.{PatternRow}
use Rattle.deposit.specs.declared.rows.OverrideRow.{OverrideRow}
use Rattle.deposit.specs.Deposit.{Head, Line, Stop, Journey, Deposit, no_head, no_line, no_stop, no_profile, no_special, no_link, no_section, no_use, no_pattern, no_override, no_journey}
use Rattle.ranges.specs.Texts.{visible, all_visible, is_name, is_code, Visible, Name, Code}
use Rattle.ranges.specs.Values as test
use Rattle.ranges.specs.Words.{Given, Between, MomentIn, HeadIn, LineIn, StopIn, ProfileIn, SpecialIn, LinkIn, SectionIn, PatternIn, OverrideIn, JourneyIn, InRange}

pub decides_leb : (a b : ℕ) → Decides (leb a b) (a ≤ b)
decides_leb a b = (leb-true a b, le-leb a b)

-- two tests at once
pub both : {x y : Bool} {P Q : Type 0} → Decides x P → Decides y Q → Decides (x && y) (P × Q)
both {x} {y} p q = Decides-and x y p q

pub decides_given : {X : Type 0} (p : X → Bool) (P : X → Type 0) → ((x : X) → Decides (p x) (P x)) → (o : Option X) → Decides (test.given p o) (Given P o)
decides_given p P each None = (λ _. tt, λ _. refl)
decides_given p P each (Some x) = each x

pub decides_between : (a b n : ℕ) → Decides (test.between a b n) (Between a b n)
decides_between a b n = both (decides_leb a n) (decides_leb n b)

given_up_to : (most : ℕ) (o : Option ℕ) → Decides (test.given (test.up_to most) o) (Given (λ n. n ≤ most) o)
given_up_to most = decides_given (test.up_to most) (λ n. n ≤ most) (λ n. decides_leb n most)

given_below : (many : ℕ) (o : Option ℕ) → Decides (test.given (test.below many) o) (Given (λ n. n < many) o)
given_below many = decides_given (test.below many) (λ n. n < many) (λ n. Decides-ltb n many)

decides_visible : (bs : List ℕ) → Decides (all_visible bs) (All Visible bs)
decides_visible = Decides-by_and visible Visible all_visible (λ b. both (decides_leb 33 b) (decides_leb b 126)) refl (λ _ _. refl)

pub decides_name : (most : ℕ) (bs : List ℕ) → Decides (is_name most bs) (Name most bs)
decides_name most bs = both (decides_leb 1 (length bs)) (decides_leb (length bs) most)

pub decides_code : (most : ℕ) (bs : List ℕ) → Decides (is_code most bs) (Code most bs)
decides_code most bs = both (decides_name most bs) (decides_visible bs)

decides_moment : (m : Moment) → Decides (test.is_moment m) (MomentIn m)
decides_moment m = both (decides_leb m.day last_day) (decides_leb m.second 86399)

head_decides : (d : Deposit) (h : Head) → Decides (test.head_values h && test.head_refs d h) (HeadIn d h)
head_decides d h =
    Decides-like _
    (λ p. record { service = p.0.0; revision = p.0.1.0; created = p.0.1.1.0.0; modified = p.0.1.1.0.1; modification = p.0.1.1.1.0; start = p.0.1.1.1.1.0; end = p.0.1.1.1.1.1; profile = p.1 })
    (λ r. ((r.service, (r.revision, ((r.created, r.modified), (r.modification, (r.start, r.end))))), r.profile))
    (both
    (both (decides_code 24 h.service)
    (both (decides_leb h.revision 65535)
    (both (both (decides_moment h.created) (decides_given test.is_moment MomentIn decides_moment h.modified))
    (both (decides_between 1 2 h.modification) (both (decides_leb h.start last_day) (given_up_to last_day h.end))))))
    (given_below (length d.profiles) h.profile))

line_decides : (l : Line) → Decides (test.line_values l) (LineIn l)
line_decides l =
    Decides-like _ (λ p. record { name = p.0; outbound = p.1.0; inbound = p.1.1 }) (λ r. (r.name, (r.outbound, r.inbound)))
    (both (decides_name 24 l.name) (both (decides_leb (length l.outbound) 80) (decides_leb (length l.inbound) 80)))

stop_decides : (s : Stop) → Decides (test.stop_values s) (StopIn s)
stop_decides s =
    Decides-like _ (λ p. record { code = p.0; name = p.1 }) (λ r. (r.code, r.name)) (both (decides_code 12 s.code) (decides_name 48 s.name))

profile_decides : (d : Deposit) (p : ProfileRow) → Decides (test.profile_values p && test.profile_refs d p) (ProfileIn d p)
profile_decides d p =
    Decides-like _ (λ q. record { weekdays = q.0.0; runs = q.0.1.0; not_runs = q.0.1.1; specials = q.1 }) (λ r. ((r.weekdays, (r.runs, r.not_runs)), r.specials))
    (both (both (decides_leb p.weekdays 127) (both (decides_leb p.runs 255) (decides_leb p.not_runs 255)))
    (decides_leb (p.first_special + p.specials) (length d.specials)))

special_decides : (s : SpecialRow) → Decides (test.special_values s) (SpecialIn s)
special_decides s =
    Decides-like _ (λ p. record { first = p.0; last = p.1.0; runs = p.1.1 }) (λ r. (r.first, (r.last, r.runs)))
    (both (decides_leb s.first last_day) (both (decides_leb s.last last_day) (decides_leb s.runs 1)))

link_decides : (d : Deposit) (l : LinkRow) → Decides (test.link_values l && test.link_refs d l) (LinkIn d l)
link_decides d l =
    Decides-like _
    (λ p. record { run = p.0.0; from_wait = p.0.1.0; to_wait = p.0.1.1.0; from_activity = p.0.1.1.1.0; to_activity = p.0.1.1.1.1; from = p.1.0; to = p.1.1 })
    (λ r. ((r.run, (r.from_wait, (r.to_wait, (r.from_activity, r.to_activity)))), (r.from, r.to)))
    (both
    (both (decides_leb l.run 21600)
    (both (decides_leb l.from_wait 3600) (both (decides_leb l.to_wait 3600) (both (decides_between 1 4 l.from_activity) (decides_between 1 4 l.to_activity)))))
    (both (Decides-ltb l.from (length d.stops)) (Decides-ltb l.to (length d.stops))))

section_decides : (d : Deposit) (s : SectionRow) → Decides (test.section_values s && test.section_refs d s) (SectionIn d s)
section_decides d s =
    Decides-like _ (λ p. record { some = p.0; links = p.1 }) (λ r. (r.some, r.links))
    (both (decides_leb 1 s.links) (decides_leb (s.first_link + s.links) (length d.links)))

pattern_decides : (d : Deposit) (p : PatternRow) → Decides (test.pattern_values p && test.pattern_refs d p) (PatternIn d p)
pattern_decides d p =
    Decides-like _ (λ q. record { direction = q.0.0; some = q.0.1; uses = q.1 }) (λ r. ((r.direction, r.some), r.uses))
    (both (both (decides_between 1 2 p.direction) (decides_leb 1 p.uses)) (decides_leb (p.first_use + p.uses) (length d.uses)))

override_decides : (o : OverrideRow) → Decides (test.override_values o) (OverrideIn o)
override_decides o =
    Decides-like _ (λ p. record { position = p.0; run = p.1.0; from_wait = p.1.1.0; to_wait = p.1.1.1 }) (λ r. (r.position, (r.run, (r.from_wait, r.to_wait))))
    (both (decides_leb o.position 199) (both (given_up_to 21600 o.run) (both (given_up_to 3600 o.from_wait) (given_up_to 3600 o.to_wait))))

journey_decides : (d : Deposit) (j : Journey) → Decides (test.journey_values j && test.journey_refs d j) (JourneyIn d j)
journey_decides d j =
    Decides-like _
    (λ p. record { code = p.0.0; departure = p.0.1.0; shift = p.0.1.1; line = p.1.0; pattern = p.1.1.0.0; other = p.1.1.0.1.0; profile = p.1.1.0.1.1; overrides = p.1.1.1 })
    (λ r. ((r.code, (r.departure, r.shift)), (r.line, ((r.pattern, (r.other, r.profile)), r.overrides))))
    (both (both (decides_code 24 j.code) (both (decides_leb j.departure 86399) (decides_leb j.shift 1)))
    (both (Decides-ltb j.line (length d.lines))
    (both (both (given_below (length d.patterns) j.pattern) (both (given_below (length d.journeys) j.other) (given_below (length d.profiles) j.profile)))
    (decides_leb (j.first + j.overrides) (length d.overrides)))))

pub range_decides : (d : Deposit) (k : kind.Kind) (n : ℕ) → Decides (test.in_range d k n) (InRange d k n)
range_decides d kinds.Head n = head_decides d (get_or d.heads n no_head)
range_decides d kinds.Line n = line_decides (get_or d.lines n no_line)
range_decides d kinds.Stop n = stop_decides (get_or d.stops n no_stop)
range_decides d kinds.Profile n = profile_decides d (get_or d.profiles n no_profile)
range_decides d kinds.Special n = special_decides (get_or d.specials n no_special)
range_decides d kinds.Link n = link_decides d (get_or d.links n no_link)
range_decides d kinds.Section n = section_decides d (get_or d.sections n no_section)
range_decides d kinds.Use n = Decides-ltb (get_or d.uses n no_use).section (length d.sections)
range_decides d kinds.Pattern n = pattern_decides d (get_or d.patterns n no_pattern)
range_decides d kinds.Override n = override_decides (get_or d.overrides n no_override)
range_decides d kinds.Journey n = journey_decides d (get_or d.journeys n no_journey)
