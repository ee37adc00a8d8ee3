-- The row of each kind, written: it fits, and is read as it was. Assumes nothing.
use Rattle.std.proofs.Common.{◌≡◌, ℕ, ◌<◌, ◌≤◌, true, cond, not, eqb, List, [], ◌∷◌, ◌++◌, length, Some, None, Option, sym, refl, ap, ◌∙◌, arith}
use Rattle.std.proofs.lemmas.Bool.{cond-false, ne_eqb}
use Rattle.times.specs.declared.moments.Moment.{Moment}
use Rattle.refusals.specs.declared.Kind as kind
use Rattle.refusals.specs.declared.Kind.TheVariants as kinds
use Rattle.deposit.specs.declared.rows.ProfileRow.{ProfileRow}
use Rattle.deposit.specs.declared.rows.SpecialRow.{SpecialRow}
use Rattle.deposit.specs.declared.rows.LinkRow.{LinkRow}
use Rattle.deposit.specs.declared.rows.SectionRow.{SectionRow}
use Rattle.deposit.specs.declared.rows.UseRow.{UseRow}
use Rattle.deposit.specs.declared.rows.PatternRow.{PatternRow}
use Rattle.deposit.specs.declared.rows.OverrideRow.{OverrideRow}
use Rattle.deposit.specs.Deposit.{Head, Line, Stop, Journey}
use Rattle.fields.specs.Fields.{be2, be4, content, after, text_tag}
use Rattle.fields.specs.Forms.{bytes2, bytes4, given2, given4}
use Rattle.fields.specs.Backs.{two_back, four_back}
use Rattle.fields.proofs.Codecs.{field_content, field_after, field_alone, field_text}
use Rattle.layout.specs.Layout.{missing2, missing4, paired, numbers}
use Rattle.layout.specs.Reading as read
use Rattle.layout.specs.Reading.{head_from, journey_from, read_head, read_line, read_stop, read_profile, read_special, read_link, read_section, read_use, read_pattern, read_override, read_journey}
use Rattle.layout.specs.Writing.{field_of_text, moment, given_moment, head_numbers, head_body, line_body, stop_body, profile_body, special_body, link_body, section_body, use_body, pattern_body, override_body, journey_numbers, journey_body}
use Rattle.layout.specs.Trips.{Fits2, Fits4, MomentKept, HeadKept, LineKept, StopKept, OverrideKept, JourneyKept}
use Rattle.layout.proofs.Passing.{form_from, text_more}
use Rattle.layout.proofs.Runs.{Fit}

-- numbers that may be missing
not_missing : {X : Type 0} (m n : ℕ) (x : X) → n < m → cond (eqb n m) None (Some x) ≡ Some x
not_missing m n x h = cond-false (eqb n m) None (Some x) (ne_eqb n m (λ e. omega arith))

given_back2 : (o : Option ℕ) → Fits2 o → read.given2 (be2 (given2 o) 0) ≡ o
given_back2 None h = refl
given_back2 (Some n) h = ap read.given2 (two_back n) ∙ not_missing missing2 n n h

given_back4 : (o : Option ℕ) → Fits4 o → read.given4 (be4 (given4 o) 0) ≡ o
given_back4 None h = refl
given_back4 (Some n) h = ap read.given4 (four_back n) ∙ not_missing missing4 n n h

-- the two numbers that stand for a moment or for none
abbrev day_of : Option Moment → ℕ
day_of None = missing4
day_of (Some m) = m.day

abbrev second_of : Option Moment → ℕ
second_of None = missing4
second_of (Some m) = m.second

moment_numbers : (o : Option Moment) → given_moment o ≡ bytes4 (day_of o) ++ bytes4 (second_of o)
moment_numbers None = refl
moment_numbers (Some m) = refl

moment_back : (o : Option Moment) → MomentKept o → read.given_moment (day_of o) (second_of o) ≡ o
moment_back None h = refl
moment_back (Some m) h = not_missing missing4 m.day m h.0

moment_paired : (o : Option Moment) → MomentKept o → paired (day_of o) (second_of o) ≡ true
moment_paired None h = refl
moment_paired (Some m) h =
    cond-false (eqb m.day missing4) (eqb m.second missing4) (not (eqb m.second missing4)) (ne_eqb m.day missing4 (λ e. omega arith))
    ∙ ap not (ne_eqb m.second missing4 (λ e. omega arith))

-- texts, then numbers
form_text : (k : kind.Kind) (m : ℕ) (ms t rest : List ℕ) → length t ≤ m → form_from k ms 0 rest ≡ true → form_from k (m ∷ ms) 0 (field_of_text t ++ rest) ≡ true
form_text k m ms t rest h f = text_more k (m ∷ ms) 0 (omega arith) (field_of_text t ++ rest) (field_text t rest m h) ∙ ap (form_from k ms 0) (field_after text_tag t rest) ∙ f

form_last : (k : kind.Kind) (m : ℕ) (t : List ℕ) → length t ≤ m → numbers k [] ≡ true → form_from k (m ∷ []) 0 (field_of_text t) ≡ true
form_last k m t h n = ap (form_from k (m ∷ []) 0) (sym (field_alone text_tag t)) ∙ form_text k m [] t [] h n

last_back : (t : List ℕ) → content (field_of_text t) ≡ t
last_back t = ap content (sym (field_alone text_tag t)) ∙ field_content text_tag t []

module _ (l : Line) where
  pub line_back : LineKept l → read_line (line_body l) ≡ l
  line_back k =
      let last = field_of_text l.inbound in
      let rest = field_of_text l.outbound ++ last in
      let e : after (line_body l) ≡ rest = field_after text_tag l.name rest in
      let f : after (after (line_body l)) ≡ last = ap after e ∙ field_after text_tag l.outbound last in
      let a = field_content text_tag l.name rest in
      let b = ap content e ∙ field_content text_tag l.outbound last in
      let c = ap content f ∙ last_back l.inbound in
      λ i. record { name = a i; outbound = b i; inbound = c i }

  pub line_fits : LineKept l → Fit kinds.Line (line_body l)
  line_fits k =
      let last = field_of_text l.inbound in
      form_text kinds.Line 24 (80 ∷ 80 ∷ []) l.name (field_of_text l.outbound ++ last) k.name
      (form_text kinds.Line 80 (80 ∷ []) l.outbound last k.outbound (form_last kinds.Line 80 l.inbound k.inbound refl))

module _ (s : Stop) where
  pub stop_back : StopKept s → read_stop (stop_body s) ≡ s
  stop_back k =
      let last = field_of_text s.name in
      let a = field_content text_tag s.code last in
      let b = ap content (field_after text_tag s.code last) ∙ last_back s.name in
      λ i. record { code = a i; name = b i }

  pub stop_fits : StopKept s → Fit kinds.Stop (stop_body s)
  stop_fits k = form_text kinds.Stop 12 (48 ∷ []) s.code (field_of_text s.name) k.code (form_last kinds.Stop 48 s.name k.name refl)

module _ (j : Journey) where
  pub journey_back : JourneyKept j → read_journey (journey_body j) ≡ j
  journey_back k =
      let numbers = journey_numbers j in
      let same : journey_from j.code numbers ≡ j = λ i. record {
        code = j.code;
        line = two_back j.line i;
        pattern = given_back2 j.pattern k.pattern i;
        other = given_back2 j.other k.other i;
        profile = given_back2 j.profile k.profile i;
        departure = four_back j.departure i;
        shift = j.shift;
        first = two_back j.first i;
        overrides = two_back j.overrides i;
      } in
      ap (λ t. journey_from t (after (journey_body j))) (field_content text_tag j.code numbers) ∙ ap (journey_from j.code) (field_after text_tag j.code numbers) ∙ same

  pub journey_fits : JourneyKept j → Fit kinds.Journey (journey_body j)
  journey_fits k = form_text kinds.Journey 24 [] j.code (journey_numbers j) k.code refl

module _ (h : Head) where
  -- the numbers of a head around the bytes of its modified moment
  abbrev around : List ℕ → List ℕ
  around m = bytes2 h.revision ++ (moment h.created ++ (m ++ (h.modification ∷ (bytes4 h.start ++ (given4 h.end ++ given2 h.profile)))))

  abbrev opened : List ℕ
  opened = around (bytes4 (day_of h.modified) ++ bytes4 (second_of h.modified))

  head_opened : head_numbers h ≡ opened
  head_opened = ap around (moment_numbers h.modified)

  pub head_back : HeadKept h → read_head (head_body h) ≡ h
  head_back k =
      let modified = (λ i. read.given_moment (four_back (day_of h.modified) i) (four_back (second_of h.modified) i)) ∙ moment_back h.modified k.modified in
      let same : head_from h.service opened ≡ h = λ i. record {
        service = h.service;
        revision = two_back h.revision i;
        created = record { day = four_back h.created.day i; second = four_back h.created.second i };
        modified = modified i;
        modification = h.modification;
        start = four_back h.start i;
        end = given_back4 h.end k.end i;
        profile = given_back2 h.profile k.profile i;
      } in
      ap (λ t. head_from t (after (head_body h))) (field_content text_tag h.service (head_numbers h))
      ∙ ap (head_from h.service) (field_after text_tag h.service (head_numbers h) ∙ head_opened)
      ∙ same

  pub head_fits : HeadKept h → Fit kinds.Head (head_body h)
  head_fits k =
      let pair = (λ i. paired (four_back (day_of h.modified) i) (four_back (second_of h.modified) i)) ∙ moment_paired h.modified k.modified in
      form_text kinds.Head 24 [] h.service (head_numbers h) k.service (ap (numbers kinds.Head) head_opened ∙ pair)

-- rows of numbers alone fit by their width
pub profile_back : (p : ProfileRow) → read_profile (profile_body p) ≡ p
profile_back p = λ i. record { weekdays = p.weekdays; runs = p.runs; not_runs = p.not_runs; first_special = two_back p.first_special i; specials = two_back p.specials i }

pub special_back : (s : SpecialRow) → read_special (special_body s) ≡ s
special_back s = λ i. record { first = four_back s.first i; last = four_back s.last i; runs = s.runs }

pub link_back : (l : LinkRow) → read_link (link_body l) ≡ l
link_back l = λ i. record {
  from = two_back l.from i;
  to = two_back l.to i;
  run = four_back l.run i;
  from_wait = four_back l.from_wait i;
  to_wait = four_back l.to_wait i;
  from_activity = l.from_activity;
  to_activity = l.to_activity;
}

pub section_back : (s : SectionRow) → read_section (section_body s) ≡ s
section_back s = λ i. record { first_link = two_back s.first_link i; links = two_back s.links i }

pub use_back : (u : UseRow) → read_use (use_body u) ≡ u
use_back u = λ i. record { section = two_back u.section i }

pub pattern_back : (p : PatternRow) → read_pattern (pattern_body p) ≡ p
pattern_back p = λ i. record { direction = p.direction; first_use = two_back p.first_use i; uses = two_back p.uses i }

pub override_back : (o : OverrideRow) → OverrideKept o → read_override (override_body o) ≡ o
override_back o k = λ i. record {
  position = two_back o.position i;
  run = given_back4 o.run k.run i;
  from_wait = given_back4 o.from_wait k.from_wait i;
  to_wait = given_back4 o.to_wait k.to_wait i;
}
