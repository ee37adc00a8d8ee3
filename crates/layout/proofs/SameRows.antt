-- Rows that are kept are written and read again as the same rows. Assumes nothing.
use Rattle.std.proofs.Common.{◌≡◌, ℕ, ◌≤◌, Bool, true, false, ◌&&◌, ltb, List, [], ◌∷◌, ◌++◌, map, length, drop, Some, None, sym, refl, ap, ◌∙◌, arith}
use Rattle.std.specs.List.{AllByRecursion as All}
use Rattle.std.proofs.ByRecursion.{All-map, All-weaker}
use Rattle.std.proofs.lemmas.Bool.{and_parts, and_from, ltb-true, eq-eqb, cond-true}
use Rattle.refusals.specs.declared.Kind.{Kind}
use Rattle.refusals.specs.declared.Kind.TheVariants.{Head, Line, Stop, Profile, Special, Link, Section, Use, Pattern, Override, Journey}
use Rattle.refusals.specs.Numbers.{kind_number, kinds}
use Rattle.deposit.specs.Deposit.{Deposit}
use Rattle.fields.specs.Fields.{content, after, tagged}
use Rattle.fields.proofs.Codecs.{field_content, field_after, field_tagged, field_alone}
use Rattle.layout.specs.Layout.{deposit_tag}
use Rattle.layout.specs.Reading.{read_head, read_line, read_stop, read_profile, read_special, read_link, read_section, read_use, read_pattern, read_override, read_journey, is_row, rows, past, past_all, below, begins, contents_in, decoded, rows_left, is_deposit, in_form}
use Rattle.layout.specs.Writing.{head_body, line_body, stop_body, profile_body, special_body, link_body, section_body, use_body, pattern_body, override_body, journey_body, bodies, rows_of, deposit_content, encode}
use Rattle.layout.specs.Trips.{HeadKept, LineKept, StopKept, OverrideKept, JourneyKept, Kept, SameRows}
use Rattle.layout.proofs.Runs.{map_back, Fit, other_tag, rows_back, past_back}
use Rattle.layout.proofs.Backs.{head_back, head_fits, line_back, line_fits, stop_back, stop_fits, journey_back, journey_fits, profile_back, special_back, link_back, section_back, use_back, pattern_back, override_back}

every : {X : Type 0} (P : X → Type 0) → ((x : X) → P x) → (xs : List X) → All P xs
every P p [] = tt
every P p (x ∷ xs) = (p x, every P p xs)

-- the numbers of the kinds rise, from above n on
abbrev rises : ℕ → List Kind → Bool
rises n [] = true
rises n (k ∷ ks) = ltb n (kind_number k) && rises (kind_number k) ks

kinds_around : (k : Kind) → below k ++ (k ∷ drop (kind_number k) kinds) ≡ kinds
kinds_around Head = refl
kinds_around Line = refl
kinds_around Stop = refl
kinds_around Profile = refl
kinds_around Special = refl
kinds_around Link = refl
kinds_around Section = refl
kinds_around Use = refl
kinds_around Pattern = refl
kinds_around Override = refl
kinds_around Journey = refl

module _ (d : Deposit) (kept : Kept d) where
  bodies_fit : (k : Kind) → All (Fit k) (bodies d k)
  bodies_fit Head = All-map (Fit Head) head_body d.heads (All-weaker HeadKept _ head_fits d.heads kept.heads)
  bodies_fit Line = All-map (Fit Line) line_body d.lines (All-weaker LineKept _ line_fits d.lines kept.lines)
  bodies_fit Stop = All-map (Fit Stop) stop_body d.stops (All-weaker StopKept _ stop_fits d.stops kept.stops)
  bodies_fit Profile = All-map (Fit Profile) profile_body d.profiles (every _ (λ p. refl) d.profiles)
  bodies_fit Special = All-map (Fit Special) special_body d.specials (every _ (λ s. refl) d.specials)
  bodies_fit Link = All-map (Fit Link) link_body d.links (every _ (λ l. refl) d.links)
  bodies_fit Section = All-map (Fit Section) section_body d.sections (every _ (λ s. refl) d.sections)
  bodies_fit Use = All-map (Fit Use) use_body d.uses (every _ (λ u. refl) d.uses)
  bodies_fit Pattern = All-map (Fit Pattern) pattern_body d.patterns (every _ (λ p. refl) d.patterns)
  bodies_fit Override = All-map (Fit Override) override_body d.overrides (every _ (λ o. refl) d.overrides)
  bodies_fit Journey = All-map (Fit Journey) journey_body d.journeys (All-weaker JourneyKept _ journey_fits d.journeys kept.journeys)

  not_row : (k : Kind) (n : ℕ) (ks : List Kind) → kind_number k ≤ n → rises n ks ≡ true → is_row k (rows_of d ks) ≡ false
  not_row k n [] h r = refl
  not_row k n (j ∷ ks) h r =
      let p = and_parts (ltb n (kind_number j)) (rises (kind_number j) ks) r in
      let l = ltb-true n (kind_number j) p.0 in
      other_tag k (kind_number j) (bodies d j) (rows_of d ks) (λ e. omega arith) (not_row k (kind_number j) ks (omega arith) p.1)

  module _ (k : Kind) (ks : List Kind) (r : rises (kind_number k) ks ≡ true) where
    rows_first : rows k (rows_of d (k ∷ ks)) ≡ bodies d k
    rows_first = rows_back k (rows_of d ks) (not_row k (kind_number k) ks (omega arith) r) (bodies d k) (bodies_fit k)

    past_first : past k (rows_of d (k ∷ ks)) ≡ rows_of d ks
    past_first = past_back k (rows_of d ks) (not_row k (kind_number k) ks (omega arith) r) (bodies d k) (bodies_fit k)

  rows_behind : (k : Kind) (js ks : List Kind) (n : ℕ) → rises n (js ++ (k ∷ ks)) ≡ true → rows k (past_all js (rows_of d (js ++ (k ∷ ks)))) ≡ bodies d k
  rows_behind k [] ks n r = rows_first k ks (and_parts _ _ r).1
  rows_behind k (j ∷ js) ks n r =
      let p = (and_parts _ (rises (kind_number j) (js ++ (k ∷ ks))) r).1 in
      ap (λ l. rows k (past_all js l)) (past_first j (js ++ (k ∷ ks)) p) ∙ rows_behind k js ks (kind_number j) p

  all_past : (ks : List Kind) (n : ℕ) → rises n ks ≡ true → past_all ks (rows_of d ks) ≡ []
  all_past [] n r = refl
  all_past (k ∷ ks) n r =
      let p = (and_parts _ (rises (kind_number k) ks) r).1 in
      ap (past_all ks) (past_first k ks p) ∙ all_past ks (kind_number k) p

  contents_back : (k : Kind) → contents_in (deposit_content d) k ≡ bodies d k
  unfolding deposit_content
  contents_back k =
      let e = kinds_around k in
      ap (λ ks. rows k (begins k (rows_of d ks))) (sym e) ∙ rows_behind k (below k) (drop (kind_number k) kinds) 0 (ap (rises 0) e)

  nothing_left : rows_left (deposit_content d) ≡ []
  unfolding deposit_content
  nothing_left = all_past kinds 0 refl

  decoded_back : decoded (deposit_content d) ≡ d
  decoded_back =
      let heads = ap (map read_head) (contents_back Head) ∙ map_back read_head head_body d.heads (All-weaker HeadKept _ head_back d.heads kept.heads) in
      let lines = ap (map read_line) (contents_back Line) ∙ map_back read_line line_body d.lines (All-weaker LineKept _ line_back d.lines kept.lines) in
      let stops = ap (map read_stop) (contents_back Stop) ∙ map_back read_stop stop_body d.stops (All-weaker StopKept _ stop_back d.stops kept.stops) in
      let profiles = ap (map read_profile) (contents_back Profile) ∙ map_back read_profile profile_body d.profiles (every _ profile_back d.profiles) in
      let specials = ap (map read_special) (contents_back Special) ∙ map_back read_special special_body d.specials (every _ special_back d.specials) in
      let links = ap (map read_link) (contents_back Link) ∙ map_back read_link link_body d.links (every _ link_back d.links) in
      let sections = ap (map read_section) (contents_back Section) ∙ map_back read_section section_body d.sections (every _ section_back d.sections) in
      let uses = ap (map read_use) (contents_back Use) ∙ map_back read_use use_body d.uses (every _ use_back d.uses) in
      let patterns = ap (map read_pattern) (contents_back Pattern) ∙ map_back read_pattern pattern_body d.patterns (every _ pattern_back d.patterns) in
      let overrides = ap (map read_override) (contents_back Override) ∙ map_back read_override override_body d.overrides (All-weaker OverrideKept _ override_back d.overrides kept.overrides) in
      let journeys = ap (map read_journey) (contents_back Journey) ∙ map_back read_journey journey_body d.journeys (All-weaker JourneyKept _ journey_back d.journeys kept.journeys) in
      λ i. record {
        heads = heads i;
        lines = lines i;
        stops = stops i;
        profiles = profiles i;
        specials = specials i;
        links = links i;
        sections = sections i;
        uses = uses i;
        patterns = patterns i;
        overrides = overrides i;
        journeys = journeys i;
      }

pub same_rows : SameRows
same_rows d kept =
    let c = deposit_content d in
    let alone = sym (field_alone deposit_tag c) in
    let inside : content (encode d) ≡ c = ap content alone ∙ field_content deposit_tag c [] in
    let behind : after (encode d) ≡ [] = ap after alone ∙ field_after deposit_tag c [] in
    let left : length (rows_left (content (encode d))) ≡ 0 = ap (λ l. length (rows_left l)) inside ∙ ap length (nothing_left d kept) in
    let form = and_from (is_deposit (encode d)) _ (and_from (tagged deposit_tag (encode d)) _ (ap (tagged deposit_tag) alone ∙ field_tagged deposit_tag c []) (eq-eqb _ 0 left)) (eq-eqb _ 0 (ap length behind)) in
    cond-true (in_form (encode d)) (Some (decoded (content (encode d)))) None form ∙ ap (λ l. Some (decoded l)) inside ∙ ap Some (decoded_back d kept)
