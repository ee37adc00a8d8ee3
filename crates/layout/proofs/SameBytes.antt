-- Bytes in form are read and written again as the same bytes. Assumes nothing.
use Rattle.std.proofs.Common.{◌≡◌, ℕ, true, eqb, List, [], ◌∷◌, ◌++◌, map, length, drop, Some, None, sym, ap, ◌∙◌, ⊎_elim, arith}
use Rattle.std.proofs.lemmas.List.{nil_from_length}
use Rattle.std.proofs.ByRecursion.{All-weaker}
use Rattle.std.proofs.lemmas.Bool.{and_parts, eqb-true, cond-true, cond-false, cases_Bool}
use Rattle.refusals.specs.declared.Kind.{Kind}
use Rattle.refusals.specs.declared.Kind.TheVariants.{Head, Line, Stop, Profile, Special, Link, Section, Use, Pattern, Override, Journey}
use Rattle.refusals.specs.Numbers.{kind_number, kinds}
use Rattle.fields.specs.Fields.{content, after, tagged}
use Rattle.fields.specs.Forms.{field}
use Rattle.fields.proofs.Codecs.{Bytes, content_bytes, field_alone, tagged_again}
use Rattle.layout.specs.Layout.{deposit_tag}
use Rattle.layout.specs.Reading.{read_head, read_line, read_stop, read_profile, read_special, read_link, read_section, read_use, read_pattern, read_override, read_journey, past, below, begins, contents_in, decoded, rows_left, is_deposit, in_form}
use Rattle.layout.specs.Writing.{head_body, line_body, stop_body, profile_body, special_body, link_body, section_body, use_body, pattern_body, override_body, journey_body, bodies, fields_of, rows_of, deposit_content, encode}
use Rattle.layout.specs.Trips.{SameBytes}
use Rattle.layout.proofs.Runs.{map_back, Fit, Read, rows_again, rows_read, past_all_bytes}
use Rattle.layout.proofs.Agains.{head_again, line_again, stop_again, profile_again, special_again, link_again, section_again, use_again, pattern_again, override_again, journey_again}

-- bytes that are rows, kind after kind, and nothing else
module _ (c : List ℕ) (bytes : Bytes c) where
  begins_bytes : (k : Kind) → Bytes (begins k c)
  begins_bytes k = past_all_bytes (below k) c bytes

  each_again : {X : Type 0} (k : Kind) (body : X → List ℕ) (read : List ℕ → X) → ((r : List ℕ) → Bytes r → Fit k r → body (read r) ≡ r) → map body (map read (contents_in c k)) ≡ contents_in c k
  each_again k body read h = map_back body read (contents_in c k) (All-weaker (Read k) _ (λ r p. h r p.1 p.0) (contents_in c k) (rows_read k (begins k c) (begins_bytes k)))

  bodies_again : (k : Kind) → bodies (decoded c) k ≡ contents_in c k
  bodies_again Head = each_again Head head_body read_head head_again
  bodies_again Line = each_again Line line_body read_line line_again
  bodies_again Stop = each_again Stop stop_body read_stop stop_again
  bodies_again Profile = each_again Profile profile_body read_profile profile_again
  bodies_again Special = each_again Special special_body read_special special_again
  bodies_again Link = each_again Link link_body read_link link_again
  bodies_again Section = each_again Section section_body read_section section_again
  bodies_again Use = each_again Use use_body read_use use_again
  bodies_again Pattern = each_again Pattern pattern_body read_pattern pattern_again
  bodies_again Override = each_again Override override_body read_override override_again
  bodies_again Journey = each_again Journey journey_body read_journey journey_again

  -- what the kinds above k are written as stands behind the rows of kind k, so k and those above are written as they stood
  also : (k : Kind) → rows_of (decoded c) (drop (kind_number k) kinds) ≡ past k (begins k c) → rows_of (decoded c) (k ∷ drop (kind_number k) kinds) ≡ begins k c
  also k e =
      ap (λ cs. fields_of (kind_number k) cs ++ rows_of (decoded c) (drop (kind_number k) kinds)) (bodies_again k)
      ∙ ap (λ l. fields_of (kind_number k) (contents_in c k) ++ l) e
      ∙ rows_again k (begins k c) (begins_bytes k)

  content_again : rows_left c ≡ [] → deposit_content (decoded c) ≡ c
  unfolding deposit_content
  content_again e = also Head (also Line (also Stop (also Profile (also Special (also Link (also Section (also Use (also Pattern (also Override (also Journey (sym e)))))))))))

module _ (bs : List ℕ) (bytes : Bytes bs) (form : in_form bs ≡ true) where
  decoded_again : encode (decoded (content bs)) ≡ bs
  decoded_again =
      let p = and_parts (is_deposit bs) (eqb (length (after bs)) 0) form in
      let q = and_parts (tagged deposit_tag bs) (eqb (length (rows_left (content bs))) 0) p.0 in
      let left = nil_from_length (rows_left (content bs)) (eqb-true (length (rows_left (content bs))) 0 q.1) in
      let behind = nil_from_length (after bs) (eqb-true (length (after bs)) 0 p.1) in
      ap (field deposit_tag) (content_again (content bs) (content_bytes bs bytes) left)
      ∙ sym (field_alone deposit_tag (content bs))
      ∙ tagged_again bs bytes deposit_tag q.0 (sym behind)

pub same_bytes : SameBytes
same_bytes bs bytes d e =
    ⊎_elim
    (λ form.
    let read = cond-true (in_form bs) (Some (decoded (content bs))) None form in
    let same : d ≡ decoded (content bs) = cc in
    ap encode same ∙ decoded_again bs bytes form)
    (λ none.
    let read = cond-false (in_form bs) (Some (decoded (content bs))) None none in
    let z : ◌≡◌ {A = ℕ} 0 1 = cc in
    absurd (omega arith))
    (cases_Bool (in_form bs))
