-- Fields one behind the other, and the rows of kinds one behind the other. Assumes nothing.
use Rattle.std.proofs.Common.{◌≡◌, ℕ, ◌+◌, ◌-◌, ◌<◌, ◌≤◌, List, [], ◌∷◌, ◌++◌, length, get_or, take, drop, sym, refl, ap, ◌∙◌, append_assoc, append-nil, arith, length-append, length-drop, take-append-drop}
use Rattle.std.proofs.lemmas.List.{take_more, length-map, get_or-map}
use Rattle.refusals.specs.declared.Kind as kind
use Rattle.refusals.specs.declared.Kind.TheVariants as kinds
use Rattle.refusals.specs.Numbers.{kind_number}
use Rattle.deposit.specs.Deposit.{Deposit, count_of, no_head, no_line, no_stop, no_profile, no_special, no_link, no_section, no_use, no_pattern, no_override, no_journey}
use Rattle.fields.specs.Forms.{field}
use Rattle.layout.specs.Writing.{bodies, fields_of, rows_of, head_body, line_body, stop_body, profile_body, special_body, link_body, section_body, use_body, pattern_body, override_body, journey_body}
use Rattle.writing.specs.Puts.{Put}
use Rattle.writing.proofs.Putting.{then, put_as, put_length}
use borrow.Rule.Slice.PartMut.{put_mid}
use Rattle.encoding.proofs.Behind.{part_is, put_behind}
use Rattle.encoding.specs.Rows.{body_at}
use Rattle.encoding.proofs.RowLengths.{length-field}

fields_append : (t : ℕ) (xs ys : List (List ℕ)) → fields_of t (xs ++ ys) ≡ fields_of t xs ++ fields_of t ys
fields_append t [] ys = refl
fields_append t (x ∷ xs) ys = ap (λ l. field t x ++ l) (fields_append t xs ys) ∙ sym (append_assoc (field t x) (fields_of t xs) (fields_of t ys))

module _ (t : ℕ) (cs : List (List ℕ)) (i : ℕ) (h : i < length cs) where
  pub fields_more : fields_of t (take (i + 1) cs) ≡ fields_of t (take i cs) ++ field t (get_or cs i [])
  fields_more =
      ap (fields_of t) (take_more cs i [] h)
      ∙ fields_append t (take i cs) (get_or cs i [] ∷ [])
      ∙ ap (λ l. fields_of t (take i cs) ++ l) (append-nil (field t (get_or cs i [])))

  pub fields_room : length (fields_of t (take i cs)) + (3 + length (get_or cs i [])) ≤ length (fields_of t cs)
  fields_room =
      let all : fields_of t (take (i + 1) cs) ++ fields_of t (drop (i + 1) cs) ≡ fields_of t cs = sym (fields_append t (take (i + 1) cs) (drop (i + 1) cs)) ∙ ap (fields_of t) (take-append-drop (i + 1) cs) in
      omega (arith, ap length all, length-append (fields_of t (take (i + 1) cs)) (fields_of t (drop (i + 1) cs)), ap length fields_more, length-append (fields_of t (take i cs)) (field t (get_or cs i [])), length-field t (get_or cs i []))

-- as many contents as rows, and the content of row n
pub bodies_count : (d : Deposit) (k : kind.Kind) → length (bodies d k) ≡ count_of d k
bodies_count d kinds.Head = length-map d.heads head_body
bodies_count d kinds.Line = length-map d.lines line_body
bodies_count d kinds.Stop = length-map d.stops stop_body
bodies_count d kinds.Profile = length-map d.profiles profile_body
bodies_count d kinds.Special = length-map d.specials special_body
bodies_count d kinds.Link = length-map d.links link_body
bodies_count d kinds.Section = length-map d.sections section_body
bodies_count d kinds.Use = length-map d.uses use_body
bodies_count d kinds.Pattern = length-map d.patterns pattern_body
bodies_count d kinds.Override = length-map d.overrides override_body
bodies_count d kinds.Journey = length-map d.journeys journey_body

pub bodies_at : (d : Deposit) (k : kind.Kind) (n : ℕ) → n < count_of d k → get_or (bodies d k) n [] ≡ body_at d k n
bodies_at d kinds.Head n h = get_or-map head_body d.heads n no_head [] h
bodies_at d kinds.Line n h = get_or-map line_body d.lines n no_line [] h
bodies_at d kinds.Stop n h = get_or-map stop_body d.stops n no_stop [] h
bodies_at d kinds.Profile n h = get_or-map profile_body d.profiles n no_profile [] h
bodies_at d kinds.Special n h = get_or-map special_body d.specials n no_special [] h
bodies_at d kinds.Link n h = get_or-map link_body d.links n no_link [] h
bodies_at d kinds.Section n h = get_or-map section_body d.sections n no_section [] h
bodies_at d kinds.Use n h = get_or-map use_body d.uses n no_use [] h
bodies_at d kinds.Pattern n h = get_or-map pattern_body d.patterns n no_pattern [] h
bodies_at d kinds.Override n h = get_or-map override_body d.overrides n no_override [] h
bodies_at d kinds.Journey n h = get_or-map journey_body d.journeys n no_journey [] h

-- the rows of a kind one by one
module _ (d : Deposit) (k : kind.Kind) (n : ℕ) (h : n < count_of d k) where
  pub kind_more : fields_of (kind_number k) (take (n + 1) (bodies d k)) ≡ fields_of (kind_number k) (take n (bodies d k)) ++ field (kind_number k) (body_at d k n)
  kind_more =
      fields_more (kind_number k) (bodies d k) n (omega (arith, bodies_count d k))
      ∙ ap (λ b. fields_of (kind_number k) (take n (bodies d k)) ++ field (kind_number k) b) (bodies_at d k n h)

  pub kind_room : length (fields_of (kind_number k) (take n (bodies d k))) + (3 + length (body_at d k n)) ≤ length (fields_of (kind_number k) (bodies d k))
  kind_room =
      omega (arith, fields_room (kind_number k) (bodies d k) n (omega (arith, bodies_count d k)), ap length (bodies_at d k n h))

  pub kind_long : length (fields_of (kind_number k) (take (n + 1) (bodies d k))) ≡ length (fields_of (kind_number k) (take n (bodies d k))) + (3 + length (body_at d k n))
  kind_long =
      ap length kind_more
      ∙ length-append (fields_of (kind_number k) (take n (bodies d k))) (field (kind_number k) (body_at d k n))
      ∙ ap (λ m. length (fields_of (kind_number k) (take n (bodies d k))) + m) (length-field (kind_number k) (body_at d k n))

  pub kind_fits : {old out : List ℕ} {next : ℕ} → length (fields_of (kind_number k) (bodies d k)) ≤ length old → Put old 0 (fields_of (kind_number k) (take n (bodies d k))) out next → 3 + length (body_at d k n) ≤ length (take (length out - next) (drop next out))
  kind_fits {old} {out} {next} room p = omega (arith, room, kind_room, p.next, put_length p, ap length (part_is out next), length-drop next out)

  pub kind_put : {old mid part : List ℕ} {next taken : ℕ} → Put old 0 (fields_of (kind_number k) (take n (bodies d k))) mid next → Put (take (length mid - next) (drop next mid)) 0 (field (kind_number k) (body_at d k n)) part taken → Put old 0 (fields_of (kind_number k) (take (n + 1) (bodies d k))) (put_mid next (length mid - next) mid part) (next + taken)
  kind_put p q = put_as (sym kind_more) (then p (put_behind (omega (arith, p.next, p.room, put_length p)) q))

-- kinds one by one
rows_append : (d : Deposit) (js ks : List kind.Kind) → rows_of d (js ++ ks) ≡ rows_of d js ++ rows_of d ks
rows_append d [] ks = refl
rows_append d (j ∷ js) ks =
    ap (λ l. fields_of (kind_number j) (bodies d j) ++ l) (rows_append d js ks) ∙ sym (append_assoc (fields_of (kind_number j) (bodies d j)) (rows_of d js) (rows_of d ks))

module _ (d : Deposit) (ks : List kind.Kind) (i : ℕ) (e : kind.Kind) (h : i < length ks) where
  pub rows_more : rows_of d (take (i + 1) ks) ≡ rows_of d (take i ks) ++ fields_of (kind_number (get_or ks i e)) (bodies d (get_or ks i e))
  rows_more =
      let k = get_or ks i e in
      ap (rows_of d) (take_more ks i e h)
      ∙ rows_append d (take i ks) (k ∷ [])
      ∙ ap (λ l. rows_of d (take i ks) ++ l) (append-nil (fields_of (kind_number k) (bodies d k)))

  pub rows_long : length (rows_of d (take (i + 1) ks)) ≡ length (rows_of d (take i ks)) + length (fields_of (kind_number (get_or ks i e)) (bodies d (get_or ks i e)))
  rows_long = ap length rows_more ∙ length-append (rows_of d (take i ks)) (fields_of (kind_number (get_or ks i e)) (bodies d (get_or ks i e)))

  pub rows_room : length (rows_of d (take i ks)) + length (fields_of (kind_number (get_or ks i e)) (bodies d (get_or ks i e))) ≤ length (rows_of d ks)
  rows_room =
      let all : rows_of d (take (i + 1) ks) ++ rows_of d (drop (i + 1) ks) ≡ rows_of d ks = sym (rows_append d (take (i + 1) ks) (drop (i + 1) ks)) ∙ ap (rows_of d) (take-append-drop (i + 1) ks) in
      omega (arith, ap length all, length-append (rows_of d (take (i + 1) ks)) (rows_of d (drop (i + 1) ks)), rows_long)

  pub rows_fit : {old out : List ℕ} {next : ℕ} → length (rows_of d ks) ≤ length old → Put old 0 (rows_of d (take i ks)) out next → length (fields_of (kind_number (get_or ks i e)) (bodies d (get_or ks i e))) ≤ length (take (length out - next) (drop next out))
  rows_fit {old} {out} {next} room p = omega (arith, room, rows_room, p.next, put_length p, ap length (part_is out next), length-drop next out)

  pub rows_put : {old mid part : List ℕ} {next taken : ℕ} → Put old 0 (rows_of d (take i ks)) mid next → Put (take (length mid - next) (drop next mid)) 0 (fields_of (kind_number (get_or ks i e)) (bodies d (get_or ks i e))) part taken → Put old 0 (rows_of d (take (i + 1) ks)) (put_mid next (length mid - next) mid part) (next + taken)
  rows_put p q = put_as (sym rows_more) (then p (put_behind (omega (arith, p.next, p.room, put_length p)) q))
