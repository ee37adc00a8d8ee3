-- Numbers and fields, written and read again, and read and written again. Assumes nothing.
use Rattle.std.proofs.Common.{◌≡◌, ℕ, ◌+◌, ◌-◌, ◌/◌, ◌%◌, ◌<◌, ◌≤◌, true, eqb, leb, List, [], ◌∷◌, ◌++◌, length, get_or, take, drop, sym, refl, ap, ◌∙◌, append-nil, arith, length-append, take-append-drop, drop-drop}
use lib.Seq.{take-append_seam, drop-append_seam}
use Rattle.std.specs.List.{AllByRecursion as All}
use Rattle.std.proofs.lemmas.List.{drop_more, length-take-le, length-drop}
use Rattle.std.proofs.ByRecursion.{All-get_or, All-take, All-drop}
use Rattle.std.proofs.lemmas.Bool.{and_parts, and_from, le-leb, leb-true, eq-eqb, eqb-true, cond-true, cond_both}
use Rattle.fields.specs.Fields.{be2, be4, whole, content, after, tagged, text_tag, text}
use Rattle.fields.specs.Backs.{two_back}
use Rattle.fields.specs.Forms.{bytes2, bytes4, field}

abbrev pub Bytes : List ℕ → Type 0
Bytes = All (λ b. b < 256)

-- a number that was read is written, and behind it what stood behind it
module _ (c : List ℕ) (bytes : Bytes c) where
  pub one_again : {t : List ℕ} (i : ℕ) → i + 1 ≤ length c → t ≡ drop (i + 1) c → get_or c i 0 ∷ t ≡ drop i c
  one_again i h e = ap (λ l. get_or c i 0 ∷ l) e ∙ sym (drop_more c i 0 (omega arith))

  pub two_again : {t : List ℕ} (i : ℕ) → i + 2 ≤ length c → t ≡ drop (i + 2) c → bytes2 (be2 c i) ++ t ≡ drop i c
  two_again {t} i h e =
      let low = All-get_or (λ b. b < 256) c (i + 1) 0 (omega arith) bytes in
      let a : be2 c i / 256 ≡ get_or c i 0 = omega arith in
      let b : be2 c i % 256 ≡ get_or c (i + 1) 0 = omega arith in
      let next : i + 1 + 1 ≡ i + 2 = omega arith in
      (λ j. a j ∷ b j ∷ t) ∙ one_again i (omega arith) (one_again (i + 1) (omega arith) (e ∙ ap (λ n. drop n c) (sym next)))

  pub four_again : {t : List ℕ} (i : ℕ) → i + 4 ≤ length c → t ≡ drop (i + 4) c → bytes4 (be4 c i) ++ t ≡ drop i c
  four_again {t} i h e =
      let x = All-get_or (λ b. b < 256) c (i + 2) 0 (omega arith) bytes in
      let y = All-get_or (λ b. b < 256) c (i + 2 + 1) 0 (omega arith) bytes in
      let a : be4 c i / 65536 ≡ be2 c i = omega arith in
      let b : be4 c i % 65536 ≡ be2 c (i + 2) = omega arith in
      let next : i + 2 + 2 ≡ i + 4 = omega arith in
      (λ j. bytes2 (a j) ++ (bytes2 (b j) ++ t)) ∙ two_again i (omega arith) (two_again (i + 2) (omega arith) (e ∙ ap (λ n. drop n c) (sym next)))

-- what a field or the rest of bytes holds are bytes
pub content_bytes : (bs : List ℕ) → Bytes bs → Bytes (content bs)
content_bytes bs b = cond_both (whole bs) (take (be2 bs 1) (drop 3 bs)) [] Bytes (λ w. All-take _ (be2 bs 1) (drop 3 bs) (All-drop _ 3 bs b)) (λ w. tt)

pub after_bytes : (bs : List ℕ) → Bytes bs → Bytes (after bs)
after_bytes bs b = cond_both (whole bs) (drop (3 + be2 bs 1) bs) [] Bytes (λ w. All-drop _ (3 + be2 bs 1) bs b) (λ w. tt)

-- a field that was written is read, with anything behind it
module _ (t : ℕ) (c rest : List ℕ) where
  says : be2 (field t c ++ rest) 1 ≡ length c
  says = two_back (length c)

  pub field_whole : whole (field t c ++ rest) ≡ true
  field_whole =
      let long = length-append c rest in
      and_from (leb 3 (length (field t c ++ rest))) _ (le-leb 3 _ (omega arith)) (le-leb (be2 (field t c ++ rest) 1) (length (field t c ++ rest) - 3) (omega (arith, says, long)))

  pub field_content : content (field t c ++ rest) ≡ c
  field_content = cond-true _ (take (be2 (field t c ++ rest) 1) (c ++ rest)) [] field_whole ∙ ap (λ n. take n (c ++ rest)) says ∙ take-append_seam c rest

  pub field_after : after (field t c ++ rest) ≡ rest
  field_after =
      cond-true _ (drop (3 + be2 (field t c ++ rest) 1) (field t c ++ rest)) [] field_whole
      ∙ ap (λ n. drop (3 + n) (field t c ++ rest)) says
      ∙ sym (drop-drop (length c) 3 (field t c ++ rest))
      ∙ drop-append_seam c rest

  pub field_tagged : tagged t (field t c ++ rest) ≡ true
  field_tagged = and_from (whole (field t c ++ rest)) (eqb t t) field_whole (eq-eqb t t refl)

-- a field that nothing stands behind
pub field_alone : (t : ℕ) (c : List ℕ) → field t c ++ [] ≡ field t c
field_alone t c = append-nil (field t c)

pub field_text : (c rest : List ℕ) (most : ℕ) → length c ≤ most → text most (field text_tag c ++ rest) ≡ true
field_text c rest most h =
    and_from (tagged text_tag (field text_tag c ++ rest)) _ (field_tagged text_tag c rest) (le-leb (be2 (field text_tag c ++ rest) 1) most (omega (arith, says text_tag c rest)))

-- a field that was read is written, and behind it what stood behind it
module _ (bs : List ℕ) (bytes : Bytes bs) where
  pub field_again : whole bs ≡ true → field (get_or bs 0 0) (content bs) ++ after bs ≡ bs
  field_again w =
      let p = and_parts (leb 3 (length bs)) (leb (be2 bs 1) (length bs - 3)) w in
      let h = leb-true 3 (length bs) p.0 in
      let k = leb-true (be2 bs 1) (length bs - 3) p.1 in
      let n = be2 bs 1 in
      let c = cond-true (whole bs) (take n (drop 3 bs)) [] w in
      let a = cond-true (whole bs) (drop (3 + n) bs) [] w in
      let long : length (take n (drop 3 bs)) ≡ n = length-take-le n (drop 3 bs) (omega (arith, length-drop 3 bs)) in
      let rest : take n (drop 3 bs) ++ drop (3 + n) bs ≡ drop 3 bs = ap (λ l. take n (drop 3 bs) ++ l) (sym (drop-drop n 3 bs)) ∙ take-append-drop n (drop 3 bs) in
      ap (λ l. field (get_or bs 0 0) l ++ after bs) c
      ∙ ap (λ l. field (get_or bs 0 0) (take n (drop 3 bs)) ++ l) a
      ∙ ap (λ m. get_or bs 0 0 ∷ (bytes2 m ++ (take n (drop 3 bs) ++ drop (3 + n) bs))) long
      ∙ one_again bs bytes 0 (omega arith) (two_again bs bytes 1 (omega arith) rest)

  pub tagged_again : (t : ℕ) {rest : List ℕ} → tagged t bs ≡ true → rest ≡ after bs → field t (content bs) ++ rest ≡ bs
  tagged_again t w e =
      let p = and_parts (whole bs) (eqb (get_or bs 0 0) t) w in
      ap (λ l. field t (content bs) ++ l) e ∙ ap (λ u. field u (content bs) ++ after bs) (sym (eqb-true (get_or bs 0 0) t p.1)) ∙ field_again p.0
