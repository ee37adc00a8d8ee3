-- The content of a row of each kind, in form: the row that is read of it is written as it was. Assumes nothing.
use Rattle.std.proofs.Common.{◌≡◌, ℕ, ◌+◌, ◌≤◌, true, cond, not, ◌&&◌, eqb, leb, List, [], ◌∷◌, ◌++◌, length, drop, Some, None, unwrap_or, sym, refl, ap, ◌∙◌, arith}
use Rattle.std.proofs.lemmas.List.{drop_all, nil_from_length}
use Rattle.std.proofs.lemmas.Bool.{and_parts, eqb-true, cond-true, cond_both}
use Rattle.refusals.specs.declared.Kind.{Kind}
use Rattle.refusals.specs.declared.Kind.TheVariants.{Head, Line, Stop, Profile, Special, Link, Section, Use, Pattern, Override, Journey}
use Rattle.fields.specs.Fields.{be2, be4, content, after, tagged, text_tag, text}
use Rattle.fields.specs.Forms.{bytes2, bytes4, given2, given4}
use Rattle.fields.proofs.Codecs.{Bytes, one_again, two_again, four_again, after_bytes, field_alone, tagged_again}
use Rattle.layout.specs.Layout.{missing2, missing4, paired, moments, numbers, width, texts}
use Rattle.layout.specs.Reading as read
use Rattle.layout.specs.Reading.{head_from, journey_from, read_head, read_line, read_stop, read_profile, read_special, read_link, read_section, read_use, read_pattern, read_override, read_journey}
use Rattle.layout.specs.Writing.{field_of_text, given_moment, head_numbers, head_body, line_body, stop_body, profile_body, special_body, link_body, section_body, use_body, pattern_body, override_body, journey_numbers, journey_body}
use Rattle.layout.proofs.Runs.{Fit}

-- numbers that may be missing
given_again : (m n : ℕ) → unwrap_or (cond (eqb n m) None (Some n)) m ≡ n
given_again m n = cond_both (eqb n m) None (Some n) (λ o. unwrap_or o m ≡ n) (λ e. sym (eqb-true n m e)) (λ e. refl)

moment_again : (day second : ℕ) → paired day second ≡ true → given_moment (read.given_moment day second) ≡ bytes4 day ++ bytes4 second
moment_again day second p =
    cond_both (eqb day missing4) None (Some (record { day = day; second = second })) (λ o. given_moment o ≡ bytes4 day ++ bytes4 second)
    (λ e.
    let a = eqb-true day missing4 e in
    let b = eqb-true second missing4 (sym (cond-true (eqb day missing4) (eqb second missing4) (not (eqb second missing4)) e) ∙ p) in
    sym (λ i. bytes4 (a i) ++ bytes4 (b i)))
    (λ e. refl)

module _ (c : List ℕ) (bytes : Bytes c) where
  given_again2 : {t : List ℕ} (i : ℕ) → i + 2 ≤ length c → t ≡ drop (i + 2) c → given2 (read.given2 (be2 c i)) ++ t ≡ drop i c
  given_again2 {t} i h e = ap (λ n. bytes2 n ++ t) (given_again missing2 (be2 c i)) ∙ two_again c bytes i h e

  given_again4 : {t : List ℕ} (i : ℕ) → i + 4 ≤ length c → t ≡ drop (i + 4) c → given4 (read.given4 (be4 c i)) ++ t ≡ drop i c
  given_again4 {t} i h e = ap (λ n. bytes4 n ++ t) (given_again missing4 (be4 c i)) ∙ four_again c bytes i h e

  given_again_moment : {t : List ℕ} (i : ℕ) → i + 8 ≤ length c → paired (be4 c i) (be4 c (i + 4)) ≡ true → t ≡ drop (i + 8) c → given_moment (read.given_moment (be4 c i) (be4 c (i + 4))) ++ t ≡ drop i c
  given_again_moment {t} i h p e =
      let next : i + 4 + 4 ≡ i + 8 = omega arith in
      ap (λ l. l ++ t) (moment_again (be4 c i) (be4 c (i + 4)) p)
      ∙ four_again c bytes i (omega arith) (four_again c bytes (i + 4) (omega arith) (e ∙ ap (λ n. drop n c) (sym next)))

  text_again : {t : List ℕ} (m : ℕ) → text m c ≡ true → t ≡ after c → field_of_text (content c) ++ t ≡ c
  text_again m h e = tagged_again c bytes text_tag (and_parts (tagged text_tag c) (leb (be2 c 1) m) h).0 e

  last_again : (m : ℕ) → text m c ≡ true → length (after c) ≡ 0 → field_of_text (content c) ≡ c
  last_again m h e = sym (field_alone text_tag (content c)) ∙ text_again m h (sym (nil_from_length (after c) e))

-- numbers are as wide as the kind says, and nothing stands behind them
wide : (k : Kind) (c : List ℕ) → numbers k c ≡ true → length c ≡ width k
wide k c f = eqb-true (length c) (width k) (and_parts (eqb (length c) (width k)) (moments k c) f).0

ended : (c : List ℕ) (n : ℕ) → length c ≡ n → [] ≡ drop n c
ended c n e = sym (drop_all n c (omega arith))

module _ (c : List ℕ) (bytes : Bytes c) where
  pub profile_again : Fit Profile c → profile_body (read_profile c) ≡ c
  profile_again f =
      let e = wide Profile c f in
      one_again c bytes 0 (omega arith) (one_again c bytes 1 (omega arith) (one_again c bytes 2 (omega arith) (two_again c bytes 3 (omega arith) (two_again c bytes 5 (omega arith) (ended c 7 e)))))

  pub special_again : Fit Special c → special_body (read_special c) ≡ c
  special_again f =
      let e = wide Special c f in
      four_again c bytes 0 (omega arith) (four_again c bytes 4 (omega arith) (one_again c bytes 8 (omega arith) (ended c 9 e)))

  pub link_again : Fit Link c → link_body (read_link c) ≡ c
  link_again f =
      let e = wide Link c f in
      two_again c bytes 0 (omega arith) (two_again c bytes 2 (omega arith) (four_again c bytes 4 (omega arith) (four_again c bytes 8 (omega arith) (four_again c bytes 12 (omega arith)
      (one_again c bytes 16 (omega arith) (one_again c bytes 17 (omega arith) (ended c 18 e)))))))

  pub section_again : Fit Section c → section_body (read_section c) ≡ c
  section_again f = let e = wide Section c f in two_again c bytes 0 (omega arith) (two_again c bytes 2 (omega arith) (ended c 4 e))

  pub use_again : Fit Use c → use_body (read_use c) ≡ c
  use_again f = let e = wide Use c f in two_again c bytes 0 (omega arith) (ended c 2 e)

  pub pattern_again : Fit Pattern c → pattern_body (read_pattern c) ≡ c
  pattern_again f = let e = wide Pattern c f in one_again c bytes 0 (omega arith) (two_again c bytes 1 (omega arith) (two_again c bytes 3 (omega arith) (ended c 5 e)))

  pub override_again : Fit Override c → override_body (read_override c) ≡ c
  override_again f =
      let e = wide Override c f in
      two_again c bytes 0 (omega arith) (given_again4 c bytes 2 (omega arith) (given_again4 c bytes 6 (omega arith) (given_again4 c bytes 10 (omega arith) (ended c 14 e))))

  -- the numbers behind the text of a head or a journey
  head_numbers_again : (t : List ℕ) → numbers Head c ≡ true → head_numbers (head_from t c) ≡ c
  head_numbers_again t f =
      let e = wide Head c f in
      let pair = (and_parts (eqb (length c) (width Head)) (moments Head c) f).1 in
      two_again c bytes 0 (omega arith) (four_again c bytes 2 (omega arith) (four_again c bytes 6 (omega arith) (given_again_moment c bytes 10 (omega arith) pair
      (one_again c bytes 18 (omega arith) (four_again c bytes 19 (omega arith) (given_again4 c bytes 23 (omega arith) (given_again2 c bytes 27 (omega arith) (ended c 29 e))))))))

  journey_numbers_again : (t : List ℕ) → numbers Journey c ≡ true → journey_numbers (journey_from t c) ≡ c
  journey_numbers_again t f =
      let e = wide Journey c f in
      two_again c bytes 0 (omega arith) (given_again2 c bytes 2 (omega arith) (given_again2 c bytes 4 (omega arith) (given_again2 c bytes 6 (omega arith) (four_again c bytes 8 (omega arith)
      (one_again c bytes 12 (omega arith) (two_again c bytes 13 (omega arith) (two_again c bytes 15 (omega arith) (ended c 17 e))))))))

-- a text, then what stands behind it
module _ (c : List ℕ) (bytes : Bytes c) where
  pub head_again : Fit Head c → head_body (read_head c) ≡ c
  head_again f =
      let p = and_parts (text 24 c && true) (numbers Head (after c)) f in
      text_again c bytes 24 (and_parts (text 24 c) true p.0).0 (head_numbers_again (after c) (after_bytes c bytes) (content c) p.1)

  pub journey_again : Fit Journey c → journey_body (read_journey c) ≡ c
  journey_again f =
      let p = and_parts (text 24 c && true) (numbers Journey (after c)) f in
      text_again c bytes 24 (and_parts (text 24 c) true p.0).0 (journey_numbers_again (after c) (after_bytes c bytes) (content c) p.1)

  pub stop_again : Fit Stop c → stop_body (read_stop c) ≡ c
  stop_again f =
      let d = after c in
      let p = and_parts (texts (12 ∷ 48 ∷ []) c) (numbers Stop (after d)) f in
      let q = and_parts (text 12 c) (texts (48 ∷ []) d) p.0 in
      text_again c bytes 12 q.0 (last_again d (after_bytes c bytes) 48 (and_parts (text 48 d) true q.1).0 (wide Stop (after d) p.1))

  pub line_again : Fit Line c → line_body (read_line c) ≡ c
  line_again f =
      let d = after c in
      let e = after d in
      let bytes-d = after_bytes c bytes in
      let p = and_parts (texts (24 ∷ 80 ∷ 80 ∷ []) c) (numbers Line (after e)) f in
      let q = and_parts (text 24 c) (texts (80 ∷ 80 ∷ []) d) p.0 in
      let r = and_parts (text 80 d) (texts (80 ∷ []) e) q.1 in
      text_again c bytes 24 q.0 (text_again d bytes-d 80 r.0 (last_again e (after_bytes d bytes-d) 80 (and_parts (text 80 e) true r.1).0 (wide Line (after e) p.1)))
