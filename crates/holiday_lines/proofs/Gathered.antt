-- The text of days in a row, one day after another. Assumes nothing.
use Rattle.std.proofs.Common.{◌≡◌, ℕ, zero, suc, ◌+◌, ◌-◌, ◌<◌, ◌≤◌, Bool, true, false, cond, List, [], ◌∷◌, ◌++◌, length, filter, Some, sym, refl, ap, ◌∙◌, add-zero, arith, length-append}
use Rattle.std.specs.List.{range_with_len, flat_map}
use Rattle.std.proofs.lemmas.Grind.{flat_map-append}
use Rattle.std.proofs.lemmas.List.FromFn.{map-range_with_len_more}
use Rattle.std.proofs.lemmas.List.Elements.{filter-append}
use Rattle.std.proofs.lemmas.List.{map-id, append-nil}
use Rattle.calendar.specs.Dates.{day_number}
use Rattle.writing.specs.Puts.{Put}
use Rattle.writing.proofs.Putting.{put_as, then}
use Rattle.holiday_lines.specs.Texts.{is_holiday, line_of, text_on, holidays_from, lines_of, text_of}

counting_more : (a n : ℕ) → range_with_len a (n + 1) ≡ range_with_len a n ++ ((a + n) ∷ [])
counting_more a n = sym (map-id (range_with_len a (n + 1))) ∙ map-range_with_len_more (λ k. k) a n (a + n) refl ∙ ap (λ l. l ++ ((a + n) ∷ [])) (map-id (range_with_len a n))

kept_one : {A : Type 0} (f : ℕ → List A) (b : Bool) (x : ℕ) → flat_map f (cond b (x ∷ []) []) ≡ cond b (f x) []
kept_one f true x = append-nil (f x)
kept_one f false x = refl

module _ (kind : ℕ → ℕ) (first : ℕ) where
  -- the text of the first n days
  abbrev pub so_far : ℕ → List ℕ
  so_far n = lines_of kind (holidays_from kind first n)

  pub so_far_more : (n : ℕ) → so_far (n + 1) ≡ so_far n ++ text_on kind (first + n)
  so_far_more n =
      let f : ℕ → List ℕ = λ day. line_of day (kind day) in
      ap (λ l. flat_map f (filter (is_holiday kind) l)) (counting_more first n)
      ∙ ap (flat_map f) (filter-append (is_holiday kind) (range_with_len first n) ((first + n) ∷ []))
      ∙ flat_map-append f (filter (is_holiday kind) (range_with_len first n)) (filter (is_holiday kind) ((first + n) ∷ []))
      ∙ ap (λ l. so_far n ++ l) (kept_one f (is_holiday kind (first + n)) (first + n))

  -- at a day from the first on, in place of a count
  pub so_far_next : (day : ℕ) → first ≤ day → so_far (day + 1 - first) ≡ so_far (day - first) ++ text_on kind day
  so_far_next day h =
      let e : day + 1 - first ≡ day - first + 1 = omega arith in
      let f : first + (day - first) ≡ day = omega arith in
      ap so_far e ∙ so_far_more (day - first) ∙ ap (λ d. so_far (day - first) ++ text_on kind d) f

  pub length-next : (day : ℕ) → first ≤ day → length (so_far (day + 1 - first)) ≡ length (so_far (day - first)) + length (text_on kind day)
  length-next day h = ap length (so_far_next day h) ∙ length-append (so_far (day - first)) (text_on kind day)

  long_on : (n m : ℕ) → length (so_far n) ≤ length (so_far (n + m))
  long_on n zero = omega (arith, ap (λ k. length (so_far k)) (add-zero n))
  long_on n (suc m) =
      let e : n + suc m ≡ n + m + 1 = omega arith in
      omega (arith, long_on n m, ap (λ k. length (so_far k)) e, ap length (so_far_more (n + m)) ∙ length-append (so_far (n + m)) (text_on kind (first + (n + m))))

  -- a day's part and what stands before it take no more room than the whole
  pub day_room : (day end : ℕ) → first ≤ day → day < end → length (so_far (day - first)) + length (text_on kind day) ≤ length (so_far (end - first))
  day_room day end h k =
      let e : day + 1 - first + (end - (day + 1)) ≡ end - first = omega arith in
      omega (arith, length-next day h, long_on (day + 1 - first) (end - (day + 1)), ap (λ n. length (so_far n)) e)

  pub put_next : (day : ℕ) {old mid new : List ℕ} {j end : ℕ} → first ≤ day → Put old 0 (so_far (day - first)) mid j → Put mid j (text_on kind day) new end → Put old 0 (so_far (day + 1 - first)) new end
  put_next day h p q = put_as (sym (so_far_next day h)) (then p q)

-- past its last day the text is that of the whole year
pub so_far_all : (kind : ℕ → ℕ) (y day : ℕ) → day ≡ day_number y 12 31 + 1 → so_far kind (day_number y 1 1) (day - day_number y 1 1) ≡ text_of kind (Some y)
so_far_all kind y day e = ap (λ d. so_far kind (day_number y 1 1) (d - day_number y 1 1)) e
