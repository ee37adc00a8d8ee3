-- The kind that the rules give a day is each holiday's exactly on its day. Assumes nothing.
use Rattle.std.proofs.Common.{◌≡◌, ℕ, suc, ◌+◌, ◌-◌, ◌<◌, ◌≤◌, ◌↔◌, Bool, true, cond, ◌&&◌, eqb, ltb, leb, get_or, IfSome, Ok, Err, Result, sym, ap, ◌∙◌, subst, ⊎_elim, arith}
use Rattle.std.proofs.lemmas.Bool.{cases_lt, cond-true, le-leb, leb-true, lt-ltb, ltb-true, eqb-true, eq-eqb, and_parts, and_from}
use Rattle.std.proofs.lemmas.Bool.Decides.{nat_tests}
use Rattle.calendar.specs.Dates.{last_day, leap, leaps, year_start, lengths, month_start, Dated, date_of}
use Rattle.calendar.specs.Weeks.{weekday_of}
use Rattle.computed_book.specs.Easters.{easter_of}
use Rattle.computed_book.specs.Rules.{first_kind, holidays, kind_on, computed_kind}
use Rattle.computed_book.specs.Words.{On, Monday, FirstMonday, LastMonday, BeforeEaster, AfterEaster, Holidays}
use Rattle.calendar.specs.declared.dates.Date.{Date}
use Rattle.refusals.specs.declared.Refusal.{Refusal}
use Rattle.calendar.specs.Made.{day_of, DateTold}
use Rattle.std.specs.Result.{result_ok}
use Rattle.calendar.proofs.Years.{leaps_next, same_year, year_le}
use Rattle.calendar.proofs.Months.{month_more, month_le, year_length}
use Rattle.calendar.proofs.Turns.{in_year, in_month, day_of_year, dated_le, one_year, one_month, one_day}
use Rattle.calendar.proofs.Counts.{date_is}
use Rattle.computed_book.proofs.Paschals.{paschal}

-- 1 March of a year, from which Easter is counted
abbrev march : ℕ → ℕ
march y = year_start (y - 2000) + month_start (leap y) 3

easter_near : (y : ℕ) → 2000 ≤ y → y < 2200 → (march y + 21 ≤ easter_of y) × (easter_of y ≤ march y + 55)
easter_near y h k =
    let p = paschal y h k in
    let more = month_more (leap y) 3 (omega arith) (omega arith) in
    near (year_start (y - 2000)) (month_start (leap y) 3) (month_start (leap y) 4) (easter_of y) more p.from p.to
  where
    near : (s a b e : ℕ) → b ≡ a + 31 → s + a + 21 ≤ e → e ≤ s + b + 24 → (s + a + 21 ≤ e) × (e ≤ s + a + 55)
    near s a b e f g i = (g, omega arith)

-- the days about Easter are in its year
march_in_year : (y day : ℕ) → 2000 ≤ y → march y ≤ day → day ≤ march y + 60 → (year_start (y - 2000) ≤ day) × (day < year_start ((y - 2000) + 1))
march_in_year y day h a b =
    let l = leap y in
    let there : 2000 + (y - 2000) ≡ y = omega arith in
    let next : leaps ((y - 2000) + 1) ≡ leaps (y - 2000) + cond l 1 0 = rw there at (leaps_next (y - 2000)) in
    let m3 = month_more l 3 (omega arith) (omega arith) in
    let m4 = month_more l 4 (omega arith) (omega arith) in
    let end : month_start l 5 ≤ month_start l 13 = month_le l 5 13 (omega arith) in
    let whole = year_length l in
    (omega arith, omega arith)

about_before : (a e n : ℕ) → (a + 21 ≤ e) × (e ≤ a + 55) → n + 2 ≡ e → (a ≤ n) × (n ≤ a + 60)
about_before a e n h k = (omega (arith, h.0), omega (arith, h.1))

about_after : (a e n : ℕ) → (a + 21 ≤ e) × (e ≤ a + 55) → n ≡ e + 1 → (a ≤ n) × (n ≤ a + 60)
about_after a e n h k = (omega (arith, h.0), omega (arith, h.1))

-- a test that is true exactly in one of eight slots gives the kind of that slot
abbrev chain : Bool → Bool → Bool → Bool → Bool → Bool → Bool → Bool → ℕ
chain a b c d e f g h = cond a 1 (cond b 2 (cond c 3 (cond d 4 (cond e 5 (cond f 6 (cond g 7 (cond h 8 0)))))))

module _ (s : ℕ) (a b c d e f g h : Bool) (at1 : a ≡ true → s ≡ 1) (at2 : b ≡ true → s ≡ 2) (at3 : c ≡ true → s ≡ 3) (at4 : d ≡ true → s ≡ 4) (at5 : e ≡ true → s ≡ 5) (at6 : f ≡ true → s ≡ 6) (at7 : g ≡ true → s ≡ 7) (at8 : h ≡ true → s ≡ 8) where
  picked :
      ((chain a b c d e f g h ≡ 1) ↔ (a ≡ true)) × ((chain a b c d e f g h ≡ 2) ↔ (b ≡ true)) × ((chain a b c d e f g h ≡ 3) ↔ (c ≡ true)) × ((chain a b c d e f g h ≡ 4) ↔ (d ≡ true)) × ((chain a b c d e f g h ≡ 5) ↔ (e ≡ true)) × ((chain a b c d e f g h ≡ 6) ↔ (f ≡ true)) × ((chain a b c d e f g h ≡ 7) ↔ (g ≡ true)) × ((chain a b c d e f g h ≡ 8) ↔ (h ≡ true))
  picked = (
    (λ k. grind (arith, nat_tests), λ k. grind (arith, nat_tests, at1 k)),
    (λ k. grind (arith, nat_tests), λ k. grind (arith, nat_tests, at1, at2 k)),
    (λ k. grind (arith, nat_tests), λ k. grind (arith, nat_tests, at1, at2, at3 k)),
    (λ k. grind (arith, nat_tests), λ k. grind (arith, nat_tests, at1, at2, at3, at4 k)),
    (λ k. grind (arith, nat_tests), λ k. grind (arith, nat_tests, at1, at2, at3, at4, at5 k)),
    (λ k. grind (arith, nat_tests), λ k. grind (arith, nat_tests, at1, at2, at3, at4, at5, at6 k)),
    (λ k. grind (arith, nat_tests), λ k. grind (arith, nat_tests, at1, at2, at3, at4, at5, at6, at7 k)),
    (λ k. grind (arith, nat_tests), λ k. grind (arith, nat_tests, at1, at2, at3, at4, at5, at6, at7, at8 k)),
  )

through : {A B C : Type 0} → (A ↔ B) → (B ↔ C) → A ↔ C
through p q = (λ x. q.0 (p.0 x), λ z. p.1 (q.1 z))

-- Mondays of one month lie whole weeks apart
monday_first : (s d e n day : ℕ) → day ≡ s + (d - 1) → n ≡ s + (e - 1) → 1 ≤ d → 1 ≤ e → d ≤ 7 → Monday day → Monday n → day ≤ n
monday_first s d e n day p q f g h a b = omega arith

monday_last : (s d e n day u : ℕ) → day ≡ s + (d - 1) → n ≡ s + (e - 1) → 1 ≤ d → 1 ≤ e → e ≤ u → u < d + 7 → Monday day → Monday n → n ≤ day
monday_last s d e n day u p q f g h i a b = omega arith

week_before : (y m d day : ℕ) → Dated day y m d → 7 < d → Dated (day - 7) y m (d - 7)
week_before y m d day t h =
    let v = t.valid in
    record {
      valid = record { year_from = v.year_from; year_to = v.year_to; month_from = v.month_from; month_to = v.month_to; day_from = omega arith; day_to = omega (arith, v.day_to) };
      is = back (year_start (y - 2000) + month_start (leap y) m) d day t.is h;
    }
  where
    back : (s d day : ℕ) → day ≡ s + (d - 1) → 7 < d → day - 7 ≡ s + (d - 7 - 1)
    back s d day e h = omega arith

week_after : (y m d day : ℕ) → Dated day y m d → d + 7 ≤ get_or (lengths (leap y)) (m - 1) 0 → Dated (day + 7) y m (d + 7)
week_after y m d day t h =
    let v = t.valid in
    record {
      valid = record { year_from = v.year_from; year_to = v.year_to; month_from = v.month_from; month_to = v.month_to; day_from = omega arith; day_to = h };
      is = on (year_start (y - 2000) + month_start (leap y) m) d day t.is v.day_from;
    }
  where
    on : (s d day : ℕ) → day ≡ s + (d - 1) → 1 ≤ d → day + 7 ≡ s + (d + 7 - 1)
    on s d day e h = omega arith

module _ (day y m d : ℕ) (t : Dated day y m d) where
  on_date : (m0 d0 : ℕ) → ((eqb m m0 && eqb d d0) ≡ true) ↔ On day m0 d0
  on_date m0 d0 = (
    λ e.
        let p = and_parts (eqb m m0) (eqb d d0) e in
        (y, subst (λ (k : ℕ). Dated day y k d0) (eqb-true m m0 p.0) (subst (λ (k : ℕ). Dated day y m k) (eqb-true d d0 p.1) t)),
    λ o. and_from (eqb m m0) (eqb d d0) (eq-eqb m m0 (one_month day y m d o.0 m0 d0 t o.1)) (eq-eqb d d0 (one_day day y m d o.0 m0 d0 t o.1)),
  )

  -- the year of a day that lies about Easter
  year_about : (z : ℕ) → 2000 ≤ z → z < 2200 → march z ≤ day → day ≤ march z + 60 → z ≡ y
  year_about z h k a b =
      let i = march_in_year z day h a b in
      let j = in_year day y m d t in
      let e : z - 2000 ≡ y - 2000 = same_year day (z - 2000) (y - 2000) i.0 i.1 j.0 j.1 in
      omega (arith, t.valid.year_from)

  before_easter : (eqb (day + 2) (easter_of y) ≡ true) ↔ BeforeEaster day 2
  before_easter = (
    λ e. (y, t.valid.year_from, t.valid.year_to, eqb-true (day + 2) (easter_of y) e),
    λ o.
        let f : day + 2 ≡ easter_of o.0 = o.3 in
        let n = about_before (march o.0) (easter_of o.0) day (easter_near o.0 o.1 o.2) f in
        eq-eqb (day + 2) (easter_of y) (f ∙ ap easter_of (year_about o.0 o.1 o.2 n.0 n.1)),
  )

  after_easter : (eqb day (easter_of y + 1) ≡ true) ↔ AfterEaster day 1
  after_easter = (
    λ e. (y, t.valid.year_from, t.valid.year_to, eqb-true day (easter_of y + 1) e),
    λ o.
        let f : day ≡ easter_of o.0 + 1 = o.3 in
        let n = about_after (march o.0) (easter_of o.0) day (easter_near o.0 o.1 o.2) f in
        eq-eqb day (easter_of y + 1) (f ∙ ap (λ z. easter_of z + 1) (year_about o.0 o.1 o.2 n.0 n.1)),
  )

  first_monday : (m0 : ℕ) → ((eqb m m0 && (eqb (weekday_of day) 0 && leb d 7)) ≡ true) ↔ FirstMonday day m0
  first_monday m0 = (
    λ e.
        let p = and_parts (eqb m m0) (eqb (weekday_of day) 0 && leb d 7) e in
        let q = and_parts (eqb (weekday_of day) 0) (leb d 7) p.1 in
        let u : Dated day y m0 d = subst (λ (k : ℕ). Dated day y k d) (eqb-true m m0 p.0) t in
        let w : Monday day = eqb-true (weekday_of day) 0 q.0 in
        (y, d, u, w, λ n e v z. monday_first (year_start (y - 2000) + month_start (leap y) m0) d e n day u.is v.is u.valid.day_from v.valid.day_from (leb-true d 7 q.1) w z),
    λ o.
        let s = o.2 in
        let e : m ≡ m0 = one_month day y m d o.0 m0 o.1 t s in
        let f : d ≡ o.1 = one_day day y m d o.0 m0 o.1 t s in
        let early : d ≤ 7 = ⊎_elim
        (λ h. let b = week_before o.0 m0 o.1 day s (subst (λ (k : ℕ). 7 < k) f h) in absurd (never (year_start (o.0 - 2000) + month_start (leap o.0) m0) o.1 day s.is (subst (λ (k : ℕ). 7 < k) f h) (o.4 (day - 7) (o.1 - 7) b (monday_back (year_start (o.0 - 2000) + month_start (leap o.0) m0) o.1 day s.is (subst (λ (k : ℕ). 7 < k) f h) o.3))))
        (λ h. h) (cases_lt 7 d) in
        and_from (eqb m m0) (eqb (weekday_of day) 0 && leb d 7) (eq-eqb m m0 e) (and_from (eqb (weekday_of day) 0) (leb d 7) (eq-eqb (weekday_of day) 0 o.3) (le-leb d 7 early)),
  )
    where
      never : (s d day : ℕ) → day ≡ s + (d - 1) → 7 < d → day ≤ day - 7 → ⊥
      never s d day e h k = omega arith

      monday_back : (s d day : ℕ) → day ≡ s + (d - 1) → 7 < d → Monday day → Monday (day - 7)
      monday_back s d day e h k = omega arith

  last_monday : (m0 : ℕ) → ((eqb m m0 && (eqb (weekday_of day) 0 && ltb (get_or (lengths (leap y)) (m - 1) 0) (d + 7))) ≡ true) ↔ LastMonday day m0
  last_monday m0 = (
    λ e.
        let r = ltb (get_or (lengths (leap y)) (m - 1) 0) (d + 7) in
        let p = and_parts (eqb m m0) (eqb (weekday_of day) 0 && r) e in
        let q = and_parts (eqb (weekday_of day) 0) r p.1 in
        let f : m ≡ m0 = eqb-true m m0 p.0 in
        let u : Dated day y m0 d = subst (λ (k : ℕ). Dated day y k d) f t in
        let w : Monday day = eqb-true (weekday_of day) 0 q.0 in
        let late : get_or (lengths (leap y)) (m0 - 1) 0 < d + 7 = subst (λ (k : ℕ). get_or (lengths (leap y)) (k - 1) 0 < d + 7) f (ltb-true (get_or (lengths (leap y)) (m - 1) 0) (d + 7) q.1) in
        (y, d, u, w, λ n e v z. monday_last (year_start (y - 2000) + month_start (leap y) m0) d e n day (get_or (lengths (leap y)) (m0 - 1) 0) u.is v.is u.valid.day_from v.valid.day_from v.valid.day_to late w z),
    λ o.
        let r = ltb (get_or (lengths (leap y)) (m - 1) 0) (d + 7) in
        let s = o.2 in
        let e : m ≡ m0 = one_month day y m d o.0 m0 o.1 t s in
        let late : get_or (lengths (leap y)) (m - 1) 0 < d + 7 = ⊎_elim (λ h. h)
        (λ h.
        let b = week_after y m d day t h in
        let c : Dated (day + 7) o.0 m0 (d + 7) = subst (λ (k : ℕ). Dated (day + 7) k m0 (d + 7)) (one_year day y m d o.0 m0 o.1 t s) (subst (λ (k : ℕ). Dated (day + 7) y k (d + 7)) e b) in
        absurd (never day (o.4 (day + 7) (d + 7) c (monday_on day o.3))))
        (cases_lt (get_or (lengths (leap y)) (m - 1) 0) (d + 7)) in
        and_from (eqb m m0) (eqb (weekday_of day) 0 && r) (eq-eqb m m0 e) (and_from (eqb (weekday_of day) 0) r (eq-eqb (weekday_of day) 0 o.3) (lt-ltb (get_or (lengths (leap y)) (m - 1) 0) (d + 7) late)),
  )
    where
      never : (day : ℕ) → day + 7 ≤ day → ⊥
      never day h = omega arith

      monday_on : (day : ℕ) → Monday day → Monday (day + 7)
      monday_on day h = omega arith

-- the one slot of the eight that a date can fill
abbrev slot : ℕ → ℕ → ℕ → ℕ → ℕ
slot m d day e =
    cond (eqb m 1) 1 (cond (leb m 4) (cond (ltb day e) 2 3) (cond (eqb m 5) (cond (leb d 7) 4 5) (cond (eqb m 8) 6 (cond (leb d 25) 7 8))))

slot_date : (m d day e m0 d0 : ℕ) → (eqb m m0 && eqb d d0) ≡ true → slot m d day e ≡ slot m0 d0 day e
slot_date m d day e m0 d0 h =
    let p = and_parts (eqb m m0) (eqb d d0) h in
    ap (λ k. slot k d day e) (eqb-true m m0 p.0) ∙ ap (λ k. slot m0 k day e) (eqb-true d d0 p.1)

slot_before : (m d day e : ℕ) → 3 ≤ m → m ≤ 4 → day + 2 ≡ e → slot m d day e ≡ 2
slot_before m d day e h k f = grind (arith, nat_tests)

slot_after : (m d day e : ℕ) → 3 ≤ m → m ≤ 4 → day ≡ e + 1 → slot m d day e ≡ 3
slot_after m d day e h k f = grind (arith, nat_tests)

slot_first : (m d day e : ℕ) → m ≡ 5 → d ≤ 7 → slot m d day e ≡ 4
slot_first m d day e h k = grind (arith, nat_tests)

slot_spring : (m d day e : ℕ) → m ≡ 5 → 31 < d + 7 → slot m d day e ≡ 5
slot_spring m d day e h k = grind (arith, nat_tests)

slot_summer : (m d day e : ℕ) → m ≡ 8 → slot m d day e ≡ 6
slot_summer m d day e h = grind (arith, nat_tests)

module _ (day y m d : ℕ) (t : Dated day y m d) where
  -- a day about Easter is in March or April
  spring_month : march y ≤ day → day ≤ march y + 60 → (3 ≤ m) × (m ≤ 4)
  spring_month a b =
      let l = leap y in
      let i = in_month day y m d t in
      let rest : year_start (y - 2000) + day_of_year day y m d t ≡ day = omega (arith, t.is) in
      let m3 = month_more l 3 (omega arith) (omega arith) in
      let m4 = month_more l 4 (omega arith) (omega arith) in (
        ⊎_elim (λ h. absurd (omega (arith, i.1, month_le l (m + 1) 3 (omega arith)))) (λ h. h) (cases_lt m 3),
        ⊎_elim (λ h. absurd (omega (arith, i.0, month_le l 5 m (omega arith)))) (λ h. h) (cases_lt 4 m),
      )

  near : (march y + 21 ≤ easter_of y) × (easter_of y ≤ march y + 55)
  near = easter_near y t.valid.year_from t.valid.year_to

  at_before : eqb (day + 2) (easter_of y) ≡ true → slot m d day (easter_of y) ≡ 2
  at_before h =
      let f : day + 2 ≡ easter_of y = eqb-true (day + 2) (easter_of y) h in
      let n = about_before (march y) (easter_of y) day near f in
      let s = spring_month n.0 n.1 in
      slot_before m d day (easter_of y) s.0 s.1 f

  at_after : eqb day (easter_of y + 1) ≡ true → slot m d day (easter_of y) ≡ 3
  at_after h =
      let f : day ≡ easter_of y + 1 = eqb-true day (easter_of y + 1) h in
      let n = about_after (march y) (easter_of y) day near f in
      let s = spring_month n.0 n.1 in
      slot_after m d day (easter_of y) s.0 s.1 f

  at_first : (eqb m 5 && (eqb (weekday_of day) 0 && leb d 7)) ≡ true → slot m d day (easter_of y) ≡ 4
  at_first h =
      let p = and_parts (eqb m 5) (eqb (weekday_of day) 0 && leb d 7) h in
      let q = and_parts (eqb (weekday_of day) 0) (leb d 7) p.1 in
      slot_first m d day (easter_of y) (eqb-true m 5 p.0) (leb-true d 7 q.1)

  at_spring : (eqb m 5 && (eqb (weekday_of day) 0 && ltb (get_or (lengths (leap y)) (m - 1) 0) (d + 7))) ≡ true → slot m d day (easter_of y) ≡ 5
  at_spring h =
      let r = ltb (get_or (lengths (leap y)) (m - 1) 0) (d + 7) in
      let p = and_parts (eqb m 5) (eqb (weekday_of day) 0 && r) h in
      let q = and_parts (eqb (weekday_of day) 0) r p.1 in
      let e : m ≡ 5 = eqb-true m 5 p.0 in
      let late : 31 < d + 7 = subst (λ (k : ℕ). get_or (lengths (leap y)) (k - 1) 0 < d + 7) e (ltb-true (get_or (lengths (leap y)) (m - 1) 0) (d + 7) q.1) in
      slot_spring m d day (easter_of y) e late

  at_summer : (eqb m 8 && (eqb (weekday_of day) 0 && ltb (get_or (lengths (leap y)) (m - 1) 0) (d + 7))) ≡ true → slot m d day (easter_of y) ≡ 6
  at_summer h =
      let r = ltb (get_or (lengths (leap y)) (m - 1) 0) (d + 7) in
      slot_summer m d day (easter_of y) (eqb-true m 8 (and_parts (eqb m 8) (eqb (weekday_of day) 0 && r) h).0)

  kind_is : computed_kind day ≡ first_kind holidays day y m d
  kind_is =
      cond-true (leb day last_day) (kind_on day (date_of day)) 0 (le-leb day last_day (dated_le day y m d t))
      ∙ ap (kind_on day) (date_is day y m d t)

  words : Holidays day (first_kind holidays day y m d)
  words =
      let e = easter_of y in
      let r = ltb (get_or (lengths (leap y)) (m - 1) 0) (d + 7) in
      let t1 = eqb m 1 && eqb d 1 in
      let t2 = eqb (day + 2) e in
      let t3 = eqb day (e + 1) in
      let t4 = eqb m 5 && (eqb (weekday_of day) 0 && leb d 7) in
      let t5 = eqb m 5 && (eqb (weekday_of day) 0 && r) in
      let t6 = eqb m 8 && (eqb (weekday_of day) 0 && r) in
      let t7 = eqb m 12 && eqb d 25 in
      let t8 = eqb m 12 && eqb d 26 in
      let a1 : t1 ≡ true → slot m d day e ≡ 1 = slot_date m d day e 1 1 in
      let a7 : t7 ≡ true → slot m d day e ≡ 7 = slot_date m d day e 12 25 in
      let a8 : t8 ≡ true → slot m d day e ≡ 8 = slot_date m d day e 12 26 in
      let p = picked (slot m d day e) t1 t2 t3 t4 t5 t6 t7 t8 a1 at_before at_after at_first at_spring at_summer a7 a8 in
      record {
        new_years_day = through p.0 (on_date day y m d t 1 1);
        good_friday = through p.1 (before_easter day y m d t);
        easter_monday = through p.2 (after_easter day y m d t);
        may_day = through p.3 (first_monday day y m d t 5);
        spring = through p.4 (last_monday day y m d t 5);
        late_summer = through p.5 (last_monday day y m d t 8);
        christmas_day = through p.6 (on_date day y m d t 12 25);
        boxing_day = through p.7 (on_date day y m d t 12 26);
      }

  pub kind_told : (r : ℕ) → r ≡ first_kind holidays day y m d → (r ≡ computed_kind day) × Holidays day r
  kind_told r e = (e ∙ sym kind_is, subst (Holidays day) (sym e) words)

-- a day's date, if it has one, is of that day
pub day_told : (day : ℕ) (r : Result Date Refusal) → DateTold day r → IfSome (result_ok r) (λ date. day ≡ day_of date)
day_told day (Ok date) t = t
day_told day (Err e) t = tt

pub date_told : (day : ℕ) (date : Date) (r : ℕ) → day ≡ day_of date → r ≡ first_kind holidays day date.year date.month date.of_month → (r ≡ computed_kind day) × Holidays day r
date_told day date r e h = kind_told day date.year date.month date.of_month (record { valid = date.valid; is = e }) r h

-- past the calendar there is no holiday
pub no_words : (day : ℕ) → last_day < day → Holidays day 0
no_words day h = record {
  new_years_day = none (λ o. dated_none o.0 1 1 o.1);
  good_friday = none (λ o. none_about o.0 o.1 o.2 (about_before (march o.0) (easter_of o.0) day (easter_near o.0 o.1 o.2) o.3).1);
  easter_monday = none (λ o. none_about o.0 o.1 o.2 (about_after (march o.0) (easter_of o.0) day (easter_near o.0 o.1 o.2) o.3).1);
  may_day = none (λ o. dated_none o.0 5 o.1 o.2);
  spring = none (λ o. dated_none o.0 5 o.1 o.2);
  late_summer = none (λ o. dated_none o.0 8 o.1 o.2);
  christmas_day = none (λ o. dated_none o.0 12 25 o.1);
  boxing_day = none (λ o. dated_none o.0 12 26 o.1);
}
  where
    none : {k : ℕ} {B : Type 0} → (B → ⊥) → (0 ≡ suc k) ↔ B
    none f = (λ e. absurd (omega arith), λ b. absurd (f b))

    dated_none : (y m d : ℕ) → Dated day y m d → ⊥
    dated_none y m d t = omega (arith, dated_le day y m d t)

    past : (a b n : ℕ) → a < b → b ≤ 73049 → n ≤ a → last_day < n → ⊥
    past a b n f g i j = omega arith

    none_about : (y : ℕ) → 2000 ≤ y → y < 2200 → day ≤ march y + 60 → ⊥
    none_about y f k b =
        let i : march y + 60 < year_start ((y - 2000) + 1) = (march_in_year y (march y + 60) f (omega arith) (omega arith)).1 in
        let end : year_start ((y - 2000) + 1) ≤ 73049 = year_le ((y - 2000) + 1) (omega arith) in
        past (march y + 60) (year_start ((y - 2000) + 1)) day i end b h
