-- The first entry of a day: found by a walk, and among entries to which one was added. Assumes nothing.
use Rattle.std.proofs.Common.{◌≡◌, ℕ, ◌+◌, ◌<◌, Bool, true, false, cond, not, ◌&&◌, ◌||◌, eqb, leb, List, [], ◌∷◌, ◌++◌, length, get_or, take, drop, sym, refl, ap, ◌∙◌, arith}
use Rattle.std.specs.List.{list_all}
use Rattle.std.proofs.lemmas.List.{take-append-drop, at_drop_more}
use Rattle.std.proofs.lemmas.Bool.{and_parts, or_from, not-true, leb-false, eqb-true, eq-eqb, ne_eqb, cond-true, cond-false}
use Rattle.ranked.specs.Placing.{place, placed}
use Rattle.ranked.proofs.Order.{place_behind}
use Rattle.calendar.specs.Dates.{last_day}
use Rattle.calendar.specs.Kinds.{kind_told}
use Rattle.day_books.specs.declared.dated.DatedKind.{DatedKind}
use Rattle.day_books.specs.Entries.{dated, no_later, has_day, first_kind, kind_by, kind_after}

-- a walk finds the day at an entry, or goes on behind it
module _ (xs : List DatedKind) (d i : ℕ) (less : i < length xs) (inv : first_kind (drop i xs) d ≡ first_kind xs d) where
  pub first_here : (get_or xs i (dated 0 0)).day ≡ d → (get_or xs i (dated 0 0)).kind ≡ first_kind xs d
  first_here e =
      let x = get_or xs i (dated 0 0) in
      sym (sym inv ∙ at_drop_more (λ ys. first_kind ys d) xs i (dated 0 0) less ∙ cond-true (eqb x.day d) x.kind (first_kind (drop (i + 1) xs) d) (eq-eqb x.day d e))

  pub first_more : ((get_or xs i (dated 0 0)).day ≡ d → ⊥) → first_kind (drop (i + 1) xs) d ≡ first_kind xs d
  first_more e =
      let x = get_or xs i (dated 0 0) in
      sym (sym inv ∙ at_drop_more (λ ys. first_kind ys d) xs i (dated 0 0) less ∙ cond-false (eqb x.day d) x.kind (first_kind (drop (i + 1) xs) d) (ne_eqb x.day d e))

-- entries that all rank later than one of a day hold none of that day
later_none : (x : DatedKind) (d : ℕ) (xs : List DatedKind) → x.day ≡ d → list_all (λ y. not (no_later y x)) xs ≡ true → has_day xs d ≡ false
later_none x d [] e h = refl
later_none x d (y ∷ ys) e h =
    let p = and_parts (not (no_later y x)) (list_all (λ z. not (no_later z x)) ys) h in
    let l = leb-false y.day x.day (not-true (no_later y x) p.0) in
    or_from (eqb y.day d) (has_day ys d) (ne_eqb y.day d (λ q. omega arith)) (later_none x d ys e p.1)

-- one more entry in front
in_front : (e q h : Bool) (k m n : ℕ) → cond q m (cond (e && not h) k n) ≡ cond (e && not (q || h)) k (cond q m n)
in_front true true h k m n = refl
in_front true false h k m n = refl
in_front false true h k m n = refl
in_front false false h k m n = refl

at_start : (e h : Bool) (k n : ℕ) → (e ≡ true → h ≡ false) → cond e k n ≡ cond (e && not h) k n
at_start true h k n f = ap (λ b. cond (not b) k n) (sym (f refl))
at_start false h k n f = refl

-- an entry that is put among others, with none of its day behind it
first_between : (x : DatedKind) (d : ℕ) (xs ys : List DatedKind) → (eqb x.day d ≡ true → has_day ys d ≡ false) → first_kind (xs ++ x ∷ ys) d ≡ cond (eqb x.day d && not (has_day (xs ++ ys) d)) x.kind (first_kind (xs ++ ys) d)
first_between x d [] ys f = at_start (eqb x.day d) (has_day ys d) x.kind (first_kind ys d) f
first_between x d (z ∷ xs) ys f =
    ap (cond (eqb z.day d) z.kind) (first_between x d xs ys f)
    ∙ in_front (eqb x.day d) (eqb z.day d) (has_day (xs ++ ys) d) x.kind z.kind (first_kind (xs ++ ys) d)

first_placed : (x : DatedKind) (xs : List DatedKind) (d : ℕ) → first_kind (placed no_later x xs) d ≡ cond (eqb x.day d && not (has_day xs d)) x.kind (first_kind xs d)
first_placed x xs d =
    let p = place no_later x xs in
    first_between x d (take p xs) (drop p xs) (λ e. later_none x d (drop p xs) (eqb-true x.day d e) (place_behind no_later x xs))
    ∙ ap (λ ys. cond (eqb x.day d && not (has_day ys d)) x.kind (first_kind ys d)) (take-append-drop p xs)

told_cond : (e h l : Bool) (k n : ℕ) → cond l (kind_told (cond (e && not h) k n)) 0 ≡ cond (e && not h) (cond l (kind_told (cond e k 0)) 0) (cond l (kind_told n) 0)
told_cond true true l k n = refl
told_cond true false l k n = refl
told_cond false h l k n = refl

pub kind_placed : (x : DatedKind) (xs : List DatedKind) (d : ℕ) → kind_by (placed no_later x xs) d ≡ kind_after x xs d
kind_placed x xs d =
    ap (λ k. cond (leb d last_day) (kind_told k) 0) (first_placed x xs d)
    ∙ told_cond (eqb x.day d) (has_day xs d) (leb d last_day) x.kind (first_kind xs d)
