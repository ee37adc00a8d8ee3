-- A row that is put in its place keeps the order, and every row, and stands behind its equals. Assumes nothing.
use Rattle.std.proofs.Common.{◌≡◌, ℕ, zero, suc, Bool, true, false, not, ◌||◌, ◌⊎◌, List, [], ◌∷◌, drop, refl, ap, ◌∙◌, subst, inl, inr, ⊎_elim, add-one, arith}
use Rattle.std.specs.List.{insert, list_all, AllByRecursion as All}
use Rattle.std.proofs.lemmas.Bool.{and_parts, and_from}
use Rattle.ranked.specs.Placing.{step, place, placed, in_order, later_behind}

abbrev InOrder : {X : Type 0} → (X → X → Bool) → List X → Type 0
InOrder nl [] = Unit {0}
InOrder nl (x ∷ xs) = All (λ y. nl x y ≡ true) xs × InOrder nl xs

module _ {X : Type 0} where
  all_every : (p : X → Bool) (xs : List X) → list_all p xs ≡ true → All (λ y. p y ≡ true) xs
  all_every p [] e = tt
  all_every p (x ∷ xs) e = let h = and_parts (p x) (list_all p xs) e in (h.0, all_every p xs h.1)

  every_all : (p : X → Bool) (xs : List X) → All (λ y. p y ≡ true) xs → list_all p xs ≡ true
  every_all p [] a = refl
  every_all p (x ∷ xs) a = and_from (p x) (list_all p xs) a.0 (every_all p xs a.1)

  from_test : (nl : X → X → Bool) (xs : List X) → in_order nl xs ≡ true → InOrder nl xs
  from_test nl [] e = tt
  from_test nl (x ∷ xs) e =
      let h = and_parts (list_all (nl x) xs) (in_order nl xs) e in
      (all_every (nl x) xs h.0, from_test nl xs h.1)

  to_test : (nl : X → X → Bool) (xs : List X) → InOrder nl xs → in_order nl xs ≡ true
  to_test nl [] o = refl
  to_test nl (x ∷ xs) o = and_from (list_all (nl x) xs) (in_order nl xs) (every_all (nl x) xs o.0) (to_test nl xs o.1)

drop_inserted : {X : Type 0} (xs : List X) (i : ℕ) (x : X) → drop (suc i) (insert xs i x) ≡ drop i xs
drop_inserted xs zero x = refl
drop_inserted [] (suc i) x = refl
drop_inserted (y ∷ xs) (suc i) x = drop_inserted xs i x

step_some : (b : Bool) (m n : ℕ) → step b m ≡ suc n → (b ≡ true) ⊎ ((k : ℕ) × (m ≡ suc k))
step_some true zero n e = inl refl
step_some false zero n e = absurd (omega arith)
step_some b (suc m) n e = inr (m, refl)

step_none : (b : Bool) (m : ℕ) → step b m ≡ 0 → (b ≡ false) × (m ≡ 0)
step_none true zero e = absurd (omega arith)
step_none false zero e = (refl, refl)
step_none b (suc m) e = absurd (omega arith)

module _ {X : Type 0} (nl : X → X → Bool) (row : X) where
  -- no row behind the place ranks as early as `row`
  every_later : (x : X) (xs : List X) → list_all (λ y. not (nl y row)) (drop (place nl row xs) xs) ≡ true → (b : Bool) (m : ℕ) → nl x row ≡ b → place nl row xs ≡ m → list_all (λ y. not (nl y row)) (drop (step b m) (x ∷ xs)) ≡ true
  every_later x xs ih true zero f e = rw e at ih
  every_later x xs ih false zero f e = and_from (not (nl x row)) (list_all (λ y. not (nl y row)) xs) (ap not f) (rw e at ih)
  every_later x xs ih b (suc m) f e = rw e at ih

  pub place_behind : (xs : List X) → list_all (λ y. not (nl y row)) (drop (place nl row xs) xs) ≡ true
  place_behind [] = refl
  place_behind (x ∷ xs) = every_later x xs (place_behind xs) (nl x row) (place nl row xs) refl refl

  pub placed_later_behind : (xs : List X) → later_behind nl row (place nl row xs) (placed nl row xs) ≡ true
  placed_later_behind xs =
      ap (list_all (λ y. not (nl y row))) (rw add-one (drop_inserted xs (place nl row xs) row)) ∙ place_behind xs

module _ {X : Type 0} (nl : X → X → Bool) (total : (x y : X) → (nl x y || nl y x) ≡ true) (trans : (x y z : X) → nl x y ≡ true → nl y z ≡ true → nl x z ≡ true) (row : X) where
  turned : (x : X) → nl x row ≡ false → nl row x ≡ true
  turned x f = rw f at (total x row)

  all_inserted : (P : X → Type 0) (xs : List X) (i : ℕ) → All P xs → P row → All P (insert xs i row)
  all_inserted P xs zero a p = (p, a)
  all_inserted P [] (suc i) a p = (p, tt)
  all_inserted P (x ∷ xs) (suc i) a p = (a.0, all_inserted P xs i a.1 p)

  -- a place behind some row: what ranks no later than all the rows does so of `row`
  behind : (x : X) (xs : List X) (n : ℕ) → place nl row xs ≡ suc n → All (λ y. nl x y ≡ true) xs → nl x row ≡ true
  behind x [] n e a = absurd (omega arith)
  behind x (y ∷ xs) n e a =
      ⊎_elim (λ f. trans x y row a.0 f) (λ k. behind x xs k.0 k.1 a.1) (step_some (nl y row) (place nl row xs) n e)

  -- a place before all rows: `row` ranks no later than any
  ahead : (xs : List X) → place nl row xs ≡ 0 → All (λ y. nl row y ≡ true) xs
  ahead [] e = tt
  ahead (x ∷ xs) e =
      let p = step_none (nl x row) (place nl row xs) e in
      (turned x p.0, ahead xs p.1)

  by_step : (x : X) (xs : List X) → InOrder nl (x ∷ xs) → InOrder nl (placed nl row xs) → (b : Bool) (m : ℕ) → nl x row ≡ b → place nl row xs ≡ m → InOrder nl (insert (x ∷ xs) (step b m) row)
  by_step x xs o ih true zero f e = ((f, o.0), (ahead xs e, o.1))
  by_step x xs o ih false zero f e = ((turned x f, ahead xs e), o)
  by_step x xs o ih b (suc m) f e =
      (all_inserted (λ y. nl x y ≡ true) xs (suc m) o.0 (behind x xs m e o.0), subst (λ (k : ℕ). InOrder nl (insert xs k row)) e ih)

  placed-InOrder : (xs : List X) → InOrder nl xs → InOrder nl (placed nl row xs)
  placed-InOrder [] o = (tt, tt)
  placed-InOrder (x ∷ xs) o = by_step x xs o (placed-InOrder xs o.1) (nl x row) (place nl row xs) refl refl

  pub placed_in_order : (xs : List X) → in_order nl xs ≡ true → in_order nl (placed nl row xs) ≡ true
  placed_in_order xs o = to_test nl (placed nl row xs) (placed-InOrder xs (from_test nl xs o))
