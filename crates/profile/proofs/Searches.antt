-- What `find` and `find_map` found is the first that fails. Assumes nothing.
use Rattle.std.proofs.Common.{◌≡◌, ℕ, zero, suc, ◌+◌, ◌<◌, Bool, true, false, not, cond, List, [], ◌∷◌, length, get_or, Some, None, Option, IfSome, IsSomeAnd, MatchOption, IsTrue, sym, refl, subst, ap, ◌∙◌, arith}
use denote.Param.Members.{Mut}
use Rattle.std.specs.Fn.{Called}
use Rattle.std.specs.Option.{option_map}
use Rattle.std.specs.Iterator.Runs.{Run, SomeRun, EveryRun, ItemsMapTo, CallKeepsClosure, AllItemsGive, IsFirstToGive}
use Rattle.std.specs.List.{find, range_with_len}
use Rattle.profile.specs.Firsts.{or_else, first_from, first_some}

flip : (t : Bool) (x y : Option ℕ) → cond (not t) x y ≡ cond t y x
flip true x y = refl
flip false x y = refl

-- the first of the n numbers from a on that fails a test
pub find_first : (test : ℕ → Bool) (a n : ℕ) → find (λ k. not (test k)) (range_with_len a n) ≡ first_from test a n
find_first test a zero = refl
find_first test a (suc n) = ap (λ o. cond (not (test a)) (Some a) o) (find_first test (a + 1) n) ∙ flip (test a) (Some a) (first_from test (a + 1) n)

-- the first answer along a list, by its place
module _ {X F : Type 0} (f : X → Option F) (d : X) where
  none_given : (xs : List X) → ((k : ℕ) → k < length xs → f (get_or xs k d) ≡ None) → None ≡ first_some f xs
  none_given [] none = refl
  none_given (x ∷ xs) none =
      none_given xs (λ k h. none (suc k) (omega arith)) ∙ ap (λ o. or_else o (first_some f xs)) (sym (none 0 (omega arith)))

  some_given : (xs : List X) (y : F) (i : ℕ) → i < length xs → f (get_or xs i d) ≡ Some y → ((k : ℕ) → k < i → f (get_or xs k d) ≡ None) → Some y ≡ first_some f xs
  some_given [] y i h hit none = absurd (omega arith)
  some_given (x ∷ xs) y zero h hit none = ap (λ o. or_else o (first_some f xs)) (sym hit)
  some_given (x ∷ xs) y (suc i) h hit none =
      some_given xs y i (omega arith) hit (λ k l. none (suc k) (omega arith)) ∙ ap (λ o. or_else o (first_some f xs)) (sym (none 0 (omega arith)))

-- what is true of the item at a place
module _ {A X : Type 0} (v : A → X) (x : X) (P : A → Type 0) where
  if_some_at : (o : Option A) → option_map v o ≡ Some x → IfSome o P → (a : A) × (v a ≡ x) × P a
  if_some_at None e h = absurd (cc)
  if_some_at (Some a) e h = (a, cc, h)

  is_some_at : (o : Option A) → IsSomeAnd o P → IfSome o P
  is_some_at None h = tt
  is_some_at (Some a) h = h

-- `find_map` answered the first answer that f, which computes h, gives along the list
module _ {A X F R : Type 0} (v : A → X) (g : Mut F (A × Unit {0}) (Option R)) (h : X → Option R) (d : X) (f : F)
    (told : (x : A) (o : Option R) (q : F) → Called g f (x, tt) o q → (q ≡ f) × (o ≡ h (v x))) where
  keeps : CallKeepsClosure g f
  keeps x o q c = (told x.0 o q c).0

  module _ {S : Type 0} {steps : S → Option A → S → Type 0} (p : Run steps) (xs : List X) (items : ItemsMapTo p v xs) where
    answered : (o : Option R) (k : ℕ) → k < p.len → IfSome (p.at k) (λ x. Called g f (x, tt) o f) → h (get_or xs k d) ≡ o
    answered o k l c =
        let a = if_some_at v (get_or xs k d) (λ x. Called g f (x, tt) o f) (p.at k) (items.2 k d l) c in
        ap h (sym a.1) ∙ sym (told a.0 o f a.2).1

    first_run : (r : Option R) → MatchOption r (IsTrue p.whole × AllItemsGive p g f None) (λ y. (i : ℕ) × (i < p.len) × (p.len ≡ i + 1) × IsFirstToGive p g f (Some y) None i) → r ≡ first_some h xs
    first_run None m = none_given h d xs (λ k l. answered None k (omega (arith, items.1 m.0)) (m.1 keeps k))
    first_run (Some y) m =
        let first = m.3 keeps in
        some_given h d xs y m.0 (omega (arith, items.0, m.1))
        (answered (Some y) m.0 m.1 (is_some_at v (get_or xs m.0 d) (λ x. Called g f (x, tt) (Some y) f) (p.at m.0) first.0))
        (λ k l. answered None k (omega (arith, m.1)) (is_some_at v (get_or xs k d) (λ x. Called g f (x, tt) None f) (p.at k) (first.1 k l)))

  pub first_from_find_map : {S : Type 0} {steps : S → Option A → S → Type 0} (s : S) (rest : S → List X) (xs : List X) (r : Option R) → EveryRun steps (λ p. ItemsMapTo p v (rest p.from)) → rest s ≡ xs
      → SomeRun steps s (λ p. MatchOption r (IsTrue p.whole × AllItemsGive p g f None) (λ y. (i : ℕ) × (i < p.len) × (p.len ≡ i + 1) × IsFirstToGive p g f (Some y) None i))
      → r ≡ first_some h xs
  first_from_find_map s rest xs r source shows run =
      let items : ItemsMapTo run.0 v xs = subst (ItemsMapTo run.0 v) (ap rest run.1 ∙ shows) (source run.0 run.0.seen) in
      first_run run.0 xs items r run.2
