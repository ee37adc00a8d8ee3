-- Looking for the first that fails. Assumes nothing.
--
--   or_else       the first of two answers that is given
--   first_from    the first of the n numbers from i on that fails a test
--   first_below   the first number below n that fails it
--   first_some    the first answer that a function gives along a list
use Rattle.std.specs.Prelude.{ℕ, zero, suc, ◌+◌, Bool, cond, List, [], ◌∷◌, Some, None, Option}

abbrev pub or_else : {X : Type 0} → Option X → Option X → Option X
or_else None y = y
or_else (Some x) y = Some x

abbrev pub first_from : (ℕ → Bool) → ℕ → ℕ → Option ℕ
first_from test i zero = None
first_from test i (suc n) = cond (test i) (first_from test (i + 1) n) (Some i)

abbrev pub first_below : (ℕ → Bool) → ℕ → Option ℕ
first_below test n = first_from test 0 n

abbrev pub first_some : {X F : Type 0} → (X → Option F) → List X → Option F
first_some f [] = None
first_some f (x ∷ xs) = or_else (f x) (first_some f xs)
