-- Where a row goes among rows, and what rank order is. Assumes nothing.
-- In all of it `nl x y` says that x ranks no later than y.
--
--   place         how many rows stand before the place of a new row: up to the last one that ranks no later than it
--   placed        the rows with the new row at its place
--   Inserted      what the slice holds after a row was put among its first `count`, by the answer:
--                 accepted, one row more in front and every row behind as it was; refused, nothing changed
--   in_order      each row ranks no later than every row behind it
--   later_behind  every row behind the first p + 1 ranks later than the new one: with p its place, it stands behind its equals
use Rattle.std.specs.Prelude.{◌≡◌, ℕ, zero, suc, ◌+◌, ◌<◌, ◌≤◌, Bool, true, cond, not, ◌&&◌, List, [], ◌∷◌, ◌++◌, length, take, drop, Ok, Err, Result}
use Rattle.std.specs.List.{insert, list_all}
use Rattle.refusals.specs.declared.Refusal.{Refusal}
use Rattle.refusals.specs.declared.Refusal.TheVariants.{TooShort}

-- the place when one row comes in front of rows whose place is known
abbrev pub step : Bool → ℕ → ℕ
step b zero = cond b 1 0
step b (suc n) = suc (suc n)

abbrev pub place : {R : Type 0} → (R → R → Bool) → R → List R → ℕ
place nl row [] = 0
place nl row (x ∷ xs) = step (nl x row) (place nl row xs)

abbrev pub placed : {R : Type 0} → (R → R → Bool) → R → List R → List R
placed nl row xs = insert xs (place nl row xs) row

abbrev pub Inserted : {R : Type 0} → (R → R → Bool) → R → ℕ → List R → List R → Result ℕ Refusal → Type 0
Inserted nl row count xs ys (Ok n) = (count < length xs) × (n ≡ count + 1) × (ys ≡ placed nl row (take count xs) ++ drop (count + 1) xs)
Inserted nl row count xs ys (Err e) = (length xs ≤ count) × (e ≡ TooShort) × (ys ≡ xs)

abbrev pub in_order : {R : Type 0} → (R → R → Bool) → List R → Bool
in_order nl [] = true
in_order nl (x ∷ xs) = list_all (nl x) xs && in_order nl xs

abbrev pub later_behind : {R : Type 0} → (R → R → Bool) → R → ℕ → List R → Bool
later_behind nl row p xs = list_all (λ x. not (nl x row)) (drop (p + 1) xs)
