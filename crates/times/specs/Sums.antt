-- Sums of times. Assumes nothing.
--
--   Sum r n seconds   r is the time of n seconds, or nothing exactly where n seconds do not fit 32 bits
use Rattle.std.specs.Prelude.{◌≡◌, ℕ, ◌^◌, ◌<◌, ◌≤◌, Some, None, Option}

abbrev pub Sum : {T : Type 0} → Option T → ℕ → (T → ℕ) → Type 0
Sum None n seconds = 2 ^ 32 ≤ n
Sum (Some t) n seconds = (n < 2 ^ 32) × (seconds t ≡ n)
