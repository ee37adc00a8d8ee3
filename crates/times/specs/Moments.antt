-- Moments, and which of two is later. Assumes nothing.
--
--   moment_made       the moment of a day and a second, or refusal 40 for either out of range
--   later x y         x comes after y: on a later day, or on the same day at a later second
--   seconds_to        the seconds from the start of day 0 to a moment
--   LaterInSeconds    of moments whose seconds are in range, the later one has more seconds before it
use Rattle.std.specs.Prelude.{ℕ, ◌+◌, ◌*◌, ◌<◌, Bool, cond, ◌&&◌, ◌||◌, Ok, Err, Decides, Result, ◌==◌, nat_le, nat_lt}
use Rattle.refusals.specs.declared.Refusal.{Refusal}
use Rattle.refusals.specs.declared.Refusal.TheVariants.{OutOfRange}
use Rattle.times.specs.declared.moments.Moment.{Moment}

abbrev pub moment_made : ℕ → ℕ → Result Moment Refusal
moment_made day second = cond (nat_le day 73048 && nat_le second 86399) (Ok (record { day = day; second = second })) (Err OutOfRange)

abbrev pub later : Moment → Moment → Bool
later x y = nat_lt y.day x.day || (x.day == y.day && nat_lt y.second x.second)

abbrev pub seconds_to : Moment → ℕ
seconds_to x = 86400 * x.day + x.second

abbrev pub LaterInSeconds : Type 0
LaterInSeconds = (x y : Moment) → x.second < 86400 → y.second < 86400 → Decides (later x y) (seconds_to y < seconds_to x)
