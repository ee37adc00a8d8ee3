use mathlib.Core.Path.{refl}
use lib.Dec.{lit<, lit≤}
use Rattle.calendar.specs.Dates.{leaps}
use Rattle.examples.proofs.examples_stand.Goals as goal

pub returns : goal.returns
unfolding leaps
returns c = record {
  new_year_2022 = record { valid = record { year_from = lit≤ tt; year_to = lit< tt; month_from = lit≤ tt; month_to = lit≤ tt; day_from = lit≤ tt; day_to = lit≤ tt }; is = refl };
  new_year_2022_is_a_saturday = refl;
  march_2100 = record { valid = record { year_from = lit≤ tt; year_to = lit< tt; month_from = lit≤ tt; month_to = lit≤ tt; day_from = lit≤ tt; day_to = lit≤ tt }; is = refl };
  good_friday_2022 = refl;
  easter_monday_2022 = refl;
}
