-- The worked examples, in one table. Assumes nothing.
--
--   Dated day y m d   day is the date d.m.y
--   weekday_of        5 is Saturday
--   computed_kind     2 is Good Friday, 3 Easter Monday
use Rattle.std.specs.Prelude.{◌≡◌}
use Rattle.calendar.specs.Dates.{Dated}
use Rattle.calendar.specs.Weeks.{weekday_of}
use Rattle.computed_book.specs.Rules.{computed_kind}

pub record Examples : Type 0 where
  pub new_year_2022 : Dated 8036 2022 1 1
  pub new_year_2022_is_a_saturday : weekday_of 8036 ≡ 5
  pub march_2100 : Dated 36584 2100 3 1
  pub good_friday_2022 : computed_kind 8140 ≡ 2
  pub easter_monday_2022 : computed_kind 8143 ≡ 3
