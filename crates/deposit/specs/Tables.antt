-- The deposit in a depositor's tables. Assumes nothing.
--
--   tables_mean   the deposit whose lists are the rows of the tables, in their order
use Rattle.std.specs.Prelude.{map}
use Rattle.deposit.specs.declared.tables.Tables.{Tables}
use Rattle.deposit.specs.Deposit.{Deposit, head_of, line_of, stop_of, journey_of}

abbrev pub tables_mean : Tables → Deposit
tables_mean t = record {
  heads = map head_of t.heads.now;
  lines = map line_of t.lines.now;
  stops = map stop_of t.stops.now;
  profiles = t.profiles.now;
  specials = t.specials.now;
  links = t.links.now;
  sections = t.sections.now;
  uses = t.uses.now;
  patterns = t.patterns.now;
  overrides = t.overrides.now;
  journeys = map journey_of t.journeys.now;
}
