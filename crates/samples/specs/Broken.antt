-- Broken deposits: the sample but for the rows that break one rule. Assumes nothing.
--
--   of_rows                    the deposit of such rows, with the section, the use and the pattern of the sample
--   with_heads .. with_links   the sample with other rows of a kind
--   with_journeys              the sample with other overrides and journeys
--   long_link                  a link that runs one second longer than any may
--   new_at_one                 a head of revision 1 that is still New
--   ends_before                a head whose period ends on the day before it starts
--   bare_line                  a line with no description
--   torn_profile               a profile with a holiday to run on and not to
--   twice_named                a journey that names a pattern and another journey
--   apart_link                 a link that does not begin where the first ends
--   past_the_pattern           an override behind the last position of the pattern
--   overridden                 the journey with that override
--   same_codes                 stops of which the third has the code of the second
--   broken r                   the deposit that breaks rule r
use Rattle.std.specs.Prelude.{List, [], ◌∷◌, Some, None, codes}
use Rattle.refusals.specs.declared.Rule as rule
use Rattle.refusals.specs.declared.Rule.TheVariants as rules
use Rattle.deposit.specs.Deposit.{Deposit, Head, Line, Stop, Journey}
use Rattle.deposit.specs.declared.rows.ProfileRow.{ProfileRow}
use Rattle.deposit.specs.declared.rows.LinkRow.{LinkRow}
use Rattle.deposit.specs.declared.rows.OverrideRow.{OverrideRow}
use Rattle.samples.specs.Sample.{line, first_link, section, use_row, pattern, journey, sample}

abbrev pub of_rows : List Head → List Line → List Stop → List ProfileRow → List LinkRow → List OverrideRow → List Journey → Deposit
of_rows hs ls ss ps ks os js = record {
  heads = hs;
  lines = ls;
  stops = ss;
  profiles = ps;
  specials = [];
  links = ks;
  sections = section ∷ [];
  uses = use_row ∷ [];
  patterns = pattern ∷ [];
  overrides = os;
  journeys = js;
}

abbrev pub with_heads : List Head → Deposit
with_heads hs = of_rows hs sample.lines sample.stops sample.profiles sample.links [] sample.journeys

abbrev pub with_lines : List Line → Deposit
with_lines ls = of_rows sample.heads ls sample.stops sample.profiles sample.links [] sample.journeys

abbrev pub with_stops : List Stop → Deposit
with_stops ss = of_rows sample.heads sample.lines ss sample.profiles sample.links [] sample.journeys

abbrev pub with_profiles : List ProfileRow → Deposit
with_profiles ps = of_rows sample.heads sample.lines sample.stops ps sample.links [] sample.journeys

abbrev pub with_links : List LinkRow → Deposit
with_links ks = of_rows sample.heads sample.lines sample.stops sample.profiles ks [] sample.journeys

abbrev pub with_journeys : List OverrideRow → List Journey → Deposit
with_journeys os js = of_rows sample.heads sample.lines sample.stops sample.profiles sample.links os js

abbrev pub long_link : LinkRow
long_link = record { from = 1; to = 2; run = 21601; from_wait = 60; to_wait = 0; from_activity = 3; to_activity = 3 }

abbrev pub new_at_one : Head
new_at_one = record { service = codes "S"; revision = 1; created = record { day = 8000; second = 0 }; modified = None; modification = 1; start = 8067; end = None; profile = Some 0 }

abbrev pub ends_before : Head
ends_before = record { service = codes "S"; revision = 0; created = record { day = 8000; second = 0 }; modified = None; modification = 1; start = 8067; end = Some 8066; profile = Some 0 }

abbrev pub bare_line : Line
bare_line = record { name = codes "2"; outbound = []; inbound = [] }

abbrev pub torn_profile : ProfileRow
torn_profile = record { weekdays = 127; runs = 128; not_runs = 192; first_special = 0; specials = 0 }

abbrev pub twice_named : Journey
twice_named = record { code = codes "J2"; line = 0; pattern = Some 0; other = Some 0; profile = None; departure = 32400; shift = 0; first = 0; overrides = 0 }

abbrev pub apart_link : LinkRow
apart_link = record { from = 0; to = 2; run = 420; from_wait = 60; to_wait = 0; from_activity = 3; to_activity = 3 }

abbrev pub past_the_pattern : OverrideRow
past_the_pattern = record { position = 2; run = Some 240; from_wait = None; to_wait = None }

abbrev pub overridden : Journey
overridden = record { code = codes "J1"; line = 0; pattern = Some 0; other = None; profile = None; departure = 28800; shift = 0; first = 0; overrides = 1 }

abbrev pub same_codes : List Stop
same_codes =
    record { code = codes "A"; name = codes "Abbey" } ∷ record { code = codes "B"; name = codes "Bridge" } ∷ record { code = codes "B"; name = codes "Castle" } ∷ []

abbrev pub broken : rule.Rule → Deposit
broken rules.Counts = with_journeys [] []
broken rules.Ranges = with_links (first_link ∷ long_link ∷ [])
broken rules.Revision = with_heads (new_at_one ∷ [])
broken rules.Period = with_heads (ends_before ∷ [])
broken rules.Description = with_lines (line ∷ bare_line ∷ [])
broken rules.Days = with_profiles (torn_profile ∷ [])
broken rules.Reference = with_journeys [] (journey ∷ twice_named ∷ [])
broken rules.Joining = with_links (first_link ∷ apart_link ∷ [])
broken rules.Overriding = with_journeys (past_the_pattern ∷ []) (overridden ∷ [])
broken rules.Codes = with_stops same_codes
