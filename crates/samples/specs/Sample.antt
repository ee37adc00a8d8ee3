-- The sample deposit: one service with one line, three stops, one profile, one pattern of two links and one journey. Assumes
-- nothing.
--
--   head                      service S, revision 0, created at the start of day 8000, New, from day 8067 on with no end, profile 0
--   line                      line 1, described outbound
--   stops                     A, B and C
--   profile                   all seven weekdays, no holidays, no special days
--   first_link, second_link   A to B in 300 seconds, waiting 30 and 30; B to C in 420, waiting 60 and 0
--   section, use_row          a section of both links, and its use
--   pattern                   outbound, of that one use
--   journey                   J1 on line 0 along pattern 0, at 28,800 seconds, with no overrides
--   sample                    the deposit of these rows
use Rattle.std.specs.Prelude.{List, [], ◌∷◌, Some, None, codes}
use Rattle.deposit.specs.Deposit.{Deposit, Head, Line, Stop, Journey}
use Rattle.deposit.specs.declared.rows.ProfileRow.{ProfileRow}
use Rattle.deposit.specs.declared.rows.LinkRow.{LinkRow}
use Rattle.deposit.specs.declared.rows.SectionRow.{SectionRow}
use Rattle.deposit.specs.declared.rows.UseRow.{UseRow}
use Rattle.deposit.specs.declared.rows.PatternRow.{PatternRow}

abbrev pub head : Head
head = record { service = codes "S"; revision = 0; created = record { day = 8000; second = 0 }; modified = None; modification = 1; start = 8067; end = None; profile = Some 0 }

abbrev pub line : Line
line = record { name = codes "1"; outbound = codes "A to C"; inbound = [] }

abbrev pub stops : List Stop
stops =
    record { code = codes "A"; name = codes "Abbey" } ∷ record { code = codes "B"; name = codes "Bridge" } ∷ record { code = codes "C"; name = codes "Castle" } ∷ []

abbrev pub profile : ProfileRow
profile = record { weekdays = 127; runs = 0; not_runs = 0; first_special = 0; specials = 0 }

abbrev pub first_link : LinkRow
first_link = record { from = 0; to = 1; run = 300; from_wait = 30; to_wait = 30; from_activity = 3; to_activity = 3 }

abbrev pub second_link : LinkRow
second_link = record { from = 1; to = 2; run = 420; from_wait = 60; to_wait = 0; from_activity = 3; to_activity = 3 }

abbrev pub section : SectionRow
section = record { first_link = 0; links = 2 }

abbrev pub use_row : UseRow
use_row = record { section = 0 }

abbrev pub pattern : PatternRow
pattern = record { direction = 1; first_use = 0; uses = 1 }

abbrev pub journey : Journey
journey = record { code = codes "J1"; line = 0; pattern = Some 0; other = None; profile = None; departure = 28800; shift = 0; first = 0; overrides = 0 }

abbrev pub sample : Deposit
sample = record {
  heads = head ∷ [];
  lines = line ∷ [];
  stops = stops;
  profiles = profile ∷ [];
  specials = [];
  links = first_link ∷ second_link ∷ [];
  sections = section ∷ [];
  uses = use_row ∷ [];
  patterns = pattern ∷ [];
  overrides = [];
  journeys = journey ∷ [];
}
