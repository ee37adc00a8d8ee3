-- A deposit: one list of rows for each kind, texts as lists of bytes. Assumes nothing.
--
--   Head, Line, Stop, Journey   the rows that hold texts; a row of numbers alone is its own pure row
--   head_of .. journey_of       the pure row that a row of the code stands for
--   no_head .. no_journey       what stands past the end of a list: zeros, empty texts and nothing given
--   Deposit                     the eleven lists
--   nothing                     the deposit with no rows
--   count_of                    how many rows of a kind there are
use Rattle.std.specs.Prelude.{ℕ, List, [], length, None, Option}
use Rattle.times.specs.declared.moments.Moment.{Moment}
use Rattle.refusals.specs.declared.Kind as kind
use Rattle.refusals.specs.declared.Kind.TheVariants as kinds
use Rattle.deposit.specs.declared.rows.HeadRow.{HeadRow}
use Rattle.deposit.specs.declared.rows.LineRow.{LineRow}
use Rattle.deposit.specs.declared.rows.StopRow.{StopRow}
use Rattle.deposit.specs.declared.rows.ProfileRow.{ProfileRow}
use Rattle.deposit.specs.declared.rows.SpecialRow.{SpecialRow}
use Rattle.deposit.specs.declared.rows.LinkRow.{LinkRow}
use Rattle.deposit.specs.declared.rows.SectionRow.{SectionRow}
use Rattle.deposit.specs.declared.rows.UseRow.{UseRow}
use Rattle.deposit.specs.declared.rows.PatternRow.{PatternRow}
use Rattle.deposit.specs.declared.rows.OverrideRow.{OverrideRow}
use Rattle.deposit.specs.declared.rows.JourneyRow.{JourneyRow}

pub record Head : Type 0 where
  pub service : List ℕ
  pub revision : ℕ
  pub created : Moment
  pub modified : Option Moment
  pub modification : ℕ
  pub start : ℕ
  pub end : Option ℕ
  pub profile : Option ℕ

pub record Line : Type 0 where
  pub name : List ℕ
  pub outbound : List ℕ
  pub inbound : List ℕ

pub record Stop : Type 0 where
  pub code : List ℕ
  pub name : List ℕ

pub record Journey : Type 0 where
  pub code : List ℕ
  pub line : ℕ
  pub pattern : Option ℕ
  pub other : Option ℕ
  pub profile : Option ℕ
  pub departure : ℕ
  pub shift : ℕ
  pub first : ℕ
  pub overrides : ℕ

abbrev pub head_of : HeadRow → Head
head_of r = record { service = r.service.now; revision = r.revision; created = r.created; modified = r.modified; modification = r.modification; start = r.start; end = r.end; profile = r.profile }

abbrev pub line_of : LineRow → Line
line_of r = record { name = r.name.now; outbound = r.outbound.now; inbound = r.inbound.now }

abbrev pub stop_of : StopRow → Stop
stop_of r = record { code = r.code.now; name = r.name.now }

abbrev pub journey_of : JourneyRow → Journey
journey_of r = record { code = r.code.now; line = r.line; pattern = r.pattern; other = r.other; profile = r.profile; departure = r.departure; shift = r.day_shift; first = r.first_override; overrides = r.overrides }

abbrev pub no_head : Head
no_head = record { service = []; revision = 0; created = record { day = 0; second = 0 }; modified = None; modification = 0; start = 0; end = None; profile = None }

abbrev pub no_line : Line
no_line = record { name = []; outbound = []; inbound = [] }

abbrev pub no_stop : Stop
no_stop = record { code = []; name = [] }

abbrev pub no_profile : ProfileRow
no_profile = record { weekdays = 0; runs = 0; not_runs = 0; first_special = 0; specials = 0 }

abbrev pub no_special : SpecialRow
no_special = record { first = 0; last = 0; runs = 0 }

abbrev pub no_link : LinkRow
no_link = record { from = 0; to = 0; run = 0; from_wait = 0; to_wait = 0; from_activity = 0; to_activity = 0 }

abbrev pub no_section : SectionRow
no_section = record { first_link = 0; links = 0 }

abbrev pub no_use : UseRow
no_use = record { section = 0 }

abbrev pub no_pattern : PatternRow
no_pattern = record { direction = 0; first_use = 0; uses = 0 }

abbrev pub no_override : OverrideRow
no_override = record { position = 0; run = None; from_wait = None; to_wait = None }

abbrev pub no_journey : Journey
no_journey = record { code = []; line = 0; pattern = None; other = None; profile = None; departure = 0; shift = 0; first = 0; overrides = 0 }

pub record Deposit : Type 0 where
  pub heads : List Head
  pub lines : List Line
  pub stops : List Stop
  pub profiles : List ProfileRow
  pub specials : List SpecialRow
  pub links : List LinkRow
  pub sections : List SectionRow
  pub uses : List UseRow
  pub patterns : List PatternRow
  pub overrides : List OverrideRow
  pub journeys : List Journey

abbrev pub nothing : Deposit
nothing = record { heads = []; lines = []; stops = []; profiles = []; specials = []; links = []; sections = []; uses = []; patterns = []; overrides = []; journeys = [] }

abbrev pub count_of : Deposit → kind.Kind → ℕ
count_of d kinds.Head = length d.heads
count_of d kinds.Line = length d.lines
count_of d kinds.Stop = length d.stops
count_of d kinds.Profile = length d.profiles
count_of d kinds.Special = length d.specials
count_of d kinds.Link = length d.links
count_of d kinds.Section = length d.sections
count_of d kinds.Use = length d.uses
count_of d kinds.Pattern = length d.patterns
count_of d kinds.Override = length d.overrides
count_of d kinds.Journey = length d.journeys
