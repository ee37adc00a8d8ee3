-- Rows written and read again, and bytes read and written again. Assumes nothing.
--
--   Fits2, Fits4      what is given is not the number that stands for missing
--   HeadKept ..       a row of that kind is read again as it was written: its texts are short enough, and no value that is
--                     given looks like a missing one
--   Kept d            this of every row
--   SameRows          rows that are kept are written and read again as the same rows
--   SameBytes         bytes in form are read and written again as the same bytes
--   WorkedStop        a worked example: how the row of the stop 0600000102, Shop, begins
use Rattle.std.specs.Prelude.{◌≡◌, ℕ, ◌<◌, ◌≤◌, List, [], ◌∷◌, length, take, Some, None, codes, Option}
use Rattle.std.specs.List.{AllByRecursion}
use Rattle.times.specs.declared.moments.Moment.{Moment}
use Rattle.deposit.specs.declared.rows.OverrideRow.{OverrideRow}
use Rattle.deposit.specs.Deposit.{Head, Line, Stop, Journey, Deposit}
use Rattle.fields.specs.Forms.{field}
use Rattle.layout.specs.Layout.{missing2, missing4}
use Rattle.layout.specs.Reading.{decode}
use Rattle.layout.specs.Writing.{stop_body, encode}

abbrev pub Fits2 : Option ℕ → Type 0
Fits2 None = Unit {0}
Fits2 (Some n) = n < missing2

abbrev pub Fits4 : Option ℕ → Type 0
Fits4 None = Unit {0}
Fits4 (Some n) = n < missing4

abbrev pub MomentKept : Option Moment → Type 0
MomentKept None = Unit {0}
MomentKept (Some m) = (m.day < missing4) × (m.second < missing4)

pub record HeadKept (h : Head) : Type 0 where
  pub service : length h.service ≤ 24
  pub modified : MomentKept h.modified
  pub end : Fits4 h.end
  pub profile : Fits2 h.profile

pub record LineKept (l : Line) : Type 0 where
  pub name : length l.name ≤ 24
  pub outbound : length l.outbound ≤ 80
  pub inbound : length l.inbound ≤ 80

pub record StopKept (s : Stop) : Type 0 where
  pub code : length s.code ≤ 12
  pub name : length s.name ≤ 48

pub record OverrideKept (o : OverrideRow) : Type 0 where
  pub run : Fits4 o.run
  pub from_wait : Fits4 o.from_wait
  pub to_wait : Fits4 o.to_wait

pub record JourneyKept (j : Journey) : Type 0 where
  pub code : length j.code ≤ 24
  pub pattern : Fits2 j.pattern
  pub other : Fits2 j.other
  pub profile : Fits2 j.profile

pub record Kept (d : Deposit) : Type 0 where
  pub heads : AllByRecursion HeadKept d.heads
  pub lines : AllByRecursion LineKept d.lines
  pub stops : AllByRecursion StopKept d.stops
  pub overrides : AllByRecursion OverrideKept d.overrides
  pub journeys : AllByRecursion JourneyKept d.journeys

abbrev pub SameRows : Type 0
SameRows = (d : Deposit) → Kept d → decode (encode d) ≡ Some d

abbrev pub SameBytes : Type 0
SameBytes = (bs : List ℕ) → AllByRecursion (λ b. b < 256) bs → (d : Deposit) → decode bs ≡ Some d → encode d ≡ bs

abbrev pub WorkedStop : Type 0
WorkedStop = take 6 (field 3 (stop_body (record { code = codes "0600000102"; name = codes "Shop" }))) ≡ 3 ∷ 0 ∷ 20 ∷ 32 ∷ 0 ∷ 10 ∷ []
