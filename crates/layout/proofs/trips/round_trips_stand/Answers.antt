use Rattle.std.proofs.Common.{refl}
use Rattle.layout.proofs.SameRows.{same_rows}
use Rattle.layout.proofs.SameBytes.{same_bytes}
use Rattle.layout.proofs.trips.round_trips_stand.Goals as goal

pub returns : goal.returns
returns c = record { rows = same_rows; bytes = same_bytes; worked = refl }
