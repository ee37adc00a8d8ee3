use Rattle.std.proofs.Common.{ap}
use Rattle.writing.specs.Puts.{padded}
use Rattle.writing.proofs.Putting.{then, put_as}
use Rattle.pieces.proofs.write.put_date.Goals as goal

pub returns : goal.returns
returns c =
    let year = put_as (ap (padded 4) c.from.ensures) c.put_digits-dash.ensures.bytes in
    let month = put_as (ap (padded 2) c.from-2.ensures) c.put_digits-second_dash.ensures.bytes in
    let day = put_as (ap (padded 2) c.from-3.ensures) c.put_digits.ensures.bytes in
    then year (then c.put_bytes-month_at.ensures.bytes (then month (then c.put_bytes-day_at.ensures.bytes day)))
