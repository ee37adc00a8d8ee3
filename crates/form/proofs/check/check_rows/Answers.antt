use Rattle.std.proofs.Common.{sym, ◌∙◌}
use Rattle.form.proofs.Onward.{rows_row}
use Rattle.form.proofs.check.check_rows.Goals as goal

pub loop-rest-preserved : goal.loop-rest-preserved
loop-rest-preserved c =
    rw (c.behind-rest.ensures.place, c.behind-rest.ensures.bytes) (c.loop-rest.invariant ∙ rows_row c.loop-rest.least c.loop-rest.rest.place c.loop-rest.rest.bytes.now c.in_ok-row.row (sym c.in_ok-row.ensures.fault) c.in_ok-row.ensures.row)
