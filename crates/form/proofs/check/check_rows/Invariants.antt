use Rattle.std.proofs.Common.{◌≡◌, length}
use Rattle.form.specs.Look.{rows_fault}
use Rattle.form.proofs.check.check_rows.Given as goal

abbrev pub invariant-loop-rest : goal.invariant-loop-rest
invariant-loop-rest l =
    rows_fault (length l.rows.bytes.now) 0 l.rows.place l.rows.bytes.now ≡ rows_fault (length l.rest.bytes.now) l.least l.rest.place l.rest.bytes.now

abbrev pub decreases-loop-rest : goal.decreases-loop-rest
decreases-loop-rest l = length l.rest.bytes.now
