use Rattle.encoding.proofs.Written.{written}
use Rattle.encoding.proofs.write.write.Goals as goal

pub returns-clause-bytes : goal.returns-clause-bytes
returns-clause-bytes g c =
    rw (← c.in_ok-rows.ensures.rows) (written _ c.in_ok-rows.rows.passes c.length-content.ensures c.if-out-at.false (rw c.then.ensures at c.put-head.ensures) c.put-end.ensures).bytes

pub returns-clause-again : goal.returns-clause-again
returns-clause-again g c =
    rw (← c.in_ok-rows.ensures.rows) (written _ c.in_ok-rows.rows.passes c.length-content.ensures c.if-out-at.false (rw c.then.ensures at c.put-head.ensures) c.put-end.ensures).again
