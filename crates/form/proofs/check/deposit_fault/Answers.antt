use Rattle.std.proofs.Common.{◌∙◌}
use Rattle.form.proofs.Exact.{told_at}
use Rattle.form.proofs.check.deposit_fault.Goals as goal

pub returns-clause-told : goal.returns-clause-told
returns-clause-told c =
    rw (← c.new.ensures.place, ← c.new.ensures.bytes) (told_at c.new.result.place c.new.result.bytes.now c.err.result (c.err.ensures.value ∙ c.due_deposit.ensures.fault))
