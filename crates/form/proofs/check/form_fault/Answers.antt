use Rattle.std.proofs.Common.{◌∙◌}
use Rattle.form.proofs.Exact.{told}
use Rattle.form.proofs.check.form_fault.Goals as goal

pub returns-clause-told : goal.returns-clause-told
returns-clause-told c = told c.args.bytes.now c.err.result (c.err.ensures.value ∙ c.check_form.ensures)
