use Rattle.std.proofs.Common.{sym, ◌∙◌, arith, rules}
use Rattle.std.proofs.lemmas.List.{at_drop_all}
use Rattle.day_books.specs.Entries.{first_kind}
use Rattle.day_books.proofs.Firsts.{first_here, first_more}
use Rattle.day_books.proofs.listed.first_kind.Goals as goal

pub returns-then-entry-day : goal.returns-then-entry-day
returns-then-entry-day c = search (rules, first_here)

pub loop-entry-preserved : goal.loop-entry-preserved
loop-entry-preserved c = search (rules, first_more)

pub returns : goal.returns
returns c =
    sym (sym c.loop-entry.invariant ∙ at_drop_all (λ xs. first_kind xs c.args.day) c.args.entries.now c.loop-entry.entry-index (omega arith))
