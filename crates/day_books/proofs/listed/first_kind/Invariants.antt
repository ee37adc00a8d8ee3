use Rattle.std.proofs.Common.{◌≡◌, drop}
use Rattle.day_books.specs.Entries.{first_kind}
use Rattle.day_books.proofs.listed.first_kind.Given as goal

abbrev pub invariant-loop-entry : goal.invariant-loop-entry
invariant-loop-entry l = first_kind (drop l.entry-index l.entries) l.day ≡ first_kind l.entries l.day
