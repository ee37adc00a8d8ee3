use Rattle.std.proofs.Common.{ℕ, Bool, not, sym, ◌∙◌, rules, tests, arith}
use Rattle.std.proofs.lemmas.Iterator.{YieldsList-from_range}
use Rattle.std.proofs.lemmas.Iterator.Adapters.{option_map_id}
use Rattle.std.proofs.lemmas.Iterator.Search.{find_from_yields_List}
use Rattle.rules.specs.Tests.{subjects, kept}
use Rattle.profile.proofs.Searches.{find_first}
use Rattle.profile.proofs.check.first_row.Goals as goal

pub returns : goal.returns
returns g c =
    let d = g.C.Carrier.meaning c.args.c.now in
    let test : ℕ → Bool = kept c.args.rule d c.args.kind in
    let rows = subjects c.args.rule d c.args.kind in
    sym (option_map_id c.find.result)
    ∙ find_from_yields_List (λ k. not (test k)) _ _ c.find.result c.find.ensures.ran (YieldsList-from_range 0 rows rows (cc) (omega arith)) (λ x b q k. search (rules, tests))
    ∙ find_first test 0 rows
