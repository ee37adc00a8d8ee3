use Rattle.std.proofs.Common.{ℕ, Bool, not, ◌∙◌, arith, rules, tests}
use Rattle.std.proofs.lemmas.Iterator.{YieldsList-from_range}
use Rattle.std.proofs.lemmas.Iterator.Search.{all_from_yields_List}
use Rattle.deposit.specs.Codes.{same_code}
use Rattle.rules.specs.Tests.{code_at}
use Rattle.rules.proofs.Walks.{none_all}
use Rattle.rules.proofs.codes.codes_kept.Goals as goal

pub returns : goal.returns
returns g c =
    let d = g.C.Carrier.meaning c.args.c.now in
    let test : ℕ → Bool = λ m. same_code (code_at d c.args.kind m) (code_at d c.args.kind c.args.row) in
    all_from_yields_List (λ m. not (test m)) _ _ _ c.all.ensures.ran (YieldsList-from_range 0 c.args.row c.args.row (cc) (omega arith)) (λ x b q k. search (rules, tests))
    ∙ none_all test c.args.row
