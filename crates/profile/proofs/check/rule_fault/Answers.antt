use Rattle.std.proofs.Common.{rules, tests}
use Rattle.std.specs.Slice.Iter.{iter_rest}
use Rattle.refusals.specs.declared.Kind.TheVariants.{Head}
use Rattle.rules.specs.Tests.{judged}
use Rattle.profile.specs.Verdict.{row_fault, rule_fault}
use Rattle.profile.proofs.Searches.{first_from_find_map}
use Rattle.profile.proofs.check.rule_fault.Goals as goal

pub returns : goal.returns
unfolding rule_fault
returns g c =
    first_from_find_map (λ x. x.now) _ (row_fault c.args.rule (g.C.Carrier.meaning c.args.c.now)) Head _ (λ x o q k. search (rules, tests))
    c.iter.result iter_rest (judged c.args.rule) c.find_map.result c.iter.ensures.runs (cc) c.find_map.ensures.runs
