use Rattle.std.proofs.Common.{◌≡◌, sym, subst, rules, tests}
use Rattle.std.specs.Slice.Iter.{iter_rest}
use Rattle.refusals.specs.Numbers.{rules as every_rule}
use Rattle.refusals.specs.declared.Rule.TheVariants.{Counts}
use Rattle.profile.specs.Verdict.{rule_fault, verdict, Judged}
use Rattle.profile.proofs.Judging.{judged_verdict}
use Rattle.profile.proofs.Searches.{first_from_find_map}
use Rattle.profile.proofs.check.verdict.Goals as goal

pub returns : goal.returns
unfolding verdict
returns g c =
    let d = g.C.Carrier.meaning c.args.c.now in
    let v : c.find_map.result ≡ verdict d =
    first_from_find_map (λ x. x.now) _ (rule_fault d) Counts _ (λ x o q k. search (rules, tests))
    c.iter.result iter_rest every_rule c.find_map.result c.iter.ensures.runs (cc) c.find_map.ensures.runs in
    record { value = v; words = subst (Judged d) (sym v) (judged_verdict d) }
