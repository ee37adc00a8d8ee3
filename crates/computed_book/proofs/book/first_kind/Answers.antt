use Rattle.std.proofs.Common.{◌≡◌, ap, ◌∙◌, rules}
use borrow.Author.Tests.{tests}
use Rattle.std.specs.Option.{option_map}
use Rattle.std.proofs.lemmas.Iterator.{YieldsList-from_slice}
use Rattle.std.proofs.lemmas.Iterator.Search.{find_from_yields_List}
use Rattle.calendar.specs.Kinds.{told_kind}
use Rattle.computed_book.specs.Rules.{keeps}
use Rattle.computed_book.proofs.Falls.{told_found}
use Rattle.computed_book.proofs.book.first_kind.Goals as goal

pub returns : goal.returns
returns c =
    let date = c.args.date in
    let kind : c.map.result ≡ option_map (λ h. h.kind) (option_map (λ h. h.now) c.find.result) = search rules in
    ap told_kind (kind ∙ ap (option_map (λ h. h.kind)) (find_from_yields_List (λ h. keeps h.rule c.args.day date.year date.month date.of_month) _ _ c.find.result c.find.ensures.ran (YieldsList-from_slice c.args.holidays.now cc) (λ x b q k. search (rules, tests)))) ∙ told_found c.args.holidays.now c.args.day date.year date.month date.of_month
