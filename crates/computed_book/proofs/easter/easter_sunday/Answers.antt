use Rattle.std.proofs.Common.{rules}
use Rattle.computed_book.proofs.Paschals.{easter_told}
use Rattle.computed_book.proofs.easter.easter_sunday.Goals as goal

pub returns : goal.returns
returns c =
    let t = easter_told c.args.year c.easter_date-month.result c.join.result c.easter_date-month.ensures (search rules) (search rules) c.join.ensures.answer in
    record { answer = t.0; feast = t.1 }
