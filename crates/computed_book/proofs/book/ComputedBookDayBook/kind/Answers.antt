use Rattle.std.proofs.Common.{◌≡◌, ◌<◌, IfSome, sym, ◌∙◌, subst, rules}
use Rattle.calendar.specs.Dates.{last_day}
use Rattle.calendar.specs.Made.{day_of}
use Rattle.calendar.specs.Kinds.{told_kind}
use Rattle.computed_book.proofs.Exact.{day_told, date_told, no_words}
use Rattle.computed_book.proofs.book.ComputedBookDayBook.kind.Goals as goal

pub returns-in_err-date-clause-words : goal.returns-in_err-date-clause-words
returns-in_err-date-clause-words c =
    let past : last_day < c.args.day = search rules in
    let none : told_kind c.from_residual.result ≡ 0 = search rules in
    rw none (no_words c.args.day past)

pub returns : goal.returns
returns c =
    let is = subst (λ o. IfSome o (λ date. c.args.day ≡ day_of date)) (sym c.ok.ensures.value ∙ c.in_ok-date.was) (day_told c.args.day c.of.result c.of.ensures.answer) in
    let told = date_told c.args.day c.in_ok-date.date (told_kind c.first_kind.result) is c.first_kind.ensures in
    record { meaning = told.0; words = told.1 }
