use Rattle.std.proofs.Common.{◌≡◌, ◌+◌, take, sym, refl, ap, ◌∙◌}
use Rattle.ranked.specs.Placing.{placed}
use Rattle.ranked.proofs.Places.{front}
use Rattle.day_books.specs.Entries.{dated, no_later, kind_by}
use Rattle.day_books.proofs.Firsts.{kind_placed}
use Rattle.day_books.proofs.listed.ListedBook.add.Goals as goal

pub returns : goal.returns
returns c =
    let book = c.args.self.now in
    let entry = dated c.args.day c.args.kind in
    let told = c.in_ok-self.ensures in
    let is : placed no_later entry (take book.count book.entries.now) ≡ take (book.count + 1) c.insert.new.rows =
    front no_later entry book.entries.now c.insert.new.rows book.count told.rows.0 told.rows.2 in
    record {
      answer = told.rows;
      order = told.order c.args.self.now.ordered;
      holds = told.holds;
      after = λ d. ap (λ xs. kind_by xs d) (ap (λ n. take n c.insert.new.rows) told.rows.1 ∙ sym is) ∙ kind_placed entry (take book.count book.entries.now) d;
      same = refl;
    }
