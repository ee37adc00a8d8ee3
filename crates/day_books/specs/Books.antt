-- The listed book. Assumes nothing.
--
--   listed               the entries of a book: the first `count` rows of its list
--   book_kind            what the book tells of a day
--   book_few, book_ends  the laws of a day book, of it
--   Added                what a book is after an entry was offered, by the answer: accepted, the entry is put in its place among
--                        the entries; refused, the list was full, and list and entries are what they were
use Rattle.std.specs.Prelude.{◌≡◌, ℕ, ◌<◌, ◌≤◌, List, take, Ok, Err, Result, nat_le}
use Rattle.std.proofs.Common.{arith}
use Rattle.std.proofs.lemmas.Bool.{cond_both, cond-false, leb-true, lt-leb}
use Rattle.refusals.specs.declared.Refusal.{Refusal}
use Rattle.ranked.specs.Placing.{Inserted}
use Rattle.calendar.specs.Dates.{last_day}
use Rattle.calendar.specs.Kinds.{greatest_kind, kind_told}
use Rattle.day_books.specs.declared.dated.DatedKind.{DatedKind}
use Rattle.day_books.specs.declared.listed.ListedBook.{ListedBook}
use Rattle.day_books.specs.Entries.{no_later, first_kind, told_by, kind_by}

abbrev pub listed : ListedBook → List DatedKind
listed book = take book.count book.entries.now

abbrev pub book_kind : ListedBook → ℕ → ℕ
book_kind book day = kind_by (listed book) day

told_few : (n : ℕ) → kind_told n ≤ greatest_kind
told_few n = cond_both (nat_le n greatest_kind) n 0 (λ k. k ≤ greatest_kind) (λ e. leb-true n greatest_kind e) (λ _. omega arith)

pub book_few : (book : ListedBook) (day : ℕ) → book_kind book day ≤ greatest_kind
book_few book day = cond_both (nat_le day last_day) (told_by (listed book) day) 0 (λ k. k ≤ greatest_kind) (λ _. told_few (first_kind (listed book) day)) (λ _. omega arith)

pub book_ends : (book : ListedBook) (day : ℕ) → last_day < day → book_kind book day ≡ 0
book_ends book day h = cond-false (nat_le day last_day) (told_by (listed book) day) 0 (lt-leb day last_day h)

abbrev pub Added : DatedKind → ListedBook → ListedBook → Result (Unit {0}) Refusal → Type 0
Added x old new (Ok u) = Inserted no_later x old.count old.entries.now new.entries.now (Ok new.count)
Added x old new (Err e) = Inserted no_later x old.count old.entries.now new.entries.now (Err e) × (new.count ≡ old.count)
