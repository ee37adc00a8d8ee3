-- A text at the front of a buffer. Assumes nothing.
use Rattle.std.proofs.Common.{◌≡◌, ℕ, ◌+◌, ◌≤◌, List, ◌++◌, length, take, drop, Ok, sym, ap, ◌∙◌, arith, length-append}
use Rattle.std.proofs.lemmas.List.{take_at}
use Rattle.writing.specs.Puts.{Put}
use Rattle.pieces.specs.Texts.{Written}

pub put_front : {text old new : List ℕ} {n : ℕ} → Put old 0 text new n → Written text old (Ok n) new
put_front {text} {old} {new} {n} p =
    let e : n ≡ length text = omega (arith, p.next) in
    let f : 0 + length text ≡ n = omega (arith, p.next) in
    (e, p.out ∙ ap (λ k. text ++ drop k old) f)

-- what a reader of the first n bytes finds
pub front_le : (text old new : List ℕ) (n : ℕ) → Written text old (Ok n) new → n ≤ length new
front_le text old new n w = omega (arith, w.0, ap length w.1 ∙ length-append text (drop n old))

pub front_is : (text old new : List ℕ) (n : ℕ) → Written text old (Ok n) new → take n new ≡ text
front_is text old new n w = ap (take n) w.1 ∙ take_at text (drop n old) n (sym w.0)
