-- Digits from the last to the first, and how many a number has. Assumes nothing.
use Rattle.std.proofs.Common.{◌≡◌, ℕ, zero, suc, ◌+◌, ◌/◌, ◌%◌, ◌<◌, ◌≤◌, List, [], ◌∷◌, ◌++◌, length, get_or, take, drop, set, sym, refl, ap, ◌∙◌, subst, append_assoc, add-zero, add_assoc, add-one, arith, take-append-drop}
use Rattle.std.proofs.lemmas.List.{length_push, take_all, take_more, drop_more, drop_all, set_at, same_from_push, length-take-le}
use Rattle.writing.specs.Puts.{Put, padded}

pub padded_more : (w n : ℕ) → padded (w + 1) n ≡ padded w (n / 10) ++ ((48 + n % 10) ∷ [])
padded_more w n = ap (λ k. padded k n) (add-one w)

pub length-padded : (w n : ℕ) → length (padded w n) ≡ w
length-padded zero n = refl
length-padded (suc w) n = length_push (padded w (n / 10)) (48 + n % 10) ∙ ap (λ k. k + 1) (length-padded w (n / 10)) ∙ add-one w

-- all but the first i digits are written, and these are the digits of the rest
pub record WrittenFrom (old : List ℕ) (at w n : ℕ) (new : List ℕ) (i rest : ℕ) : Type 0 where
  pub within : i ≤ w
  pub ahead : padded i rest ≡ take i (padded w n)
  pub out : new ≡ take (at + i) old ++ (drop i (padded w n) ++ drop (at + w) old)

pub from_none : (old : List ℕ) (at w n i : ℕ) → at + w ≤ length old → i ≡ w → WrittenFrom old at w n old i n
from_none old at w n i h e =
    subst (λ k. WrittenFrom old at w n old k n) (sym e) (record {
      within = omega arith;
      ahead = sym (take_all w (padded w n) (omega (arith, length-padded w n)));
      out = sym (ap (λ l. take (at + w) old ++ (l ++ drop (at + w) old)) (drop_all w (padded w n) (omega (arith, length-padded w n))) ∙ take-append-drop (at + w) old);
    })

-- the digit before those that are written
from_more : (old : List ℕ) (at w n : ℕ) (new : List ℕ) (i rest : ℕ) → at + w ≤ length old → WrittenFrom old at w n new (i + 1) rest → WrittenFrom old at w n (set new (at + i) (48 + rest % 10)) i (rest / 10)
from_more old at w n new i rest h p =
    let all = padded w n in
    let back = drop (at + w) old in
    let lt : i < length all = omega (arith, length-padded w n, p.within) in
    let two = same_from_push (padded i (rest / 10)) (take i all) (48 + rest % 10) (get_or all i 0) (sym (padded_more i rest) ∙ p.ahead ∙ take_more all i 0 lt) in
    let front : take (at + (i + 1)) old ≡ take (at + i) old ++ get_or old (at + i) 0 ∷ [] =
    ap (λ k. take k old) (sym (add_assoc at i 1)) ∙ take_more old (at + i) 0 (omega (arith, p.within))
    in
    let was : new ≡ take (at + i) old ++ get_or old (at + i) 0 ∷ (drop (i + 1) all ++ back) =
    p.out ∙ ap (λ l. l ++ (drop (i + 1) all ++ back)) front ∙ append_assoc (take (at + i) old) (get_or old (at + i) 0 ∷ []) (drop (i + 1) all ++ back)
    in
    record {
      within = omega (arith, p.within);
      ahead = two.0;
      out =
          ap (λ l. set l (at + i) (48 + rest % 10)) was
          ∙ set_at (take (at + i) old) (get_or old (at + i) 0) (drop (i + 1) all ++ back) (48 + rest % 10) (at + i) (length-take-le (at + i) old (omega (arith, p.within)))
          ∙ ap (λ b. take (at + i) old ++ b ∷ (drop (i + 1) all ++ back)) two.1
          ∙ ap (λ l. take (at + i) old ++ (l ++ back)) (sym (drop_more all i 0 lt));
    }

-- the same at its place
pub from_place : (old : List ℕ) (at w n : ℕ) (new : List ℕ) (rest i j place : ℕ) → at + w ≤ length old → j ≡ i + 1 → place ≡ at + i → WrittenFrom old at w n new j rest → WrittenFrom old at w n (set new place (48 + rest % 10)) i (rest / 10)
from_place old at w n new rest i j place h e f p =
    subst (λ k. WrittenFrom old at w n (set new k (48 + rest % 10)) i (rest / 10)) (sym f) (from_more old at w n new i rest h (subst (λ k. WrittenFrom old at w n new k rest) e p))

pub from_all : (old : List ℕ) (at w n : ℕ) (new : List ℕ) (i rest : ℕ) → at + w ≤ length old → WrittenFrom old at w n new i rest → i ≡ 0 → Put old at (padded w n) new (at + w)
from_all old at w n new i rest h p e = record {
  room = omega (arith, length-padded w n);
  next = ap (λ k. at + k) (sym (length-padded w n));
  out =
      p.out
      ∙ ap (λ k. take (at + k) old ++ (drop k (padded w n) ++ drop (at + w) old)) e
      ∙ ap (λ k. take k old ++ (padded w n ++ drop (at + w) old)) (add-zero at)
      ∙ ap (λ k. take at old ++ (padded w n ++ drop (at + k) old)) (sym (length-padded w n));
}
