-- The overrides of a journey and the earlier rows of a kind, one after another. Assumes nothing.
use Rattle.std.proofs.Common.{◌≡◌, ℕ, zero, suc, ◌+◌, ◌<◌, ◌≤◌, Bool, not, ◌&&◌, leb, List, ◌∷◌, None, sym, ap, ◌∙◌, arith}
use Rattle.std.specs.List.{list_all, range_with_len}
use Rattle.std.proofs.Math.Bool.{and_assoc, and-true}
use Rattle.std.proofs.lemmas.Bool.{cond-true, cond-false, le-leb, lt-leb}
use Rattle.deposit.specs.declared.rows.OverrideRow.{OverrideRow}
use Rattle.rules.specs.Tests.{none_below, rise_end}

module _ (least p : ℕ) (o : OverrideRow) (xs os : List OverrideRow) (s : xs ≡ o ∷ os) (e : p ≡ o.position) where
  pub rise_not : p < least → None ≡ rise_end least xs
  rise_not h =
      sym (ap (rise_end least) s ∙ cond-false (leb least o.position) (rise_end (o.position + 1) os) None (ap (leb least) (sym e) ∙ lt-leb least p h))

  pub rise_more : least ≤ p → rise_end least xs ≡ rise_end (p + 1) os
  rise_more h =
      ap (rise_end least) s
      ∙ cond-true (leb least o.position) (rise_end (o.position + 1) os) None (ap (leb least) (sym e) ∙ le-leb least p h)
      ∙ ap (λ q. rise_end (q + 1) os) (sym e)

-- none of the numbers below a, nor of the n from a on, passes a test
none_on : (test : ℕ → Bool) (a n : ℕ) → (none_below test a && list_all (λ m. not (test m)) (range_with_len a n)) ≡ none_below test (a + n)
none_on test a zero =
    let same : a ≡ a + 0 = omega arith in
    and-true (none_below test a) ∙ ap (none_below test) same
none_on test a (suc n) =
    let rest = list_all (λ m. not (test m)) (range_with_len (a + 1) n) in
    let next : suc a ≡ a + 1 = omega arith in
    let end : a + 1 + n ≡ a + suc n = omega arith in
    sym (and_assoc (none_below test a) (not (test a)) rest)
    ∙ ap (λ k. none_below test k && rest) next
    ∙ none_on test (a + 1) n
    ∙ ap (none_below test) end

pub none_all : (test : ℕ → Bool) (n : ℕ) → list_all (λ m. not (test m)) (range_with_len 0 n) ≡ none_below test n
none_all test n = let same : 0 + n ≡ n = omega arith in none_on test 0 n ∙ ap (none_below test) same
