-- A deposit that passes is fit to be written. Assumes nothing.
use Rattle.std.proofs.Common.{◌≡◌, ℕ, ◌<◌, ◌≤◌, false, is_some, Some, None, Option, MatchOption, sym, arith}
use Rattle.std.proofs.lemmas.Bool.{false≢true}
use Rattle.std.specs.List.{AllByRecursion as All}
use Rattle.refusals.specs.declared.Kind as kind
use Rattle.refusals.specs.declared.Kind.TheVariants as kinds
use Rattle.refusals.specs.declared.Rule.TheVariants as rule
use Rattle.refusals.specs.Numbers as numbers
use Rattle.deposit.specs.Deposit.{Deposit, count_of}
use Rattle.rules.specs.Tests.{most_rows}
use Rattle.rules.specs.Words.{Counted, Sound}
use Rattle.refusals.specs.declared.DepositFault.{DepositFault}
use Rattle.profile.specs.Verdict.{verdict, Passes, Names}
use Rattle.profile.proofs.Judging.{judged_verdict}
use Rattle.encoding.specs.Rows.{Fit}

-- what holds of every kind in the list of kinds holds of each
at_kind : (P : kind.Kind → Type 0) → All P numbers.kinds → (k : kind.Kind) → P k
at_kind P a kinds.Head = a.0
at_kind P a kinds.Line = a.1.0
at_kind P a kinds.Stop = a.1.1.0
at_kind P a kinds.Profile = a.1.1.1.0
at_kind P a kinds.Special = a.1.1.1.1.0
at_kind P a kinds.Link = a.1.1.1.1.1.0
at_kind P a kinds.Section = a.1.1.1.1.1.1.0
at_kind P a kinds.Use = a.1.1.1.1.1.1.1.0
at_kind P a kinds.Pattern = a.1.1.1.1.1.1.1.1.0
at_kind P a kinds.Override = a.1.1.1.1.1.1.1.1.1.0
at_kind P a kinds.Journey = a.1.1.1.1.1.1.1.1.1.1.0

few_rows : (k : kind.Kind) (n : ℕ) → Counted k n → n ≤ most_rows
few_rows kinds.Head n h = omega arith
few_rows kinds.Line n h = h.1
few_rows kinds.Stop n h = h.1
few_rows kinds.Profile n h = h
few_rows kinds.Special n h = h
few_rows kinds.Link n h = h
few_rows kinds.Section n h = h
few_rows kinds.Use n h = h
few_rows kinds.Pattern n h = h
few_rows kinds.Override n h = h
few_rows kinds.Journey n h = h.1

pub passes_fit : (d : Deposit) → Passes d → Fit d
passes_fit d p = record {
  few = λ k. few_rows k (count_of d k) (at_kind (λ j. (n : ℕ) → n < 1 → Sound rule.Counts d j n) p.holds.0 k 0 (omega arith));
  in_range = at_kind (λ j. (n : ℕ) → n < count_of d j → Sound rule.Ranges d j n) p.holds.1.0;
}

-- a deposit that no fault is found in passes
passes_none : (d : Deposit) (v : Option DepositFault) → is_some v ≡ false → MatchOption v (Passes d) (Names d) → Passes d
passes_none d None h m = m
passes_none d (Some f) h m = absurd (false≢true (sym h))

pub judged_fit : (d : Deposit) → is_some (verdict d) ≡ false → Fit d
judged_fit d h = passes_fit d (passes_none d (verdict d) h (judged_verdict d).right)
