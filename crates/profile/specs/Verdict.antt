-- The verdict on a deposit. Assumes nothing.
--
--   row_fault    the lowest row of a kind that breaks a rule
--   rule_fault   the lowest kind and row that break a rule
--   verdict      the first broken rule with its lowest kind and row, or nothing
--   checked      what the check answers: done, or the refusal with the fault
--   Passes d     all ten rules hold
--   Names d f    the fault names a row that its rule judges and that breaks it, while every earlier rule holds, every lower row of
--                its kind is sound, and every row of a lower kind that the rule judges is
--   Judged d v   a verdict is right: nothing exactly where the deposit passes, and otherwise a fault that names its row
use Rattle.std.specs.Prelude.{◌≡◌, ℕ, ◌<◌, Some, None, Ok, Err, Option, Result, MatchOption}
use Rattle.std.specs.Option.{option_map}
use Rattle.std.specs.List.{ContainsAt, AllByRecursion}
use Rattle.refusals.specs.declared.Kind.{Kind}
use Rattle.refusals.specs.declared.Rule.{Rule}
use Rattle.refusals.specs.declared.DepositFault as fault
use Rattle.refusals.specs.declared.DepositFault.TheVariants.{Breaks}
use Rattle.refusals.specs.declared.Refusal as refusal
use Rattle.refusals.specs.declared.Refusal.TheVariants as refused
use Rattle.refusals.specs.Numbers.{kind_number, rule_number, rules}
use Rattle.deposit.specs.Deposit.{Deposit}
use Rattle.profile.specs.Firsts.{first_below, first_some}
use Rattle.rules.specs.Tests.{judged, subjects, kept}
use Rattle.rules.specs.Words.{Sound, Holds}

abbrev pub row_fault : Rule → Deposit → Kind → Option fault.DepositFault
row_fault r d k = option_map (Breaks r k) (first_below (kept r d k) (subjects r d k))

unfoldable pub rule_fault : Deposit → Rule → Option fault.DepositFault
rule_fault d r = first_some (row_fault r d) (judged r)

unfoldable pub verdict : Deposit → Option fault.DepositFault
verdict d = first_some (rule_fault d) rules

abbrev pub checked : Option fault.DepositFault → Result (Unit {0}) refusal.Refusal
checked None = Ok tt
checked (Some f) = Err (refused.Deposit f)

pub record Passes (d : Deposit) : Type 0 where
  pub holds : AllByRecursion (λ r. Holds r d) rules

pub record NamesRow (d : Deposit) (r : Rule) (k : Kind) (n : ℕ) : Type 0 where
  pub judges : ContainsAt (judged r) k
  pub row : n < subjects r d k
  pub breaks : Sound r d k n → ⊥
  pub lower_rows : (m : ℕ) → m < n → Sound r d k m
  pub lower_kinds : AllByRecursion (λ j. kind_number j < kind_number k → (m : ℕ) → m < subjects r d j → Sound r d j m) (judged r)
  pub earlier_rules : AllByRecursion (λ q. rule_number q < rule_number r → Holds q d) rules

abbrev pub Names : Deposit → fault.DepositFault → Type 0
Names d (Breaks r k n) = NamesRow d r k n

pub record Judged (d : Deposit) (v : Option fault.DepositFault) : Type 0 where
  pub right : MatchOption v (Passes d) (Names d)
  pub passing : Passes d → v ≡ None
