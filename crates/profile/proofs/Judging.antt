-- The verdict is right: it finds nothing exactly where all rules hold, and otherwise the lowest row of the first broken rule.
-- Assumes nothing.
use Rattle.std.proofs.Common.{◌≡◌, ℕ, zero, suc, ◌+◌, ◌<◌, ◌≤◌, Bool, true, false, cond, List, [], ◌∷◌, Some, None, Option, sym, refl, subst, ⊎_elim, arith, rules as std_rules}
use Rattle.std.specs.Option.{option_map}
use Rattle.std.specs.List.{ContainsAt as Has, AllByRecursion as All}
use Rattle.std.proofs.lemmas.Bool.{cases_lt}
use Rattle.std.proofs.ByRecursion.{All-weaker, all-has}
use Rattle.std.proofs.lemmas.Bool.Decides.{not_from_Decides}
use Rattle.refusals.specs.declared.Kind.{Kind}
use Rattle.refusals.specs.declared.Rule.{Rule}
use Rattle.refusals.specs.declared.Rule.TheVariants as rules-of
use Rattle.refusals.specs.declared.DepositFault as fault
use Rattle.refusals.specs.declared.DepositFault.TheVariants.{Breaks}
use Rattle.refusals.specs.Numbers.{kind_number, rule_number, rules}
use Rattle.deposit.specs.Deposit.{Deposit}
use Rattle.profile.specs.Firsts.{or_else, first_from, first_below, first_some}
use Rattle.rules.specs.Tests.{judged, subjects, kept}
use Rattle.rules.specs.Words.{Sound, Holds}
use Rattle.profile.specs.Verdict.{row_fault, rule_fault, verdict, Names, Judged}
use Rattle.rules.proofs.Decided.{sound_decides}

-- what a search through numbers found: nothing, and all pass, or the first that fails
abbrev Searched : (ℕ → Bool) → ℕ → ℕ → Option ℕ → Type 0
Searched test i n None = (k : ℕ) → i ≤ k → k < i + n → test k ≡ true
Searched test i n (Some m) = (m < i + n) × (test m ≡ false) × ((k : ℕ) → i ≤ k → k < m → test k ≡ true)

searched : (test : ℕ → Bool) (i n : ℕ) → Searched test i n (first_from test i n)
searched test i zero = λ k h l. absurd (omega arith)
searched test i (suc n) =
    elim (test i) as (λ t. test i ≡ t → Searched test i (suc n) (cond t (first_from test (i + 1) n) (Some i))) [
      | true ↦ λ e. onward (first_from test (i + 1) n) e (searched test (i + 1) n)
      | false ↦ λ e. (omega arith, e, λ k h l. absurd (omega arith))
    ]
    refl
  where
    at_or_past : (P : ℕ → Type 0) (i k : ℕ) → i ≤ k → P i → (i + 1 ≤ k → P k) → P k
    at_or_past P i k h here on = ⊎_elim (λ lt. on (omega arith)) (λ ge. let e : i ≡ k = omega arith in subst P e here) (cases_lt i k)

    onward : (o : Option ℕ) → test i ≡ true → Searched test (i + 1) n o → Searched test i (suc n) o
    onward None e s = λ k h l. at_or_past (λ x. test x ≡ true) i k h e (λ g. s k g (omega arith))
    onward (Some m) e s = (omega (arith, s.0), s.1, λ k h l. at_or_past (λ x. test x ≡ true) i k h e (λ g. s.2 k g l))

-- along a list in rising order of numbers: nothing found, and none has a fault, or the fault of one, and none of lower number has any
abbrev Rising : {X : Type 0} → (X → ℕ) → List X → Type 0
Rising num [] = Unit {0}
Rising num (x ∷ xs) = All (λ y. num x < num y) xs × Rising num xs

pub record Found {X F : Type 0} (f : X → Option F) (num : X → ℕ) (xs : List X) (y : F) : Type 0 where
  pub one : X
  pub among : Has xs one
  pub gives : f one ≡ Some y
  pub none_lower : All (λ x. num x < num one → f x ≡ None) xs

abbrev Walked : {X F : Type 0} → (X → Option F) → (X → ℕ) → List X → Option F → Type 0
Walked f num xs None = All (λ x. f x ≡ None) xs
Walked f num xs (Some y) = Found f num xs y

walked : {X F : Type 0} (f : X → Option F) (num : X → ℕ) (xs : List X) → Rising num xs → Walked f num xs (first_some f xs)
walked f num [] r = tt
walked {X} {F} f num (x ∷ xs) r =
    elim (f x) as (λ o. f x ≡ o → Walked f num (x ∷ xs) (or_else o (first_some f xs))) [
      | None ↦ λ e. onward (first_some f xs) e (walked f num xs r.1)
      | Some y ↦ λ e. record { one = x; among = (0, omega arith, λ d. refl); gives = e; none_lower = (λ h. absurd (omega arith), All-weaker (λ z. num x < num z) (λ z. num z < num x → f z ≡ None) (λ z h k. absurd (omega arith)) xs r.0) }
    ]
    refl
  where
    onward : (o : Option F) → f x ≡ None → Walked f num xs o → Walked f num (x ∷ xs) o
    onward None e w = (e, w)
    onward (Some y) e w = record { one = w.one; among = (suc w.among.0, omega (arith, w.among.1), w.among.2); gives = w.gives; none_lower = (λ _. e, w.none_lower) }

mapped_none : {A B : Type 0} (g : A → B) (o : Option A) → option_map g o ≡ None → o ≡ None
mapped_none g None e = refl
mapped_none g (Some x) e = cc

rising_kinds : (r : Rule) → Rising kind_number (judged r)
rising_kinds rules-of.Counts = search std_rules
rising_kinds rules-of.Ranges = search std_rules
rising_kinds rules-of.Revision = search std_rules
rising_kinds rules-of.Period = search std_rules
rising_kinds rules-of.Description = search std_rules
rising_kinds rules-of.Days = search std_rules
rising_kinds rules-of.Reference = search std_rules
rising_kinds rules-of.Joining = search std_rules
rising_kinds rules-of.Overriding = search std_rules
rising_kinds rules-of.Codes = search std_rules

rising_rules : Rising rule_number rules
rising_rules = search std_rules

-- a kind with no fault has only sound rows
none_sound : (r : Rule) (d : Deposit) (k : Kind) → row_fault r d k ≡ None → (n : ℕ) → n < subjects r d k → Sound r d k n
none_sound r d k e n h =
    let o : first_below (kept r d k) (subjects r d k) ≡ None = mapped_none (Breaks r k) (first_below (kept r d k) (subjects r d k)) e in
    let s : Searched (kept r d k) 0 (subjects r d k) None = subst (Searched (kept r d k) 0 (subjects r d k)) o (searched (kept r d k) 0 (subjects r d k)) in
    (sound_decides r d k n).0 (s n (omega arith) (omega arith))

none_holds : (d : Deposit) (r : Rule) → rule_fault d r ≡ None → Holds r d
unfolding rule_fault
none_holds d r e =
    All-weaker (λ k. row_fault r d k ≡ None) (λ k. (n : ℕ) → n < subjects r d k → Sound r d k n) (none_sound r d) (judged r)
    (subst (Walked (row_fault r d) kind_number (judged r)) e (walked (row_fault r d) kind_number (judged r) (rising_kinds r)))

mapped_some : {A B : Type 0} (g : A → B) (o : Option A) (y : B) → option_map g o ≡ Some y → (x : A) × (o ≡ Some x) × (y ≡ g x)
mapped_some g None y e = absurd (cc)
mapped_some g (Some x) y e = (x, refl, cc)

-- a kind's fault is its lowest row that is not sound
row_named : (r : Rule) (d : Deposit) (k : Kind) (n : ℕ) → first_below (kept r d k) (subjects r d k) ≡ Some n → (n < subjects r d k) × (Sound r d k n → ⊥) × ((m : ℕ) → m < n → Sound r d k m)
row_named r d k n e =
    let s : Searched (kept r d k) 0 (subjects r d k) (Some n) = subst (Searched (kept r d k) 0 (subjects r d k)) e (searched (kept r d k) 0 (subjects r d k)) in
    (omega (arith, s.0), not_from_Decides (kept r d k n) (sound_decides r d k n) s.1, λ m h. (sound_decides r d k m).0 (s.2 m (omega arith) h))

rule_named : (d : Deposit) (r : Rule) (e : fault.DepositFault) → All (λ q. rule_number q < rule_number r → rule_fault d q ≡ None) rules → rule_fault d r ≡ Some e → Names d e
unfolding rule_fault
rule_named d r e before f =
    let w : Found (row_fault r d) kind_number (judged r) e = subst (Walked (row_fault r d) kind_number (judged r)) f (walked (row_fault r d) kind_number (judged r) (rising_kinds r)) in
    let k = w.one in
    let m = mapped_some (Breaks r k) (first_below (kept r d k) (subjects r d k)) e w.gives in
    let s = row_named r d k m.0 m.1 in
    subst (Names d) (sym m.2)
    (record {
      judges = w.among;
      row = s.0;
      breaks = s.1;
      lower_rows = s.2;
      lower_kinds = All-weaker (λ j. kind_number j < kind_number k → row_fault r d j ≡ None) (λ j. kind_number j < kind_number k → (n : ℕ) → n < subjects r d j → Sound r d j n) (λ j g h. none_sound r d j (g h)) (judged r) w.none_lower;
      earlier_rules = All-weaker (λ q. rule_number q < rule_number r → rule_fault d q ≡ None) (λ q. rule_number q < rule_number r → Holds q d) (λ q g h. none_holds d q (g h)) rules before;
    })

-- a rule that holds has no fault
holds_none : (d : Deposit) (r : Rule) → Holds r d → rule_fault d r ≡ None
unfolding rule_fault
holds_none d r h = go (rule_fault d r) refl
  where
    go : (o : Option fault.DepositFault) → rule_fault d r ≡ o → rule_fault d r ≡ None
    go None e = e
    go (Some y) e =
        let w : Found (row_fault r d) kind_number (judged r) y = subst (Walked (row_fault r d) kind_number (judged r)) e (walked (row_fault r d) kind_number (judged r) (rising_kinds r)) in
        let m = mapped_some (Breaks r w.one) (first_below (kept r d w.one) (subjects r d w.one)) y w.gives in
        let s = row_named r d w.one m.0 m.1 in
        absurd (s.1 (all-has (λ k. (n : ℕ) → n < subjects r d k → Sound r d k n) (judged r) w.one h w.among m.0 s.0))

walk_judged : (d : Deposit) (v : Option fault.DepositFault) → Walked (rule_fault d) rule_number rules v → Judged d v
walk_judged d None w = record { right = record { holds = All-weaker (λ r. rule_fault d r ≡ None) (λ r. Holds r d) (none_holds d) rules w }; passing = λ _. refl }
walk_judged d (Some e) w = record {
  right = rule_named d w.one e w.none_lower w.gives;
  passing = λ p. absurd (cc (w.gives, holds_none d w.one (all-has (λ r. Holds r d) rules w.one p.holds w.among)));
}

pub judged_verdict : (d : Deposit) → Judged d (verdict d)
unfolding verdict
judged_verdict d = walk_judged d (first_some (rule_fault d) rules) (walked (rule_fault d) rule_number rules rising_rules)
