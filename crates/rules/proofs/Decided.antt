-- Each rule's test of a row decides what its words say. Assumes nothing.
use Rattle.std.proofs.Common.{◌≡◌, ℕ, zero, suc, ◌+◌, ◌-◌, ◌<◌, ◌≤◌, Bool, true, false, cond, not, eqb, ltb, leb, List, [], ◌∷◌, length, get_or, is_some, Some, None, Decides, Option, sym, refl, ap, le_of_suc-le-suc, arith, rules}
use lib.Bits.{bit_and}
use Rattle.std.proofs.lemmas.Bool.{leb-true, leb-false, eqb-true, eqb-false, false≢true}
use Rattle.std.proofs.lemmas.Slice.Eq.{compares_Decides}
use Rattle.std.proofs.Math.Bool.{and_comm}
use Rattle.std.proofs.lemmas.Bool.Decides.{Decides-or, Decides-not, Decides-below_and, Decides-eqb, Decides-ltb, Decides-like}
use Rattle.times.specs.declared.moments.Moment.{Moment}
use Rattle.times.specs.Moments.{later}
use Rattle.refusals.specs.declared.Kind as kind
use Rattle.refusals.specs.declared.Kind.TheVariants as kinds
use Rattle.refusals.specs.declared.Rule as rule
use Rattle.refusals.specs.declared.Rule.TheVariants as rules
use Rattle.deposit.specs.declared.rows.LinkRow.{LinkRow}
use Rattle.deposit.specs.declared.rows.OverrideRow.{OverrideRow}
use Rattle.deposit.specs.Deposit.{Head, Deposit, count_of, no_link, no_override}
use Rattle.deposit.specs.Codes.{same_code}
use Rattle.patterns.specs.Links.{links_of}
use Rattle.patterns.specs.Journeys.{steps_to_pattern, overrides_of}
use Rattle.ranges.proofs.Decided.{decides_leb, both, decides_given, decides_between, range_decides}
use Rattle.rules.specs.Tests.{none_below, most_rows, most_links, head_at, line_at, profile_at, special_at, journey_at, count_kept, same_moment, modified_later, revision_kept, days_kept, leads, leads_lower, reference_kept, follows, joined, links_along, rise_end, ends_by, code_at, codes_kept, kept}
use Rattle.rules.specs.Words.{IsGiven, Named, Counted, Revised, DaysAgree, OneOf, Leads, Referred, Meets, Joins, Overrides, Distinct, Sound}

decides_some : {X : Type 0} (o : Option X) → Decides (is_some o) (IsGiven o)
decides_some None = (λ e. absurd (false≢true e), λ b. absurd b)
decides_some (Some x) = (λ _. tt, λ _. refl)

decides_true : Decides true (Unit {0})
decides_true = (λ _. tt, λ _. refl)

counted_decides : (k : kind.Kind) (n : ℕ) → Decides (count_kept k n) (Counted k n)
counted_decides kinds.Head n = Decides-eqb n 1
counted_decides kinds.Line n = decides_between 1 most_rows n
counted_decides kinds.Stop n = decides_between 1 most_rows n
counted_decides kinds.Profile n = decides_leb n most_rows
counted_decides kinds.Special n = decides_leb n most_rows
counted_decides kinds.Link n = decides_leb n most_rows
counted_decides kinds.Section n = decides_leb n most_rows
counted_decides kinds.Use n = decides_leb n most_rows
counted_decides kinds.Pattern n = decides_leb n most_rows
counted_decides kinds.Override n = decides_leb n most_rows
counted_decides kinds.Journey n = decides_between 1 most_rows n

-- two moments are one if their days and seconds are
same_decides : (x y : Moment) → Decides (same_moment x y) (y ≡ x)
same_decides x y =
    Decides-like _ (λ p. one x y p.0 p.1) (λ e. (ap (λ m. m.day) (sym e), ap (λ m. m.second) (sym e)))
    (both (Decides-eqb x.day y.day) (Decides-eqb x.second y.second))
  where
    one : (x y : Moment) → x.day ≡ y.day → x.second ≡ y.second → y ≡ x
    one x y a b = λ i. record { day = sym a i; second = sym b i }

later_decides : (created : Moment) (o : Option Moment) → Decides (modified_later created o) (Named (λ m. later m created ≡ true) o)
later_decides created None = (λ e. absurd (false≢true e), λ b. absurd b)
later_decides created (Some m) = (λ e. e, λ e. e)

-- a choice by a number that is 0 or not
decides_zero : (n : ℕ) {x y : Bool} {P Q : Type 0} → Decides x P → Decides y Q → Decides (cond (eqb n 0) x y) ((n ≡ 0 → P) × (0 < n → Q))
decides_zero n {x} {y} {P} {Q} p q =
    elim (eqb n 0) as (λ t. eqb n 0 ≡ t → Decides (cond t x y) ((n ≡ 0 → P) × (0 < n → Q))) [
      | true ↦ λ e. let z : n ≡ 0 = eqb-true n 0 e in (λ t. (λ _. p.0 t, λ h. absurd (omega arith)), λ r. p.1 (r.0 z))
      | false ↦ λ e. let z : 0 < n = positive n (eqb-false n 0 e) in (λ t. (λ h. absurd (omega arith), λ _. q.0 t), λ r. q.1 (r.1 z))
    ]
    refl
  where
    positive : (n : ℕ) → (n ≡ 0 → ⊥) → 0 < n
    positive zero f = absurd (f refl)
    positive (suc n) f = omega arith

revised_decides : (h : Head) → Decides (revision_kept h) (Revised h)
revised_decides h =
    Decides-like _ (λ p. record { first_issue = p.0; revision = p.1 }) (λ r. (r.first_issue, r.revision))
    (decides_zero h.revision
    (both (Decides-eqb h.modification 1) (decides_given (same_moment h.created) (λ m. m ≡ h.created) (same_decides h.created) h.modified))
    (both (Decides-eqb h.modification 2) (later_decides h.created h.modified)))

days_decides : (d : Deposit) (k : kind.Kind) (n : ℕ) → Decides (days_kept d k n) (DaysAgree d k n)
days_decides d kinds.Head n = decides_true
days_decides d kinds.Line n = decides_true
days_decides d kinds.Stop n = decides_true
days_decides d kinds.Profile n = Decides-eqb (bit_and (profile_at d n).runs (profile_at d n).not_runs) 0
days_decides d kinds.Special n = decides_leb (special_at d n).first (special_at d n).last
days_decides d kinds.Link n = decides_true
days_decides d kinds.Section n = decides_true
days_decides d kinds.Use n = decides_true
days_decides d kinds.Pattern n = decides_true
days_decides d kinds.Override n = decides_true
days_decides d kinds.Journey n = decides_true

one_decides : (p o : Option ℕ) → Decides (cond (is_some p) (not (is_some o)) (is_some o)) (OneOf p o)
one_decides None None = (λ e. absurd (false≢true e), λ b. absurd b)
one_decides None (Some y) = decides_true
one_decides (Some x) None = decides_true
one_decides (Some x) (Some y) = (λ e. absurd (false≢true e), λ b. absurd b)

lower_decides : (leads : ℕ → Bool) (P : ℕ → Type 0) (n : ℕ) → ((o : ℕ) → Decides (leads o) (P o)) → (o : Option ℕ) → Decides (leads_lower leads n o) (Named (λ m. (m < n) × P m) o)
lower_decides leads P n each None = (λ e. absurd (false≢true e), λ b. absurd b)
lower_decides leads P n each (Some m) = both (Decides-ltb m n) (each m)

leads_decides : (s : ℕ) (d : Deposit) (n : ℕ) → Decides (leads s d n) (Leads s d n)
leads_decides zero d n = decides_some (journey_at d n).pattern
leads_decides (suc s) d n =
    Decides-or (is_some (journey_at d n).pattern) (leads_lower (leads s d) n (journey_at d n).other) (decides_some (journey_at d n).pattern)
    (lower_decides (leads s d) (Leads s d) n (leads_decides s d) (journey_at d n).other)

referred_decides : (d : Deposit) (n : ℕ) → Decides (reference_kept d n) (Referred d n)
referred_decides d n =
    Decides-like _ (λ p. record { one = p.0; leads = p.1.0; profile = p.1.1 }) (λ r. (r.one, (r.leads, r.profile)))
    (both (one_decides (journey_at d n).pattern (journey_at d n).other)
    (both (leads_decides steps_to_pattern d n)
    (Decides-or (is_some (journey_at d n).profile) (is_some (head_at d 0).profile) (decides_some (journey_at d n).profile) (decides_some (head_at d 0).profile))))

-- links that follow one another, from the one before on
abbrev Follows : Option LinkRow → LinkRow → Type 0
Follows None m = Unit {0}
Follows (Some l) m = Meets l m

abbrev Chain : Option LinkRow → List LinkRow → Type 0
Chain before [] = Unit {0}
Chain before (l ∷ ls) = Follows before l × Chain (Some l) ls

follows_decides : (before : Option LinkRow) (m : LinkRow) → Decides (follows before m) (Follows before m)
follows_decides None m = decides_true
follows_decides (Some l) m = both (Decides-eqb l.to m.from) (Decides-eqb l.to_activity m.from_activity)

joined_decides : (left : ℕ) (before : Option LinkRow) (ls : List LinkRow) → Decides (joined left before ls) ((length ls ≤ left) × Chain before ls)
joined_decides left before [] = (λ _. (omega arith, tt), λ _. refl)
joined_decides left before (l ∷ ls) =
    Decides-like _ (λ p. (fits left (length ls) p.0.0 p.1.0, (p.0.1, p.1.1))) (λ r. ((some left (length ls) r.0, r.1.0), (rest left (length ls) r.0, r.1.1)))
    (both (both (Decides-ltb 0 left) (follows_decides before l)) (joined_decides (left - 1) (Some l) ls))
  where
    fits : (a n : ℕ) → 0 < a → n ≤ a - 1 → suc n ≤ a
    fits a n h k = omega arith

    some : (a n : ℕ) → suc n ≤ a → 0 < a
    some a n h = omega arith

    rest : (a n : ℕ) → suc n ≤ a → n ≤ a - 1
    rest a n h = omega arith

abbrev Adjacent : List LinkRow → Type 0
Adjacent ls = (k : ℕ) → k + 1 < length ls → Meets (get_or ls k no_link) (get_or ls (k + 1) no_link)

adjacent_chain : (l : LinkRow) (ls : List LinkRow) → Chain (Some l) ls → Adjacent (l ∷ ls)
adjacent_chain l [] c k h = absurd (omega arith)
adjacent_chain l (m ∷ ms) c zero h = c.0
adjacent_chain l (m ∷ ms) c (suc k) h =
    let e : suc k + 1 ≡ suc (k + 1) = omega arith in
    rw e (adjacent_chain m ms c.1 k (omega arith))

chain_adjacent : (l : LinkRow) (ls : List LinkRow) → Adjacent (l ∷ ls) → Chain (Some l) ls
chain_adjacent l [] a = tt
chain_adjacent l (m ∷ ms) a = (a 0 (omega arith), chain_adjacent m ms (λ k h. let e : suc k + 1 ≡ suc (k + 1) = omega arith in rw e at (a (suc k) (omega arith))))

chains : (ls : List LinkRow) → (Chain None ls → Adjacent ls) × (Adjacent ls → Chain None ls)
chains [] = (λ _ k h. absurd (omega arith), λ _. tt)
chains (l ∷ ls) = (λ c. adjacent_chain l ls c.1, λ a. (tt, chain_adjacent l ls a))

joins_decides : (ls : List LinkRow) → Decides (joined most_links None ls) (Joins ls)
joins_decides ls =
    Decides-like _ (λ p. record { few = p.0; joins = (chains ls).0 p.1 }) (λ r. (r.few, (chains ls).1 r.joins)) (joined_decides most_links None ls)

-- positions that rise from a least one and lie below a number of links
abbrev Fit : ℕ → ℕ → List OverrideRow → Type 0
Fit links least [] = Unit {0}
Fit links least (o ∷ os) = (least ≤ o.position) × ((o.position < links) × Fit links (o.position + 1) os)

rise_decides : (links least : ℕ) (os : List OverrideRow) → Decides (ends_by links (rise_end least os)) ((least ≤ links) × Fit links least os)
rise_decides links least [] = Decides-like _ (λ h. (h, tt)) (λ p. p.0) (decides_leb least links)
rise_decides links least (o ∷ os) =
    elim (leb least o.position) as (λ t. leb least o.position ≡ t → Decides (ends_by links (cond t (rise_end (o.position + 1) os) None)) ((least ≤ links) × Fit links least (o ∷ os))) [
      | true ↦ λ e.
          let h = leb-true least o.position e in
          Decides-like _ (λ p. (low links least o.position h p.0, (h, (inside links o.position p.0, p.1)))) (λ r. (back links o.position r.1.1.0, r.1.1.1)) (rise_decides links (o.position + 1) os)
      | false ↦ λ e. (λ x. absurd (false≢true x), λ r. absurd (never least o.position (leb-false least o.position e) r.1.0))
    ]
    refl
  where
    low : (n a p : ℕ) → a ≤ p → p + 1 ≤ n → a ≤ n
    low n a p h k = omega arith

    inside : (n p : ℕ) → p + 1 ≤ n → p < n
    inside n p h = omega arith

    back : (n p : ℕ) → p < n → p + 1 ≤ n
    back n p h = omega arith

    never : (a p : ℕ) → p < a → a ≤ p → ⊥
    never a p h k = omega arith

fit_rises : (links least : ℕ) (os : List OverrideRow) → Fit links least os → (k : ℕ) → k + 1 < length os → (get_or os k no_override).position < (get_or os (k + 1) no_override).position
fit_rises links least [] f k h = absurd (omega arith)
fit_rises links least (o ∷ []) f k h = absurd (omega arith)
fit_rises links least (o ∷ p ∷ os) f zero h = above o.position p.position f.1.1.0
  where
    above : (a b : ℕ) → a + 1 ≤ b → a < b
    above a b h = omega arith
fit_rises links least (o ∷ p ∷ os) f (suc k) h =
    let e : suc k + 1 ≡ suc (k + 1) = omega arith in
    rw e (fit_rises links (o.position + 1) (p ∷ os) f.1.1 k (omega arith))

fit_inside : (links least : ℕ) (os : List OverrideRow) → Fit links least os → (k : ℕ) → k < length os → (get_or os k no_override).position < links
fit_inside links least [] f k h = absurd (omega arith)
fit_inside links least (o ∷ os) f zero h = f.1.0
fit_inside links least (o ∷ os) f (suc k) h = fit_inside links (o.position + 1) os f.1.1 k (le_of_suc-le-suc h)

rises_fit : (links least : ℕ) (os : List OverrideRow) → ((k : ℕ) → k + 1 < length os → (get_or os k no_override).position < (get_or os (k + 1) no_override).position) → ((k : ℕ) → k < length os → (get_or os k no_override).position < links) → (0 < length os → least ≤ (get_or os 0 no_override).position) → Fit links least os
rises_fit links least [] r i l = tt
rises_fit links least (o ∷ os) r i l = (
  l (omega arith),
  (
    i 0 (omega arith),
    rises_fit links (o.position + 1) os
        (λ k h. let e : suc k + 1 ≡ suc (k + 1) = omega arith in rw e at (r (suc k) (omega arith)))
        (λ k h. i (suc k) (omega arith))
        (λ h. over o.position (get_or os 0 no_override).position (r 0 (omega arith))),
  ),
)
  where
    over : (a b : ℕ) → a < b → a + 1 ≤ b
    over a b h = omega arith

overrides_decides : (links : ℕ) (os : List OverrideRow) → Decides (ends_by links (rise_end 0 os)) (Overrides links os)
overrides_decides links os =
    Decides-like _ (λ p. record { rises = fit_rises links 0 os p.1; inside = fit_inside links 0 os p.1 })
    (λ r. (omega arith, rises_fit links 0 os r.rises r.inside (λ _. omega arith))) (rise_decides links 0 os)

-- no number below n passes a test
none_decides : (test : ℕ → Bool) (P : ℕ → Type 0) → ((m : ℕ) → Decides (test m) (P m)) → (n : ℕ) → Decides (none_below test n) ((m : ℕ) → m < n → P m → ⊥)
none_decides test P each =
    Decides-below_and (λ m. not (test m)) (λ m. P m → ⊥) (none_below test) (λ m. Decides-not (test m) (each m)) refl (λ m. and_comm (none_below test m) (not (test m)))

codes_decides : (d : Deposit) (k : kind.Kind) (n : ℕ) → Decides (codes_kept d k n) (Distinct d k n)
codes_decides d k n =
    none_decides (λ m. same_code (code_at d k m) (code_at d k n)) (λ m. code_at d k m ≡ code_at d k n) (λ m. compares_Decides same_code (search rules) (code_at d k m) (code_at d k n)) n

pub sound_decides : (r : rule.Rule) (d : Deposit) (k : kind.Kind) (n : ℕ) → Decides (kept r d k n) (Sound r d k n)
sound_decides rules.Counts d k n = counted_decides k (count_of d k)
sound_decides rules.Ranges d k n = range_decides d k n
sound_decides rules.Revision d k n = revised_decides (head_at d n)
sound_decides rules.Period d k n = decides_given (leb (head_at d n).start) (λ e. (head_at d n).start ≤ e) (decides_leb (head_at d n).start) (head_at d n).end
sound_decides rules.Description d k n =
    Decides-or (ltb 0 (length (line_at d n).outbound)) (ltb 0 (length (line_at d n).inbound)) (Decides-ltb 0 (length (line_at d n).outbound)) (Decides-ltb 0 (length (line_at d n).inbound))
sound_decides rules.Days d k n = days_decides d k n
sound_decides rules.Reference d k n = referred_decides d n
sound_decides rules.Joining d k n = joins_decides (links_of d n)
sound_decides rules.Overriding d k n = overrides_decides (length (links_along d n)) (overrides_of d (journey_at d n))
sound_decides rules.Codes d k n = codes_decides d k n
