-- The line of a fault, piece after piece. Assumes nothing.
use Rattle.std.proofs.Common.{◌≡◌, ℕ, ◌+◌, ◌^◌, ◌<◌, ◌≤◌, List, [], ◌∷◌, ◌++◌, length, Some, codes, decimal, ap, ◌∙◌, append_assoc, arith, lit≤, length-append}
use Rattle.std.proofs.lemmas.Fmt.{length-decimal-le}
use Rattle.refusals.specs.declared.Kind.{Kind}
use Rattle.refusals.specs.declared.Rule.{Rule}
use Rattle.refusals.specs.declared.DepositFault.TheVariants.{Breaks}
use Rattle.refusals.specs.Numbers.{kind_number, rule_number}
use Rattle.refusals.specs.declared.Rule.TheVariants as rules
use Rattle.refusals.specs.declared.Kind.TheVariants as kinds
use Rattle.verdict_lines.specs.Texts.{named, fault_words, verdict_text}

regrouped : (t o p r q k w n z : List ℕ) → t ++ ((o ++ p) ++ (r ++ (q ++ (k ++ (w ++ (n ++ z)))))) ≡ t ++ (o ++ (((p ++ r) ++ ((q ++ k) ++ (w ++ n))) ++ z))
regrouped t o p r q k w n z = simp append_assoc

pub fault_text : (title : List ℕ) (rule : Rule) (kind : Kind) (row r k : ℕ) → r ≡ rule_number rule → k ≡ kind_number kind → title ++ (codes ": refused " ++ (decimal r ++ (codes " kind " ++ (decimal k ++ (codes " row " ++ (decimal row ++ 10 ∷ [])))))) ≡ verdict_text title (Some (Breaks rule kind row))
unfolding fault_words
fault_text title rule kind row r k e f =
    ap (λ n. title ++ (codes ": refused " ++ (decimal n ++ (codes " kind " ++ (decimal k ++ (codes " row " ++ (decimal row ++ 10 ∷ []))))))) e
    ∙ ap (λ n. title ++ (codes ": refused " ++ (decimal (rule_number rule) ++ (codes " kind " ++ (decimal n ++ (codes " row " ++ (decimal row ++ 10 ∷ []))))))) f
    ∙ regrouped title (codes ": ") (codes "refused ") (decimal (rule_number rule)) (codes " kind ") (decimal (kind_number kind)) (codes " row ") (decimal row) (10 ∷ [])

pub length-named : (word : List ℕ) (n : ℕ) → length (named word n) ≡ length word + length (decimal n)
length-named word n = length-append word (decimal n)

pub length-fault : (rule : Rule) (kind : Kind) (row : ℕ) → length (fault_words rule kind row) ≡ 19 + length (decimal (rule_number rule)) + length (decimal (kind_number kind)) + length (decimal row)
unfolding fault_words
length-fault rule kind row =
    let first = named (codes "refused ") (rule_number rule) in
    let second = named (codes " kind ") (kind_number kind) in
    let third = named (codes " row ") row in
    omega (arith, length-append first (second ++ third), length-append second third, length-named (codes "refused ") (rule_number rule), length-named (codes " kind ") (kind_number kind), length-named (codes " row ") row)

rule_le : (rule : Rule) → rule_number rule ≤ 20
rule_le rules.Counts = lit≤ tt
rule_le rules.Ranges = lit≤ tt
rule_le rules.Revision = lit≤ tt
rule_le rules.Period = lit≤ tt
rule_le rules.Description = lit≤ tt
rule_le rules.Days = lit≤ tt
rule_le rules.Reference = lit≤ tt
rule_le rules.Joining = lit≤ tt
rule_le rules.Overriding = lit≤ tt
rule_le rules.Codes = lit≤ tt

kind_le : (kind : Kind) → kind_number kind ≤ 11
kind_le kinds.Head = lit≤ tt
kind_le kinds.Line = lit≤ tt
kind_le kinds.Stop = lit≤ tt
kind_le kinds.Profile = lit≤ tt
kind_le kinds.Special = lit≤ tt
kind_le kinds.Link = lit≤ tt
kind_le kinds.Section = lit≤ tt
kind_le kinds.Use = lit≤ tt
kind_le kinds.Pattern = lit≤ tt
kind_le kinds.Override = lit≤ tt
kind_le kinds.Journey = lit≤ tt

-- the words of a fault are short
pub fault_le : (rule : Rule) (kind : Kind) (row : ℕ) → row < 2 ^ 64 → length (fault_words rule kind row) ≤ 79
fault_le rule kind row h =
    omega (arith, length-fault rule kind row, length-decimal-le 20 (rule_number rule) (omega arith) (omega (arith, rule_le rule)) (omega (arith, rule_le rule)), length-decimal-le 20 (kind_number kind) (omega arith) (omega (arith, kind_le kind)) (omega (arith, kind_le kind)), length-decimal-le 20 row (omega arith) (omega arith) h)
