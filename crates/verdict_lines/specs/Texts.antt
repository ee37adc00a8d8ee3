-- The line that tells the verdict on a deposit. Assumes nothing.
--
--   named           a word and a number behind it, in decimal
--   fault_words     `refused` and the number of the rule, `kind` and the number of the kind, `row` and the row, in decimal, single
--                   blanks between
--   verdict_words   `passes`, or the words of the fault
--   verdict_text    a title, a colon, a blank, the words of the verdict, a newline
use Rattle.std.specs.Prelude.{ℕ, List, [], ◌∷◌, ◌++◌, Some, None, codes, decimal, Option}
use Rattle.refusals.specs.declared.Kind.{Kind}
use Rattle.refusals.specs.declared.Rule.{Rule}
use Rattle.refusals.specs.declared.DepositFault.{DepositFault}
use Rattle.refusals.specs.declared.DepositFault.TheVariants.{Breaks}
use Rattle.refusals.specs.Numbers.{kind_number, rule_number}

abbrev pub named : List ℕ → ℕ → List ℕ
named word n = word ++ decimal n

unfoldable pub fault_words : Rule → Kind → ℕ → List ℕ
fault_words rule kind row = named (codes "refused ") (rule_number rule) ++ (named (codes " kind ") (kind_number kind) ++ named (codes " row ") row)

abbrev pub verdict_words : Option DepositFault → List ℕ
verdict_words None = codes "passes"
verdict_words (Some (Breaks rule kind row)) = fault_words rule kind row

abbrev pub verdict_text : List ℕ → Option DepositFault → List ℕ
verdict_text title verdict = title ++ (codes ": " ++ (verdict_words verdict ++ 10 ∷ []))
