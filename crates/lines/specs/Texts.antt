-- Lines of text. Assumes nothing.
--
--   refused_text   the line that tells a refusal: the word `refused`, a blank, its number in decimal, a newline
use Rattle.std.specs.Prelude.{ℕ, List, [], ◌∷◌, ◌++◌, codes, decimal}
use Rattle.refusals.specs.declared.Refusal.{Refusal}
use Rattle.refusals.specs.Numbers.{told}

abbrev pub refused_text : Refusal → List ℕ
refused_text e = codes "refused " ++ (decimal (told e).number ++ 10 ∷ [])
