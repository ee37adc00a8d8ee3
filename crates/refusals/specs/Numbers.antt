-- The number and the values of each refusal. Assumes nothing.
--
--   Told         what a refusal tells its user
--   number       the number that stands for the reason
--   values       what it names besides: a kind and a row, a place, an inner fault; in this order
--   kind_number  the number of a kind of row
--   kinds        every kind, in the order of the numbers
--   KindTried    what is answered for a number that should be a kind's: the kind with that number, or 40 where no kind has it
--   rule_number  the number of a rule of the profile
--   rules        every rule, in the order in which they are checked
--   told_fault   the number and the values of a deposit's fault, case by case
--   place_of     the place of a fault of bytes
--   told_bytes   the number and the place of a fault of bytes
--   told         the number and the values of a refusal, case by case
--   refusal_words   the words that tell a refusal: `refused`, a blank and its number in decimal
use Rattle.std.specs.Prelude.{◌≡◌, List, [], ◌∷◌, ◌++◌, ℕ, Result, Ok, Err, codes, decimal}
use Rattle.refusals.specs.declared.Kind.{Kind}
use Rattle.refusals.specs.declared.Kind.TheVariants.{Head, Line, Stop, Profile, Special, Link, Section, Use, Pattern, Override, Journey}
use Rattle.refusals.specs.declared.Rule.{Rule}
use Rattle.refusals.specs.declared.Rule.TheVariants.{Counts, Ranges, Revision, Period, Description, Days, Reference, Joining, Overriding, Codes}
use Rattle.refusals.specs.declared.DepositFault.{DepositFault}
use Rattle.refusals.specs.declared.DepositFault.TheVariants.{Breaks}
use Rattle.refusals.specs.declared.ByteFault.{ByteFault}
use Rattle.refusals.specs.declared.ByteFault.TheVariants.{Overruns, Undue, Misfits}
use Rattle.refusals.specs.declared.Refusal.{Refusal}
use Rattle.refusals.specs.declared.Refusal.TheVariants.{Deposit, OutOfRange, TooShort}

pub record Told : Type 0 where
  pub number : ℕ
  pub values : List ℕ

abbrev pub kind_number : Kind → ℕ
kind_number Head = 1
kind_number Line = 2
kind_number Stop = 3
kind_number Profile = 4
kind_number Special = 5
kind_number Link = 6
kind_number Section = 7
kind_number Use = 8
kind_number Pattern = 9
kind_number Override = 10
kind_number Journey = 11

abbrev pub kinds : List Kind
kinds = Head ∷ Line ∷ Stop ∷ Profile ∷ Special ∷ Link ∷ Section ∷ Use ∷ Pattern ∷ Override ∷ Journey ∷ []

abbrev pub KindTried : ℕ → Result Kind Refusal → Type 0
KindTried n (Ok kind) = n ≡ kind_number kind
KindTried n (Err e) = ((kind : Kind) → n ≡ kind_number kind → ⊥) × (e ≡ OutOfRange)

abbrev pub rule_number : Rule → ℕ
rule_number Counts = 11
rule_number Ranges = 12
rule_number Revision = 13
rule_number Period = 14
rule_number Description = 15
rule_number Days = 16
rule_number Reference = 17
rule_number Joining = 18
rule_number Overriding = 19
rule_number Codes = 20

abbrev pub rules : List Rule
rules = Counts ∷ Ranges ∷ Revision ∷ Period ∷ Description ∷ Days ∷ Reference ∷ Joining ∷ Overriding ∷ Codes ∷ []

abbrev pub told_fault : DepositFault → Told
told_fault (Breaks rule kind row) = record { number = rule_number rule; values = kind_number kind ∷ row ∷ [] }

abbrev pub place_of : ByteFault → ℕ
place_of (Overruns place) = place
place_of (Undue place) = place
place_of (Misfits place) = place

abbrev pub told_bytes : ByteFault → Told
told_bytes (Overruns place) = record { number = 50; values = place ∷ [] }
told_bytes (Undue place) = record { number = 51; values = place ∷ [] }
told_bytes (Misfits place) = record { number = 52; values = place ∷ [] }

abbrev pub told : Refusal → Told
told (Deposit fault) = told_fault fault
told OutOfRange = record { number = 40; values = [] }
told TooShort = record { number = 44; values = [] }

abbrev pub refusal_words : Refusal → List ℕ
refusal_words e = codes "refused " ++ decimal (told e).number
