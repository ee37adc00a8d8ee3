-- Which lines name a year: the four digits of a year of the calendar, and no other line. Assumes nothing.
use Rattle.std.proofs.Common.{◌≡◌, ◌↔◌, ℕ, ◌+◌, ◌-◌, ◌*◌, ◌/◌, ◌%◌, ◌<◌, ◌≤◌, Bool, true, false, cond, ◌&&◌, eqb, List, [], ◌∷◌, length, get_or, Some, None, Option, sym, refl, ap, ◌∙◌, arith}
use Rattle.std.proofs.lemmas.Bool.{eqb-true}
use Rattle.std.proofs.lemmas.Option.{cond_some, none-some}
use Rattle.std.proofs.lemmas.Bool.Decides.{nat_tests}
use Rattle.writing.specs.Puts.{padded}
use Rattle.holiday_lines.specs.Reads.{digit, number_of, in_calendar, year_of, year_read}
use Rattle.holiday_lines.specs.Words.{Names}

abbrev test : ℕ → ℕ → ℕ → ℕ → Bool
test a b c d = digit a && digit b && (digit c && digit d) && in_calendar (number_of a b c d)

chosen : (b : Bool) (o : Option ℕ) (y : ℕ) → cond b o None ≡ Some y → (b ≡ true) × (o ≡ Some y)
chosen true o y e = (refl, e)
chosen false o y e = absurd (none-some y e)

four : (line : List ℕ) → length line ≡ 4 → line ≡ get_or line 0 0 ∷ get_or line 1 0 ∷ get_or line 2 0 ∷ get_or line 3 0 ∷ []
four [] e = absurd (omega arith)
four (a ∷ []) e = absurd (omega arith)
four (a ∷ b ∷ []) e = absurd (omega arith)
four (a ∷ b ∷ c ∷ []) e = absurd (omega arith)
four (a ∷ b ∷ c ∷ d ∷ []) e = refl
four (a ∷ b ∷ c ∷ d ∷ x ∷ xs) e = absurd (omega arith)

record Tested (a b c d : ℕ) : Type 0 where
  first : (48 ≤ a) × (a ≤ 57)
  second : (48 ≤ b) × (b ≤ 57)
  third : (48 ≤ c) × (c ≤ 57)
  fourth : (48 ≤ d) × (d ≤ 57)
  year : (2000 ≤ number_of a b c d) × (number_of a b c d < 2200)

tested : (a b c d : ℕ) → test a b c d ≡ true → Tested a b c d
tested a b c d e = record {
  first = (grind (arith, nat_tests), grind (arith, nat_tests));
  second = (grind (arith, nat_tests), grind (arith, nat_tests));
  third = (grind (arith, nat_tests), grind (arith, nat_tests));
  fourth = (grind (arith, nat_tests), grind (arith, nat_tests));
  year = (grind (arith, nat_tests), grind (arith, nat_tests));
}

last_digit : (x y d : ℕ) → x ≡ 10 * y + (d - 48) → (48 ≤ d) × (d ≤ 57) → (x / 10 ≡ y) × (48 + x % 10 ≡ d)
last_digit x y d e h = (omega arith, omega arith)

-- the digits of the number that they write
digits_back : (a b c d : ℕ) → Tested a b c d → padded 4 (number_of a b c d) ≡ a ∷ b ∷ c ∷ d ∷ []
digits_back a b c d t =
    let n = number_of a b c d in
    let units = last_digit n (100 * (a - 48) + 10 * (b - 48) + (c - 48)) d (omega arith) t.fourth in
    let tens = last_digit (n / 10) (10 * (a - 48) + (b - 48)) c (omega (arith, units.0)) t.third in
    let hundreds = last_digit (n / 10 / 10) (a - 48) b (omega (arith, tens.0)) t.second in
    let thousands = last_digit (n / 10 / 10 / 10) 0 a (omega (arith, hundreds.0)) t.first in
    cc (units.1, tens.1, hundreds.1, thousands.1)

read_named : (line : List ℕ) (y : ℕ) → year_read line ≡ Some y → Names line y
read_named line y e =
    let a = get_or line 0 0 in
    let b = get_or line 1 0 in
    let c = get_or line 2 0 in
    let d = get_or line 3 0 in
    let long = chosen (eqb (length line) 4) (year_of a b c d) y e in
    let told = cond_some (test a b c d) (number_of a b c d) y long.1 in
    let t = tested a b c d told.0 in
    (omega (arith, t.year.0, told.1), omega (arith, t.year.1, told.1), four line (eqb-true (length line) 4 long.0) ∙ sym (digits_back a b c d t) ∙ ap (padded 4) told.1)

named_read : (line : List ℕ) (y : ℕ) → Names line y → year_read line ≡ Some y
named_read line y h =
    let n : number_of (48 + y / 10 / 10 / 10 % 10) (48 + y / 10 / 10 % 10) (48 + y / 10 % 10) (48 + y % 10) ≡ y = omega (arith, h.1) in
    ap year_read h.2 ∙ passes (48 + y / 10 / 10 / 10 % 10) (48 + y / 10 / 10 % 10) (48 + y / 10 % 10) (48 + y % 10) y n h.0 h.1 (omega arith) (omega arith) (omega arith) (omega arith)
  where
    passes : (a b c d y : ℕ) → number_of a b c d ≡ y → 2000 ≤ y → y < 2200 → (48 ≤ a) × (a ≤ 57) → (48 ≤ b) × (b ≤ 57) → (48 ≤ c) × (c ≤ 57) → (48 ≤ d) × (d ≤ 57) → year_of a b c d ≡ Some y
    passes a b c d y n from to p q r s = grind (arith, nat_tests)

pub names : (line : List ℕ) (y : ℕ) → (year_read line ≡ Some y) ↔ Names line y
names line y = (read_named line y, named_read line y)
