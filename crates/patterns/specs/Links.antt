-- The links of a journey pattern, in order. Assumes nothing.
--
--   part i n xs     n elements of a list from place i on, as far as the list goes
--   links_in d s    the links of section s
--   links_by d us   the links of the sections that are used, one section after another
--   links_of d p    the links of pattern p
--   shown s xs      what a span shows of a list
--   opens s n       a span shows an element of a list of n elements
--   ahead d c       the links that lie ahead of a cursor
--   links_left m s  the links that an iterator has left, where m reads the deposit of its carrier
--   Stepped         one step along a list: its first element and the rest, or nothing where nothing is left
--   Closed          a step of a span that showed nothing of a list of n elements: it stays
--   Opened          a step of a span that showed element i: it moves on by one
use Rattle.std.specs.Prelude.{◌≡◌, ℕ, ◌+◌, Bool, true, false, ◌&&◌, List, [], ◌∷◌, ◌++◌, take, drop, Some, None, Option, nat_lt, slice_index_or}
use Rattle.deposit.specs.declared.rows.LinkRow.{LinkRow}
use Rattle.deposit.specs.declared.rows.UseRow.{UseRow}
use Rattle.deposit.specs.Deposit.{Deposit, no_section, no_pattern}
use Rattle.patterns.specs.declared.cursor.Span.{Span}
use Rattle.patterns.specs.declared.cursor.Cursor.{Cursor}
use Rattle.patterns.specs.declared.links.Links.{Links}

abbrev pub part : {X : Type 0} → ℕ → ℕ → List X → List X
part i n xs = take n (drop i xs)

abbrev pub links_in : Deposit → ℕ → List LinkRow
links_in d s = part (slice_index_or d.sections s no_section).first_link (slice_index_or d.sections s no_section).links d.links

abbrev pub links_by : Deposit → List UseRow → List LinkRow
links_by d [] = []
links_by d (u ∷ us) = links_in d u.section ++ links_by d us

abbrev pub links_of : Deposit → ℕ → List LinkRow
links_of d p = links_by d (part (slice_index_or d.patterns p no_pattern).first_use (slice_index_or d.patterns p no_pattern).uses d.uses)

abbrev pub shown : {X : Type 0} → Span → List X → List X
shown s xs = part s.at s.left xs

abbrev pub opens : Span → ℕ → Bool
opens s n = nat_lt 0 s.left && nat_lt s.at n

abbrev pub ahead : Deposit → Cursor → List LinkRow
ahead d c = shown c.links d.links ++ links_by d (shown c.uses d.uses)

abbrev pub links_left : {C : Type 0} → (C → Deposit) → Links C → List LinkRow
links_left meaning s = ahead (meaning s.carrier.now) s.cursor

abbrev pub Stepped : {X : Type 0} → List X → Option X → List X → Type 0
Stepped xs None ys = (xs ≡ []) × (ys ≡ [])
Stepped xs (Some x) ys = xs ≡ x ∷ ys

abbrev pub Closed : Span → Span → ℕ → Type 0
Closed s t n = (opens s n ≡ false) × (t ≡ s)

abbrev pub Opened : Span → Span → ℕ → ℕ → Type 0
Opened s t n i = (opens s n ≡ true) × (i ≡ s.at) × (t.at ≡ s.at + 1) × (t.left + 1 ≡ s.left)
