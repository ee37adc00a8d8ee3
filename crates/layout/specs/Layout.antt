-- The layout of a row: some texts, then numbers of fixed width. Assumes nothing.
--
--   limits k      how long each text of a row of kind k may be, in order
--   width k       how many bytes its numbers take
--   missing2, missing4   all ones in two or four bytes: nothing is given
--   paired        both numbers of a moment are missing, or neither is; missing is all ones
--   numbers k c   the numbers behind the texts have their form
--   texts ms c    the content begins with texts of at most so many bytes each
--   after_texts   what stands behind them
--   fits k c      the content has the form of a row of kind k
--   kind_of       the kind whose number a tag is
--   deposit_tag   the tag of a deposit
use Rattle.std.specs.Prelude.{ℕ, Bool, true, cond, not, ◌&&◌, List, [], ◌∷◌, length, Some, None, Option, ◌==◌}
use Rattle.refusals.specs.declared.Kind.{Kind}
use Rattle.refusals.specs.declared.Kind.TheVariants.{Head, Line, Stop, Profile, Special, Link, Section, Use, Pattern, Override, Journey}
use Rattle.fields.specs.Fields.{be4, after, text}

abbrev pub limits : Kind → List ℕ
limits Head = 24 ∷ []
limits Line = 24 ∷ 80 ∷ 80 ∷ []
limits Stop = 12 ∷ 48 ∷ []
limits Profile = []
limits Special = []
limits Link = []
limits Section = []
limits Use = []
limits Pattern = []
limits Override = []
limits Journey = 24 ∷ []

abbrev pub width : Kind → ℕ
width Head = 29
width Line = 0
width Stop = 0
width Profile = 7
width Special = 9
width Link = 18
width Section = 4
width Use = 2
width Pattern = 5
width Override = 14
width Journey = 17

abbrev pub missing2 : ℕ
missing2 = 65535

abbrev pub missing4 : ℕ
missing4 = 4294967295

abbrev pub paired : ℕ → ℕ → Bool
paired day second = cond (day == missing4) (second == missing4) (not (second == missing4))

-- only the modified moment of a head can be half missing
abbrev pub moments : Kind → List ℕ → Bool
moments Head c = paired (be4 c 10) (be4 c 14)
moments Line c = true
moments Stop c = true
moments Profile c = true
moments Special c = true
moments Link c = true
moments Section c = true
moments Use c = true
moments Pattern c = true
moments Override c = true
moments Journey c = true

abbrev pub numbers : Kind → List ℕ → Bool
numbers k c = length c == width k && moments k c

abbrev pub texts : List ℕ → List ℕ → Bool
texts [] c = true
texts (m ∷ ms) c = text m c && texts ms (after c)

abbrev pub after_texts : List ℕ → List ℕ → List ℕ
after_texts [] c = c
after_texts (m ∷ ms) c = after_texts ms (after c)

abbrev pub fits : Kind → List ℕ → Bool
fits k c = texts (limits k) c && numbers k (after_texts (limits k) c)

abbrev pub kind_of : ℕ → Option Kind
kind_of t =
    cond (t == 1) (Some Head) (cond (t == 2) (Some Line) (cond (t == 3) (Some Stop) (cond (t == 4) (Some Profile) (cond (t == 5) (Some Special) (cond (t == 6) (Some Link) (cond (t == 7) (Some Section) (cond (t == 8) (Some Use) (cond (t == 9) (Some Pattern) (cond (t == 10) (Some Override) (cond (t == 11) (Some Journey) None))))))))))

abbrev pub deposit_tag : ℕ
deposit_tag = 64
