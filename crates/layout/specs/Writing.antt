-- A deposit in bytes. Assumes nothing.
--
--   field_of_text          a text in a row: a field of its own tag
--   head_numbers ..        the numbers of a row that holds texts
--   head_body ..           the content of a row's field: its texts, then its numbers, in the order of the values
--   bodies d k             the contents of the rows of kind k, in their order
--   fields_of t cs         fields of one tag, one behind the other
--   rows_of d ks           the rows of some kinds, kind after kind
--   deposit_content d      the rows of a deposit by kind, then number
--   encode d               the deposit as one field
use Rattle.std.specs.Prelude.{ℕ, List, [], ◌∷◌, ◌++◌, map, Some, None, Option}
use Rattle.times.specs.declared.moments.Moment.{Moment}
use Rattle.refusals.specs.declared.Kind as kind
use Rattle.refusals.specs.declared.Kind.TheVariants as kinds
use Rattle.refusals.specs.Numbers as numbers
use Rattle.refusals.specs.Numbers.{kind_number}
use Rattle.deposit.specs.declared.rows.ProfileRow.{ProfileRow}
use Rattle.deposit.specs.declared.rows.SpecialRow.{SpecialRow}
use Rattle.deposit.specs.declared.rows.LinkRow.{LinkRow}
use Rattle.deposit.specs.declared.rows.SectionRow.{SectionRow}
use Rattle.deposit.specs.declared.rows.UseRow.{UseRow}
use Rattle.deposit.specs.declared.rows.PatternRow.{PatternRow}
use Rattle.deposit.specs.declared.rows.OverrideRow.{OverrideRow}
use Rattle.deposit.specs.Deposit.{Head, Line, Stop, Journey, Deposit}
use Rattle.fields.specs.Fields.{text_tag}
use Rattle.fields.specs.Forms.{bytes2, bytes4, given2, given4, field}
use Rattle.layout.specs.Layout.{missing4, deposit_tag}

abbrev pub field_of_text : List ℕ → List ℕ
field_of_text t = field text_tag t

abbrev pub moment : Moment → List ℕ
moment m = bytes4 m.day ++ bytes4 m.second

abbrev pub given_moment : Option Moment → List ℕ
given_moment None = bytes4 missing4 ++ bytes4 missing4
given_moment (Some m) = moment m

abbrev pub head_numbers : Head → List ℕ
head_numbers h =
    bytes2 h.revision ++ (moment h.created ++ (given_moment h.modified ++ (h.modification ∷ (bytes4 h.start ++ (given4 h.end ++ given2 h.profile)))))

abbrev pub head_body : Head → List ℕ
head_body h = field_of_text h.service ++ head_numbers h

abbrev pub line_body : Line → List ℕ
line_body l = field_of_text l.name ++ (field_of_text l.outbound ++ field_of_text l.inbound)

abbrev pub stop_body : Stop → List ℕ
stop_body s = field_of_text s.code ++ field_of_text s.name

abbrev pub profile_body : ProfileRow → List ℕ
profile_body p = p.weekdays ∷ p.runs ∷ p.not_runs ∷ (bytes2 p.first_special ++ bytes2 p.specials)

abbrev pub special_body : SpecialRow → List ℕ
special_body s = bytes4 s.first ++ (bytes4 s.last ++ s.runs ∷ [])

abbrev pub link_body : LinkRow → List ℕ
link_body l =
    bytes2 l.from ++ (bytes2 l.to ++ (bytes4 l.run ++ (bytes4 l.from_wait ++ (bytes4 l.to_wait ++ l.from_activity ∷ l.to_activity ∷ []))))

abbrev pub section_body : SectionRow → List ℕ
section_body s = bytes2 s.first_link ++ bytes2 s.links

abbrev pub use_body : UseRow → List ℕ
use_body u = bytes2 u.section

abbrev pub pattern_body : PatternRow → List ℕ
pattern_body p = p.direction ∷ (bytes2 p.first_use ++ bytes2 p.uses)

abbrev pub override_body : OverrideRow → List ℕ
override_body o = bytes2 o.position ++ (given4 o.run ++ (given4 o.from_wait ++ given4 o.to_wait))

abbrev pub journey_numbers : Journey → List ℕ
journey_numbers j =
    bytes2 j.line ++ (given2 j.pattern ++ (given2 j.other ++ (given2 j.profile ++ (bytes4 j.departure ++ (j.shift ∷ (bytes2 j.first ++ bytes2 j.overrides))))))

abbrev pub journey_body : Journey → List ℕ
journey_body j = field_of_text j.code ++ journey_numbers j

abbrev pub bodies : Deposit → kind.Kind → List (List ℕ)
bodies d kinds.Head = map head_body d.heads
bodies d kinds.Line = map line_body d.lines
bodies d kinds.Stop = map stop_body d.stops
bodies d kinds.Profile = map profile_body d.profiles
bodies d kinds.Special = map special_body d.specials
bodies d kinds.Link = map link_body d.links
bodies d kinds.Section = map section_body d.sections
bodies d kinds.Use = map use_body d.uses
bodies d kinds.Pattern = map pattern_body d.patterns
bodies d kinds.Override = map override_body d.overrides
bodies d kinds.Journey = map journey_body d.journeys

abbrev pub fields_of : ℕ → List (List ℕ) → List ℕ
fields_of t [] = []
fields_of t (c ∷ cs) = field t c ++ fields_of t cs

abbrev pub rows_of : Deposit → List kind.Kind → List ℕ
rows_of d [] = []
rows_of d (k ∷ ks) = fields_of (kind_number k) (bodies d k) ++ rows_of d ks

unfoldable pub deposit_content : Deposit → List ℕ
deposit_content d = rows_of d numbers.kinds

abbrev pub encode : Deposit → List ℕ
encode d = field deposit_tag (deposit_content d)
