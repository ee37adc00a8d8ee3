-- What bytes stand for: the rows of a deposit in form. All of it is total. Assumes nothing.
--
--   given2, given4      the number that is read, or nothing where it is all ones
--   given_moment        the moment of two numbers, or nothing where the day is all ones
--   read_head ..        the row that the content of a field stands for
--   is_row k bs         the bytes begin with a row of kind k in form
--   rows_in k f bs      the contents of the first rows of kind k, at most f of them
--   past_in k f bs      what stands behind those
--   rows, past          the same of all rows of kind k that the bytes begin with
--   past_all ks bs      what stands behind the rows of each of some kinds in turn
--   below k             every lower kind, in the order of the numbers
--   begins k bs         where the rows of kind k begin: behind those of every lower kind
--   contents_in bs k    the contents of the rows of kind k
--   decoded bs          the deposit that rows one after another stand for
--   rows_left bs        what stands behind the rows of every kind in turn
--   is_deposit bs       the bytes begin with one deposit in form
--   in_form bs          they are one, and nothing stands behind it
--   decode bs           the deposit that such bytes stand for
use Rattle.std.specs.Prelude.{ℕ, zero, suc, Bool, cond, ◌&&◌, List, [], ◌∷◌, map, length, Some, None, Option, ◌==◌, slice_index}
use Rattle.times.specs.declared.moments.Moment.{Moment}
use Rattle.refusals.specs.declared.Kind as kind
use Rattle.refusals.specs.declared.Kind.TheVariants as kinds
use Rattle.refusals.specs.Numbers.{kind_number}
use Rattle.deposit.specs.declared.rows.ProfileRow.{ProfileRow}
use Rattle.deposit.specs.declared.rows.SpecialRow.{SpecialRow}
use Rattle.deposit.specs.declared.rows.LinkRow.{LinkRow}
use Rattle.deposit.specs.declared.rows.SectionRow.{SectionRow}
use Rattle.deposit.specs.declared.rows.UseRow.{UseRow}
use Rattle.deposit.specs.declared.rows.PatternRow.{PatternRow}
use Rattle.deposit.specs.declared.rows.OverrideRow.{OverrideRow}
use Rattle.deposit.specs.Deposit.{Head, Line, Stop, Journey, Deposit}
use Rattle.fields.specs.Fields.{be2, be4, content, after, tagged}
use Rattle.layout.specs.Layout.{missing2, missing4, deposit_tag, fits}

abbrev pub given2 : ℕ → Option ℕ
given2 n = cond (n == missing2) None (Some n)

abbrev pub given4 : ℕ → Option ℕ
given4 n = cond (n == missing4) None (Some n)

abbrev pub given_moment : ℕ → ℕ → Option Moment
given_moment day second = cond (day == missing4) None (Some (record { day = day; second = second }))

-- the numbers of a head stand behind its text
abbrev pub head_from : List ℕ → List ℕ → Head
head_from service c = record {
  service = service;
  revision = be2 c 0;
  created = record { day = be4 c 2; second = be4 c 6 };
  modified = given_moment (be4 c 10) (be4 c 14);
  modification = slice_index c 18;
  start = be4 c 19;
  end = given4 (be4 c 23);
  profile = given2 (be2 c 27);
}

abbrev pub journey_from : List ℕ → List ℕ → Journey
journey_from code c = record {
  code = code;
  line = be2 c 0;
  pattern = given2 (be2 c 2);
  other = given2 (be2 c 4);
  profile = given2 (be2 c 6);
  departure = be4 c 8;
  shift = slice_index c 12;
  first = be2 c 13;
  overrides = be2 c 15;
}

abbrev pub read_head : List ℕ → Head
read_head c = head_from (content c) (after c)

abbrev pub read_line : List ℕ → Line
read_line c = record { name = content c; outbound = content (after c); inbound = content (after (after c)) }

abbrev pub read_stop : List ℕ → Stop
read_stop c = record { code = content c; name = content (after c) }

abbrev pub read_profile : List ℕ → ProfileRow
read_profile c = record { weekdays = slice_index c 0; runs = slice_index c 1; not_runs = slice_index c 2; first_special = be2 c 3; specials = be2 c 5 }

abbrev pub read_special : List ℕ → SpecialRow
read_special c = record { first = be4 c 0; last = be4 c 4; runs = slice_index c 8 }

abbrev pub read_link : List ℕ → LinkRow
read_link c = record { from = be2 c 0; to = be2 c 2; run = be4 c 4; from_wait = be4 c 8; to_wait = be4 c 12; from_activity = slice_index c 16; to_activity = slice_index c 17 }

abbrev pub read_section : List ℕ → SectionRow
read_section c = record { first_link = be2 c 0; links = be2 c 2 }

abbrev pub read_use : List ℕ → UseRow
read_use c = record { section = be2 c 0 }

abbrev pub read_pattern : List ℕ → PatternRow
read_pattern c = record { direction = slice_index c 0; first_use = be2 c 1; uses = be2 c 3 }

abbrev pub read_override : List ℕ → OverrideRow
read_override c = record { position = be2 c 0; run = given4 (be4 c 2); from_wait = given4 (be4 c 6); to_wait = given4 (be4 c 10) }

abbrev pub read_journey : List ℕ → Journey
read_journey c = journey_from (content c) (after c)

abbrev pub is_row : kind.Kind → List ℕ → Bool
is_row k bs = tagged (kind_number k) bs && fits k (content bs)

abbrev pub rows_in : kind.Kind → ℕ → List ℕ → List (List ℕ)
rows_in k zero bs = []
rows_in k (suc f) bs = cond (is_row k bs) (content bs ∷ rows_in k f (after bs)) []

abbrev pub past_in : kind.Kind → ℕ → List ℕ → List ℕ
past_in k zero bs = bs
past_in k (suc f) bs = cond (is_row k bs) (past_in k f (after bs)) bs

unfoldable pub rows : kind.Kind → List ℕ → List (List ℕ)
rows k bs = rows_in k (length bs) bs

unfoldable pub past : kind.Kind → List ℕ → List ℕ
past k bs = past_in k (length bs) bs

abbrev pub past_all : List kind.Kind → List ℕ → List ℕ
past_all [] bs = bs
past_all (k ∷ ks) bs = past_all ks (past k bs)

abbrev pub below : kind.Kind → List kind.Kind
below kinds.Head = []
below kinds.Line = kinds.Head ∷ []
below kinds.Stop = kinds.Head ∷ kinds.Line ∷ []
below kinds.Profile = kinds.Head ∷ kinds.Line ∷ kinds.Stop ∷ []
below kinds.Special = kinds.Head ∷ kinds.Line ∷ kinds.Stop ∷ kinds.Profile ∷ []
below kinds.Link = kinds.Head ∷ kinds.Line ∷ kinds.Stop ∷ kinds.Profile ∷ kinds.Special ∷ []
below kinds.Section = kinds.Head ∷ kinds.Line ∷ kinds.Stop ∷ kinds.Profile ∷ kinds.Special ∷ kinds.Link ∷ []
below kinds.Use = kinds.Head ∷ kinds.Line ∷ kinds.Stop ∷ kinds.Profile ∷ kinds.Special ∷ kinds.Link ∷ kinds.Section ∷ []
below kinds.Pattern = kinds.Head ∷ kinds.Line ∷ kinds.Stop ∷ kinds.Profile ∷ kinds.Special ∷ kinds.Link ∷ kinds.Section ∷ kinds.Use ∷ []
below kinds.Override = kinds.Head ∷ kinds.Line ∷ kinds.Stop ∷ kinds.Profile ∷ kinds.Special ∷ kinds.Link ∷ kinds.Section ∷ kinds.Use ∷ kinds.Pattern ∷ []
below kinds.Journey = kinds.Head ∷ kinds.Line ∷ kinds.Stop ∷ kinds.Profile ∷ kinds.Special ∷ kinds.Link ∷ kinds.Section ∷ kinds.Use ∷ kinds.Pattern ∷ kinds.Override ∷ []

abbrev pub begins : kind.Kind → List ℕ → List ℕ
begins k bs = past_all (below k) bs

abbrev pub contents_in : List ℕ → kind.Kind → List (List ℕ)
contents_in bs k = rows k (begins k bs)

abbrev pub decoded : List ℕ → Deposit
decoded bs = record {
  heads = map read_head (contents_in bs kinds.Head);
  lines = map read_line (contents_in bs kinds.Line);
  stops = map read_stop (contents_in bs kinds.Stop);
  profiles = map read_profile (contents_in bs kinds.Profile);
  specials = map read_special (contents_in bs kinds.Special);
  links = map read_link (contents_in bs kinds.Link);
  sections = map read_section (contents_in bs kinds.Section);
  uses = map read_use (contents_in bs kinds.Use);
  patterns = map read_pattern (contents_in bs kinds.Pattern);
  overrides = map read_override (contents_in bs kinds.Override);
  journeys = map read_journey (contents_in bs kinds.Journey);
}

abbrev pub rows_left : List ℕ → List ℕ
rows_left bs = past kinds.Journey (begins kinds.Journey bs)

abbrev pub is_deposit : List ℕ → Bool
is_deposit bs = tagged deposit_tag bs && length (rows_left (content bs)) == 0

abbrev pub in_form : List ℕ → Bool
in_form bs = is_deposit bs && length (after bs) == 0

abbrev pub decode : List ℕ → Option Deposit
decode bs = cond (in_form bs) (Some (decoded (content bs))) None
