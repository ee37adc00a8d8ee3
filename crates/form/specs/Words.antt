-- The first fault of bytes that should be one deposit in form, in words. Assumes nothing.
--
--   InForm l p bs l' p' rest  rows in form and in kind order lead from place p, behind a row of tag l, to place p', behind one
--                             of tag l', and rest is what they leave of bs
--   BrokenText m p bs x       a text of at most m bytes is due at place p, and x is what is wrong with it
--   BrokenTexts ms p c x      texts are due, the first at place p: those before one are in form, and x is what is wrong with it
--   BrokenRow k p c x         c is the content of a row of kind k at place p, and x is the first that is wrong with it
--   BrokenField l p bs x      a row is due at place p, behind one of tag l, and x is the first that is wrong with it
--   FirstAt p bs x            one deposit is due at place p, and x is the first that is wrong with it
--   First bs x                one deposit is due, and nothing behind it, and x is the first that is wrong
--   ToldAt p bs r, Told bs r  r is nothing where all is in form, else the first that is wrong, and no other fault is that;
--                             what rows in form leave stands in the bytes of the deposit where its place says
use Rattle.std.specs.Prelude.{◌≡◌, ℕ, ◌+◌, ◌-◌, ◌<◌, ◌≤◌, true, false, ◌⊎◌, List, [], ◌∷◌, length, take, drop, Some, None, Option, MatchOption, ◌≢◌, slice_index}
use Rattle.refusals.specs.declared.Kind.{Kind}
use Rattle.refusals.specs.declared.ByteFault.{ByteFault}
use Rattle.refusals.specs.declared.ByteFault.TheVariants.{Overruns, Undue, Misfits}
use Rattle.refusals.specs.Numbers.{kind_number}
use Rattle.fields.specs.Fields.{be2, whole, content, after, size, tagged, text_tag, text}
use Rattle.layout.specs.Layout.{limits, numbers, texts, after_texts, deposit_tag}
use Rattle.layout.specs.Reading.{is_row, is_deposit, in_form}

pub data InForm : ℕ → ℕ → List ℕ → ℕ → ℕ → List ℕ → Type 0 where
  here : {l p : ℕ} {bs : List ℕ} → InForm l p bs l p bs
  row : {l p : ℕ} {bs : List ℕ} {l' p' : ℕ} {rest : List ℕ} (k : Kind) → is_row k bs ≡ true → l ≤ kind_number k → InForm (kind_number k) (p + size bs) (after bs) l' p' rest → InForm l p bs l' p' rest

pub data BrokenText (m p : ℕ) (bs : List ℕ) (x : ByteFault) : Type 0 where
  overruns : whole bs ≡ false → x ≡ Overruns p → BrokenText m p bs x
  undue : whole bs ≡ true → (slice_index bs 0 ≢ text_tag) → x ≡ Undue p → BrokenText m p bs x
  too_long : tagged text_tag bs ≡ true → m < be2 bs 1 → x ≡ Misfits p → BrokenText m p bs x

abbrev pub BrokenTexts : List ℕ → ℕ → List ℕ → ByteFault → Type 0
BrokenTexts [] p c x = ⊥
BrokenTexts (m ∷ ms) p c x = BrokenText m p c x ⊎ ((text m c ≡ true) × BrokenTexts ms (p + size c) (after c) x)

pub data BrokenRow (k : Kind) (p : ℕ) (c : List ℕ) (x : ByteFault) : Type 0 where
  a_text : BrokenTexts (limits k) (p + 3) c x → BrokenRow k p c x
  the_numbers : texts (limits k) c ≡ true → numbers k (after_texts (limits k) c) ≡ false → x ≡ Misfits p → BrokenRow k p c x

pub data BrokenField (l p : ℕ) (bs : List ℕ) (x : ByteFault) : Type 0 where
  overruns : whole bs ≡ false → x ≡ Overruns p → BrokenField l p bs x
  unknown : whole bs ≡ true → ((k : Kind) → slice_index bs 0 ≢ kind_number k) → x ≡ Undue p → BrokenField l p bs x
  backwards : whole bs ≡ true → slice_index bs 0 < l → x ≡ Undue p → BrokenField l p bs x
  within : (k : Kind) → tagged (kind_number k) bs ≡ true → l ≤ kind_number k → BrokenRow k p (content bs) x → BrokenField l p bs x

pub data FirstAt (p : ℕ) (bs : List ℕ) (x : ByteFault) : Type 0 where
  overruns : whole bs ≡ false → x ≡ Overruns p → FirstAt p bs x
  undue : whole bs ≡ true → (slice_index bs 0 ≢ deposit_tag) → x ≡ Undue p → FirstAt p bs x
  within : (l q : ℕ) (rest : List ℕ) → tagged deposit_tag bs ≡ true → InForm 0 (p + 3) (content bs) l q rest → 0 < length rest → BrokenField l q rest x → FirstAt p bs x

pub data First (bs : List ℕ) (x : ByteFault) : Type 0 where
  the_deposit : FirstAt 0 bs x → First bs x
  behind : (l q : ℕ) (rest : List ℕ) → tagged deposit_tag bs ≡ true → InForm 0 3 (content bs) l q rest → length rest ≡ 0 → 0 < length (after bs) → x ≡ Undue (size bs) → First bs x

pub record ToldAt (p : ℕ) (bs : List ℕ) (r : Option ByteFault) : Type 0 where
  pub reads : is_deposit bs ≡ true → r ≡ None
  pub first : MatchOption r (is_deposit bs ≡ true) (FirstAt p bs)
  pub only : (x : ByteFault) → FirstAt p bs x → r ≡ Some x
  pub there : (l q : ℕ) (rest : List ℕ) → tagged deposit_tag bs ≡ true → InForm 0 (p + 3) (content bs) l q rest → (p ≤ q) × (rest ≡ drop (q - p) (take (size bs) bs))

pub record Told (bs : List ℕ) (r : Option ByteFault) : Type 0 where
  pub reads : in_form bs ≡ true → r ≡ None
  pub first : MatchOption r (in_form bs ≡ true) (First bs)
  pub only : (x : ByteFault) → First bs x → r ≡ Some x
  pub there : (l p : ℕ) (rest : List ℕ) → tagged deposit_tag bs ≡ true → InForm 0 3 (content bs) l p rest → rest ≡ drop p (take (size bs) bs)
