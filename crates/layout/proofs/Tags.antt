-- Kinds and the tags of their rows. Assumes nothing.
use Rattle.std.proofs.Common.{◌≡◌, ℕ, true, cond, eqb, List, [], ◌∷◌, get_or, Some, None, Option, Ok, Err, Result, sym, refl, ap, ◌∙◌, ⊎_elim, arith}
use Rattle.std.proofs.lemmas.Bool.{and_parts, eqb-true, cond-true, cond-false, cases_Bool}
use Rattle.refusals.specs.declared.Kind.{Kind}
use Rattle.refusals.specs.declared.Kind.TheVariants.{Head, Line, Stop, Profile, Special, Link, Section, Use, Pattern, Override, Journey}
use Rattle.std.specs.Result.{result_ok}
use Rattle.refusals.specs.declared.Refusal.{Refusal}
use Rattle.refusals.specs.Numbers.{kinds, kind_number, KindTried}
use Rattle.layout.specs.Layout.{kind_of}
use Rattle.layout.specs.Reading.{is_row}

pub kind_of_number : (k : Kind) → kind_of (kind_number k) ≡ Some k
kind_of_number Head = refl
kind_of_number Line = refl
kind_of_number Stop = refl
kind_of_number Profile = refl
kind_of_number Special = refl
kind_of_number Link = refl
kind_of_number Section = refl
kind_of_number Use = refl
kind_of_number Pattern = refl
kind_of_number Override = refl
kind_of_number Journey = refl

pub same_kind : (j k : Kind) → kind_number j ≡ kind_number k → j ≡ k
same_kind j k e =
    let a = kind_of_number j in
    let b = kind_of_number k in
    let s : kind_of (kind_number j) ≡ kind_of (kind_number k) = ap kind_of e in
    cc

-- the first of some kinds whose number a tag is
abbrev kind_among : List Kind → ℕ → Option Kind
kind_among [] t = None
kind_among (k ∷ ks) t = cond (eqb t (kind_number k)) (Some k) (kind_among ks t)

among_number : (ks : List Kind) (t : ℕ) (k : Kind) → kind_among ks t ≡ Some k → t ≡ kind_number k
among_number [] t k h = let z : ◌≡◌ {A = ℕ} 0 1 = cc in absurd (omega arith)
among_number (j ∷ js) t k h =
    ⊎_elim
    (λ b.
    let e = sym (cond-true _ (Some j) (kind_among js t) b) ∙ h in
    let s : j ≡ k = cc in
    eqb-true t (kind_number j) b ∙ ap kind_number s)
    (λ b. among_number js t k (sym (cond-false _ (Some j) (kind_among js t) b) ∙ h))
    (cases_Bool (eqb t (kind_number j)))

pub kind_of_tag : (t : ℕ) (k : Kind) → kind_of t ≡ Some k → t ≡ kind_number k
kind_of_tag t k h = among_number kinds t k h

-- what a number is tried as is the kind that it is the tag of
pub tried_kind : (t : ℕ) (r : Result Kind Refusal) → KindTried t r → result_ok r ≡ kind_of t
tried_kind t (Ok k) h = sym (ap kind_of h ∙ kind_of_number k)
tried_kind t (Err e) h = by (kind_of t) refl
  where
    by : (o : Option Kind) → kind_of t ≡ o → None ≡ kind_of t
    by None f = sym f
    by (Some k) f = absurd (h.0 k (kind_of_tag t k f))

pub row_tag : (k : Kind) (bs : List ℕ) → is_row k bs ≡ true → get_or bs 0 0 ≡ kind_number k
row_tag k bs r = eqb-true _ _ (and_parts _ _ (and_parts _ _ r).0).1
