-- A walk over the rows of one kind. Assumes nothing.
use Rattle.std.proofs.Common.{◌≡◌, ℕ, zero, suc, ◌+◌, ◌-◌, ◌<◌, ◌≤◌, true, false, leb, List, [], ◌∷◌, length, get_or, drop, sym, refl, ap, ◌∙◌, subst, ⊎_elim, arith, length-drop, get_or-drop, drop-drop}
use Rattle.std.proofs.lemmas.Bool.{and_parts, leb-true, cond-true, cond-false, cases_Bool}
use Rattle.refusals.specs.declared.Kind.{Kind}
use Rattle.fields.specs.Fields.{be2, whole, content, after}
use Rattle.layout.specs.Layout.{fits}
use Rattle.layout.specs.Reading.{is_row, rows_in, past_in, rows, past}

pub after_shorter : (bs : List ℕ) → whole bs ≡ true → length (after bs) + 3 ≤ length bs
after_shorter bs w =
    let p = and_parts (leb 3 (length bs)) (leb (be2 bs 1) (length bs - 3)) w in
    omega (arith, ap length (cond-true _ (drop (3 + be2 bs 1) bs) [] w), length-drop (3 + be2 bs 1) bs, leb-true 3 (length bs) p.0, leb-true (be2 bs 1) (length bs - 3) p.1)

module _ (k : Kind) where
  pub row_whole : (bs : List ℕ) → is_row k bs ≡ true → whole bs ≡ true
  row_whole bs r = (and_parts _ _ (and_parts _ _ r).0).0

  pub row_fits : (bs : List ℕ) → is_row k bs ≡ true → fits k (content bs) ≡ true
  row_fits bs r = (and_parts _ _ r).1

  pub rows_more : (f : ℕ) (bs : List ℕ) → is_row k bs ≡ true → rows_in k (suc f) bs ≡ content bs ∷ rows_in k f (after bs)
  rows_more f bs r = cond-true _ (content bs ∷ rows_in k f (after bs)) [] r

  pub rows_none : (f : ℕ) (bs : List ℕ) → is_row k bs ≡ false → rows_in k f bs ≡ []
  rows_none zero bs r = refl
  rows_none (suc f) bs r = cond-false _ (content bs ∷ rows_in k f (after bs)) [] r

  pub past_more : (f : ℕ) (bs : List ℕ) → is_row k bs ≡ true → past_in k (suc f) bs ≡ past_in k f (after bs)
  past_more f bs r = cond-true _ (past_in k f (after bs)) bs r

  pub past_none : (f : ℕ) (bs : List ℕ) → is_row k bs ≡ false → past_in k f bs ≡ bs
  past_none zero bs r = refl
  past_none (suc f) bs r = cond-false _ (past_in k f (after bs)) bs r

  -- the same where the walk is as long as the bytes
  pub rows_is : (bs : List ℕ) → rows k bs ≡ rows_in k (length bs) bs
  unfolding rows
  rows_is bs = refl

  pub past_is : (bs : List ℕ) → past k bs ≡ past_in k (length bs) bs
  unfolding past
  past_is bs = refl

  -- i rows of bs have been passed, and rest is what is left
  pub record Walked (bs : List ℕ) (i : ℕ) (rest : List ℕ) : Type 0 where
    pub room : length rest + i ≤ length bs
    pub long : length (rows k bs) ≡ i + length (rows_in k (length bs - i) rest)
    pub left : drop i (rows k bs) ≡ rows_in k (length bs - i) rest
    pub end : past k bs ≡ past_in k (length bs - i) rest

  pub walked_none : (bs : List ℕ) → Walked bs 0 bs
  unfolding rows past
  walked_none bs =
      let e : length bs - 0 ≡ length bs = omega arith in
      record {
        room = omega arith;
        long = rw e (omega arith);
        left = rw e;
        end = rw e;
      }

  module _ (bs : List ℕ) (i : ℕ) (rest : List ℕ) (walked : Walked bs i rest) where
    fuel : is_row k rest ≡ true → length bs - i ≡ suc (length bs - (i + 1))
    fuel r = omega (arith, walked.room, after_shorter rest (row_whole rest r))

    next : is_row k rest ≡ true → rows_in k (length bs - i) rest ≡ content rest ∷ rows_in k (length bs - (i + 1)) (after rest)
    next r = ap (λ f. rows_in k f rest) (fuel r) ∙ rows_more _ rest r

    pub walked_more : is_row k rest ≡ true → Walked bs (i + 1) (after rest)
    walked_more r = record {
      room = omega (arith, walked.room, after_shorter rest (row_whole rest r));
      long = omega (arith, walked.long, ap length (next r));
      left = sym (drop-drop 1 i (rows k bs)) ∙ ap (drop 1) (walked.left ∙ next r);
      end = walked.end ∙ ap (λ f. past_in k f rest) (fuel r) ∙ cond-true _ (past_in k (length bs - (i + 1)) (after rest)) rest r;
    }

    pub walked_all : is_row k rest ≡ false → i ≡ length (rows k bs)
    walked_all r = omega (arith, walked.long, ap length (rows_none (length bs - i) rest r))

    pub walked_past : is_row k rest ≡ false → rest ≡ past k bs
    walked_past r = sym (walked.end ∙ past_none (length bs - i) rest r)

    pub walked_row : i < length (rows k bs) → is_row k rest ≡ true
    walked_row h = ⊎_elim (λ r. r) (λ r. absurd (omega (arith, walked_all r))) (cases_Bool (is_row k rest))

    pub walked_here : i < length (rows k bs) → content rest ≡ get_or (rows k bs) i []
    walked_here h =
        let r = walked_row h in
        let e : i + 0 ≡ i = omega arith in
        sym (ap (λ l. get_or l 0 []) (walked.left ∙ next r)) ∙ get_or-drop i (rows k bs) 0 [] ∙ ap (λ j. get_or (rows k bs) j []) e

  -- every row's content fits
  fit_more : (c : List ℕ) (l : List (List ℕ)) → fits k c ≡ true → ((n : ℕ) → n < length l → fits k (get_or l n []) ≡ true) → (n : ℕ) → n < length (c ∷ l) → fits k (get_or (c ∷ l) n []) ≡ true
  fit_more c l f ih zero h = f
  fit_more c l f ih (suc n) h = ih n (omega arith)

  fit_in : (f : ℕ) (bs : List ℕ) (n : ℕ) → n < length (rows_in k f bs) → fits k (get_or (rows_in k f bs) n []) ≡ true
  fit_in zero bs n h = absurd (omega arith)
  fit_in (suc f) bs n h =
      ⊎_elim
      (λ r. subst (λ l. n < length l → fits k (get_or l n []) ≡ true) (sym (rows_more f bs r)) (fit_more (content bs) (rows_in k f (after bs)) (row_fits bs r) (fit_in f (after bs)) n) h)
      (λ r. absurd (omega (arith, ap length (rows_none (suc f) bs r))))
      (cases_Bool (is_row k bs))

  pub rows_fit : (bs : List ℕ) (n : ℕ) → n < length (rows k bs) → fits k (get_or (rows k bs) n []) ≡ true
  unfolding rows
  rows_fit bs n h = fit_in (length bs) bs n h
