-- Steps of a span along a list, and of a cursor along the links of a pattern. Assumes nothing.
use Rattle.std.proofs.Common.{◌≡◌, ℕ, zero, suc, ◌+◌, ltb, List, [], ◌∷◌, ◌++◌, length, get_or, take, drop, sym, refl, ap, ◌∙◌, ⊎_elim, arith, drop_of_length-le}
use Rattle.std.proofs.lemmas.Bool.{ltb-true, ltb-false, and_parts, and_cases}
use Rattle.std.proofs.lemmas.List.{drop_more}
use Rattle.patterns.specs.declared.cursor.Span.{Span}
use Rattle.patterns.specs.declared.cursor.Cursor.{Cursor}
use Rattle.deposit.specs.declared.rows.LinkRow.{LinkRow}
use Rattle.deposit.specs.declared.rows.UseRow.{UseRow}
use Rattle.deposit.specs.declared.rows.SectionRow.{SectionRow}
use Rattle.deposit.specs.Deposit.{Deposit, no_link, no_use, no_section}
use Rattle.patterns.specs.Links.{shown, links_by, ahead, Closed, Opened}

module _ {X : Type 0} (s t : Span) (xs : List X) (n : ℕ) (l : n ≡ length xs) where
  -- a closed span shows nothing
  pub shown_closed : Closed s t n → shown s xs ≡ []
  shown_closed c =
      ⊎_elim
      (λ h. let e : s.left ≡ 0 = omega (arith, ltb-false 0 s.left h) in ap (λ m. take m (drop s.at xs)) e)
      (λ h. ap (take s.left) (drop_of_length-le xs (omega (arith, ltb-false s.at n h))) ∙ take_nil s.left)
      (and_cases (ltb 0 s.left) (ltb s.at n) c.0)
    where
      take_nil : (m : ℕ) → take {A = X} m [] ≡ []
      take_nil zero = refl
      take_nil (suc m) = refl

  -- an open one shows the row that is read there, and then what the span behind it shows
  pub shown_opened : (i : ℕ) (d x : X) → Opened s t n i → x ≡ get_or xs i d → shown s xs ≡ x ∷ shown t xs
  shown_opened i d x o e =
      let within = ltb-true s.at n (and_parts (ltb 0 s.left) (ltb s.at n) o.0).1 in
      let more : s.left ≡ suc t.left = omega (arith, o.3) in
      ap (λ m. take m (drop s.at xs)) more
      ∙ ap (take (suc t.left)) (drop_more xs s.at d (omega (arith, within)))
      ∙ ap (λ y. y ∷ take t.left (drop (s.at + 1) xs)) (ap (λ k. get_or xs k d) (sym o.1) ∙ sym e)
      ∙ ap (λ k. x ∷ take t.left (drop k xs)) (sym o.2)

-- a cursor at its next link
pub ahead_link : (d : Deposit) (c : Cursor) (t : Span) (n i : ℕ) (l : LinkRow) → n ≡ length d.links → Opened c.links t n i → l ≡ get_or d.links i no_link →
    ahead d c ≡ l ∷ (shown t d.links ++ links_by d (shown c.uses d.uses))
ahead_link d c t n i l k o e = ap (λ xs. xs ++ links_by d (shown c.uses d.uses)) (shown_opened c.links t d.links n k i no_link l o e)

-- a cursor at the end of its section goes on to the next
pub ahead_use : (d : Deposit) (c : Cursor) (a t v : Span) (n m i j : ℕ) (u : UseRow) (s : SectionRow) → n ≡ length d.links → Closed c.links a n → m ≡ length d.uses → Opened c.uses t m i →
    u ≡ get_or d.uses i no_use → j ≡ u.section → s ≡ get_or d.sections j no_section → v.at ≡ s.first_link → v.left ≡ s.links →
    ahead d c ≡ shown v d.links ++ links_by d (shown t d.uses)
ahead_use d c a t v n m i j u s k o l p e q f x y =
    ap (λ xs. xs ++ links_by d (shown c.uses d.uses)) (shown_closed c.links a d.links n k o)
    ∙ ap (links_by d) (shown_opened c.uses t d.uses m l i no_use u p e)
    ∙ ap (λ ls. ls ++ links_by d (shown t d.uses)) (cc)
