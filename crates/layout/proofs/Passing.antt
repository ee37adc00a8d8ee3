-- Passing the texts of a row, by a list of limits. Assumes nothing.
use Rattle.std.proofs.Common.{◌≡◌, ℕ, ◌+◌, ◌<◌, Bool, true, ◌&&◌, List, ◌∷◌, length, get_or, drop, ap, ◌∙◌, add-one, drop-cons}
use Rattle.refusals.specs.declared.Kind.{Kind}
use Rattle.fields.specs.Fields.{after, text}
use Rattle.layout.specs.Layout.{numbers, texts, after_texts}

-- the texts from the i-th on, and the numbers behind them, are in form
abbrev pub form_from : Kind → List ℕ → ℕ → List ℕ → Bool
form_from k ms i c = texts (drop i ms) c && numbers k (after_texts (drop i ms) c)

module _ (k : Kind) (ms : List ℕ) (i : ℕ) (h : i < length ms) (c : List ℕ) where
  opened : form_from k ms i c ≡ ((text (get_or ms i 0) c && texts (drop (i + 1) ms) (after c)) && numbers k (after_texts (drop (i + 1) ms) (after c)))
  opened =
      let next : drop i ms ≡ get_or ms i 0 ∷ drop (i + 1) ms = rw (add-one, drop-cons ms i 0) in
      ap (λ l. texts l c && numbers k (after_texts l c)) next

  pub text_more : text (get_or ms i 0) c ≡ true → form_from k ms i c ≡ form_from k ms (i + 1) (after c)
  text_more e = opened ∙ ap (λ b. (b && texts (drop (i + 1) ms) (after c)) && numbers k (after_texts (drop (i + 1) ms) (after c))) e
