-- The first holiday that a search finds is the one that the book tells. Assumes nothing.
use Rattle.std.proofs.Common.{◌≡◌, ℕ, true, false, cond, List, [], ◌∷◌, Some, refl}
use Rattle.std.specs.List.{find}
use Rattle.std.specs.Option.{option_map}
use Rattle.calendar.specs.declared.tables.Holiday.{Holiday}
use Rattle.calendar.specs.Kinds.{kind_number, told_kind}
use Rattle.computed_book.specs.Rules.{keeps, first_kind}

pub told_found : (hs : List Holiday) (day y m d : ℕ) → told_kind (option_map (λ h. h.kind) (find (λ h. keeps h.rule day y m d) hs)) ≡ first_kind hs day y m d
told_found [] day y m d = refl
told_found (h ∷ hs) day y m d =
    elim (keeps h.rule day y m d) as (λ b. told_kind (option_map (λ z. z.kind) (cond b (Some h) (find (λ z. keeps z.rule day y m d) hs))) ≡ cond b (kind_number h.kind) (first_kind hs day y m d))
    [ true ↦ refl | false ↦ told_found hs day y m d ]
