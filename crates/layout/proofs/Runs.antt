-- The rows of one kind behind each other: written and read again, and read and written again. Assumes nothing.
use Rattle.std.proofs.Common.{◌≡◌, ℕ, zero, suc, ◌≤◌, true, false, eqb, List, [], ◌∷◌, ◌++◌, map, length, sym, refl, ap, ◌∙◌, subst, ⊎_elim, append_assoc, arith, length-append}
use Rattle.std.specs.List.{AllByRecursion as All}
use Rattle.std.proofs.lemmas.Bool.{and_parts, and_from, and_left, and_right, ne_eqb, cond_both, cases_Bool}
use Rattle.refusals.specs.declared.Kind.{Kind}
use Rattle.refusals.specs.Numbers.{kind_number}
use Rattle.fields.specs.Fields.{whole, content, after, tagged}
use Rattle.fields.specs.Forms.{field}
use Rattle.fields.proofs.Codecs.{Bytes, content_bytes, after_bytes, field_content, field_after, field_tagged, tagged_again}
use Rattle.layout.specs.Layout.{fits}
use Rattle.layout.specs.Reading.{is_row, rows_in, past_in, rows, past, past_all}
use Rattle.layout.specs.Writing.{fields_of}
use Rattle.layout.proofs.Walks.{row_fits, rows_more, rows_none, past_more, past_none, rows_is, past_is}

-- where one function undoes the other, so it does along a list
pub map_back : {X Y : Type 0} (g : Y → X) (f : X → Y) (xs : List X) → All (λ x. g (f x) ≡ x) xs → map g (map f xs) ≡ xs
map_back g f [] a = refl
map_back g f (x ∷ xs) a = λ i. a.0 i ∷ map_back g f xs a.1 i

-- rows of another tag are no rows of this kind
pub other_tag : (k : Kind) (t : ℕ) (cs : List (List ℕ)) (rest : List ℕ) → (t ≡ kind_number k → ⊥) → is_row k rest ≡ false → is_row k (fields_of t cs ++ rest) ≡ false
other_tag k t [] rest ne r = r
other_tag k t (c ∷ cs) rest ne r =
    let bs = fields_of t (c ∷ cs) ++ rest in
    and_left (tagged (kind_number k) bs) (fits k (content bs)) (and_right (whole bs) (eqb t (kind_number k)) (ne_eqb t (kind_number k) ne))

module _ (k : Kind) where
  abbrev pub Fit : List ℕ → Type 0
  Fit c = fits k c ≡ true

  row_of : (c more : List ℕ) → Fit c → is_row k (field (kind_number k) c ++ more) ≡ true
  row_of c more f = and_from (tagged (kind_number k) (field (kind_number k) c ++ more)) _ (field_tagged (kind_number k) c more) (ap (fits k) (field_content (kind_number k) c more) ∙ f)

  -- rows that were written, and behind them something that is no row of this kind
  module _ (rest : List ℕ) (ends : is_row k rest ≡ false) where
    shift : (c : List ℕ) (cs : List (List ℕ)) → fields_of (kind_number k) (c ∷ cs) ++ rest ≡ field (kind_number k) c ++ (fields_of (kind_number k) cs ++ rest)
    shift c cs = append_assoc (field (kind_number k) c) (fields_of (kind_number k) cs) rest

    rows_in_back : (cs : List (List ℕ)) → All Fit cs → (f : ℕ) → length (fields_of (kind_number k) cs ++ rest) ≤ f → rows_in k f (fields_of (kind_number k) cs ++ rest) ≡ cs
    rows_in_back [] a f h = rows_none k f rest ends
    rows_in_back (c ∷ cs) a zero h = absurd (omega arith)
    rows_in_back (c ∷ cs) a (suc f) h =
        let more = fields_of (kind_number k) cs ++ rest in
        let e = shift c cs in
        ap (rows_in k (suc f)) e
        ∙ rows_more k f (field (kind_number k) c ++ more) (row_of c more a.0)
        ∙ ap (λ x. x ∷ rows_in k f (after (field (kind_number k) c ++ more))) (field_content (kind_number k) c more)
        ∙ ap (λ l. c ∷ rows_in k f l) (field_after (kind_number k) c more)
        ∙ ap (λ l. c ∷ l) (rows_in_back cs a.1 f (omega (arith, ap length e, length-append c more)))

    past_in_back : (cs : List (List ℕ)) → All Fit cs → (f : ℕ) → length (fields_of (kind_number k) cs ++ rest) ≤ f → past_in k f (fields_of (kind_number k) cs ++ rest) ≡ rest
    past_in_back [] a f h = past_none k f rest ends
    past_in_back (c ∷ cs) a zero h = absurd (omega arith)
    past_in_back (c ∷ cs) a (suc f) h =
        let more = fields_of (kind_number k) cs ++ rest in
        let e = shift c cs in
        ap (past_in k (suc f)) e
        ∙ past_more k f (field (kind_number k) c ++ more) (row_of c more a.0)
        ∙ ap (past_in k f) (field_after (kind_number k) c more)
        ∙ past_in_back cs a.1 f (omega (arith, ap length e, length-append c more))

    pub rows_back : (cs : List (List ℕ)) → All Fit cs → rows k (fields_of (kind_number k) cs ++ rest) ≡ cs
    rows_back cs a = let bs = fields_of (kind_number k) cs ++ rest in rows_is k bs ∙ rows_in_back cs a (length bs) (omega arith)

    pub past_back : (cs : List (List ℕ)) → All Fit cs → past k (fields_of (kind_number k) cs ++ rest) ≡ rest
    past_back cs a = let bs = fields_of (kind_number k) cs ++ rest in past_is k bs ∙ past_in_back cs a (length bs) (omega arith)

  -- rows that were read, and behind them what stood behind them
  abbrev pub Read : List ℕ → Type 0
  Read c = Fit c × Bytes c

  row_again : (bs : List ℕ) {rest : List ℕ} → Bytes bs → is_row k bs ≡ true → rest ≡ after bs → field (kind_number k) (content bs) ++ rest ≡ bs
  row_again bs b r e = tagged_again bs b (kind_number k) (and_parts (tagged (kind_number k) bs) (fits k (content bs)) r).0 e

  again_in : (f : ℕ) (bs : List ℕ) → Bytes bs → fields_of (kind_number k) (rows_in k f bs) ++ past_in k f bs ≡ bs
  again_in zero bs b = refl
  again_in (suc f) bs b =
      ⊎_elim
      (λ r.
      ap (λ l. fields_of (kind_number k) l ++ past_in k (suc f) bs) (rows_more k f bs r)
      ∙ ap (λ l. fields_of (kind_number k) (content bs ∷ rows_in k f (after bs)) ++ l) (past_more k f bs r)
      ∙ append_assoc (field (kind_number k) (content bs)) (fields_of (kind_number k) (rows_in k f (after bs))) (past_in k f (after bs))
      ∙ row_again bs b r (again_in f (after bs) (after_bytes bs b)))
      (λ r. ap (λ l. fields_of (kind_number k) l ++ past_in k (suc f) bs) (rows_none k (suc f) bs r) ∙ past_none k (suc f) bs r)
      (cases_Bool (is_row k bs))

  read_in : (f : ℕ) (bs : List ℕ) → Bytes bs → All Read (rows_in k f bs)
  read_in zero bs b = tt
  read_in (suc f) bs b =
      ⊎_elim
      (λ r. subst (All Read) (sym (rows_more k f bs r)) ((row_fits k bs r, content_bytes bs b), read_in f (after bs) (after_bytes bs b)))
      (λ r. subst (All Read) (sym (rows_none k (suc f) bs r)) tt)
      (cases_Bool (is_row k bs))

  past_in_bytes : (f : ℕ) (bs : List ℕ) → Bytes bs → Bytes (past_in k f bs)
  past_in_bytes zero bs b = b
  past_in_bytes (suc f) bs b = cond_both (is_row k bs) (past_in k f (after bs)) bs Bytes (λ r. past_in_bytes f (after bs) (after_bytes bs b)) (λ r. b)

  pub rows_again : (bs : List ℕ) → Bytes bs → fields_of (kind_number k) (rows k bs) ++ past k bs ≡ bs
  unfolding rows past
  rows_again bs b = again_in (length bs) bs b

  pub rows_read : (bs : List ℕ) → Bytes bs → All Read (rows k bs)
  unfolding rows
  rows_read bs b = read_in (length bs) bs b

  pub past_bytes : (bs : List ℕ) → Bytes bs → Bytes (past k bs)
  unfolding past
  past_bytes bs b = past_in_bytes (length bs) bs b

pub past_all_bytes : (ks : List Kind) (bs : List ℕ) → Bytes bs → Bytes (past_all ks bs)
past_all_bytes [] bs b = b
past_all_bytes (k ∷ ks) bs b = past_all_bytes ks (past k bs) (past_bytes k bs b)
