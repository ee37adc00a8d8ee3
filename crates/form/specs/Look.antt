-- The first fault of bytes that should be one deposit in form, looking forwards. Assumes nothing.
--
--   or_else        the first of two faults
--   unless         this fault, unless the test holds
--   text_fault     a text of at most so many bytes is due at place p
--   texts_fault    texts are due, one behind the other
--   row_fault      c is the content of a row of kind k at place p
--   due_fault      a row of that kind is due behind a row of tag least
--   field_fault    a row is due at place p
--   rows_fault     rows are due to the end of the bytes; f is at least their number
--   deposit_fault  one deposit is due at place p, whatever stands behind it
--   form_fault     one deposit is due, and nothing behind it
use Rattle.std.specs.Prelude.{ℕ, zero, suc, ◌+◌, Bool, cond, List, [], ◌∷◌, length, Some, None, Option, ◌==◌, nat_le, slice_index}
use Rattle.refusals.specs.declared.Kind.{Kind}
use Rattle.refusals.specs.declared.ByteFault.{ByteFault}
use Rattle.refusals.specs.declared.ByteFault.TheVariants.{Overruns, Undue, Misfits}
use Rattle.fields.specs.Fields.{be2, whole, content, after, size, text_tag}
use Rattle.layout.specs.Layout.{limits, numbers, after_texts, kind_of, deposit_tag}

abbrev pub or_else : Option ByteFault → Option ByteFault → Option ByteFault
or_else None y = y
or_else (Some x) y = Some x

abbrev pub unless : Bool → ByteFault → Option ByteFault
unless b f = cond b None (Some f)

abbrev pub text_fault : ℕ → ℕ → List ℕ → Option ByteFault
text_fault most p bs =
    or_else (unless (whole bs) (Overruns p)) (or_else (unless (slice_index bs 0 == text_tag) (Undue p)) (unless (nat_le (be2 bs 1) most) (Misfits p)))

abbrev pub texts_fault : List ℕ → ℕ → List ℕ → Option ByteFault
texts_fault [] p c = None
texts_fault (m ∷ ms) p c = or_else (text_fault m p c) (texts_fault ms (p + size c) (after c))

abbrev pub row_fault : Kind → ℕ → List ℕ → Option ByteFault
row_fault k p c = or_else (texts_fault (limits k) (p + 3) c) (unless (numbers k (after_texts (limits k) c)) (Misfits p))

abbrev pub due_fault : Option Kind → ℕ → ℕ → List ℕ → Option ByteFault
due_fault None least p bs = Some (Undue p)
due_fault (Some k) least p bs = or_else (unless (nat_le least (slice_index bs 0)) (Undue p)) (row_fault k p (content bs))

abbrev pub field_fault : ℕ → ℕ → List ℕ → Option ByteFault
field_fault least p bs = or_else (unless (whole bs) (Overruns p)) (due_fault (kind_of (slice_index bs 0)) least p bs)

abbrev pub rows_fault : ℕ → ℕ → ℕ → List ℕ → Option ByteFault
rows_fault zero least p bs = None
rows_fault (suc f) least p bs =
    cond (length bs == 0) None (or_else (field_fault least p bs) (rows_fault f (slice_index bs 0) (p + size bs) (after bs)))

abbrev pub deposit_fault : ℕ → List ℕ → Option ByteFault
deposit_fault p bs =
    or_else (unless (whole bs) (Overruns p)) (or_else (unless (slice_index bs 0 == deposit_tag) (Undue p)) (rows_fault (length (content bs)) 0 (p + 3) (content bs)))

abbrev pub form_fault : List ℕ → Option ByteFault
form_fault bs = or_else (deposit_fault 0 bs) (unless (length (after bs) == 0) (Undue (size bs)))
