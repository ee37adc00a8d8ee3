-- What the rules say of the rows that writing asks for. Assumes nothing.
use Rattle.std.proofs.Common.{◌≡◌, ℕ, ◌+◌, ◌<◌, ◌≤◌, false, List, length, get_or, is_some, sym, ap, ◌∙◌, subst, arith}
use Rattle.refusals.specs.declared.Kind as kind
use Rattle.refusals.specs.declared.Kind.TheVariants as kinds
use Rattle.refusals.specs.Numbers.{kind_number}
use Rattle.deposit.specs.declared.rows.HeadRow.{HeadRow}
use Rattle.deposit.specs.declared.rows.LineRow.{LineRow}
use Rattle.deposit.specs.declared.rows.StopRow.{StopRow}
use Rattle.deposit.specs.declared.rows.ProfileRow.{ProfileRow}
use Rattle.deposit.specs.declared.rows.JourneyRow.{JourneyRow}
use Rattle.deposit.specs.Deposit.{Deposit, count_of, head_of, line_of, stop_of, journey_of, no_head, no_line, no_stop, no_profile, no_journey}
use Rattle.profile.specs.Verdict.{verdict}
use Rattle.ranges.specs.Words.{InRange}
use Rattle.fields.specs.Forms.{field}
use Rattle.encoding.specs.Rows.{body_at}
use Rattle.encoding.proofs.Judged.{judged_fit}

module _ (d : Deposit) (passes : is_some (verdict d) ≡ false) (n : ℕ) (k : kind.Kind) where
  -- row n of a kind that is known by an equation
  in_range : (j : kind.Kind) → k ≡ j → n < count_of d k → InRange d j n
  in_range j e h = (judged_fit d passes).in_range j n (subst (λ x. n < count_of d x) e h)

  pub head_can : k ≡ kinds.Head → n < count_of d k → (r : HeadRow) → head_of r ≡ get_or d.heads n no_head → length r.service.now ≤ 24
  head_can e h r q = omega (arith, ap (λ x. length x.service) q, (in_range kinds.Head e h).service.0.1)

  pub line_can : k ≡ kinds.Line → n < count_of d k → (r : LineRow) → line_of r ≡ get_or d.lines n no_line → length r.name.now + length r.outbound.now + length r.inbound.now ≤ 184
  line_can e h r q =
      let within = in_range kinds.Line e h in
      omega (arith, ap (λ x. length x.name) q, ap (λ x. length x.outbound) q, ap (λ x. length x.inbound) q, within.name.1, within.outbound, within.inbound)

  pub stop_can : k ≡ kinds.Stop → n < count_of d k → (r : StopRow) → stop_of r ≡ get_or d.stops n no_stop → length r.code.now + length r.name.now ≤ 60
  stop_can e h r q =
      let within = in_range kinds.Stop e h in
      omega (arith, ap (λ x. length x.code) q, ap (λ x. length x.name) q, within.code.0.1, within.name.1)

  pub profile_can : k ≡ kinds.Profile → n < count_of d k → (r : ProfileRow) → r ≡ get_or d.profiles n no_profile → (r.runs ≤ 255) × (r.not_runs ≤ 255)
  profile_can e h r q =
      let within = in_range kinds.Profile e h in
      (omega (arith, ap (λ x. x.runs) q, within.runs), omega (arith, ap (λ x. x.not_runs) q, within.not_runs))

  pub journey_can : k ≡ kinds.Journey → n < count_of d k → (r : JourneyRow) → journey_of r ≡ get_or d.journeys n no_journey → length r.code.now ≤ 24
  journey_can e h r q = omega (arith, ap (λ x. length x.code) q, (in_range kinds.Journey e h).code.0.1)

-- a row's field, where the kind is known by an equation
pub field_at : (d : Deposit) (n : ℕ) (k j : kind.Kind) → k ≡ j → (body : List ℕ) → body ≡ body_at d j n → field (kind_number j) body ≡ field (kind_number k) (body_at d k n)
field_at d n k j e body b = ap (field (kind_number j)) b ∙ ap (λ x. field (kind_number x) (body_at d x n)) (sym e)
