-- What is written of a deposit that passes is read again. Assumes nothing.
use Rattle.std.proofs.Common.{◌≡◌, ℕ, ◌+◌, ◌<◌, ◌≤◌, List, ◌++◌, length, get_or, take, drop, Some, None, Ok, Option, ap, ◌∙◌, arith, length-take-le, take_at}
use Rattle.std.proofs.ByRecursion.{All-from_get_or}
use Rattle.std.proofs.lemmas.List.{drop_at}
use Rattle.times.specs.declared.moments.Moment.{Moment}
use Rattle.refusals.specs.declared.Kind.TheVariants as kinds
use Rattle.calendar.specs.Dates.{last_day}
use Rattle.deposit.specs.Deposit.{Deposit, no_head, no_line, no_stop, no_override, no_journey}
use Rattle.ranges.specs.Words.{Given, MomentIn}
use Rattle.layout.specs.Reading.{decode}
use Rattle.layout.specs.Writing.{deposit_content, encode}
use Rattle.layout.specs.Trips.{Fits2, Fits4, MomentKept, HeadKept, LineKept, StopKept, OverrideKept, JourneyKept, Kept}
use Rattle.layout.proofs.SameRows.{same_rows}
use Rattle.encoding.specs.Rows.{Fit}
use Rattle.encoding.specs.Write.{write_bytes}
use Rattle.encoding.proofs.RowLengths.{length-field}

given_fits2 : (o : Option ℕ) (m : ℕ) → m ≤ 1000 → Given (λ n. n < m) o → Fits2 o
given_fits2 None m h g = tt
given_fits2 (Some n) m h g = omega arith

given_fits4 : (o : Option ℕ) (m : ℕ) → m ≤ 1000000 → Given (λ n. n ≤ m) o → Fits4 o
given_fits4 None m h g = tt
given_fits4 (Some n) m h g = omega arith

moment_kept : (o : Option Moment) → Given MomentIn o → MomentKept o
moment_kept None g = tt
moment_kept (Some m) g = (omega (arith, g.0), omega (arith, g.1))

pub fit_kept : (d : Deposit) → Fit d → Kept d
fit_kept d fit = record {
  heads =
      All-from_get_or HeadKept d.heads no_head (λ n h.
      let row = get_or d.heads n no_head in
      let within = fit.in_range kinds.Head n h in
      record {
        service = within.service.0.1;
        modified = moment_kept row.modified within.modified;
        end = given_fits4 row.end last_day (omega arith) within.end;
        profile = given_fits2 row.profile (length d.profiles) (fit.few kinds.Profile) within.profile;
      });
  lines =
      All-from_get_or LineKept d.lines no_line (λ n h.
      let within = fit.in_range kinds.Line n h in
      record { name = within.name.1; outbound = within.outbound; inbound = within.inbound });
  stops =
      All-from_get_or StopKept d.stops no_stop (λ n h.
      let within = fit.in_range kinds.Stop n h in
      record { code = within.code.0.1; name = within.name.1 });
  overrides =
      All-from_get_or OverrideKept d.overrides no_override (λ n h.
      let row = get_or d.overrides n no_override in
      let within = fit.in_range kinds.Override n h in
      record {
        run = given_fits4 row.run 21600 (omega arith) within.run;
        from_wait = given_fits4 row.from_wait 3600 (omega arith) within.from_wait;
        to_wait = given_fits4 row.to_wait 3600 (omega arith) within.to_wait;
      });
  journeys =
      All-from_get_or JourneyKept d.journeys no_journey (λ n h.
      let row = get_or d.journeys n no_journey in
      let within = fit.in_range kinds.Journey n h in
      record {
        code = within.code.0.1;
        pattern = given_fits2 row.pattern (length d.patterns) (fit.few kinds.Pattern) within.pattern;
        other = given_fits2 row.other (length d.journeys) (fit.few kinds.Journey) within.other;
        profile = given_fits2 row.profile (length d.profiles) (fit.few kinds.Profile) within.profile;
      });
}

-- the bytes at the place of a deposit, and what they stand for
pub read_again : (d : Deposit) (old new : List ℕ) (at n : ℕ) → Fit d → n ≡ length (deposit_content d) → at ≤ length old → new ≡ write_bytes d old at (Ok (3 + n)) → decode (take (3 + n) (drop at new)) ≡ Some d
read_again d old new at n fit e h w =
    let rest = encode d ++ drop (at + (3 + n)) old in
    let behind : drop at new ≡ rest = ap (drop at) w ∙ drop_at (take at old) rest at (length-take-le at old h) in
    let here : take (3 + n) rest ≡ encode d = take_at (encode d) (drop (at + (3 + n)) old) (3 + n) (omega (arith, length-field 64 (deposit_content d))) in
    ap (λ l. decode (take (3 + n) l)) behind ∙ ap decode here ∙ same_rows d (fit_kept d fit)
