use Rattle.std.proofs.Common.{arith}
use Rattle.computed_book.specs.Rules.{computed_kind}
use Rattle.pieces.proofs.Fronts.{front_is}
use Rattle.holiday_lines.specs.Texts.{year_text}
use Rattle.holidays.proofs.answer.Goals.{in-Ok, in-Err}
use Rattle.holidays.proofs.answer.Goals as goal

pub returns : goal.returns
returns c = record {
  bytes = λ h. elim c.match-year_text.branch [
    | in-Ok w ↦ rw (w.length-is, w.out-is) (front_is (year_text computed_kind c.args.line.now) c.args.out.now c.year_text.new.out w.in-Ok.length w.in-Ok.ensures.answer)
    | in-Err w ↦ absurd (omega (arith, h, w.in-Err.ensures.answer.1))
  ];
}
