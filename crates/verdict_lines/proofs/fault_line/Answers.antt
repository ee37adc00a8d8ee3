use Rattle.std.proofs.Common.{◌∙◌, subst}
use Rattle.pieces.specs.Texts.{Written}
use Rattle.verdict_lines.proofs.Parts.{fault_text, fault_le}
use Rattle.verdict_lines.proofs.fault_line.Goals as goal

pub returns : goal.returns
returns c =
    let text = fault_text c.args.title.now c.args.rule c.args.kind c.args.row c.from.result c.from-2.result (c.from.ensures ∙ c.number.ensures.value) (c.from-2.ensures ∙ c.number-2.ensures.value) in
    record {
      answer = subst (λ t. Written t c.args.line.now c.write_text.result c.write_text.new.out) text c.write_text.ensures.answer;
      few = fault_le c.args.rule c.args.kind c.args.row c.ranges.row.fits;
    }
