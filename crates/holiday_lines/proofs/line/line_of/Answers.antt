use Rattle.std.proofs.Common.{◌≡◌, ◌∙◌}
use Rattle.calendar.specs.Made.{day_of}
use Rattle.holiday_lines.proofs.Parts.{line_is, line_le}
use Rattle.holiday_lines.proofs.line.line_of.Goals as goal

pub returns : goal.returns
returns c =
    let is : c.args.day ≡ day_of c.unwrap-date.result = rw c.unwrap-date.ensures at c.of.ensures.answer in
    let text =
    line_is c.args.day c.args.kind c.unwrap-date.result c.of-2.result c.as_bytes.result.now c.as_bytes-2.result.now c.from.result is c.of-2.ensures.value
    (c.as_bytes.ensures.value ∙ c.name.ensures.value)
    (c.from.ensures ∙ c.number.ensures.value)
    (c.as_bytes-2.ensures.value ∙ c.name-2.ensures.value)
    in
    record { text = text; few = line_le c.args.day c.args.kind c.requires }
