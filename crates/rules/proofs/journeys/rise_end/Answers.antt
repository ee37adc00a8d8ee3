use Rattle.std.proofs.Common.{sym, ◌∙◌}
use Rattle.deposit.specs.Deposit.{no_override}
use Rattle.patterns.specs.Links.{shown}
use Rattle.patterns.proofs.Parts.{shown_opened}
use Rattle.rules.proofs.Walks.{rise_not, rise_more}
use Rattle.rules.proofs.journeys.rise_end.Goals as goal

pub returns-then-position-least : goal.returns-then-position-least
returns-then-position-least g c =
    let os = (g.C.Carrier.meaning c.args.c.now).overrides in
    let step = shown_opened c.loop-at.span c.next.new.self os c.count-rows.result c.count-rows.ensures c.in-Some.at no_override c.override_row.result c.in-Some.ensures.row c.override_row.ensures in
    rise_not c.loop-at.least c.from-position.result c.override_row.result (shown c.loop-at.span os) (shown c.next.new.self os) step c.from-position.ensures c.if-position-least.true
    ∙ sym c.loop-at.invariant

pub loop-at-preserved : goal.loop-at-preserved
loop-at-preserved g c =
    let os = (g.C.Carrier.meaning c.args.c.now).overrides in
    let step = shown_opened c.loop-at.span c.next.new.self os c.count-rows.result c.count-rows.ensures c.in-Some.at no_override c.override_row.result c.in-Some.ensures.row c.override_row.ensures in
    c.loop-at.invariant
    ∙ rise_more c.loop-at.least c.from-position.result c.override_row.result (shown c.loop-at.span os) (shown c.next.new.self os) step c.from-position.ensures c.if-position-least.false
