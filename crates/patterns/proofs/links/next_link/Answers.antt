use Rattle.std.proofs.Common.{◌∙◌}
use Rattle.patterns.proofs.Parts.{ahead_link, ahead_use}
use Rattle.patterns.proofs.links.next_link.Goals as goal

pub returns-in-Some : goal.returns-in-Some
returns-in-Some g c =
    let next = ahead_link (g.C.Carrier.meaning c.args.c.now) c.loop-link.cursor c.next.new.self c.count.result c.in-Some.link c.link.result c.count.ensures c.in-Some.ensures.row c.link.ensures in
    record { rows = c.loop-link.invariant ∙ next }

pub loop-link-preserved : goal.loop-link-preserved
loop-link-preserved g c =
    let next = ahead_use (g.C.Carrier.meaning c.args.c.now) c.loop-link.cursor c.next.new.self c.next-in-loop-link.new.self (record { at = c.from-in-loop-link.result; left = c.from-in-loop-link-2.result }) c.count.result c.count-in-loop-link.result c.in_ok-row.row c.from.result c.use_of_section.result c.section-section.result
    c.count.ensures c.in_default.ensures.row c.count-in-loop-link.ensures c.in_ok-row.ensures.row c.use_of_section.ensures c.from.ensures c.section-section.ensures c.from-in-loop-link.ensures c.from-in-loop-link-2.ensures in
    c.loop-link.invariant ∙ next
