use Rattle.std.proofs.Common.{◌≡◌, drop}
use Rattle.layout.specs.Layout.{texts, after_texts}
use Rattle.layout.proofs.rows.pass_texts.Given as goal

abbrev pub invariant-loop-most : goal.invariant-loop-most
invariant-loop-most l =
    (texts l.limits l.content ≡ texts (drop l.most-index l.limits) l.rest)
    × (after_texts l.limits l.content ≡ after_texts (drop l.most-index l.limits) l.rest)
