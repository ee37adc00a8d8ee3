use Rattle.std.proofs.Common.{◌≡◌, drop}
use Rattle.layout.specs.Layout.{after_texts}
use Rattle.form.specs.Look.{texts_fault}
use Rattle.form.proofs.looks.pass_texts.Given as goal

abbrev pub invariant-loop-most : goal.invariant-loop-most
invariant-loop-most l =
    (texts_fault l.limits l.content.place l.content.bytes.now ≡ texts_fault (drop l.most-index l.limits) l.rest.place l.rest.bytes.now)
    × (after_texts l.limits l.content.bytes.now ≡ after_texts (drop l.most-index l.limits) l.rest.bytes.now)
