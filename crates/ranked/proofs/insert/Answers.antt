use Rattle.std.proofs.Common.{◌≡◌, ◌+◌, ◌-◌, true, ◌∷◌, ◌++◌, take, drop, set, refl, subst, ap, ◌∙◌, arith}
use borrow.Rule.Slice.PartMut.{put_mid}
use Rattle.std.specs.List.{insert}
use Rattle.std.proofs.lemmas.List.{length-take-le}
use Rattle.std.specs.List.Sorted.{IsPermutation}
use Rattle.std.proofs.lemmas.List.Sorted.{IsPermutation-insert}
use Rattle.ranked.specs.Placing.{place, placed, in_order, later_behind}
use Rattle.ranked.proofs.Places.{turned_in, put_last, front}
use Rattle.ranked.proofs.Order.{placed_in_order, placed_later_behind}
use Rattle.ranked.proofs.insert.Goals as goal

pub returns-then-at-count : goal.returns-then-at-count
returns-then-at-count g c =
    let nl = g.R.Rank.no_later in
    let xs = c.args.rows.now in
    let n = c.args.count in
    let row = c.args.row in
    let rows = set xs n row in
    let last : n ≡ place nl row (take n xs) = omega (arith, c.if-at-count.true, c.place-at.ensures.value, c.place-at.ensures.within, length-take-le n xs (omega arith)) in
    let w : rows ≡ placed nl row (take n xs) ++ drop (n + 1) xs = put_last xs n row (omega arith) ∙ ap (λ i. insert (take n xs) i row ++ drop (n + 1) xs) last in
    let f : placed nl row (take n xs) ≡ take (n + 1) rows = front nl row xs rows n (omega arith) w in
    record {
      rows = (omega arith, refl, w);
      order = λ o. subst (λ zs. in_order nl zs ≡ true) f (placed_in_order nl g.met.R.Rank.total g.met.R.Rank.transitive row (take n xs) o);
      holds = subst (IsPermutation (row ∷ take n xs)) f (IsPermutation-insert (take n xs) (place nl row (take n xs)) row);
      behind = subst (λ zs. later_behind nl row (place nl row (take n xs)) zs ≡ true) f (placed_later_behind nl row (take n xs));
    }

pub returns : goal.returns
returns g c =
    let nl = g.R.Rank.no_later in
    let xs = c.args.rows.now in
    let n = c.args.count in
    let row = c.args.row in
    let at = c.place-at.result in
    let short = length-take-le n xs (omega arith) in
    let rows = put_mid at (n + 1 - at) (set xs n row) c.rotate_right.new.self in
    let w : rows ≡ placed nl row (take n xs) ++ drop (n + 1) xs =
    turned_in xs c.rotate_right.new.self n at (n + 1 - at) row (omega arith) (omega arith) (omega arith) c.rotate_right.ensures.after
    ∙ ap (λ i. insert (take n xs) i row ++ drop (n + 1) xs) c.place-at.ensures.value in
    let f : placed nl row (take n xs) ≡ take (n + 1) rows = front nl row xs rows n (omega arith) w in
    record {
      rows = (omega arith, refl, w);
      order = λ o. subst (λ zs. in_order nl zs ≡ true) f (placed_in_order nl g.met.R.Rank.total g.met.R.Rank.transitive row (take n xs) o);
      holds = subst (IsPermutation (row ∷ take n xs)) f (IsPermutation-insert (take n xs) (place nl row (take n xs)) row);
      behind = subst (λ zs. later_behind nl row (place nl row (take n xs)) zs ≡ true) f (placed_later_behind nl row (take n xs));
    }
