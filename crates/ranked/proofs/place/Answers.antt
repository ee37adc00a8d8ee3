use Rattle.std.proofs.Common.{sym, rules}
use Rattle.ranked.proofs.Places.{place_first, place_behind_row}
use Rattle.ranked.proofs.place.Goals as goal

pub returns-in-Some-clause-value : goal.returns-in-Some-clause-value
returns-in-Some-clause-value g c =
    sym (place_behind_row g.R.Rank.no_later c.args.row.now c.args.rows.now c.in-Some.last c.args.row.now (search rules) (search rules) (λ k d a b. search rules))

pub returns-in-None-clause-value : goal.returns-in-None-clause-value
returns-in-None-clause-value g c = sym (place_first g.R.Rank.no_later c.args.row.now c.args.rows.now (λ k d a. search rules))
