-- The entries of both buckets.
use Rattle.silt_cuckoo.proofs.Common.{refl, sym, append-nil, eq-eqb, ne_eqb}
use Rattle.silt_cuckoo.specs.Lookup.{candidates_of}
use Rattle.silt_cuckoo.proofs.lookup.Candidates.of.Goals as goal

pub returns-then-first-second : goal.returns-then-first-second
unfolding candidates_of
returns-then-first-second c =
    let test = ne_eqb c.args.first c.args.second c.if-first-second.true in
    rw (test, c.add_matches-then-first-second.ensures.added, c.add_matches.ensures.added, c.new-found.ensures) refl

pub returns-else-first-second : goal.returns-else-first-second
unfolding candidates_of
returns-else-first-second c =
    let test = eq-eqb c.args.first c.args.second c.if-first-second.false in
    rw (test, c.add_matches.ensures.added, c.new-found.ensures) (sym (append-nil _))
