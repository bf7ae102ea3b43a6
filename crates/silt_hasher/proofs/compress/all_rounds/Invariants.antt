use Rattle.std.proofs.Common.{◌≡◌, ◌*◌}
use Rattle.sha1.specs.Sha1.{rounds}
use Rattle.silt_hasher.proofs.compress.all_rounds.Given as goal

-- five rounds a group are done
abbrev pub invariant-choosing : goal.invariant-choosing
invariant-choosing l = l.v ≡ rounds l.value l.words (5 * l.group)

abbrev pub invariant-odd : goal.invariant-odd
invariant-odd l = l.v ≡ rounds l.value l.words (5 * l.group)

abbrev pub invariant-majority : goal.invariant-majority
invariant-majority l = l.v ≡ rounds l.value l.words (5 * l.group)

abbrev pub invariant-last : goal.invariant-last
invariant-last l = l.v ≡ rounds l.value l.words (5 * l.group)
