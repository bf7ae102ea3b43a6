use Rattle.std.proofs.Common.{◌+◌, arith}
use Rattle.silt_hasher.proofs.Compressing.{one_round}
use Rattle.silt_hasher.proofs.compress.five_rounds.Goals as goal

pub returns : goal.returns
returns c = λ h is.
    let first = one_round h c.args.words.now _ _ _ (c.args.t + 1) (omega arith) is c.round-value.ensures in
    let second = one_round h c.args.words.now _ _ _ (c.args.t + 2) (omega arith) first c.round-value-2.ensures in
    let third = one_round h c.args.words.now _ _ _ (c.args.t + 3) (omega arith) second c.round-value-3.ensures in
    let fourth = one_round h c.args.words.now _ _ _ (c.args.t + 4) (omega arith) third c.round-value-4.ensures in
    one_round h c.args.words.now _ _ _ (c.args.t + 5) (omega arith) fourth c.round.ensures
