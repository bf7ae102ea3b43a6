use Rattle.silt_gamma.proofs.Writing.{aligned, holds_after}
use Rattle.silt_gamma.proofs.writer.BitWriter.write_bits.Goals as goal

pub append-requires-clause-alone : goal.append-requires-clause-alone
append-requires-clause-alone c = let a = aligned c.args.width c.args.value c.requires.some c.requires.word c.requires.small in rw a.0 a.1

pub invariant_of-self-2 : goal.invariant_of-self-2
invariant_of-self-2 c =
    let a = aligned c.args.width c.args.value c.requires.some c.requires.word c.requires.small in
    let added = rw c.in_ok-len.ensures.ok_part at c.checked_add.ensures in
    let holds = holds_after _ c.args.width c.args.value _ _ _ _ _ added.1 c.self.invariant.within c.self.view_is a.0 c.in_ok-append.ensures.ok in
    record { filled = holds.filled; within = holds.within }

pub returns-clause-ok : goal.returns-clause-ok
returns-clause-ok c =
    let a = aligned c.args.width c.args.value c.requires.some c.requires.word c.requires.small in
    let added = rw c.in_ok-len.ensures.ok_part at c.checked_add.ensures in
    (holds_after _ c.args.width c.args.value _ _ _ _ _ added.1 c.self.invariant.within c.self.view_is a.0 c.in_ok-append.ensures.ok).view
