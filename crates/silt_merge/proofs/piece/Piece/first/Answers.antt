use Rattle.silt_merge.proofs.Common.{arith, rules}
use Rattle.silt_merge.proofs.Pieces.{first_part, part_long}
use Rattle.silt_merge.proofs.piece.Piece.first.Goals as goal

pub returns-clause-part : goal.returns-clause-part
returns-clause-part c =
    let piece = c.self.inside in
    rw (← c.self.view_is) (cc (c.deref-2.ensures.value, first_part piece.bytes.items piece.len piece.at piece.left (omega (arith, c.if-self-eq0.false))))

pub returns-clause-len : goal.returns-clause-len
returns-clause-len c = search (rules, arith, part_long, ← c.self.view_is)
