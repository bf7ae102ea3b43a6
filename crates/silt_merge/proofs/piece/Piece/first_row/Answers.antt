use Rattle.silt_merge.proofs.piece.Piece.first_row.Goals as goal

pub returns : goal.returns
returns c = rw c.first.ensures.part at c.row_in.ensures
