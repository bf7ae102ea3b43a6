use Rattle.silt_merge.proofs.Pieces.{first_entry}
use Rattle.silt_merge.proofs.piece.Piece.first_entry.Goals as goal

pub returns-clause-entry : goal.returns-clause-entry
returns-clause-entry c = λ rows place are. rw c.copy_from_slice.ensures.after (rw c.first.ensures.part (first_entry rows place c.args.self.now.parts c.requires.some are))
