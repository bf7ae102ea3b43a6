use Rattle.silt.proofs.service.entrance_of.Goals as goal

pub returns-in-Err-clause-told : goal.returns-in-Err-clause-told
returns-in-Err-clause-told g c = (c.in-Err.why, c.in-Err.ensures.none, c.tell_no_entrance.ensures)
