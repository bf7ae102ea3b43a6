use Rattle.silt_session.proofs.session.Session.answer_all.Goals as goal

pub returns-clause-told : goal.returns-clause-told
returns-clause-told g c = (c.in_ok-replies.ensures c.args.told.now c.args.events.items c.in_ok-asked.ensures).0

pub returns-clause-replies : goal.returns-clause-replies
returns-clause-replies g c = (c.in_ok-replies.ensures c.args.told.now c.args.events.items c.in_ok-asked.ensures).1

pub returns-clause-order : goal.returns-clause-order
returns-clause-order g c = (c.in_ok-replies.ensures c.args.told.now c.args.events.items c.in_ok-asked.ensures).2
