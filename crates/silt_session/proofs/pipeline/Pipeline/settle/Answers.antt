use Rattle.silt_session.proofs.pipeline.Pipeline.settle.Goals as goal

pub returns : goal.returns
returns g c =
    let handed = c.hand_over-handed.ensures in
    c.settle_by.ensures c.args.self.now ((handed.none, handed.same.0, handed.same.1, handed.same.2), handed.asked)
