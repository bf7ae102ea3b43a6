use Rattle.silt_view.proofs.viewed.read_within.Goals as goal

pub returns-in-Ok-clause-bytes : goal.returns-in-Ok-clause-bytes
returns-in-Ok-clause-bytes g c = λ honest. rw (c.read_at.auto.buf) (c.in-Ok.ensures.bytes honest)
