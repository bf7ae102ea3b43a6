-- Events that were asked for, as contracts see them.
use Rattle.std.specs.Prelude.{Result}
use Rattle.silt_session.specs.declared.pipeline.Handed.{Handed}
use Rattle.silt_session.specs.declared.pipeline.Pipeline.{Pipeline}
use Rattle.silt_session.specs.declared.unanswered.Unanswered.{Unanswered}

-- the events with their replies or their places, and what was handed over for them
pub record AskedState (D T N F : Type 0) : Type 0 where
  pub pipeline : Pipeline D T F
  pub handed : Result (Handed D T N F) Unanswered
