use Rattle.silt_session.proofs.Common.{ap, sym, ◌∙◌, Option, PlaceState, subst}
use Rattle.silt_session.proofs.Tolds.{IsReplied, placed_at, replies_so}
use Rattle.silt_session.proofs.task.Task.reply.Goals.{in-Some, in-None}
use Rattle.silt_session.proofs.task.Task.reply.Goals as goal

pub invariant_of-self : goal.invariant_of-self
invariant_of-self g c =
    let had = c.self.invariant in
    let inside = c.self.inside in
    elim c.match-reply_after.branch [
      | in-Some w ↦ replies_so g.D.Disk g.T.Trace inside.session inside.request inside.answer inside.call c.args.flushed.now
          c.args.flush.now w.in-Some.reply _ had.0 had.2 c.requires.flushed c.requires.flush
          (sym c.reply_after.ensures ∙ w.in-Some.is) (w.t-9-is
          ∙ ap (λ (at : Option PlaceState). placed_at g.D.Disk g.T.Trace inside.session inside.request inside.answer inside.call w.in-Some.reply at w.again-in-Some.result) w.again.ensures
          ∙ ap (λ (behind : Option PlaceState). placed_at g.D.Disk g.T.Trace inside.session inside.request inside.answer inside.call
          w.in-Some.reply inside.call behind) w.again-in-Some.ensures)
      | in-None w ↦ subst (IsReplied g.D.Disk g.T.Trace inside.session inside.request inside.answer inside.call) (sym w.t-9-is) (had.0, tt, had.2, tt)
    ]
