use Rattle.silt_session.proofs.Common.{[], ◌∷◌, ◌++◌, append_assoc, refl, sym, ◌∙◌, ap, arith, append-nil, Job}
use Rattle.silt_session.proofs.Batches.{taken_behind}
use Rattle.silt_session.proofs.held.Batch.send_done.Goals as goal

pub loop-self-init : goal.loop-self-init
loop-self-init g c = record { within = c.requires.within; count = refl; fewer = omega arith; room = refl; so_far = ([], [], append-nil c.args.self.now.jobs.items, tt) }

pub loop-self-preserved : goal.loop-self-preserved
loop-self-preserved g c =
    let before = c.loop-self.invariant in
    let (sent, replied, is, all) = before.so_far in
    let popped = c.in-Some.ensures in
    let done : Job g.row.D.Denot g.row.T.Denot g.row.N.Denot g.row.D-Fault.Denot = record { tasks = c.reply_to_job.new.tasks; replies = c.in-Some.done.replies } in
    record {
      within = omega (arith, c.loop-self-test.true, c.len.ensures, popped.cases);
      count = before.count;
      fewer = omega (arith, before.fewer, popped.cases);
      room = popped.capacity ∙ before.room;
      so_far = (
        c.in-Some.done ∷ sent,
        done ∷ replied,
        sym (append_assoc c.pop.new.self.items (c.in-Some.done ∷ []) sent) ∙ ap (λ l. l ++ sent) (sym popped.items) ∙ is,
        ((c.reply_to_job.ensures.replies, c.reply_to_job.ensures.ticket, refl), all),
      );
    }

pub returns-clause-replies : goal.returns-clause-replies
returns-clause-replies g c =
    let before = c.loop-self.invariant in
    let (sent, replied, is, all) = before.so_far in
    let last = taken_behind c.args.self.now.left c.loop-self.self.jobs.items sent c.args.self.now.jobs.items is
    (omega (arith, c.loop-self-test.false, c.len.ensures, before.within, before.count, c.loop-self.self.jobs.ok.0)) in
    (replied, rw last all)
