use Rattle.silt_store_set.proofs.Common.{◌≡◌, ◌+◌, ◌++◌, ◌∷◌, [], IsTrue, take, ◌∙◌, refl, take_more, take_all}
use Rattle.silt_store_set.proofs.Histories.{lives_more}
use Rattle.silt_store_set.proofs.Livings.{lives_on, lives_ran}
use Rattle.silt_store_set.proofs.life.lives.Goals as goal

pub loop-events-init : goal.loop-events-init
loop-events-init g c = record {
  honest = refl;
  ran = rw c.in_ok-replies.ensures.items refl;
  so_far = λ m starts. (m, rw c.in_ok-replies.ensures.items refl, starts.safe);
}

pub loop-events-preserved : goal.loop-events-preserved
loop-events-preserved g c = record {
  honest = c.live-reply.ensures.honest ∙ c.loop-events.invariant.honest;
  ran =
      let life = rw c.deref.ensures.value at c.live-reply.ensures.ran in
      let taken : take (c.loop-events.events-index + 1) c.args.lives.now ≡ take c.loop-events.events-index c.args.lives.now ++ c.events-item.result ∷ [] =
      cc (take_more c.args.lives.now c.loop-events.events-index c.events-item.result c.loop-events-test.true, c.events-item.is) in
      rw (taken, c.in_ok-push.ensures.items) (lives_on g.D.Disk c.args.value_len (take c.loop-events.events-index c.args.lives.now) c.loop-events.replies.items
      c.args.disk c.loop-events.disk c.live-reply.result.1 c.events-item.result c.live-reply.result.0 c.loop-events.invariant.ran life);
  so_far = λ m starts.
      let before = c.loop-events.invariant.so_far m starts in
      let here : IsTrue (g.D.Disk.content c.loop-events.disk).honest = c.loop-events.invariant.honest ∙ starts.honest in
      let now = c.live-reply.ensures.life before.0 (record { honest = here; safe = before.2 }) in
      let life = rw c.deref.ensures.value at now.1 in
      let taken : take (c.loop-events.events-index + 1) c.args.lives.now ≡ take c.loop-events.events-index c.args.lives.now ++ c.events-item.result ∷ [] =
      cc (take_more c.args.lives.now c.loop-events.events-index c.events-item.result c.loop-events-test.true, c.events-item.is) in (
        now.0,
        rw (taken, c.in_ok-push.ensures.items) (lives_more m (take c.loop-events.events-index c.args.lives.now) c.loop-events.replies.items
            before.0 now.0 c.events-item.result c.live-reply.result.0 before.1 life),
        now.2,
      );
}

pub returns-clause-history : goal.returns-clause-history
returns-clause-history g c = λ m starts.
    let so_far = c.loop-events.invariant.so_far m starts in
    (so_far.0, rw (take_all c.loop-events.events-index c.args.lives.now c.loop-events-test.false) at so_far.1)

pub returns-clause-ran : goal.returns-clause-ran
returns-clause-ran g c =
    let all = take_all c.loop-events.events-index c.args.lives.now c.loop-events-test.false in
    lives_ran g.D.Disk c.args.value_len c.args.lives.now c.loop-events.replies.items c.args.disk c.loop-events.disk (rw all at c.loop-events.invariant.ran)
