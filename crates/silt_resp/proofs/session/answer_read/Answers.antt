use Rattle.std.proofs.Common.{arith, rules}
use Rattle.silt_event.specs.Queries.{AnswersQuery}
use Rattle.silt_resp.specs.Batches.{HoldsClient}
use Rattle.silt_resp.specs.Sessions.{Client, EndsWith}
use Rattle.silt_resp.proofs.Doing.{all-part, ends-part}
use Rattle.silt_resp.proofs.Gathering.{client_part}
use Rattle.silt_resp.proofs.session.answer_read.Goals as goal

pub returns-in_err-done-clause-ends : goal.returns-in_err-done-clause-ends
returns-in_err-done-clause-ends g c =
    let answers = (AnswersQuery g.A.Answerer.answers g.A.Answerer.administers) in
    let s = c.args.settings.now in
    let done = c.loop-done.done in
    let bytes = c.args.bytes.now in
    let end = c.in_err-done.field-0.0 in
    let before = g.W.Write.contents c.args.writer.now in
    let after = g.W.Write.contents c.answer_part.new.writer in
    let told : (client : Client) → HoldsClient c.args.talk.now client → EndsWith answers end s client bytes c.args.answerer.now c.answer_part.new.answerer before after = λ client h.
    let so_far = c.loop-done.invariant.told client h in
    ends-part answers end s client bytes done _ _ _ _ _ _ so_far.all (rw c.split_at.ensures.back at (c.in_err-done.ensures.ends _ so_far.holds)) in
    search (rules, told)

pub loop-done-preserved : goal.loop-done-preserved
loop-done-preserved g c =
    let answers = (AnswersQuery g.A.Answerer.answers g.A.Answerer.administers) in
    let s = c.args.settings.now in
    let done = c.loop-done.done in
    let count = c.in_ok-done.field-0 in
    let bytes = c.args.bytes.now in
    let bound = c.in_ok-done.ensures.count.1 in
    let rest = c.split_at.ensures.back_len in
    record {
      within = omega arith;
      stays = c.answer_part.ensures.stays;
      told = λ client h.
          let before = c.loop-done.invariant.told client h in
          record {
            holds = client_part s client bytes _ done count c.answer_part.new.talk c.split_at.ensures.back (c.in_ok-done.ensures.holds _ before.holds);
            all = all-part answers s client bytes done count _ _ _ _ _ _ before.all (rw c.split_at.ensures.back at (c.in_ok-done.ensures.all _ before.holds));
          };
    }
