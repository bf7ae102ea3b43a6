use Rattle.silt_resp.proofs.Common.{◌≡◌, ◌≤◌, ◌-◌, length, take, AnswersQuery, HoldsClient, Client, ServesCommands, client_after}
use Rattle.silt_resp.proofs.session.answer_read.Given as goal

abbrev pub invariant-loop-done : goal.invariant-loop-done
invariant-loop-done g l =
    record {
      within : l.done ≤ length l.bytes;
      stays : g.A.Answerer.value_len l.answerer ≡ l.settings.value_len;
      told : (client : Client) → HoldsClient l.initial.talk client → record {
        holds : HoldsClient l.talk (client_after l.settings client (take l.done l.bytes));
        all : ServesCommands (AnswersQuery g.A.Answerer.answers g.A.Answerer.administers) l.settings client (take l.done l.bytes)
            l.initial.answerer l.answerer (g.W.Write.contents l.initial.writer) (g.W.Write.contents l.writer);
      };
    }

abbrev pub decreases-loop-done : goal.decreases-loop-done
decreases-loop-done g l = length l.bytes - l.done
