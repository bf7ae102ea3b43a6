use Rattle.silt_wire.proofs.Common.{◌≡◌, ◌≤◌, ◌-◌, ℕ, List, length, take, AnswersQuery, HoldsBytes, ServesAll, rest_after}
use Rattle.silt_wire.proofs.sessions.answer_read.Given as goal

abbrev pub invariant-loop-done : goal.invariant-loop-done
invariant-loop-done g l =
    record {
      within : l.done ≤ length l.bytes;
      stays : g.A.Answerer.value_len l.answerer ≡ l.value_len;
      told : (p : List ℕ) → HoldsBytes l.initial.pending p → record {
        holds : HoldsBytes l.pending (rest_after p (take l.done l.bytes));
        all : ServesAll (AnswersQuery g.A.Answerer.answers g.A.Answerer.administers) l.value_len p (take l.done l.bytes) l.initial.answerer
            l.answerer (g.W.Write.contents l.initial.writer) (g.W.Write.contents l.writer);
      };
    }

abbrev pub decreases-loop-done : goal.decreases-loop-done
decreases-loop-done g l = length l.bytes - l.done
