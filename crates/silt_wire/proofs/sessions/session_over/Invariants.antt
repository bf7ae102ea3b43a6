use Rattle.silt_wire.proofs.Common.{◌≡◌, ℕ, List, [], Consumes, AnswersQuery, HoldsBytes, AnswersAll, asks, lines_after, rest_after}
use Rattle.silt_wire.proofs.sessions.session_over.Given as goal

abbrev pub invariant-loop : goal.invariant-loop
invariant-loop g l =
    (g.A.Answerer.value_len l.answerer ≡ l.value_len)
    × (read : List ℕ) × Consumes (g.R.Read.remaining l.initial.reader) (g.R.Read.remaining l.reader) read
    × HoldsBytes l.pending (rest_after [] read)
    × AnswersAll (AnswersQuery g.A.Answerer.answers g.A.Answerer.administers) (asks l.value_len (lines_after [] read)) l.initial.answerer
    l.answerer (g.W.Write.contents l.initial.writer) (g.W.Write.contents l.writer)
