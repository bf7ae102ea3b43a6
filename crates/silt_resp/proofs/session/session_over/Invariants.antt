use Rattle.silt_resp.proofs.Common.{◌≡◌, ℕ, List, Consumes, AnswersQuery, HoldsClient, ServesCommands, client_after, new_client}
use Rattle.silt_resp.proofs.session.session_over.Given as goal

abbrev pub invariant-loop : goal.invariant-loop
invariant-loop g l =
    (g.A.Answerer.value_len l.answerer ≡ l.settings.value_len)
    × (read : List ℕ) × Consumes (g.R.Read.remaining l.initial.reader) (g.R.Read.remaining l.reader) read
    × HoldsClient l.talk (client_after l.settings (new_client l.settings) read)
    × ServesCommands (AnswersQuery g.A.Answerer.answers g.A.Answerer.administers) l.settings (new_client l.settings) read
    l.initial.answerer l.answerer (g.W.Write.contents l.initial.writer) (g.W.Write.contents l.writer)
