use Rattle.silt_log_store.proofs.Common.{◌≡◌, [], false, get_or, AllWithin, bytes_eq, Candidate}
use Rattle.silt_log_store.proofs.index.first_slot.Given as goal

abbrev pub invariant-loop-candidate : goal.invariant-loop-candidate
invariant-loop-candidate l = AllWithin (λ (c : Candidate). bytes_eq (get_or l.keys c.place []) l.key ≡ false) l.candidates 0 l.candidate-index
