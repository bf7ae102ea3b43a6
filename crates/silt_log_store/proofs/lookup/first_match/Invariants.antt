use Rattle.silt_log_store.proofs.Common.{◌≡◌, true, false, IsTrue, length, list_all, AllWithin, Candidate, has_known_kind, all_rows}
use Rattle.silt_log_store.proofs.Matches.{has_key_at}
use Rattle.silt_log_store.proofs.lookup.first_match.Given as goal

-- the buffer keeps its length, and the candidates that were passed do not have the key
abbrev pub invariant-loop-candidate : goal.invariant-loop-candidate
invariant-loop-candidate g l = record {
  long : length l.front ≡ length l.initial.front;
  lack : IsTrue (g.D.Disk.content l.disk).honest → list_all has_known_kind (all_rows (g.D.Disk.content l.disk) l.log) ≡ true
      → AllWithin (λ (c : Candidate). has_key_at (all_rows (g.D.Disk.content l.disk) l.log) l.key.0 c ≡ false) l.candidates 0 l.candidate-index;
}
