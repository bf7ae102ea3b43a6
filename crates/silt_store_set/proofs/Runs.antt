-- Runs of events, from what each call does.
use Rattle.silt_store_set.proofs.Common.{subst, sym, ◌≡◌, Bool, IsTrue, List, [], ◌∷◌, ◌++◌, refl, ap, Ghosts, Event, Reply, Step, Legal, CoreState, map_of, Does, Runs, arith}

module _ {D F : Type 0} (facts : Ghosts D F) where
  -- a run goes on by one call
  pub runs_more : (old mid new : CoreState D) (events : List Event) (replies : List (Reply F)) (event : Event) (reply : Reply F)
      → Runs facts old events replies mid → Does facts mid new event reply → Runs facts old (events ++ event ∷ []) (replies ++ reply ∷ []) new
  runs_more old mid new [] [] event reply runs does = (new, rw runs at does, refl)
  runs_more old mid new (e ∷ events) (r ∷ replies) event reply runs does = (runs.0, runs.1, runs_more runs.0 mid new events _ event reply runs.2 does)
  runs_more old mid new events replies event reply runs does = absurd runs

  -- of a failed store, and of one that is not, the reply is that of a map
  pub does_step : (old new : CoreState D) (event : Event) (reply : Reply F) → IsTrue (facts.content old.disk).honest → Does facts old new event reply → Step (map_of old) event reply (map_of new)
  does_step old new event reply h does =
      let go : (b : Bool) → old.failed ≡ b → Step (map_of old) event reply (map_of new) = search arith in
      go old.failed refl

  -- the replies of a run are those of a map
  pub legal_runs : (old new : CoreState D) (events : List Event) (replies : List (Reply F)) → IsTrue (facts.content old.disk).honest
      → Runs facts old events replies new → Legal old.count (map_of old) events replies new.count (map_of new)
  legal_runs old new [] [] h runs = (ap (λ (c : CoreState D). c.count) runs, ap (λ (c : CoreState D). map_of c) runs)
  legal_runs old new (event ∷ events) (reply ∷ replies) h runs =
      let next = runs.0 in
      let there : IsTrue (facts.content next.disk).honest = subst IsTrue (sym runs.1.disk.honest) h in
      (next.count, map_of next, runs.1.counts, does_step old next event reply h runs.1, legal_runs next new events _ there runs.2)
  legal_runs old new events replies h runs = absurd runs
