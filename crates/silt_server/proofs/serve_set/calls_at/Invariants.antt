use Rattle.silt_server.proofs.Names.{◌≡◌, ◌%◌, ◌^◌, ℕ, List, map, sum, take, CountsEach}
use Rattle.silt_server.proofs.serve_set.calls_at.Given as goal

-- the calls of the desks so far are added up
abbrev pub invariant-loop-desk : goal.invariant-loop-desk
invariant-loop-desk g l = (calls : List ℕ) × CountsEach g.T.Trace.counts (map (λ desk. desk.trace) (take l.desk-index l.desks)) calls × (l.calls ≡ sum calls % 2 ^ 64)
