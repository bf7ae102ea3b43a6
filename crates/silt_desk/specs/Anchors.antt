-- Calls that lead from the store with which a trace began.
use Rattle.std.specs.Prelude.{◌≡◌, ℕ, IfSome, List, length, Option}
use Rattle.silt_desk.specs.declared.call.RecordedCall.{RecordedCall}
use Rattle.silt_desk.specs.CallLogs.{CallsSeen}
use Rattle.silt_desk.specs.History.{count_accepted}
use Rattle.silt_desk.specs.Seeing.{SeenStore}
use Rattle.silt_desk.specs.Traces.{LeadsTo}

-- the calls lead from the store that is named, if one is, to this one
abbrev pub LeadsFrom : Option SeenStore → List RecordedCall → SeenStore → Type 0
LeadsFrom named calls store = IfSome named (λ first. LeadsTo first calls store)

-- what contracts see of a trace that is anchored: the number of its shard, the trace, and the log of its calls, unless it was given up
pub record AnchoredState (T : Type 0) : Type 0 where
  pub shard : ℕ
  pub trace : T
  pub log : Option CallsSeen

-- some calls lead from the store that is named to this one, the trace counts them, and they are those of the log, if there is one
pub record HasPast {T : Type 0} (named : Option SeenStore) (counts : T → ℕ → ℕ → Type 0) (state : AnchoredState T) (store : SeenStore) : Type 0 where
  pub calls : List RecordedCall
  pub leads : LeadsFrom named calls store
  pub counted : counts state.trace (length calls) (count_accepted calls)
  pub logged : IfSome state.log (λ seen. seen.calls ≡ calls)
