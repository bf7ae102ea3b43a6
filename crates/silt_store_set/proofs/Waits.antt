-- Whether a command waits, by the numbers of the active log.
use Rattle.silt_store_set.proofs.Common.{◌≡◌, Bool, false, true, [], map, nat_lt, cond, refl, ap, sym, arith, Content, command_of, LogState, waiting_rows, EngineState, waiting_commands}
use Rattle.silt_store_set.proofs.Common.{some_wait, InBounds}
use Rattle.silt_log.specs.Rows.{rows_from}
use Rattle.silt_store_set.proofs.Openings.{none_wait}
use Rattle.silt_engine.specs.Costs as engine

-- if no command waits, all rows are settled
pub all_settled : (content : Content) (log : LogState) → InBounds log → map command_of (waiting_rows content log) ≡ [] → log.settled ≡ log.used
unfolding rows_from
all_settled content log bounds none = search arith

-- the numbers of the log say the same
pub waits_same : (content : Content) (s : EngineState) → InBounds s.active.log → engine.row_waits s ≡ some_wait (waiting_commands content s)
waits_same content s bounds =
    let go : (b : Bool) → nat_lt s.active.log.settled s.active.log.used ≡ b → cond b 1 0 ≡ some_wait (waiting_commands content s) = elim [
      | true ↦ search (arith, all_settled)
      | false ↦ λ none.
          let settled : s.active.log.settled ≡ s.active.log.used = grind arith in
          sym (ap some_wait (ap (map command_of) (none_wait content s.active.log settled)))
    ] in
    go (nat_lt s.active.log.settled s.active.log.used) refl
