-- Room for rows.
use Rattle.silt_progress.proofs.Common.{eqb-true, option_map, Ghosts, Event, Idle, Waiting, Moved, Finished, Refused, is_work, merge_progress, NoRoomLaw, RestLaw, RoomLaw, WaitLaw}
use Rattle.std.proofs.Common.{◌≡◌, ◌≢◌, ℕ, Bool, true, false, not, ◌&&◌, ◌||◌, List, length, Option, refl, ap, sym, ◌∙◌, arith}
use Rattle.silt_event.specs.declared.progress.Progress.{Progress as ProgressOf}
use Rattle.silt_event.specs.declared.refusal.Refusal.TheVariants.{NoRoom}
use Rattle.silt_store_set.specs.CoreState.{AreAllInUse, CoreState, Does, SettingCause, convert_due, has_decided, merge_due}
use Rattle.silt_progress.proofs.Conversions.{due_waiting}
use Rattle.silt_progress.proofs.Merges.{no_work}

-- ---- why there is no room

module _ {D F : Type 0} (facts : Ghosts D F) where
  -- all log regions are in use, and a conversion has something to do
  record IsFull (old : CoreState D) : Type 0 where
    working : old.failed ≡ false
    used : AreAllInUse old
    due : convert_due old ≢ Idle

  -- a put or a delete that has no room
  full_setting : (old new : CoreState D) (key : List ℕ) (value : Option (List ℕ)) → SettingCause facts old new key value (Refused NoRoom) → IsFull old
  full_setting old new key value cause = search arith

  -- any call that has none
  full : (old new : CoreState D) (event : Event) → Does facts old new event (Refused NoRoom) → IsFull old
  full old new event does = search (arith, full_setting)

  -- there is room with a free log region, or with nothing to convert
  pub room : RoomLaw facts
  room old new event reply does h5 none = search arith

-- ---- what there is to do then

-- with a hash store there is a step of merging to do
some_merge : (hashes : ℕ) (decided : Option Bool) → hashes ≢ 0 → is_work (merge_progress hashes decided) ≡ true
some_merge hashes decided some = search (arith, eqb-true)

-- a conversion waits only if all hash regions are in use
pub wait : {D : Type 0} → WaitLaw D
wait core sized waits = search (arith, due_waiting, some_merge)

-- what has something to do, and no step, waits
waits_then : (progress : ProgressOf) → progress ≢ Idle → is_work progress ≡ false → progress ≡ Waiting
waits_then progress some none = grind arith

pub rest : {D : Type 0} → RestLaw D
rest core sized converts merges =
    let merged : merge_due core ≡ Idle = no_work (length core.body.hashed) (option_map (has_decided core) core.merging) (sym merges) in
    let go : (progress : ProgressOf) → progress ≡ convert_due core → progress ≡ Idle = elim [
      | Idle ↦ λ is. refl
      | Waiting ↦ λ is. absurd (let no : true ≡ false = sym (wait core sized (sym is)) ∙ merges in cc)
      | Moved ↦ λ is. absurd (let no : true ≡ false = ap is_work is ∙ converts in cc)
      | Finished ↦ λ is. absurd (let no : true ≡ false = ap is_work is ∙ converts in cc)
    ] in
    (go (convert_due core) refl, merged)

-- a step of either kind
either_step : (failed converts merges : Bool) → failed ≡ false → (converts ≡ false → merges ≡ true) → (not failed && converts || not failed && merges) ≡ true
either_step failed converts merges working other = grind arith

pub no_room : {D F : Type 0} (facts : Ghosts D F) → NoRoomLaw facts
no_room facts old new event does sized =
    let is = full facts old new event does in
    either_step old.failed (is_work (convert_due old)) (is_work (merge_due old)) is.working (λ none. wait old sized (waits_then (convert_due old) is.due none))
