-- What a step of merging does, from what the same step of the stores in memory does.
use Rattle.silt_store_set.proofs.Common.{◌≡◌, ℕ, ◌+◌, ◌-◌, ◌*◌, ◌==◌, inl, inr, Bool, false, true, IsTrue, IsSomeAnd, length, Option, Some, None, IfSome, refl, ap, sym, ◌∙◌, arith}
use Rattle.silt_store_set.proofs.Common.{length-map, MakesAtMost, none_made, Shape, Ghosts, Merge, Idle, Waiting, Moved, Finished, Place, Spent, Progress, Refused, Refusal, key_count}
use Rattle.silt_store_set.proofs.Common.{MergeState, oldest_stores, steps_of, GathersRow, TakesKey, IsLastGeneration, is_work, step_syncs, step_writes, damaged_in, full_stores}
use Rattle.silt_store_set.proofs.Common.{merge_sources, place_read, HasGathered, Stands, IsMerging, EngineState, hash_region_of, meaning, basis_of, CoreState, Does, MadeFor, entries_written}
use Rattle.silt_store_set.proofs.Common.{merge_work, place_due, ◌⊎◌, Err, Ok, Result, option_map, most_more, Damaged, Device, NoMemory, merged_rows, is_done, TakesMemory, EndsMerged}
use Rattle.silt_store_set.proofs.Common.{HasMergedEntries, IsDoneBySteps, IsNextMerge, MayLackMemory, MergeErrorCause, Merges, MergesOn, WorksOfMerge, merge_progress, merge_turn}
use Rattle.silt_store_set.proofs.Common.{merged_body, DecidesValue, GathersNewKey, GathersNext, IsMergeDue, MergeGoesOn, MergeLacksMemory, MayFind, found_damaged, has_decided, merge_due}
use Rattle.silt_event.specs.declared.progress.Progress.{Progress as ProgressOf}
use Rattle.silt_engine.specs.declared.merge.MergeError.{MergeError}
use Rattle.silt_engine.specs.declared.merge.MergeError.TheVariants.{Read, Write}
use Rattle.silt_store_set.proofs.Calls.{seen, seen_failed, advanced, answered, broke, refused}
use Rattle.silt_store_set.proofs.Damages.{place_seen, slot_below}
use Rattle.silt_store_set.proofs.Gatherings.{decides_next, new_key_next}
use Rattle.silt_engine.specs.Costs as engine
use Rattle.silt_engine.specs.declared.merge.MergeError.TheVariants as error

-- a test is equality if it is true exactly when the two numbers are the same
tells_same : (a b : ℕ) (c : Bool) → (c ≡ true → a ≡ b) → (a ≡ b → c ≡ true) → (a == b) ≡ c
tells_same a b c gives takes = search arith

-- if a merge is in progress there is work
some_work : (hashes : ℕ) (done : Bool) → is_work (merge_progress hashes (Some done)) ≡ true
some_work hashes true = refl
some_work hashes false = refl

-- a merge in memory and the contracts' view of it have written as many entries
written_seen : (o : Option MergeState) → entries_written (merge_work o) ≡ engine.written_by_merge o
written_seen None = refl
written_seen (Some merge) = refl

-- they have found the same store damaged
damage_seen : (o : Option MergeState) → found_damaged (merge_work o) ≡ damaged_in o
damage_seen None = refl
damage_seen (Some merge) = refl

-- what is never some store is none
pub none_found : (o : Option Place) → ((place : Place) → o ≡ Some place → ⊥) → o ≡ None
none_found None never = refl
none_found (Some place) never = absurd (never place refl)

-- the contracts' view of a step in memory
goes_on : (s : EngineState) (before : Option MergeState) (after : MergeState) → length s.hashes ≡ length s.manifest.current.hashed → IsNextMerge s before after
    → MergeGoesOn s.manifest.current (merge_work before) (merge_work (Some after))
goes_on s None after named step = (step.0 ∙ named, step.1)
goes_on s (Some before) after named step = (step.0.stores, step.1)

module _ {D F : Type 0} (facts : Ghosts D F) (disk : D) (stores : EngineState) (count : ℕ) (stands : Stands (facts.content disk) stores) where
  -- the store before
  abbrev before : CoreState D
  before = seen facts disk stores count

  -- memory has as many hash stores as the manifest record names
  hash_count : length stores.hashes ≡ length stores.manifest.current.hashed
  hash_count = sym (length-map stores.hashes hash_region_of) ∙ ap length stands.whole.hash_regions

  -- ---- the next step

  decided_same : (o : Option MergeState) → IfSome o (IsMerging stores) → IfSome o (IsDoneBySteps (facts.content disk) stores)
      → option_map (has_decided before) (merge_work o) ≡ option_map (λ (merge : MergeState). is_done merge stores.sorted) o
  decided_same None merging done = refl
  decided_same (Some merge) merging done =
      let keys : ℕ = key_count (merge_sources merge.stores (full_stores (facts.content disk) stores)) in
      let slots : merge.stores * (4 * stores.manifest.shape.buckets) + keys ≡ merge.stores * (4 * merge.shape.buckets) + keys =
      ap (λ (s : Shape). merge.stores * (4 * s.buckets) + keys) (sym merging.has_shape) in
      ap Some (tells_same (steps_of merge) (merge.stores * (4 * stores.manifest.shape.buckets) + keys) (is_done merge stores.sorted) (λ d. done.0 d ∙ sym slots) (λ e. done.1 (e ∙ slots)))

  -- on an honest disk, the next step is the same in memory and by the manifest record
  due_same : IsTrue (facts.content disk).honest → merge_due before ≡ merge_turn stores
  due_same h = cc (hash_count, decided_same stores.merging stands.whole.merging ((meaning (facts.content disk) stores stands).merging h))

  both_work : (o : Option MergeState)
      → is_work (merge_progress (length stores.hashes) (option_map (has_decided before) (merge_work o))) ≡ is_work
      (merge_progress (length stores.hashes) (option_map (λ (merge : MergeState). is_done merge stores.sorted) o))
  both_work None = refl
  both_work (Some merge) = some_work (length stores.hashes) _ ∙ sym (some_work (length stores.hashes) (is_done merge stores.sorted))

  -- on any disk, there is work in memory exactly if there is by the manifest record
  pub work_same : is_work (merge_due before) ≡ is_work (merge_turn stores)
  work_same = ap (λ (n : ℕ). is_work (merge_progress n (option_map (has_decided before) (merge_work stores.merging)))) (sym hash_count) ∙ both_work stores.merging

  -- what a step finds, in the contracts' view
  finds_seen : (merge : MergeState) → (merge.damaged ≡ None) ⊎ (merge.damaged ≡ Some (place_read stores.hashes stores.merging))
      → MayFind (place_due stores.manifest.shape stores.manifest.current (merge_work stores.merging)) (merge_work (Some merge))
  finds_seen merge (inl none) = inl none
  finds_seen merge (inr damaged) = inr (damaged ∙ ap Some (place_seen stores stands.whole stores.merging stands.whole.merging))

  -- no store is found damaged
  abbrev IsSound : Type 0
  IsSound = damaged_in stores.merging ≡ None

  none_seen : IsSound → found_damaged before.merging ≡ None
  none_seen sound = damage_seen stores.merging ∙ sound

  unfound : ((place : Place) → damaged_in stores.merging ≡ Some place → ⊥) → found_damaged before.merging ≡ None
  unfound never = none_seen (none_found (damaged_in stores.merging) never)

  due : (progress : ProgressOf) → progress ≡ merge_turn stores → IsMergeDue facts before progress
  due progress is = record { work = ap is_work is ∙ sym work_same; exact = λ h. is ∙ sym (due_same h) }

  -- ---- a step succeeded

  -- the merge in progress writes the sorted region that the manifest record does not name
  other_region : (o : Option MergeState) → IfSome o (IsMerging stores) → (merge : MergeState) → o ≡ Some merge → merge.region ≡ 1 - stores.manifest.current.sorted
  other_region o merging merge was = search arith

  entries_are : (new : D) (after : EngineState) (merge : MergeState) → stores.merging ≡ Some merge → HasMergedEntries (facts.content disk) (facts.content new) stores after
      → (full_stores (facts.content new) after).entries ≡ merged_rows (merge_sources merge.stores (full_stores (facts.content disk) stores))
  entries_are new after merge was has = search arith

  -- a step that goes on has made what contracts see
  moved_made : (new : D) (after : EngineState) → engine.StepMakes facts disk new stores after Moved → MadeFor facts before (seen facts new after count) Merge (Progress Moved)
  moved_made new after made = (made.0, made.1, written_seen after.merging ∙ made.2 ∙ ap (λ (n : ℕ). n + made.0) (sym (written_seen stores.merging)), made.3)

  -- no step makes more than the last one
  few_made : (progress : ProgressOf) (new : D) → MakesAtMost facts.writes facts.syncs (step_writes progress) (step_syncs progress) disk new → MakesAtMost facts.writes facts.syncs 3 4 disk new
  few_made Finished new most = most
  few_made progress new most = most_more most (omega arith) (omega arith)

  -- what the call of the stores in memory does
  abbrev Works : D → EngineState → Result ProgressOf (MergeError F) → Type 0
  Works new after result = WorksOfMerge facts disk new stores after result

  pub stepped : (progress : ProgressOf) (new : D) (after : EngineState) → Works new after (Ok progress) → Merges progress stores after
      → (progress ≡ Finished → IsTrue (facts.content disk).honest → HasMergedEntries (facts.content disk) (facts.content new) stores after)
      → (is_work progress ≡ false → new ≡ disk) → IsSound → Does facts before (seen facts new after count) Merge (Progress progress)
  stepped Idle new after works merges entries quiet sound =
      rw (quiet refl, merges.done) (answered facts disk stores count Merge (Progress Idle) stands refl refl refl
      (refl, due Idle merges.due, refl, refl, none_seen sound) none_made (λ _. refl) (λ _. tt))
  stepped Waiting new after works merges entries quiet sound = absurd merges.done
  stepped Moved new after works merges entries quiet sound =
      let moves : MergesOn stores after = merges.done in
      let current : after.manifest.current ≡ stores.manifest.current = ap (λ (s : EngineState). s.manifest.current) moves.is in
      let merging : after.merging ≡ Some moves.merge = ap (λ (s : EngineState). s.merging) moves.is in
      let on : MergeGoesOn stores.manifest.current (merge_work stores.merging) (merge_work after.merging) = rw merging (goes_on stores stores.merging moves.merge hash_count moves.step) in
      let finds : MayFind (place_due stores.manifest.shape stores.manifest.current (merge_work stores.merging)) (merge_work after.merging) = rw merging (finds_seen moves.merge moves.found) in
      advanced facts _ _ _ _ disk new stores after stands Moved works count count Merge (Progress Moved) refl refl refl refl
      (refl, due Moved merges.due, (current, on, finds), works.failures, none_seen sound) (λ m to e. e) (λ _ _. current)
      (λ _. ap (λ (s : EngineState). s.converting) moves.is) (λ other. absurd (cc)) (λ _. tt) (moved_made new after works.made)
  stepped Finished new after works merges entries quiet sound =
      let ends : EndsMerged stores after = merges.done in
      let region : ends.merge.region ≡ 1 - stores.manifest.current.sorted = other_region stores.merging stands.whole.merging ends.merge ends.was in
      advanced facts _ _ _ _ disk new stores after stands Finished works count count Merge (Progress Finished) refl refl refl refl (
        refl,
        due Finished merges.due,
        record {
          work = record { stores = ends.merge.stores; steps = steps_of ends.merge; written = ends.merge.written; damaged = ends.merge.damaged };
          was = ap merge_work ends.was;
          none = ap merge_work ends.none;
          body = ends.current ∙ ap (λ (n : ℕ). merged_body stores.manifest.current ends.merge.stores n ends.merge.written) region;
          entries = λ h. entries_are new after ends.merge ends.was (entries refl h);
        },
        works.failures,
        none_seen sound,
      ) (λ m to e. e) (λ _ unfinished. absurd (cc)) (λ _. ends.converting) (λ other. absurd (cc)) (λ _. tt) works.made

  -- ---- a step was refused

  -- why a step that goes on is out of memory, in the contracts' view
  abbrev Lacks : Option MergeState → Type 0
  Lacks o = (GathersNext stores.manifest.shape (merge_work o) × (IsTrue (facts.content disk).honest → GathersNewKey before (merge_work o))) ⊎ IsSomeAnd (merge_work o) (DecidesValue facts before)

  -- a merge that gathers a slot has not gathered all of them, and what it gathers is the first row of a key
  lacks_row : (merge : MergeState) → IsMerging stores merge → HasGathered (facts.content disk) stores merge
      → GathersRow (facts.content disk) (oldest_stores merge.stores stores.hashes) merge → Lacks (Some merge)
  lacks_row merge merging merged takes =
      let slots : 4 * merge.shape.buckets ≡ 4 * stores.manifest.shape.buckets = ap (λ (s : Shape). 4 * s.buckets) merging.has_shape in
      let below = slot_below merge.store merge.stores merge.slot (4 * merge.shape.buckets) takes.gathers merging.held.slot in
      inl (
        rw (← slots) (omega (arith, below, merging.held.gathers takes.gathers)),
        λ h. new_key_next _ stores stands h merge merging merged takes,
      )

  -- one that indexes a key has gathered all slots, and the key has a value
  lacks_key : (merge : MergeState) → IsMerging stores merge → HasGathered (facts.content disk) stores merge
      → TakesKey (facts.content disk) (oldest_stores merge.stores stores.hashes) stores.sorted merge → Lacks (Some merge)
  lacks_key merge merging merged takes =
      let all : merge.store * (4 * merge.shape.buckets) ≡ merge.stores * (4 * stores.manifest.shape.buckets) = cc (takes.gathered, merging.has_shape) in
      inr (record {
        gathered = omega (arith, all);
        room = rw merging.has_shape at takes.room;
        puts = λ h. decides_next _ stores stands h merge merging merged takes;
      })

  lacks_next : (o : Option MergeState) → IfSome o (IsMerging stores) → IfSome o (HasGathered (facts.content disk) stores)
      → IfSome o (λ (merge : MergeState). TakesMemory (facts.content disk) (oldest_stores merge.stores stores.hashes) stores.sorted merge) → Lacks o
  lacks_next None merging merged takes = inl (tt, λ h. tt)
  lacks_next (Some merge) merging merged (inl row) = lacks_row merge merging merged row
  lacks_next (Some merge) merging merged (inr key) = lacks_key merge merging merged key

  lacks_moved : merge_turn stores ≡ Moved → Lacks stores.merging → MergeLacksMemory facts before before
  lacks_moved turn (inl gathers) = inl (due Moved (sym turn), gathers.0, gathers.1)
  lacks_moved turn (inr decides) = inr (inl (due Moved (sym turn), decides))

  lacks : ((merge_turn stores ≡ Moved) × MayLackMemory (facts.content disk) stores) ⊎ ((merge_turn stores ≡ Finished) × (IsLastGeneration stores → ⊥)) → MergeLacksMemory facts before before
  lacks (inl (turn, may)) = lacks_moved turn (lacks_next stores.merging stands.whole.merging stands.merged may)
  lacks (inr (turn, more)) = inr (inr (due Finished (sym turn), more))

  -- the reply to an error
  abbrev refusal_of : MergeError F → Refusal F
  refusal_of (Read fault) = Device fault
  refusal_of (Write fault) = Device fault
  refusal_of error.Spent = Spent
  refusal_of error.NoMemory = NoMemory
  refusal_of (error.Damaged place) = Damaged place

  -- the store that an error leaves
  abbrev left_by : D → EngineState → MergeError F → CoreState D
  left_by new after (Write fault) = seen_failed facts (basis_of (facts.content disk) stores) new after count
  left_by new after e = seen facts new after count

  -- a merge that found a store damaged is refused for that
  pub not_stepped : (new : D) (after : EngineState) (e : MergeError F) → Works new after (Err e) → MergeErrorCause facts disk new stores after e
      → ((place : Place) → damaged_in stores.merging ≡ Some place → (let r : Result ProgressOf (MergeError F) = Err e in r) ≡ Err (error.Damaged place))
      → Does facts before (left_by new after e) Merge (Refused (refusal_of e))
  not_stepped new after (error.Damaged place) works err stuck =
      rw (err.1, err.0) (refused facts disk stores count Merge (Damaged place) stands refl (refl, work_same ∙ err.3, damage_seen stores.merging ∙ err.2, err.4))
  not_stepped new after (Read fault) works err stuck =
      rw (err.1, err.0) (refused facts disk stores count Merge (Device fault) stands refl
      (inl (due Moved (sym err.2), record { given = err.3; working = refl; same = refl }), unfound (λ place found. cc (stuck place found))))
  not_stepped new after error.Spent works err stuck =
      rw (err.1, err.0) (refused facts disk stores count Merge Spent stands refl (refl, due Finished (sym err.2), err.3, unfound (λ place found. cc (stuck place found))))
  not_stepped new after error.NoMemory works err stuck =
      rw (err.1, err.0) (refused facts disk stores count Merge NoMemory stands refl (refl, lacks err.2, unfound (λ place found. cc (stuck place found))))
  not_stepped new after (Write fault) works err stuck =
      broke facts _ _ _ _ disk new stores after stands (Write fault) count Merge fault works err.1
      (λ fails. (inr (work_same ∙ err.0, fails), unfound (λ place found. cc (stuck place found)))) (few_made (merge_turn stores) new works.made)
