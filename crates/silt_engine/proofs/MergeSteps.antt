-- The steps of a merge.
use Rattle.silt_engine.proofs.Common.{cases_Bool, ◌≡◌, ◌<◌, ℕ, ◌+◌, ◌-◌, ◌==◌, Bool, true, false, if◌then◌else◌, IsTrue, List, [], length, drop, Option, Some, None, Result, ◌⊎◌, inl, inr, refl, ap}
use Rattle.silt_engine.proofs.Common.{sym, ◌∙◌, subst, arith, All, IfSome, eq-eqb, eqb-false, lt-ltb, ne_eqb, All-drop, ChangesWithin, Content, MakesAtMost, Ghosts, sorted_at, sorted_size}
use Rattle.silt_engine.proofs.Common.{HashState, HasCompared, HasMerged, MergeState, is_done, oldest_stores, steps_of, TakesMemory, SortedState, Progress, Finished, Idle, Moved, AreWhole, IsHashOf}
use Rattle.silt_engine.proofs.Common.{IsMerging, EngineState, HasGathered, SameDisk, Stands, Advances, Remaps, is_work, step_syncs, step_writes, written_by_merge, Damaged, damaged_in, merge_turn}
use Rattle.silt_engine.proofs.Common.{option_map, MatchesDigests, IsSameMerge, IsHeldMerge, FailsMerge, GoesOn, TakesStep, damaged_place, StepMakes, MayLackMemory, MergeErrorCause, Merges}
use Rattle.silt_engine.proofs.Common.{merge_progress, place_read}
use Rattle.silt_merge.specs.declared.merge.StepError.TheVariants as step_error
use Rattle.silt_event.specs.declared.place.Place.{Place}
use Rattle.silt_merge.specs.declared.merge.StepError.{StepError}
use Rattle.silt_engine.specs.Merge.{refusal_of_step}
use Rattle.silt_engine.proofs.MergeDone.{taken_sound}
use Rattle.silt_engine.proofs.MergeEntries.{entry_advances, entry_breaks, entry_failed_map}

-- ---- the progress that is due

module _ (s : EngineState) where
  abbrev due : Option MergeState → Progress
  due o = merge_progress (length s.hashes) (option_map (λ merge. is_done merge s.sorted) o)

  -- with no merge in progress and no hash store
  pub idle_turn : s.merging ≡ None → length s.hashes ≡ 0 → merge_turn s ≡ Idle
  idle_turn none empty = cc (none, eq-eqb (length s.hashes) 0 empty)

  -- with no merge in progress and some hash stores
  pub first_turn : s.merging ≡ None → 0 < length s.hashes → merge_turn s ≡ Moved
  first_turn none some = cc (none, ne_eqb (length s.hashes) 0 (λ e. absurd (omega (arith, e, some))))

  -- a merge in progress is done or not
  pub under_way_turn : (merge : MergeState) (done : Bool) → s.merging ≡ Some merge → done ≡ is_done merge s.sorted → merge_turn s ≡ (if done then Finished else Moved)
  under_way_turn merge done was is = ap due was ∙ ap (λ (b : Bool). if b then Finished else Moved) (sym is)

  -- a merge that finishes is done
  pub is_finished : (merge : MergeState) → s.merging ≡ Some merge → merge_turn s ≡ Finished → is_done merge s.sorted ≡ true
  is_finished merge was turn = search (arith, cases_Bool, under_way_turn)

-- ---- the merge under way

pub merging_of : (s : EngineState) (merge : MergeState) → AreWhole s → s.merging ≡ Some merge → IsMerging s merge
merging_of s merge whole was = subst (λ (o : Option MergeState). IfSome o (IsMerging s)) was whole.merging

pub gathered_of : (content : Content) (s : EngineState) (merge : MergeState) → Stands content s → s.merging ≡ Some merge → HasGathered content s merge
gathered_of content s merge stands was = rw was at stands.merged

-- its hash stores have its shape
pub taken_shapes : (s : EngineState) (merge : MergeState) → AreWhole s → IsMerging s merge → All (λ (store : HashState). store.shape ≡ merge.shape) (oldest_stores merge.stores s.hashes)
taken_shapes s merge whole way =
    All-drop (λ (store : HashState). store.shape ≡ merge.shape) (length s.hashes - merge.stores) s.hashes
    (λ k d inside. let is : IsHashOf s.manifest.shape _ = whole.hashed k d inside in is.has_shape ∙ sym way.has_shape)

-- and so has the sorted store
pub sorted_shape : (s : EngineState) (merge : MergeState) → AreWhole s → IsMerging s merge → s.sorted.shape ≡ merge.shape
sorted_shape s merge whole way = ap (λ (t : SortedState). t.shape) whole.sorted ∙ sym way.has_shape

-- ---- a step

-- what a step of a merge does to the hash stores and the sorted store of these stores
abbrev pub StepsIn : {D F T : Type 0} → Ghosts D F → EngineState → D → D → MergeState → MergeState → Result T (StepError F) → Type 0
StepsIn facts s old new before after result = TakesStep facts (oldest_stores before.stores s.hashes) s.sorted s.digest old new before after result

-- from the step's own words
pub steps_in : {D F T : Type 0} {facts : Ghosts D F} (s : EngineState) (stores : List HashState) (sorted : SortedState) (digest : List ℕ)
    {old new : D} {before after : MergeState} {result : Result T (StepError F)} → stores ≡ s.hashes → sorted ≡ s.sorted → digest ≡ s.digest
    → TakesStep facts (oldest_stores before.stores stores) sorted digest old new before after result → StepsIn facts s old new before after result
steps_in {facts = facts} s stores sorted digest {old = old} {new = new} {before = before} {after = after} {result = result} stores_are sorted_is digest_is step = search (arith, sorted_is)

module _ {D F T : Type 0} (facts : Ghosts D F) (old new : D) (s : EngineState) (before after : MergeState) (result : Result T (StepError F))
    (stands : Stands (facts.content old) s) (way : IsMerging s before)
    (step : StepsIn facts s old new before after result) where
  -- in the words of the stores
  entry_changes : ChangesWithin (sorted_at s.manifest.shape before.region) (sorted_size s.manifest.shape) (facts.content old) (facts.content new)
  entry_changes = rw way.has_shape at step.region

  pub step_disk : SameDisk (facts.content old) (facts.content new)
  step_disk = record { size = step.size; honest = step.region.honest }

  -- the merge is in progress
  pub way_after : IsMerging s after
  way_after = search (arith, step.same.shape, way.has_shape, way.apart, step.same.region, step.same.stores, way.some, way.most, step.held)

  -- whether it was done or not
  pub failed_map : (merging : Option MergeState) → Remaps [] (facts.content old) (facts.content new) s (record s { merging = merging })
  failed_map merging = entry_failed_map _ _ s _ stands way.held.there way.apart step.size entry_changes

  -- the stores of the merge match their digests
  matches : HasGathered (facts.content old) s before → IsTrue (facts.content old).honest → MatchesDigests (facts.content old) (oldest_stores before.stores s.hashes) s.sorted s.digest before
  matches gathered h = search (arith, taken_sound, All-drop)

  -- ---- it was done

  module _ (goes : GoesOn facts (oldest_stores before.stores s.hashes) s.sorted s.digest old new before after) where
    gathered_after : HasGathered (facts.content old) s before → HasGathered (facts.content new) s after
    gathered_after gathered = (
      rw (← step.same.stores) at (goes.merged gathered.0),
      rw (← step.same.stores) at (goes.compared gathered.1),
      λ h. elim goes.finds [
        | inl none ↦ none
        | inr found ↦ absurd (found.1 (matches gathered (subst IsTrue step.region.honest h)))
      ],
    )

    pub step_advances : HasGathered (facts.content old) s before → Advances [] (facts.content old) (facts.content new) s (record s { merging = Some after })
    step_advances gathered = entry_advances _ _ s _ stands way.held.there way.apart step.size entry_changes _ way_after (gathered_after gathered)

    -- it makes a write for the entry that it writes, if it writes one
    pub step_made : written_by_merge s.merging ≡ before.written → StepMakes facts old new s (record s { merging = Some after }) Moved
    step_made were = (after.written - before.written, omega (arith, step.grew.1), omega (arith, were, step.grew.0), goes.made)

  -- ---- why it was not

  module _ (finished : EngineState) (turn : merge_turn s ≡ Moved) (gathered : HasGathered (facts.content old) s before) (same : after ≡ before → finished ≡ s)
      (lacks : TakesMemory (facts.content old) (oldest_stores before.stores s.hashes) s.sorted before → MayLackMemory (facts.content old) s)
      (found : (place : Place) → before.damaged ≡ Some place → damaged_in s.merging ≡ Some place)
      (remaps : Remaps [] (facts.content old) (facts.content new) s finished) where
    -- the cause in place of that of the step
    pub step_cause : (error : StepError F) → FailsMerge facts (oldest_stores before.stores s.hashes) s.sorted old new before after error
        → MergeErrorCause facts old new s finished (refusal_of_step error)
    step_cause step_error.NoMemory fails = (same fails.0, fails.1, inl (turn, lacks (fails.2 gathered.0 (λ h. taken_sound _ s stands h _))))
    step_cause (step_error.Read fault) fails = (same fails.0, fails.1, turn, fails.2)
    step_cause (step_error.Damaged place) fails = (same fails.0, fails.1, found place fails.2, ap is_work turn, λ h. let no : None ≡ Some place = sym (gathered.2 h) ∙ fails.2 in cc)
    step_cause (step_error.Write fault) fails = (ap is_work turn, record { counted = fails; breaks = entry_breaks _ _ s _ stands way.held.there way.apart step.size entry_changes; map = remaps })

  -- it makes no more than one write
  pub most_made : merge_turn s ≡ Moved → MakesAtMost facts.writes facts.syncs 1 0 old new → MakesAtMost facts.writes facts.syncs (step_writes (merge_turn s)) (step_syncs (merge_turn s)) old new
  most_made turn most = subst (λ (p : Progress). MakesAtMost facts.writes facts.syncs (step_writes p) (step_syncs p) old new) (sym turn) most

-- ---- the first step

-- hash stores that are not none are some
pub some_stores : (stores : List HashState) (len : ℕ) (empty : Bool) → empty ≡ (len == 0) → empty ≡ false → len ≡ length stores → 0 < length stores
some_stores stores len empty is none same = omega (arith, eqb-false len 0 (sym is ∙ none), same)

-- a merge of all hash stores that was started, from what was read of these stores
pub record BeginsMerge (s : EngineState) (started : MergeState) : Type 0 where
  pub none : s.merging ≡ None
  pub some : 0 < length s.hashes
  pub whole : AreWhole s
  pub region : ℕ
  pub other : region ≡ 1 - s.sorted.region
  pub read : List HashState
  pub read_is : read ≡ s.hashes
  pub sorted : SortedState
  pub sorted_is : sorted ≡ s.sorted
  pub is : started ≡ record {
    shape = sorted.shape;
    region = region;
    stores = length read;
    store = 0;
    slot = 0;
    waiting = [];
    passed = 0;
    written = 0;
    index = started.index;
    decided = 0;
    last = None;
    slots = [];
    ahead = [];
    input = started.input;
    hasher = started.hasher;
    damaged = None;
  }
  pub held : IsHeldMerge started

module _ (s : EngineState) (started : MergeState) (begins : BeginsMerge s started) where
  pub started_sound : started.damaged ≡ None
  started_sound = ap (λ (v : MergeState). v.damaged) begins.is

  started_stores : started.stores ≡ length s.hashes
  started_stores = ap (λ (v : MergeState). v.stores) begins.is ∙ ap length begins.read_is

  pub started_way : IsMerging s started
  started_way = search (arith, started_stores)

  begins_store : started.store ≡ 0
  begins_store = ap (λ (v : MergeState). v.store) begins.is

  -- it has decided no key
  pub started_not_done : is_done started s.sorted ≡ false
  started_not_done = search (arith, begins_store, started_stores, ne_eqb)

  -- its hash stores are all
  all_taken : oldest_stores started.stores s.hashes ≡ s.hashes
  all_taken = ap (λ (n : ℕ). drop n s.hashes) (let nothing : length s.hashes - started.stores ≡ 0 = omega (arith, started_stores) in nothing)

  pub begun : (content : Content) → HasMerged content begins.read begins.sorted started → HasCompared begins.read begins.sorted s.digest started → HasGathered content s started
  begun content has compared = search (arith, all_taken, started_sound)

  -- it reads the newest of them, and it has written nothing
  pub started_reads : damaged_place (oldest_stores started.stores s.hashes) started ≡ place_read s.hashes s.merging
  started_reads = search (arith, lt-ltb, begins_store, started_stores, all_taken)

  pub started_written : written_by_merge s.merging ≡ started.written
  started_written = cc (begins.none, begins.is)

  pub begins_turn : merge_turn s ≡ Moved
  begins_turn = first_turn s begins.none begins.some

  pub begin_merges : (after : MergeState) → IsSameMerge started after → steps_of after ≡ steps_of started + 1
      → (after.damaged ≡ None) ⊎ (after.damaged ≡ Some (damaged_place (oldest_stores started.stores s.hashes) started)) → Merges Moved s (record s { merging = Some after })
  begin_merges after same step found = search (arith, begins_turn, started_stores, started_reads)

-- the next step of a merge in progress
pub next_merges : (s : EngineState) (before after : MergeState) → s.merging ≡ Some before → merge_turn s ≡ Moved → IsSameMerge before after → steps_of after ≡ steps_of before + 1
    → (after.damaged ≡ None) ⊎ (after.damaged ≡ Some (damaged_place (oldest_stores before.stores s.hashes) before)) → Merges Moved s (record s { merging = Some after })
next_merges s before after was turn same step found = search arith

-- if no merge is in progress, any step may be out of memory
pub first_lacks : (content : Content) (s : EngineState) → s.merging ≡ None → MayLackMemory content s
first_lacks content s none = rw none tt

-- what a step finds, without why
pub found_by : {D F : Type 0} {facts : Ghosts D F} {stores : List HashState} {sorted : SortedState} {digest : List ℕ} {old new : D} {before after : MergeState}
    → GoesOn facts stores sorted digest old new before after → (after.damaged ≡ None) ⊎ (after.damaged ≡ Some (damaged_place stores before))
found_by goes = elim goes.finds [
  | inl none ↦ inl none
  | inr found ↦ inr found.0
]

-- a merge that has found a store damaged is refused
pub refused_merge : {D F : Type 0} (facts : Ghosts D F) (disk : D) (s : EngineState) (place : Place) → Stands (facts.content disk) s
    → damaged_in s.merging ≡ Some place → MergeErrorCause facts disk disk s s (Damaged place)
refused_merge facts disk s place stands found = (refl, refl, found, in_progress s.merging found, λ h. never s.merging stands.merged found h)
  where
    in_progress : (o : Option MergeState) → damaged_in o ≡ Some place → is_work (due s o) ≡ true
    in_progress None found = let no : None ≡ Some place = found in absurd (cc)
    in_progress (Some merge) found = works (is_done merge s.sorted)
      where
        works : (done : Bool) → is_work (if done then Finished else Moved) ≡ true
        works true = refl
        works false = refl

    never : (o : Option MergeState) → IfSome o (HasGathered (facts.content disk) s) → damaged_in o ≡ Some place → IsTrue (facts.content disk).honest → ⊥
    never None gathered found h = let no : None ≡ Some place = found in absurd (cc)
    never (Some merge) gathered found h = let sound : merge.damaged ≡ None = gathered.2 h in let no : None ≡ Some place = sym sound ∙ found in absurd (cc)
