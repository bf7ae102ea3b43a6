-- Merges, step by step.
use Rattle.silt_progress.proofs.Common.{eqb-true, replicate, unwrap_or, ◌⊎◌, list_all, option_map, length-map, Shape, Ghosts, Body, Merge, Idle, Moved, Finished, Reply, Progress, is_work}
use Rattle.silt_progress.proofs.Common.{merge_progress, merge_sources, MergeEndLaw, MergeIdleLaw, MergeLengthLaw, MergeRunLaw, MergeStepLaw, MergeTurnLaw, WholeMergeLaw}
use Rattle.std.proofs.Common.{rules, ◌≡◌, ◌≤◌, ◌<◌, ℕ, zero, suc, ◌+◌, ◌-◌, ◌*◌, Bool, true, false, not, IsTrue, List, [], ◌∷◌, drop, filter, length, map, Option, Some, None, refl, ap, sym, subst}
use Rattle.std.proofs.Common.{arith, suc-mul, length-append}
use Rattle.std.proofs.lemmas.List.FromFn.{length-map-range_with_len}
use Rattle.silt_frame.specs.Rows.{StoredRow, has_known_kind}
use Rattle.silt_log.specs.Parts.{known_rows, oldest_first}
use Rattle.silt_hash_store.specs.Slots.{hash_part, hash_rows}
use Rattle.silt_image.specs.Stores.{stores_named}
use Rattle.silt_sorted_store.proofs.Entries.{entry_count}
use Rattle.silt_merge.specs.Rows.{key_count}
use Rattle.silt_merge.proofs.Newest.{key_count_law}
use Rattle.silt_event.specs.declared.progress.Progress.{Progress as ProgressOf}
use Rattle.silt_store_set.specs.CoreState.{CoreState, Does, MergeGoesOn, MergeWork, Runs, is_refused, merge_due}
use Rattle.silt_progress.specs.Steps.{HasStepLeft, TakesAll, next_merge, slots_to_gather, steps_per_merge}
use Rattle.silt_progress.proofs.Conversions.{first_step, no_length}

-- a merge of so many hash stores that did not begin
abbrev pub first_work : ℕ → MergeWork
first_work hashes = record { stores = hashes; steps = 0; written = 0; damaged = None }

-- ---- nothing to do

-- merging has nothing to do without hash stores
due_idle : (hashes : ℕ) (decided : Option Bool) → merge_progress hashes decided ≡ Idle → (hashes ≡ 0) × (decided ≡ None)
due_idle hashes decided due = search (arith, eqb-true)

-- merging of no work is idle
pub no_work : (hashes : ℕ) (done : Option Bool) → false ≡ is_work (merge_progress hashes done) → merge_progress hashes done ≡ Idle
no_work hashes done none = search arith

-- what is not decided is no merge
none_decided : (f : MergeWork → Bool) (o : Option MergeWork) → option_map f o ≡ None → o ≡ None
none_decided f None is = refl
none_decided f (Some work) is = absurd (cc)

-- without a hash store or a merge there is nothing to do
idle_without : {D : Type 0} (core : CoreState D) → core.body.hashed ≡ [] → core.merging ≡ None → merge_due core ≡ Idle
idle_without core none no_merge = cc

pub merge_idle : {D : Type 0} → MergeIdleLaw D
merge_idle core = search (arith, due_idle, no_length, none_decided, idle_without)

-- ---- how many rows there are to take

-- at most all rows of a store are of known kinds
few_known : (rows : List StoredRow) → length (filter has_known_kind rows) ≤ length rows
few_known [] = omega arith
few_known (row ∷ rows) = grind (arith, few_known rows)

-- a hash store has one row a slot
slot_count : (shape : Shape) (region : ℕ) (image : List ℕ) → length (hash_rows shape region image) ≡ 4 * shape.buckets
unfolding hash_rows
slot_count shape region image = length-map-range_with_len _ 0 (4 * shape.buckets)

-- hash stores have at most so many rows of known kinds
few_rows : (shape : Shape) (image regions : List ℕ) (skipped : ℕ)
    → length (oldest_first (map known_rows (drop skipped (map (hash_part shape image) regions)))) ≤ (length regions - skipped) * (4 * shape.buckets)
few_rows shape image [] zero = omega arith
few_rows shape image [] (suc skipped) = omega arith
few_rows shape image (region ∷ regions) zero =
    let rest = few_rows shape image regions zero in
    let here = few_known (hash_rows shape region image) in
    let both = length-append (oldest_first (map known_rows (map (hash_part shape image) regions))) (known_rows (hash_part shape image region)) in
    let same : (length regions - 0) * (4 * shape.buckets) ≡ length regions * (4 * shape.buckets) = search arith in
    let more : (length (region ∷ regions) - 0) * (4 * shape.buckets) ≡ suc (length regions) * (4 * shape.buckets) = search arith in
    omega (arith, rest, here, both, same, more, suc-mul (length regions) (4 * shape.buckets), slot_count shape region image)
few_rows shape image (region ∷ regions) (suc skipped) = search (arith, few_rows shape image regions skipped)

-- a merge of so many hash stores takes at most so many rows, and they have at most so many keys
few_keys : (shape : Shape) (body : Body) (image : List ℕ) (count : ℕ) → key_count (merge_sources count (stores_named shape body image)) ≤ body.sorted_count + count * (4 * shape.buckets)
unfolding stores_named
few_keys shape body image count = search (arith, key_count_law, few_rows, length-map, length-append, entry_count)

pub merge_length : {D : Type 0} → MergeLengthLaw D
merge_length core = search (arith, few_keys)

-- a merge that has a step left took fewer than it takes in all
pub few_taken : {D : Type 0} (core : CoreState D) → HasStepLeft core → (next_merge core).steps < steps_per_merge core
few_taken core left = search arith

-- ---- calls

module _ {D F : Type 0} (facts : Ghosts D F) where
  -- the merge that goes on is the same, and took one step more
  goes_on : (body : Body) (before after : Option MergeWork) → MergeGoesOn body before after
      → ((unwrap_or after (first_work (length body.hashed))).stores ≡ (unwrap_or before (first_work (length body.hashed))).stores)
      × ((unwrap_or after (first_work (length body.hashed))).steps ≡ (unwrap_or before (first_work (length body.hashed))).steps + 1)
  goes_on body (Some before) (Some after) on = (on.0, on.1)
  goes_on body None (Some after) on = (on.0, on.1)
  goes_on body before None on = absurd on

  -- a step that goes on
  pub record Moves (old new : CoreState D) : Type 0 where
    pub body : new.body ≡ old.body
    pub stores : (next_merge new).stores ≡ (next_merge old).stores
    pub steps : (next_merge new).steps ≡ (next_merge old).steps + 1
    pub slots : slots_to_gather new ≡ slots_to_gather old

  pub moves : (old new : CoreState D) → Does facts old new Merge (Progress Moved) → Moves old new
  moves old new does = search arith

  pub merge_step : MergeStepLaw facts
  merge_step old new does more = search (arith, merge_length, few_taken)

  -- a merge that finishes has decided all keys
  decided : (hashes : ℕ) (done : Bool) → Finished ≡ merge_progress hashes (Some done) → done ≡ true
  decided hashes true due = refl
  decided hashes false due = absurd (let no : Finished ≡ Moved = due in cc)

  pub merge_end : MergeEndLaw facts
  merge_end old new does = search (arith, eqb-true, idle_without, does.cause.1.exact)

  -- ---- runs

  -- so many steps that go on
  record MovesBy (n : ℕ) (old new : CoreState D) : Type 0 where
    body : new.body ≡ old.body
    stores : (next_merge new).stores ≡ (next_merge old).stores
    steps : (next_merge new).steps ≡ (next_merge old).steps + n
    slots : slots_to_gather new ≡ slots_to_gather old

  none_moved : (old new : CoreState D) → new ≡ old → MovesBy 0 old new
  none_moved old new same = search arith

  one_moved : (n : ℕ) (old next new : CoreState D) → Moves old next → MovesBy n next new → MovesBy (suc n) old new
  one_moved n old next new on rest = search arith

  all_moved : (n : ℕ) (old new : CoreState D) → Runs facts old (replicate n Merge) (replicate n (Progress Moved)) new → IsTrue (facts.content old.disk).honest
      → MovesBy n old new × IsTrue (facts.content new.disk).honest
  all_moved zero old new runs honest = search (arith, none_moved)
  all_moved (suc n) old new runs honest =
      let rest = all_moved n runs.0 new runs.2 (subst IsTrue (sym runs.1.disk.honest) honest) in
      (one_moved n old runs.0 new (moves old runs.0 runs.1) rest.0, rest.1)

  pub whole_merge : WholeMergeLaw facts
  whole_merge old last new n none runs does honest =
      let on = all_moved n old last runs honest in
      let ends = merge_end last new does in
      search (arith, ends.0, ends.1)

  -- with nothing to do nothing is done
  idle_step : (old new : CoreState D) (progress : ProgressOf) → Does facts old new Merge (Progress progress) → merge_due old ≡ Idle → new ≡ old
  idle_step old new progress does idle = search arith

  stays_idle : (n : ℕ) (old new : CoreState D) (replies : List (Reply F)) → Runs facts old (replicate n Merge) replies new → IsTrue (list_all (λ reply. not (is_refused reply)) replies)
      → merge_due old ≡ Idle → merge_due new ≡ Idle
  stays_idle (suc n) old new (reply ∷ replies) runs goes idle = search (arith, stays_idle n runs.0 new replies runs.2, first_step, idle_step)
  stays_idle n old new replies runs goes idle = search (rules, arith)

  -- in a run either all steps go on, or at its end merging has nothing to do
  goes_or_ends : (n : ℕ) (old new : CoreState D) (replies : List (Reply F)) → Runs facts old (replicate n Merge) replies new → IsTrue (list_all (λ reply. not (is_refused reply)) replies)
      → TakesAll old → MovesBy n old new ⊎ (merge_due new ≡ Idle)
  goes_or_ends (suc n) old new (reply ∷ replies) runs goes all = search (arith, goes_or_ends n, first_step, stays_idle, no_work, one_moved, merge_end)
  goes_or_ends n old new replies runs goes all = search (rules, arith, none_moved)

  pub merge_run : MergeRunLaw facts
  merge_run old new replies runs goes all more = search (arith, goes_or_ends, merge_length, few_taken)

  -- ---- merges that leave newer hash stores

  -- a merge that did not begin takes all hash stores
  takes_all : (core : CoreState D) → core.merging ≡ None → TakesAll core
  takes_all core none = ap (λ (o : Option MergeWork). (unwrap_or o (first_work (length core.body.hashed))).stores) none

  -- once a merge takes all hash stores, each merge does
  all_still : (old new : CoreState D) (progress : ProgressOf) → Does facts old new Merge (Progress progress) → TakesAll old → TakesAll new
  all_still old new progress does all = search (arith, takes_all)

  stays_all : (n : ℕ) (old new : CoreState D) (replies : List (Reply F)) → Runs facts old (replicate n Merge) replies new → IsTrue (list_all (λ reply. not (is_refused reply)) replies)
      → TakesAll old → TakesAll new
  stays_all (suc n) old new (reply ∷ replies) runs goes all = search (arith, stays_all n runs.0 new replies runs.2, first_step, all_still)
  stays_all n old new replies runs goes all = search (rules, arith)

  -- in a run either all steps go on, or at its end the next merge takes all hash stores
  goes_or_turns : (n : ℕ) (old new : CoreState D) (replies : List (Reply F)) → Runs facts old (replicate n Merge) replies new → IsTrue (list_all (λ reply. not (is_refused reply)) replies)
      → MovesBy n old new ⊎ TakesAll new
  goes_or_turns (suc n) old new (reply ∷ replies) runs goes = search (arith, goes_or_turns n, first_step, stays_all, no_work, takes_all, merge_idle, one_moved)
  goes_or_turns n old new replies runs goes = search (rules, arith, none_moved)

  pub merge_turn : MergeTurnLaw facts
  merge_turn old new replies runs goes more = search (arith, goes_or_turns, merge_length, few_taken)
