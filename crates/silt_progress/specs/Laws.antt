-- Laws of background work: each step that is done brings its end nearer, and a store with none to do has room.
use Rattle.std.specs.Prelude.{◌≡◌, ◌≢◌, ◌≤◌, ◌+◌, ◌↔◌, ◌⊎◌, ◌||◌, ℕ, true, false, not, IsTrue, List, [], length, replicate, None}
use Rattle.std.specs.List.{list_all}
use Rattle.silt_disk.specs.Disk.{Content}
use Rattle.silt_disk.specs.declared.disk.Disk.{Ghosts}
use Rattle.silt_event.specs.declared.event.Event.{Event}
use Rattle.silt_event.specs.declared.event.Event.TheVariants.{Convert, Merge}
use Rattle.silt_event.specs.declared.progress.Progress.{Progress as ProgressOf}
use Rattle.silt_event.specs.declared.progress.Progress.TheVariants.{Idle, Waiting, Moved, Finished}
use Rattle.silt_event.specs.declared.refusal.Refusal.TheVariants.{NoRoom}
use Rattle.silt_event.specs.declared.reply.Reply.{Reply}
use Rattle.silt_event.specs.declared.reply.Reply.TheVariants.{Progress, Refused}
use Rattle.silt_engine.specs.Conversion.{is_work}
use Rattle.silt_store_set.specs.CoreState.{CoreState, Does, HasFreeLog, Opens, Runs, convert_due, is_refused, merge_due, wants_convert, wants_merge}
use Rattle.silt_progress.specs.Steps.{HasFreeHashes, HasStepLeft, IsSized, TakesAll, background_steps, convert_steps, is_background, is_step, most_merge_steps}
use Rattle.silt_progress.specs.Steps.{next_conversion, next_merge, steps_per_merge}

-- ---- which states the laws speak of

-- a store is sized after its opening
abbrev pub OpenedLaw : {D F : Type 0} → Ghosts D F → Type 0
OpenedLaw {D} facts = (old : Content) (core : CoreState D) → Opens facts old core → IsTrue old.honest → IsSized core

-- it stays sized through any run that does not make it fail
abbrev pub KeptLaw : {D F : Type 0} → Ghosts D F → Type 0
KeptLaw {D} {F} facts =
    (old new : CoreState D) (events : List Event) (replies : List (Reply F)) → Runs facts old events replies new → new.failed ≡ false
    → IsTrue (facts.content old.disk).honest → IsSized old → IsSized new

-- ---- conversion

-- a step of conversion that is done leaves one step fewer to do
abbrev pub ConvertStepLaw : {D F : Type 0} → Ghosts D F → Type 0
ConvertStepLaw {D} facts =
    (old new : CoreState D) (progress : ProgressOf) → Does facts old new Convert (Progress progress) → is_work progress ≡ true → IsSized old
    → convert_steps old ≡ convert_steps new + 1

-- a conversion has nothing to do exactly if there are no steps to do, and then no log is frozen and no conversion is in progress
abbrev pub ConvertIdleLaw : Type 0 → Type 0
ConvertIdleLaw D =
    (core : CoreState D) → IsSized core
    → ((convert_due core ≡ Idle) ↔ (convert_steps core ≡ 0)) × (convert_due core ≡ Idle → (core.body.frozen ≡ []) × (core.converting ≡ None))

-- after as many steps of conversion as there are to do, if all are done, a conversion has nothing to do
abbrev pub ConvertRunLaw : {D F : Type 0} → Ghosts D F → Type 0
ConvertRunLaw {D} {F} facts =
    (old new : CoreState D) (replies : List (Reply F)) → Runs facts old (replicate (convert_steps old) Convert) replies new
    → IsTrue (list_all is_step replies) → IsSized old → convert_due new ≡ Idle

-- if there is a free hash region for each frozen log, all these steps are done unless one is refused
abbrev pub ConvertAllLaw : {D F : Type 0} → Ghosts D F → Type 0
ConvertAllLaw {D} {F} facts =
    (old new : CoreState D) (replies : List (Reply F)) → Runs facts old (replicate (convert_steps old) Convert) replies new
    → IsTrue (list_all (λ reply. not (is_refused reply)) replies) → IsSized old → HasFreeHashes old
    → IsTrue (list_all is_step replies)

-- after the steps of one conversion, if all are done, a log region is free
abbrev pub FreesLaw : {D F : Type 0} → Ghosts D F → Type 0
FreesLaw {D} {F} facts =
    (old new : CoreState D) (replies : List (Reply F)) → Runs facts old (replicate (next_conversion old) Convert) replies new
    → IsTrue (list_all is_step replies) → IsSized old → HasFreeLog new

-- ---- merging

-- merging has nothing to do exactly if there is no hash store and no merge is in progress
abbrev pub MergeIdleLaw : Type 0 → Type 0
MergeIdleLaw D = (core : CoreState D) → (merge_due core ≡ Idle) ↔ ((core.body.hashed ≡ []) × (core.merging ≡ None))

-- a merge takes no more steps than `most_merge_steps` says at its beginning
abbrev pub MergeLengthLaw : Type 0 → Type 0
MergeLengthLaw D = (core : CoreState D) → steps_per_merge core ≤ most_merge_steps core + (next_merge core).steps

-- a step of a merge that has one left, if it goes on, leaves one step fewer
abbrev pub MergeStepLaw : {D F : Type 0} → Ghosts D F → Type 0
MergeStepLaw {D} facts =
    (old new : CoreState D) → Does facts old new Merge (Progress Moved) → HasStepLeft old → most_merge_steps old ≡ most_merge_steps new + 1

-- The step that finishes a merge is the last one that it takes. If the merge takes all hash stores, merging then has nothing to do.
abbrev pub MergeEndLaw : {D F : Type 0} → Ghosts D F → Type 0
MergeEndLaw {D} facts =
    (old new : CoreState D) → Does facts old new Merge (Progress Finished)
    → (IsTrue (facts.content old.disk).honest → (next_merge old).steps + 1 ≡ steps_per_merge old) × (TakesAll old → merge_due new ≡ Idle)

-- A merge that began with the first of these steps took one for each slot, one for each key, and the one that finishes it. Then merging has
-- nothing to do.
abbrev pub WholeMergeLaw : {D F : Type 0} → Ghosts D F → Type 0
WholeMergeLaw {D} facts =
    (old last new : CoreState D) (moves : ℕ) → old.merging ≡ None → Runs facts old (replicate moves Merge) (replicate moves (Progress Moved)) last
    → Does facts last new Merge (Progress Finished) → IsTrue (facts.content old.disk).honest
    → (moves + 1 ≡ steps_per_merge last) × (last.body ≡ old.body) × (merge_due new ≡ Idle)

-- After `most_merge_steps` steps, unless one is refused, the next merge takes all hash stores: one that did not is finished.
abbrev pub MergeTurnLaw : {D F : Type 0} → Ghosts D F → Type 0
MergeTurnLaw {D} {F} facts =
    (old new : CoreState D) (replies : List (Reply F)) → Runs facts old (replicate (most_merge_steps old) Merge) replies new
    → IsTrue (list_all (λ reply. not (is_refused reply)) replies) → HasStepLeft new → TakesAll new

-- If a merge takes all hash stores, merging has nothing to do after `most_merge_steps` steps, unless one is refused.
abbrev pub MergeRunLaw : {D F : Type 0} → Ghosts D F → Type 0
MergeRunLaw {D} {F} facts =
    (old new : CoreState D) (replies : List (Reply F)) → Runs facts old (replicate (most_merge_steps old) Merge) replies new
    → IsTrue (list_all (λ reply. not (is_refused reply)) replies) → TakesAll old → HasStepLeft new → merge_due new ≡ Idle

-- ---- both

-- a run of steps of background work that are all done, in any order, has at most `background_steps` steps
abbrev pub BackgroundLaw : {D F : Type 0} → Ghosts D F → Type 0
BackgroundLaw {D} {F} facts =
    (old new : CoreState D) (events : List Event) (replies : List (Reply F)) → Runs facts old events replies new
    → IsTrue (list_all is_background events) → IsTrue (list_all is_step replies) → IsTrue (facts.content old.disk).honest → IsSized old → HasStepLeft new
    → length events ≤ background_steps old

-- a store with no step of background work to do has nothing to convert and nothing to merge
abbrev pub RestLaw : Type 0 → Type 0
RestLaw D =
    (core : CoreState D) → IsSized core → is_work (convert_due core) ≡ false → is_work (merge_due core) ≡ false
    → (convert_due core ≡ Idle) × (merge_due core ≡ Idle)

-- ---- room

-- with a free log region, or if a conversion has nothing to do, no call is refused for lack of room
abbrev pub RoomLaw : {D F : Type 0} → Ghosts D F → Type 0
RoomLaw {D} {F} facts =
    (old new : CoreState D) (event : Event) (reply : Reply F) → Does facts old new event reply → HasFreeLog old ⊎ (convert_due old ≡ Idle)
    → reply ≢ Refused NoRoom

-- if a conversion waits for a hash region, there is a step of merging to do
abbrev pub WaitLaw : Type 0 → Type 0
WaitLaw D = (core : CoreState D) → IsSized core → convert_due core ≡ Waiting → is_work (merge_due core) ≡ true

-- if a call is refused for lack of room, there is a step of conversion or merging to do
abbrev pub NoRoomLaw : {D F : Type 0} → Ghosts D F → Type 0
NoRoomLaw {D} facts =
    (old new : CoreState D) (event : Event) → Does facts old new event (Refused NoRoom) → IsSized old → (wants_convert old || wants_merge old) ≡ true
