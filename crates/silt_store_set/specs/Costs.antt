-- How many writes and syncs a run of events makes.
use Rattle.std.specs.Prelude.{◌≡◌, ◌≤◌, ℕ, ◌+◌, ◌*◌, Bool, false, not, ◌&&◌, IsTrue, List, [], ◌∷◌, ◌++◌, length, replicate, None}
use Rattle.std.specs.List.{list_all}
use Rattle.silt_disk.specs.declared.disk.Disk.{Ghosts}
use Rattle.silt_event.specs.declared.event.Event.{Event}
use Rattle.silt_event.specs.declared.progress.Progress.TheVariants.{Moved, Finished}
use Rattle.silt_event.specs.declared.reply.Reply.{Reply}
use Rattle.silt_event.specs.declared.reply.Reply.TheVariants.{Accepted, Acknowledged, Progress}
use Rattle.silt_event.specs.Events.{accepted_commands}
use Rattle.silt_store_set.specs.CoreState.{CoreState, HasMade, is_convert, is_merge, some_wait}

-- how many flushes an event with this reply is that settle commands, if some wait (1) or none does (0)
abbrev pub settles_by : {F : Type 0} → ℕ → Reply F → ℕ
settles_by waits (Acknowledged n) = waits
settles_by waits reply = 0

-- whether commands wait after it (1) or not (0)
abbrev pub waits_after : {F : Type 0} → ℕ → Reply F → ℕ
waits_after waits (Accepted n) = 1
waits_after waits (Acknowledged n) = 0
waits_after waits reply = waits

-- how many flushes of a run settle commands
abbrev pub settling : {F : Type 0} → ℕ → List (Reply F) → ℕ
settling waits [] = 0
settling waits (reply ∷ replies) = settles_by waits reply + settling (waits_after waits reply) replies

-- the replies to background steps up to the end: each but the last one moves
abbrev pub to_the_end : {F : Type 0} → ℕ → List (Reply F)
to_the_end moves = replicate moves (Progress Moved) ++ Progress Finished ∷ []

-- the event is no background step
abbrev pub is_foreground : Event → Bool
is_foreground event = not (is_convert event) && not (is_merge event)

-- What a run without background steps makes: two writes for each accepted command, a write and two syncs for each flush that settles
-- commands, and for each freeze four writes and four syncs, and a write and two syncs more if commands waited.
pub record RowsMade {D F : Type 0} (facts : Ghosts D F) (old : CoreState D) (events : List Event) (replies : List (Reply F)) (new : CoreState D) : Type 0 where
  pub freezes : ℕ
  pub waited : ℕ
  pub turns : new.body.generation ≡ old.body.generation + freezes
  pub fewer : waited ≤ freezes
  pub made : HasMade facts old new (2 * length (accepted_commands events replies) + settling (some_wait old.waiting) replies + 4 * freezes + waited)
      (2 * settling (some_wait old.waiting) replies + 4 * freezes + 2 * waited)

-- What a run makes. Without background steps and freezes: two writes for each accepted command, and a write and two syncs for each flush
-- that settles commands; with freezes, so much more. A whole conversion: a write for each slot of the hash store, and the manifest. A whole merge: a write for each
-- entry of the new sorted store, and the manifest.
pub record RunMade {D F : Type 0} (facts : Ghosts D F) (old : CoreState D) (events : List Event) (replies : List (Reply F)) (new : CoreState D) : Type 0 where
  pub rows : IsTrue (facts.content old.disk).honest → IsTrue (list_all is_foreground events) → new.failed ≡ false → new.body.generation ≡ old.body.generation
      → HasMade facts old new (2 * length (accepted_commands events replies) + settling (some_wait old.waiting) replies) (2 * settling (some_wait old.waiting) replies)
  pub freezes : IsTrue (facts.content old.disk).honest → IsTrue (list_all is_foreground events) → new.failed ≡ false → RowsMade facts old events replies new
  pub conversion : (moves : ℕ) → old.converting ≡ None → IsTrue (list_all is_convert events) → replies ≡ to_the_end moves
      → (moves ≡ 4 * old.shape.buckets) × HasMade facts old new (moves + 3) 4
  pub merge : (moves : ℕ) → old.merging ≡ None → IsTrue (list_all is_merge events) → replies ≡ to_the_end moves
      → HasMade facts old new (new.body.sorted_count + 3) 4
