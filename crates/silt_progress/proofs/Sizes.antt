-- Which states are sized.
use Rattle.silt_progress.proofs.Common.{cases_Bool, option_map, is_work, merge_progress, InLimits, Shape, Ghosts, Body, Event, Put, Delete, Swap, Flush, Get, Convert, Merge, Idle, Waiting, Moved}
use Rattle.silt_progress.proofs.Common.{Finished, Reply, Accepted, Acknowledged, Found, Absent, Differs, Progress, Refused, slots_written, KeptLaw, OpenedLaw}
use Rattle.std.proofs.Common.{rules, ◌≡◌, ◌≤◌, ◌<◌, ℕ, zero, suc, ◌*◌, Bool, true, false, IsTrue, List, [], ◌∷◌, length, Ok, Option, Some, None, IfSome, inl, inr, refl, ap, sym, ◌∙◌, subst, arith}
use Rattle.silt_event.specs.Commands.{Command}
use Rattle.silt_manifest.proofs.SoundBodies.{sound_parts}
use Rattle.silt_image.specs.Stores.{image_stores, stores_named}
use Rattle.silt_image.proofs.Named.{whole_law}
use Rattle.silt_engine.specs.Laws.{IsGoodWith}
use Rattle.silt_store_set.specs.CoreState.{CoreState, Does, MergeGoesOn, MergeWork, Runs, SettingCause, Takes, has_decided, is_convert, is_merge, is_refused}
use Rattle.silt_progress.specs.Steps.{IsSized, TakesSome}
use Rattle.silt_progress.proofs.Conversions.{convert_step, takes_more}

-- an image with stores has numbers within their limits, and a well-formed manifest record
numbers_of : (shape : Shape) (body : Body) (image : List ℕ) → image_stores image ≡ Ok (stores_named shape body image)
    → InLimits shape × (length body.frozen < shape.logs) × (body.sorted_count ≤ shape.sorted_capacity)
unfolding stores_named
numbers_of shape body image is =
    let whole = whole_law image (stores_named shape body image) is in
    search (arith, sound_parts, body.generation)

-- so has a store whose numbers are those of its image
pub sized_by : {D : Type 0} (core : CoreState D) → IsGoodWith core.shape core.body core.charge core.full → slots_written core.converting ≤ 4 * core.shape.buckets
    → IfSome core.merging (TakesSome (length core.body.hashed)) → IsSized core
sized_by core good written merging = search (arith, numbers_of)

-- no merge takes nothing
no_merge : (o : Option MergeWork) (hashes : ℕ) → o ≡ None → IfSome o (TakesSome hashes)
no_merge o hashes none = subst (λ (p : Option MergeWork). IfSome p (TakesSome hashes)) (sym none) tt

pub opened : {D F : Type 0} (facts : Ghosts D F) → OpenedLaw facts
opened facts old core opens honest = sized_by core (opens.numbers honest) (omega (arith, ap slots_written opens.converting)) (no_merge core.merging (length core.body.hashed) opens.merging)

-- merging that is work begins with a hash store
some_hashes : (hashes : ℕ) → true ≡ is_work (merge_progress hashes None) → 1 ≤ hashes
some_hashes zero work = absurd (let no : true ≡ false = work in cc)
some_hashes (suc hashes) work = omega arith

-- a merge that goes on takes what it took, and one that begins takes all
takes_on : (body : Body) (before after : Option MergeWork) (decided : MergeWork → Bool) → MergeGoesOn body before after
    → true ≡ is_work (merge_progress (length body.hashed) (option_map decided before))
    → IfSome before (TakesSome (length body.hashed)) → IfSome after (TakesSome (length body.hashed))
takes_on body before after decided on work takes = search (arith, some_hashes)

module _ {D F : Type 0} (facts : Ghosts D F) where
  -- a refusal that leaves a store not failed changes nothing
  refused_same : (old new : CoreState D) (event : Event) (reply : Reply F) → Does facts old new event reply → is_refused reply ≡ true → new.failed ≡ false → new ≡ old
  refused_same old new event reply does is working =
      let go : (b : Bool) → old.failed ≡ b → new ≡ old = search (arith, does.failed, does.stays) in
      go old.failed refl

  -- a step of conversion
  kept_convert : (old new : CoreState D) (reply : Reply F) → Does facts old new Convert reply → new.failed ≡ false → IsSized old → IsSized new
  kept_convert old new (Progress Idle) does working sized = subst IsSized (sym does.cause.2) sized
  kept_convert old new (Progress Waiting) does working sized = subst IsSized (sym does.cause.2) sized
  kept_convert old new (Progress Moved) does working sized = (convert_step facts old new Moved does refl sized).1
  kept_convert old new (Progress Finished) does working sized = (convert_step facts old new Finished does refl sized).1
  kept_convert old new (Refused refusal) does working sized = subst IsSized (sym (refused_same old new Convert (Refused refusal) does refl working)) sized
  kept_convert old new (Accepted n) does working sized = absurd does.cause
  kept_convert old new reply does working sized = absurd does.cause

  -- the conversion in progress has written as much as before
  written_still : (old new : CoreState D) (event : Event) (reply : Reply F) → Does facts old new event reply → is_convert event ≡ false → new.failed ≡ false → IsSized old
      → slots_written new.converting ≤ 4 * new.shape.buckets
  written_still old new event reply does other working sized =
      let same : slots_written new.converting ≡ slots_written old.converting = ap slots_written (does.keeps_converting working other) in
      omega (arith, sized.written, same, ap (λ (s : Shape). 4 * s.buckets) does.shape)

  -- a step of merging
  pub kept_merge : (old new : CoreState D) (reply : Reply F) → Does facts old new Merge reply → new.failed ≡ false → IsTrue (facts.content old.disk).honest → IsSized old → IsSized new
  kept_merge old new (Progress Idle) does working honest sized = subst IsSized (sym does.cause.2) sized
  kept_merge old new (Progress Waiting) does working honest sized = absurd does.cause.2
  kept_merge old new (Progress Moved) does working honest sized =
      let body : new.body ≡ old.body = does.cause.2.0 in
      let takes : IfSome new.merging (TakesSome (length old.body.hashed)) = takes_on old.body old.merging new.merging (has_decided old) does.cause.2.1 does.cause.1.work sized.merging in
      sized_by new (does.numbers working honest) (written_still old new Merge (Progress Moved) does refl working sized)
      (subst (λ (b : Body). IfSome new.merging (TakesSome (length b.hashed))) (sym body) takes)
  kept_merge old new (Progress Finished) does working honest sized =
      sized_by new (does.numbers working honest) (written_still old new Merge (Progress Finished) does refl working sized) (no_merge new.merging (length new.body.hashed) does.cause.2.none)
  kept_merge old new (Refused refusal) does working honest sized = subst IsSized (sym (refused_same old new Merge (Refused refusal) does refl working)) sized
  kept_merge old new reply does working honest sized = absurd does.cause

  -- a row leaves the hash stores
  takes_hashes : (old new : CoreState D) (key : List ℕ) (command : Command) → Takes facts old new key command → length new.body.hashed ≡ length old.body.hashed
  takes_hashes old new key command h4 = search arith

  set_hashes : (old new : CoreState D) (key : List ℕ) (value : Option (List ℕ)) (n : ℕ) → SettingCause facts old new key value (Accepted n) → length new.body.hashed ≡ length old.body.hashed
  set_hashes old new key value n cause = search (arith, takes_hashes)

  -- so does any call that is no step of background work
  same_hashes : (old new : CoreState D) (event : Event) (reply : Reply F) → Does facts old new event reply → is_convert event ≡ false → is_merge event ≡ false → new.failed ≡ false
      → length new.body.hashed ≡ length old.body.hashed
  same_hashes old new event (Refused refusal) does other another working = ap (λ (c : CoreState D). length c.body.hashed) (refused_same old new event (Refused refusal) does refl working)
  same_hashes old new (Put key value) (Accepted n) does other another working = set_hashes old new key.0 (Some value) n does.cause
  same_hashes old new (Delete key) (Accepted n) does other another working = set_hashes old new key.0 None n does.cause
  same_hashes old new (Swap key expected value) (Accepted n) does other another working = search (arith, set_hashes)
  same_hashes old new (Swap key expected value) Differs does other another working = search arith
  same_hashes old new (Swap key expected (Some value)) reply does other another working = absurd does.cause.1
  same_hashes old new (Swap key expected None) reply does other another working = absurd does.cause.1
  same_hashes old new Flush (Acknowledged n) does other another working = ap (λ (b : Body). length b.hashed) (does.keeps_body working refl refl)
  same_hashes old new (Get key) (Found value) does other another working = search arith
  same_hashes old new (Get key) Absent does other another working = search arith
  same_hashes old new Convert reply does other another working = absurd (let no : true ≡ false = other in cc)
  same_hashes old new Merge reply does other another working = absurd (let no : true ≡ false = another in cc)
  same_hashes old new event reply does other another working = absurd does.cause

  kept_other : (old new : CoreState D) (event : Event) (reply : Reply F) → Does facts old new event reply → is_convert event ≡ false → is_merge event ≡ false → new.failed ≡ false
      → IsTrue (facts.content old.disk).honest → IsSized old → IsSized new
  kept_other old new event reply does other another working honest sized =
      let same = same_hashes old new event reply does other another working in
      let merging : new.merging ≡ old.merging = does.keeps_merging working another in
      sized_by new (does.numbers working honest) (written_still old new event reply does other working sized) (search (arith, takes_more))

  kept_one : (old new : CoreState D) (event : Event) (reply : Reply F) → Does facts old new event reply → new.failed ≡ false → IsTrue (facts.content old.disk).honest → IsSized old → IsSized new
  kept_one old new Convert reply does working honest sized = kept_convert old new reply does working sized
  kept_one old new event reply does working honest sized = search (rules, arith, kept_merge, kept_other)

  -- a failed store stays failed
  stays_failed : (old new : CoreState D) (events : List Event) (replies : List (Reply F)) → Runs facts old events replies new → old.failed ≡ true → new.failed ≡ true
  stays_failed old new (event ∷ events) (reply ∷ replies) runs failed = search (arith, stays_failed runs.0 new events replies runs.2, runs.1.failed)
  stays_failed old new events replies runs failed = search (rules, arith)

  pub kept : KeptLaw facts
  kept old new [] [] runs working honest sized = subst IsSized (sym runs) sized
  kept old new (event ∷ events) (reply ∷ replies) runs working honest sized = elim (cases_Bool runs.0.failed) [
    | inl failed ↦ absurd (let no : true ≡ false = sym (stays_failed runs.0 new events replies runs.2 failed) ∙ working in cc)
    | inr goes ↦ kept runs.0 new events replies runs.2 working (subst IsTrue (sym runs.1.disk.honest) honest) (kept_one old runs.0 event reply runs.1 goes honest sized)
  ]
  kept old new events replies runs working honest sized = search rules
