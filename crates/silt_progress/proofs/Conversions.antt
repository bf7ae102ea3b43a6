-- Conversions, step by step.
use Rattle.silt_progress.proofs.Common.{and_from, and_parts, eqb-false, eqb-true, replicate, list_all, length-take-le, InLimits, Shape, Ghosts, Body, Event, Convert, Merge, Idle, Waiting, Moved}
use Rattle.silt_progress.proofs.Common.{Finished, Reply, Progress, Refused, is_work, progress_due, slots_written, ConvertAllLaw, ConvertIdleLaw, ConvertRunLaw, ConvertStepLaw, FreesLaw}
use Rattle.std.proofs.lemmas.Bool.Decides.{nat_tests}
use Rattle.std.proofs.Common.{rules, ◌≡◌, ◌≢◌, ◌≤◌, ◌<◌, ℕ, zero, suc, ◌+◌, ◌-◌, ◌*◌, true, false, not, IsTrue, List, [], ◌∷◌, length, Option, Some, None, IfSome, refl, sym, arith, suc-mul}
use Rattle.silt_event.specs.declared.progress.Progress.{Progress as ProgressOf}
use Rattle.silt_store_set.specs.CoreState.{ConvertGoesOn, ConvertWork, CoreState, Does, HasFreeLog, MergeWork, Runs, convert_due, is_refused, written_of}
use Rattle.silt_progress.specs.Steps.{HasFreeHashes, IsSized, TakesSome, conversions_left, convert_steps, is_step, is_background, next_conversion}

-- a hash store has slots
pub some_slots : (shape : Shape) → InLimits shape → 0 < 4 * shape.buckets
some_slots shape limits = search arith

-- a list of no length is empty
pub no_length : {X : Type 0} (xs : List X) → length xs ≡ 0 → xs ≡ []
no_length [] none = refl
no_length (x ∷ xs) none = absurd (omega (arith, none))

-- ---- what is due

module _ (frozen hashes regions slots : ℕ) where
  -- a conversion that goes on has not written all slots
  pub due_moved : (written : ℕ) → Moved ≡ progress_due frozen hashes regions slots (Some written) → written ≢ slots
  due_moved written due = grind (arith, nat_tests)

  -- one that finishes has
  pub due_finished : (written : ℕ) → Finished ≡ progress_due frozen hashes regions slots (Some written) → written ≡ slots
  due_finished written due = search (arith, eqb-true)

  -- one that begins has a frozen log
  pub due_first : Moved ≡ progress_due frozen hashes regions slots None → frozen ≢ 0
  due_first due = grind (arith, nat_tests)

  -- one that waits is none yet, and all hash regions are in use
  pub due_waiting : (written : Option ℕ) → Waiting ≡ progress_due frozen hashes regions slots written → (frozen ≢ 0) × (hashes ≡ regions)
  due_waiting written due = search (arith, eqb-true, eqb-false)

  -- there is nothing to do if no conversion is in progress and no log is frozen
  pub due_idle : (written : Option ℕ) → progress_due frozen hashes regions slots written ≡ Idle → (written ≡ None) × (frozen ≡ 0)
  due_idle written due = search (arith, eqb-true)

-- ---- what a step leaves to do

-- a conversion that begins takes one step of those of its log
left_first : (frozen steps : ℕ) → frozen ≢ 0 → 1 ≤ steps → frozen * steps ≡ (steps - 1) + (frozen - 1) * steps + 1
left_first zero steps some least = absurd (some refl)
left_first (suc n) steps some least = search arith

-- a step that goes on: one more slot is written, of at most all
pub goes_on : (frozen hashed regions slots hashes : ℕ) (body : Body) (before after : Option ConvertWork) → ConvertGoesOn hashes body before after
    → Moved ≡ progress_due frozen hashed regions slots (written_of before) → slots_written before ≤ slots → 0 < slots
    → (slots_written after ≡ slots_written before + 1) × (slots_written after ≤ slots) × (conversions_left frozen (slots + 1) before ≡ conversions_left frozen (slots + 1) after + 1)
goes_on frozen hashed regions slots hashes body before after on due most some = search (arith, due_moved, left_first, due_first)

-- ---- nothing to do

-- what has written no number of slots is no conversion
none_written : (o : Option ConvertWork) → written_of o ≡ None → o ≡ None
none_written None is = refl
none_written (Some work) is = absurd (cc)

-- a conversion with nothing to do has no steps to do
pub no_steps : {D : Type 0} (core : CoreState D) → convert_due core ≡ Idle → convert_steps core ≡ 0
no_steps core due = search (arith, due_idle, none_written)

-- no log takes no step
none_left : (frozen slots : ℕ) → frozen * (slots + 1) ≡ 0 → frozen ≡ 0
none_left zero slots none = refl
none_left (suc n) slots none = absurd (omega (arith, none, suc-mul n (slots + 1)))

-- with no steps to do there is nothing to do
idle_left : (frozen hashed regions slots : ℕ) (o : Option ConvertWork) → slots_written o ≤ slots → conversions_left frozen (slots + 1) o ≡ 0
    → progress_due frozen hashed regions slots (written_of o) ≡ Idle
idle_left frozen hashed regions slots o most none = search (arith, none_left)

pub idle_steps : {D : Type 0} (core : CoreState D) → IsSized core → convert_steps core ≡ 0 → convert_due core ≡ Idle
idle_steps core sized none = idle_left (length core.body.frozen) (length core.body.hashed) core.shape.hashes (4 * core.shape.buckets) core.converting sized.written none

pub convert_idle : {D : Type 0} → ConvertIdleLaw D
convert_idle core sized = search (arith, no_steps, idle_steps, due_idle, no_length, none_written)

-- ---- calls

-- only the reply of a step that is done says so
pub step_is : {F : Type 0} (reply : Reply F) → IsTrue (is_step reply) → (progress : ProgressOf) × (reply ≡ Progress progress) × (is_work progress ≡ true)
step_is (Progress progress) is = (progress, refl, is)
step_is reply is = absurd (let no : IsTrue false = is in cc)

-- a merge of some hash stores takes some of more
pub takes_more : (o : Option MergeWork) (hashes more : ℕ) → hashes ≤ more → IfSome o (TakesSome hashes) → IfSome o (TakesSome more)
takes_more None hashes more most takes = tt
takes_more (Some work) hashes more most takes = (takes.0, omega (arith, takes.1, most))

module _ {D F : Type 0} (facts : Ghosts D F) where
  -- a store that reports progress is not failed
  pub works : (old new : CoreState D) (event : Event) (progress : ProgressOf) → Does facts old new event (Progress progress) → old.failed ≡ false → new.failed ≡ false
  works old new event progress does working = grind (arith, does.faulted)

  -- a step of conversion leaves the merge in progress, and at least as many hash stores
  takes_still : (old new : CoreState D) (progress : ProgressOf) → Does facts old new Convert (Progress progress) → length old.body.hashed ≤ length new.body.hashed → IsSized old
      → IfSome new.merging (TakesSome (length new.body.hashed))
  takes_still old new progress does more sized = search (arith, works, takes_more, does.keeps_merging)

  -- a step that goes on
  pub moved : (old new : CoreState D) → Does facts old new Convert (Progress Moved) → IsSized old
      → (slots_written new.converting ≡ slots_written old.converting + 1) × (convert_steps old ≡ convert_steps new + 1) × IsSized new
  moved old new does sized =
      let body : new.body ≡ old.body = does.cause.2.0 in
      let on = goes_on (length old.body.frozen) (length old.body.hashed) old.shape.hashes (4 * old.shape.buckets) old.shape.hashes
      old.body old.converting new.converting does.cause.2.1 does.cause.1 sized.written (some_slots old.shape sized.limits) in
      search (arith, takes_still)

  -- the step that finishes
  pub finished : (old new : CoreState D) → Does facts old new Convert (Progress Finished) → IsSized old
      → (slots_written old.converting ≡ 4 * old.shape.buckets) × (length new.body.frozen ≡ length old.body.frozen - 1)
      × (convert_steps old ≡ convert_steps new + 1) × (length new.body.hashed ≡ length old.body.hashed + 1) × IsSized new
  finished old new does sized =
      let is = does.cause.2 in
      let due : Finished ≡ progress_due (length old.body.frozen) (length old.body.hashed) old.shape.hashes (4 * old.shape.buckets) (Some is.work.written)
      = search arith in
      let all : is.work.written ≡ 4 * old.shape.buckets = search (arith, due_finished) in
      search (arith, length-take-le, takes_still)

  -- a step that is done
  pub convert_step : (old new : CoreState D) (progress : ProgressOf) → Does facts old new Convert (Progress progress) → is_work progress ≡ true → IsSized old
      → (convert_steps old ≡ convert_steps new + 1) × IsSized new
  convert_step old new Moved does work sized = let on = moved old new does sized in (on.1, on.2)
  convert_step old new Finished does work sized = let on = finished old new does sized in (on.2, on.4)
  convert_step old new progress does work sized = absurd (let no : false ≡ true = work in cc)

  -- ---- runs

  -- a run of so many steps that are done leaves so many fewer to do
  pub convert_run : (n : ℕ) (old new : CoreState D) (replies : List (Reply F)) → Runs facts old (replicate n Convert) replies new → IsTrue (list_all is_step replies) → IsSized old
      → (convert_steps old ≡ convert_steps new + n) × IsSized new
  convert_run (suc n) old new (reply ∷ replies) runs all sized = search (arith, convert_run n, and_parts, step_is, convert_step)
  convert_run n old new replies runs all sized = search (rules, arith)

  -- no step ends a run
  ends : (n : ℕ) (old new : CoreState D) (replies : List (Reply F)) → n ≡ 0 → Runs facts old (replicate n Convert) replies new → new ≡ old
  ends n old new replies none runs = search arith

  -- after the steps of one conversion a log region is free
  pub frees : (n : ℕ) (old new : CoreState D) (replies : List (Reply F)) → Runs facts old (replicate n Convert) replies new → IsTrue (list_all is_step replies) → IsSized old
      → next_conversion old ≡ n → HasFreeLog new
  frees zero old new replies runs all sized left = absurd (omega (arith, left, sized.written))
  frees (suc n) old new [] runs all sized left = absurd runs
  frees (suc n) old new (reply ∷ replies) runs all sized left =
      let next = runs.0 in
      let parts = and_parts (is_step reply) (list_all is_step replies) all in
      let step = step_is reply parts.0 in
      let go : (progress : ProgressOf) → Does facts old next Convert (Progress progress) → is_work progress ≡ true → HasFreeLog new = elim [
        | Idle ↦ λ does work. absurd (let no : false ≡ true = work in cc)
        | Waiting ↦ λ does work. absurd (let no : false ≡ true = work in cc)
        | Moved ↦ λ does work.
            let on = moved old next does sized in
            search (arith, frees n next new replies runs.2 parts.1 on.2)
        | Finished ↦ λ does work.
            let on = finished old next does sized in
            let last : new ≡ next = ends n next new replies (omega (arith, left, on.0)) runs.2 in
            search arith
      ] in
      go step.0 (rw step.1 at runs.1) step.2

  -- ---- a hash region for each frozen log

  -- each frozen log has a free hash region, if there is one
  abbrev HasRoom : CoreState D → Type 0
  HasRoom core = 0 < length core.body.frozen → HasFreeHashes core

  -- the first step of a run without refusals reports its progress
  pub first_step : (event : Event) (old next : CoreState D) (reply : Reply F) (replies : List (Reply F)) → is_background event ≡ true → Does facts old next event reply
      → IsTrue (list_all (λ r. not (is_refused r)) (reply ∷ replies))
      → (progress : ProgressOf) × (reply ≡ Progress progress) × Does facts old next event (Progress progress) × IsTrue (list_all (λ r. not (is_refused r)) replies)
  first_step event old next (Progress progress) replies is does goes = (progress, refl, does, goes)
  first_step event old next (Refused refusal) replies is does goes = absurd (let no : IsTrue false = goes in cc)
  first_step Convert old next reply replies is does goes = absurd does.cause
  first_step Merge old next reply replies is does goes = absurd does.cause
  first_step event old next reply replies is does goes = absurd (let no : false ≡ true = is in cc)

  -- then it is done, if there is one to do, and there is still a region for each frozen log
  goes_ahead : (old new : CoreState D) (progress : ProgressOf) → Does facts old new Convert (Progress progress) → IsSized old → convert_steps old ≢ 0 → HasRoom old
      → (is_work progress ≡ true) × HasRoom new
  goes_ahead old new Idle does sized some room = absurd (some (no_steps old (sym does.cause.1)))
  goes_ahead old new Waiting does sized some room =
      let due = due_waiting (length old.body.frozen) (length old.body.hashed) old.shape.hashes (4 * old.shape.buckets) (written_of old.converting) does.cause.1 in
      let many : 0 < length old.body.frozen = omega (arith, due.0) in
      absurd (omega (arith, room many, due.1, many))
  goes_ahead old new Moved does sized some room = search arith
  goes_ahead old new Finished does sized some room =
      let on = finished old new does sized in search arith

  -- all steps are done
  pub all_done : (n : ℕ) (old new : CoreState D) (replies : List (Reply F)) → Runs facts old (replicate n Convert) replies new → IsTrue (list_all (λ reply. not (is_refused reply)) replies)
      → IsSized old → HasRoom old → convert_steps old ≡ n → IsTrue (list_all is_step replies)
  all_done zero old new [] runs goes sized room left = refl
  all_done (suc n) old new (reply ∷ replies) runs goes sized room left =
      let step = first_step Convert old runs.0 reply replies refl runs.1 goes in
      let ahead = goes_ahead old runs.0 step.0 step.2 sized (λ none. absurd (omega (arith, none, left))) room in
      let one = convert_step old runs.0 step.0 step.2 ahead.0 sized in
      search (arith, all_done n runs.0 new replies runs.2 step.3 one.1 ahead.1, and_from)
  all_done n old new replies runs goes sized room left = absurd runs

  -- ---- the laws

  pub step_law : ConvertStepLaw facts
  step_law old new progress does work sized = (convert_step old new progress does work sized).0

  pub run_law : ConvertRunLaw facts
  run_law old new replies runs all sized = search (arith, convert_run, idle_steps)

  pub all_law : ConvertAllLaw facts
  all_law old new replies runs goes sized room = all_done (convert_steps old) old new replies runs goes sized (λ _. room) refl

  pub frees_law : FreesLaw facts
  frees_law old new replies runs all sized = frees (next_conversion old) old new replies runs all sized refl
