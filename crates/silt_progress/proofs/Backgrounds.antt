-- Background work of both kinds, in any order.
use Rattle.silt_progress.proofs.Common.{and_parts, unwrap_or, list_all, length-take-le, Shape, Ghosts, Body, Event, Convert, Merge, Idle, Waiting, Moved, Finished, Reply, Progress, is_work}
use Rattle.silt_progress.proofs.Common.{progress_due, BackgroundLaw}
use Rattle.std.proofs.Common.{rules, ◌≡◌, ◌≤◌, ℕ, zero, suc, ◌+◌, ◌-◌, ◌*◌, true, false, IsTrue, List, [], ◌∷◌, length, Option, Some, None, IfSome, refl, ap, sym, ◌∙◌, subst, arith}
use Rattle.std.proofs.Math.Nat.{add-mul, mul-le-mul_right}
use Rattle.silt_event.specs.declared.progress.Progress.{Progress as ProgressOf}
use Rattle.silt_store_set.specs.CoreState.{ConvertGoesOn, ConvertWork, CoreState, Does, MergeWork, Runs, written_of}
use Rattle.silt_progress.specs.Steps.{HasStepLeft, IsSized, TakesSome, convert_steps, is_background, is_step, logs_left, most_per_store, next_merge, stores_left}
use Rattle.silt_progress.proofs.Conversions.{due_first, finished, moved, step_is, works}
use Rattle.silt_progress.proofs.Merges.{Moves, few_taken, first_work, merge_end, merge_length, moves}
use Rattle.silt_progress.proofs.Sizes.{kept_merge}

-- a merge of some hash stores takes at most so many steps
per_store : (stores slots room : ℕ) → 1 ≤ stores → 2 * (stores * slots) + room + 1 ≤ stores * (2 * slots + room + 1)
per_store zero slots room some = absurd (omega (arith, some))
per_store (suc zero) slots room some = search arith
per_store (suc (suc n)) slots room some = search (arith, per_store (suc n) slots room)

-- a conversion that goes on has as many logs to convert as before
logs_same : (frozen hashed regions slots hashes : ℕ) (body : Body) (before after : Option ConvertWork) → ConvertGoesOn hashes body before after
    → Moved ≡ progress_due frozen hashed regions slots (written_of before) → logs_left frozen after ≡ logs_left frozen before
logs_same frozen hashed regions slots hashes body before after on due = search (arith, due_first)

-- a merge that stays has taken as many steps, with any number of hash stores
steps_same : (o : Option MergeWork) (hashes more : ℕ)
    → (unwrap_or o (first_work more)).steps ≡ (unwrap_or o (first_work hashes)).steps
steps_same None hashes more = refl
steps_same (Some work) hashes more = refl

-- the steps of all conversions and merges, without those that the merge in progress took
abbrev all_steps : {D : Type 0} → CoreState D → ℕ
all_steps core = convert_steps core + stores_left core * most_per_store core

-- a merge in progress took at most so many
few_steps : {D : Type 0} (core : CoreState D) → IsSized core → HasStepLeft core → (next_merge core).steps ≤ all_steps core
few_steps core sized left =
    let first : MergeWork = first_work (length core.body.hashed) in
    let go : (o : Option MergeWork) → core.merging ≡ o → IfSome o (TakesSome (length core.body.hashed)) → (next_merge core).steps ≤ all_steps core = elim [
      | None ↦ λ is takes. omega (arith, ap (λ (p : Option MergeWork). (unwrap_or p first).steps) is)
      | Some work ↦ λ is takes.
          let own : next_merge core ≡ work = ap (λ (p : Option MergeWork). unwrap_or p first) is in
          let stores : (next_merge core).stores ≡ work.stores = ap (λ (w : MergeWork). w.stores) own in
          let long = merge_length core in
          let most = per_store (next_merge core).stores (4 * core.shape.buckets) core.shape.sorted_capacity (omega (arith, takes.0, stores)) in
          let all : (next_merge core).stores * most_per_store core ≤ stores_left core * most_per_store core = mul-le-mul_right (most_per_store core) (omega (arith, takes.1, stores)) in
          omega (arith, few_taken core left, long, most, all, sized.entries)
    ] in
    go core.merging refl sized.merging

module _ {D F : Type 0} (facts : Ghosts D F) where
  -- a run of so many steps leaves so many fewer: the steps that the merge in progress took count on both sides
  record Falls (n : ℕ) (old new : CoreState D) : Type 0 where
    falls : n + all_steps new + (next_merge old).steps ≤ all_steps old + (next_merge new).steps
    sized : IsSized new

  -- a step leaves what a merge of one store takes
  most_same : (old new : CoreState D) → new.shape ≡ old.shape → most_per_store new ≡ most_per_store old
  most_same old new same = ap (λ (s : Shape). 2 * (4 * s.buckets) + s.sorted_capacity + 1) same

  -- a step of conversion leaves the steps of the merge in progress
  merge_same : (old new : CoreState D) (progress : ProgressOf) → Does facts old new Convert (Progress progress) → (next_merge new).steps ≡ (next_merge old).steps
  merge_same old new progress does = search (arith, works, steps_same, does.keeps_merging)

  convert_falls : (old new : CoreState D) (progress : ProgressOf) → Does facts old new Convert (Progress progress) → is_work progress ≡ true → IsSized old → Falls 1 old new
  convert_falls old new Idle does work sized = absurd (let no : false ≡ true = work in cc)
  convert_falls old new Waiting does work sized = absurd (let no : false ≡ true = work in cc)
  convert_falls old new Moved does work sized =
      let on = moved facts old new does sized in
      let body : new.body ≡ old.body = does.cause.2.0 in
      let logs : logs_left (length old.body.frozen) new.converting ≡ logs_left (length old.body.frozen) old.converting = search (arith, logs_same) in
      let stores : stores_left new ≡ stores_left old = search arith in
      let all : stores_left new * most_per_store new ≡ stores_left old * most_per_store old = search (arith, most_same) in
      record { falls = omega (arith, on.1, all, merge_same old new Moved does); sized = on.2 }
  convert_falls old new Finished does work sized =
      let on = finished facts old new does sized in
      let is = does.cause.2 in
      let before : stores_left old ≡ (length old.body.frozen - 1) + 1 + length old.body.hashed = search arith in
      let after : stores_left new ≡ length new.body.frozen + length new.body.hashed = search arith in
      let stores : stores_left new ≡ stores_left old = omega (arith, before, after, on.1, on.3) in
      let all : stores_left new * most_per_store new ≡ stores_left old * most_per_store old = search (arith, most_same) in
      record { falls = omega (arith, on.2, all, merge_same old new Finished does); sized = on.4 }

  -- a step of merging leaves the conversions
  converts_same : (old new : CoreState D) (progress : ProgressOf) → Does facts old new Merge (Progress progress) → new.body.frozen ≡ old.body.frozen
      → (convert_steps new ≡ convert_steps old) × (logs_left (length new.body.frozen) new.converting ≡ logs_left (length old.body.frozen) old.converting)
  converts_same old new progress does frozen = search (arith, works, does.keeps_converting)

  merge_falls : (old new : CoreState D) (progress : ProgressOf) → Does facts old new Merge (Progress progress) → is_work progress ≡ true
      → IsTrue (facts.content old.disk).honest → IsSized old → Falls 1 old new
  merge_falls old new Idle does work honest sized = absurd (let no : false ≡ true = work in cc)
  merge_falls old new Waiting does work honest sized = absurd (let no : false ≡ true = work in cc)
  merge_falls old new Moved does work honest sized =
      let on : Moves facts old new = moves facts old new does in
      let same = converts_same old new Moved does (ap (λ (b : Body). b.frozen) on.body) in
      let stores : stores_left new ≡ stores_left old = omega (arith, same.1, ap (λ (b : Body). length b.hashed) on.body) in
      let all : stores_left new * most_per_store new ≡ stores_left old * most_per_store old = search (arith, most_same) in
      record { falls = omega (arith, same.0, all, on.steps); sized = search (arith, kept_merge, works) }
  merge_falls old new Finished does work honest sized =
      let is = does.cause.2 in
      let first : MergeWork = first_work (length old.body.hashed) in
      let own : next_merge old ≡ is.work = ap (λ (o : Option MergeWork). unwrap_or o first) is.was in
      let taken : (next_merge old).stores ≡ is.work.stores = ap (λ (w : MergeWork). w.stores) own in
      let takes : TakesSome (length old.body.hashed) is.work = search arith in
      let same = converts_same old new Finished does (ap (λ (b : Body). b.frozen) is.body) in
      let fewer : length new.body.hashed ≡ length old.body.hashed - is.work.stores = search (arith, length-take-le) in
      let begins : (next_merge new).steps ≡ 0 = ap (λ (o : Option MergeWork). (unwrap_or o (first_work (length new.body.hashed))).steps) is.none in
      let stores : stores_left old ≡ stores_left new + (next_merge old).stores = omega (arith, same.1, fewer, taken, takes.1) in
      let all : stores_left old * most_per_store old ≡ stores_left new * most_per_store new + (next_merge old).stores * most_per_store old =
      ap (λ (n : ℕ). n * most_per_store old) stores ∙ add-mul (stores_left new) (next_merge old).stores (most_per_store old)
      ∙ ap (λ (n : ℕ). stores_left new * n + (next_merge old).stores * most_per_store old) (sym (most_same old new does.shape)) in
      let last = (merge_end facts old new does).0 honest in
      let long = merge_length old in
      let most = per_store (next_merge old).stores (4 * old.shape.buckets) old.shape.sorted_capacity (omega (arith, taken, takes.0)) in
      record {
        falls = omega (arith, same.0, all, begins, last, long, most, sized.entries);
        sized = search (arith, kept_merge, works);
      }

  -- a step of either kind
  either_falls : (old new : CoreState D) (event : Event) (progress : ProgressOf) → Does facts old new event (Progress progress) → is_background event ≡ true → is_work progress ≡ true
      → IsTrue (facts.content old.disk).honest → IsSized old → Falls 1 old new
  either_falls old new Convert progress does is work honest sized = convert_falls old new progress does work sized
  either_falls old new event progress does is work honest sized = search (rules, arith, merge_falls)

  run_falls : (old new : CoreState D) (events : List Event) (replies : List (Reply F)) → Runs facts old events replies new → IsTrue (list_all is_background events) → IsTrue (list_all is_step replies)
      → IsTrue (facts.content old.disk).honest → IsSized old → Falls (length events) old new
  run_falls old new [] [] runs all done honest sized = record {
    falls = omega (arith, ap (λ (c : CoreState D). all_steps c) runs, ap (λ (c : CoreState D). (next_merge c).steps) runs);
    sized = subst IsSized (sym runs) sized;
  }
  run_falls old new (event ∷ events) (reply ∷ replies) runs all done honest sized =
      let next = runs.0 in
      let kinds = and_parts (is_background event) (list_all is_background events) all in
      let parts = and_parts (is_step reply) (list_all is_step replies) done in
      let step = step_is reply parts.0 in
      let does : Does facts old next event (Progress step.0) = subst (Does facts old next event) step.1 runs.1 in
      let one = either_falls old next event step.0 does kinds.0 step.2 honest sized in
      let rest = run_falls next new events replies runs.2 kinds.1 parts.1 (subst IsTrue (sym runs.1.disk.honest) honest) one.sized in
      record { falls = omega (arith, one.falls, rest.falls); sized = rest.sized }
  run_falls old new events replies runs all done honest sized = absurd runs

  pub background : BackgroundLaw facts
  background old new events replies runs all done honest sized left =
      let on = run_falls old new events replies runs all done honest sized in
      let few = few_steps new on.sized left in
      omega (arith, on.falls, few)
