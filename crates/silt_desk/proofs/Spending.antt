-- What a call costs, from what the store does.
use Rattle.silt_desk.proofs.Common.{◌≡◌, ◌≢◌, ◌+◌, ◌*◌, ◌≤◌, true, false, length, Some, None, inl, inr, refl, ap, sym, ◌∙◌, arith, rules, MakesAtMost, Command, PlainReply, accepted_command}
use Rattle.silt_desk.proofs.Common.{is_fault, plain, Event, Put, Delete, Swap, Flush, Get, Convert, Merge, Refusal, Reply, CoreState, Does, MakesRow, WritesRow, convert_due, is_finished}
use Rattle.silt_desk.proofs.Common.{most_syncs, most_writes, some_wait, accepted_by, BatchCostLaw, SeenStore, Spends, batch_replies, failing, finished_by, seen, syncs_by, total_by, writes_by}
use Rattle.std.proofs.Common.{ℕ, List, [], ◌∷◌}
use Rattle.std.proofs.lemmas.Bool.{cases_Bool}
use Rattle.silt_disk.specs.declared.disk.Disk.{Ghosts}
use Rattle.silt_disk.proofs.Costs.{most_made, most_more, most_none}
use Rattle.silt_manifest.specs.declared.body.Body.{Body}
use Rattle.silt_event.specs.declared.progress.Progress.{Progress as ProgressOf}
use Rattle.silt_event.specs.declared.progress.Progress.TheVariants.{Idle, Moved, Finished}
use Rattle.silt_event.specs.declared.reply.Reply.TheVariants.{Accepted, Acknowledged, Found, Absent, Differs, Progress, Refused}
use Rattle.silt_engine.specs.Costs.{step_syncs, step_writes}

-- some commands wait or none do
waits_most : (commands : List Command) → some_wait commands ≤ 1
waits_most [] = omega arith
waits_most (command ∷ commands) = omega arith

-- a step writes no more than the manifest
steps_write : (progress : ProgressOf) → step_writes progress ≤ 3
steps_write Idle = omega arith
steps_write reply = omega arith

steps_sync : (progress : ProgressOf) → step_syncs progress ≤ 4
steps_sync Idle = omega arith
steps_sync reply = omega arith

module _ {D : Type 0} where
  -- no event makes more writes and syncs than a row for which a log is frozen
  event_writes : (core : CoreState D) (event : Event) → most_writes core event ≤ 7
  event_writes core Convert = omega (arith, steps_write (convert_due core))
  event_writes core event = omega (arith, waits_most core.waiting)

  event_syncs : (core : CoreState D) (event : Event) → most_syncs core event ≤ 6
  event_syncs core Convert = omega (arith, steps_sync (convert_due core))
  event_syncs core event = omega (arith, waits_most core.waiting)

module _ {D F : Type 0} (facts : Ghosts D F) (old new : CoreState D) where
  abbrev Makes_most : ℕ → ℕ → Type 0
  Makes_most w s = MakesAtMost facts.writes facts.syncs w s old.disk new.disk

  -- the same calls of the device, as a trace sees them
  as_seen : {w s : ℕ} → Makes_most w s → MakesAtMost (λ (x : SeenStore). x.writes) (λ (x : SeenStore). x.syncs) w s (seen facts old) (seen facts new)
  as_seen most = record { made = most.made; fewer = most.fewer; makes = record { writes = most.makes.writes; syncs = most.makes.syncs } }

  -- a call by which the store does not fail, and that freezes so many logs
  spends_so : (reply : PlainReply) (freezes : ℕ) → new.failed ≡ old.failed → freezes ≤ accepted_by reply
      → (new.failed ≡ false → new.body.generation ≡ old.body.generation + freezes + finished_by reply)
      → Makes_most (writes_by reply + 5 * freezes) (syncs_by reply + 6 * freezes) → Spends (seen facts old) (seen facts new) (reply ∷ [])
  spends_so reply freezes same few turns most = record {
    freezes = freezes;
    fails = 0;
    few = omega (arith, few);
    once = omega (arith, ap failing same);
    turns = λ works. omega (arith, turns works);
    made = as_seen (most_more most (omega arith) (omega arith));
  }

  -- a call that changes nothing
  spends_nothing : (reply : PlainReply) → finished_by reply ≡ 0 → new ≡ old → Spends (seen facts old) (seen facts new) (reply ∷ [])
  spends_nothing reply none same = search (arith, most_none)

  -- only a reply with a fault of the device makes a store fail
  keeps_failed : (event : Event) (reply : Reply F) → Does facts old new event reply → is_fault reply ≡ false → new.failed ≡ old.failed
  keeps_failed event reply does is = elim (cases_Bool old.failed) [
    | inl failed ↦ ap (λ (core : CoreState D). core.failed) (does.failed failed).0
    | inr works ↦ search (arith, cases_Bool, does.faulted)
  ]

  -- a call that writes no row and finishes nothing
  spends_still : (event : Event) (reply : Reply F) → Does facts old new event reply → is_fault reply ≡ false → accepted_command event reply ≡ [] → is_finished reply ≡ false
      → finished_by (plain reply) ≡ 0 → Makes_most (writes_by (plain reply)) (syncs_by (plain reply)) → Spends (seen facts old) (seen facts new) (plain reply ∷ [])
  spends_still event reply does quiet none goes on most =
      spends_so (plain reply) 0 (keeps_failed event reply does quiet) (omega arith)
      (λ works. omega (arith, on, ap (λ (b : Body). b.generation) (does.keeps_body works none goes))) (most_more most (omega arith) (omega arith))

  -- a row
  spends_row : (n : ℕ) (key : List ℕ) (command : Command) → new.failed ≡ old.failed → WritesRow facts old new key command → MakesRow facts old new
      → Spends (seen facts old) (seen facts new) (Accepted n ∷ [])
  spends_row n key command same (inl (stays, behind), quiet) made =
      spends_so (Accepted n) 0 same (omega arith) (λ works. omega (arith, ap (λ (b : Body). b.generation) stays.0))
      (most_made (made.0 stays.0) (omega arith) (omega arith))
  spends_row n key command same (inr (turns, alone), quiet) made =
      let next : new.body.generation ≡ old.body.generation + 1 = ap (λ (b : Body). b.generation) turns.0.is in
      let other : new.body ≢ old.body = λ stays. absurd (omega (arith, next, ap (λ (b : Body). b.generation) stays)) in
      spends_so (Accepted n) 1 same (omega arith) (λ works. omega (arith, next))
      (most_made (made.1 other) (omega (arith, waits_most old.waiting)) (omega (arith, waits_most old.waiting)))

  -- a refusal: the store stays as it is, or it fails
  spends_refused : (event : Event) (refusal : Refusal F) → Does facts old new event (Refused refusal) → Spends (seen facts old) (seen facts new) (plain {F = F} (Refused refusal) ∷ [])
  spends_refused event refusal does =
      let nothing : new ≡ old → Spends (seen facts old) (seen facts new) (plain {F = F} (Refused refusal) ∷ []) = spends_nothing (plain {F = F} (Refused refusal)) refl in
      elim (cases_Bool old.failed) [
        | inl failed ↦ nothing (does.failed failed).0
        | inr works ↦ elim (cases_Bool new.failed) [
          | inl fails ↦ record {
            freezes = 0;
            fails = 1;
            few = omega arith;
            once = omega (arith, ap failing works, ap failing fails);
            turns = λ still. absurd (let no : true ≡ false = sym fails ∙ still in cc);
            made = as_seen (most_more does.made (omega (arith, event_writes old event)) (omega (arith, event_syncs old event)));
          }
          | inr still ↦ nothing (does.stays refl (still ∙ sym works))
        ]
      ]

  -- a step of conversion
  spends_convert : (progress : ProgressOf) → Does facts old new Convert (Progress progress) → Spends (seen facts old) (seen facts new) (Progress progress ∷ [])
  spends_convert Finished does = search (arith, spends_so, keeps_failed, most_made)
  spends_convert progress does = spends_still Convert (Progress progress) does refl refl refl refl (most_made does.made (omega arith) (omega arith))

  -- a step of merging
  spends_merge : (progress : ProgressOf) → Does facts old new Merge (Progress progress) → Spends (seen facts old) (seen facts new) (Progress progress ∷ [])
  spends_merge Finished does = search (arith, spends_so, keeps_failed, most_made)
  spends_merge Moved does = spends_still Merge (Progress Moved) does refl refl refl refl (most_made does.made.3 (omega (arith, does.made.1)) (omega arith))
  spends_merge progress does = spends_still Merge (Progress progress) does refl refl refl refl (most_made does.made (omega arith) (omega arith))

  -- what any call costs
  pub spends_by : (event : Event) (reply : Reply F) → Does facts old new event reply → Spends (seen facts old) (seen facts new) (plain reply ∷ [])
  spends_by (Put key value) (Accepted n) does = search (arith, spends_row, keeps_failed)
  spends_by (Delete key) (Accepted n) does = search (arith, spends_row, keeps_failed)
  spends_by (Swap key expected (Some value)) (Accepted n) does = search (arith, spends_row, keeps_failed)
  spends_by (Swap key expected None) (Accepted n) does = search (arith, spends_row, keeps_failed)
  spends_by Flush (Acknowledged n) does =
      spends_still Flush (Acknowledged n) does refl refl refl refl (most_made does.made (waits_most old.waiting) (omega (arith, waits_most old.waiting)))
  spends_by (Get key) (Found value) does = spends_nothing (Found value) refl does.cause.1
  spends_by (Get key) Absent does = spends_nothing Absent refl does.cause.1
  spends_by (Swap key expected value) Differs does = spends_nothing Differs refl does.cause.1
  spends_by Convert (Progress progress) does = spends_convert progress does
  spends_by Merge (Progress progress) does = spends_merge progress does
  spends_by event (Refused refusal) does = spends_refused event refusal does
  spends_by event reply does = search rules

-- ---- a batch

-- what the commands of a batch and its flush add up to
batch_totals : (numbers : List ℕ) (settled : ℕ) → (total_by writes_by (batch_replies numbers settled) ≡ 2 * length numbers + 1)
    × (total_by syncs_by (batch_replies numbers settled) ≡ 2) × (total_by finished_by (batch_replies numbers settled) ≡ 0)
batch_totals [] settled = (omega arith, omega arith, omega arith)
batch_totals (n ∷ numbers) settled = search (arith, batch_totals numbers settled)

pub batch_cost : BatchCostLaw
batch_cost old new numbers settled spends works same = search (arith, batch_totals, most_more, spends.turns)
