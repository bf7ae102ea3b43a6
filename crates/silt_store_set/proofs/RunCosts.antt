-- How many writes and syncs runs make, from what each call makes.
use Rattle.silt_store_set.proofs.Common.{sym, ◌≡◌, ◌≤◌, ℕ, zero, suc, ◌+◌, ◌*◌, Bool, true, false, IsTrue, List, [], ◌∷◌, ◌++◌, length, Option, Some, None, refl, ap, ◌∙◌, subst, arith}
use Rattle.silt_store_set.proofs.Common.{Ghosts, none_made, Command, Event, Put, Delete, Swap, Flush, Get, Convert, Merge, Moved, Reply, Accepted, Acknowledged, Found, Absent, Differs}
use Rattle.silt_store_set.proofs.Common.{Progress, Refused, accepted_command, accepted_commands, ConvertGoesOn, CoreState, Does, MakesRow, Runs, entries_written, is_convert, is_merge}
use Rattle.silt_store_set.proofs.Common.{some_wait, Body, ◌&&◌, made_both, ConvertWork, HasMade, WritesRow, length-append}
use Rattle.std.specs.List.{list_all}
use Rattle.silt_store_set.specs.Costs.{RowsMade, RunMade, is_foreground, settles_by, settling, to_the_end, waits_after}

-- of two truths each is one
both_true : (a b : Bool) → IsTrue (a && b) → IsTrue a × IsTrue b
both_true true b is = (refl, is)
both_true false b is = absurd (let no : IsTrue false = is in cc)

-- only a step of conversion is one
convert_is : (event : Event) → IsTrue (is_convert event) → event ≡ Convert
convert_is Convert is = refl
convert_is event is = absurd (let no : IsTrue false = is in cc)

-- only a step of merging is one
merge_is : (event : Event) → IsTrue (is_merge event) → event ≡ Merge
merge_is Merge is = refl
merge_is event is = absurd (let no : IsTrue false = is in cc)

-- how many slots a conversion in progress has written
abbrev slots_written : Option ConvertWork → ℕ
slots_written None = 0
slots_written (Some work) = work.written

-- a conversion that goes on writes one slot more
one_slot : (hashes : ℕ) (body : Body) (before after : Option ConvertWork) → ConvertGoesOn hashes body before after → slots_written after ≡ slots_written before + 1
one_slot hashes body (Some before) (Some after) on = on.1
one_slot hashes body None (Some after) on = on.1
one_slot hashes body before None on = absurd on

module _ {D F : Type 0} (facts : Ghosts D F) where
  -- the same numbers in other words
  as_many : (old new : CoreState D) {n k m l : ℕ} → HasMade facts old new n m → n ≡ k → m ≡ l → HasMade facts old new k l
  as_many old new {n} {k} {m} {l} made writes syncs = subst (λ (x : ℕ). HasMade facts old new x l) writes (subst (λ (y : ℕ). HasMade facts old new n y) syncs made)

  -- what one call makes, and whether commands wait after it
  record Made (old new : CoreState D) (event : Event) (reply : Reply F) : Type 0 where
    freezes : ℕ
    waited : ℕ
    turns : new.body.generation ≡ old.body.generation + freezes
    fewer : waited ≤ freezes
    made : HasMade facts old new (2 * length (accepted_command event reply) + settles_by (some_wait old.waiting) reply + 4 * freezes + waited)
        (2 * settles_by (some_wait old.waiting) reply + 4 * freezes + 2 * waited)
    waits : some_wait new.waiting ≡ waits_after (some_wait old.waiting) reply

  -- a row
  record RowMade (old new : CoreState D) : Type 0 where
    freezes : ℕ
    waited : ℕ
    turns : new.body.generation ≡ old.body.generation + freezes
    fewer : waited ≤ freezes
    made : HasMade facts old new (2 + 4 * freezes + waited) (4 * freezes + 2 * waited)
    waits : some_wait new.waiting ≡ 1

  row_made : (old new : CoreState D) (key : List ℕ) (command : Command) → IsTrue (facts.content old.disk).honest → WritesRow facts old new key command → MakesRow facts old new → RowMade old new
  row_made old new key command h h5 made = search arith

  -- the reply to the command of this number
  abbrev acceptance : ℕ → Reply F
  acceptance n = Accepted n

  -- a command that wrote a row
  command_made : (old new : CoreState D) (event : Event) (n : ℕ) → length (accepted_command event (acceptance n)) ≡ 1 → RowMade old new → Made old new event (acceptance n)
  command_made old new event n one row = search arith

  -- a call that freezes no log
  still_made : (old new : CoreState D) (event : Event) (reply : Reply F) → new.body.generation ≡ old.body.generation
      → HasMade facts old new (2 * length (accepted_command event reply) + settles_by (some_wait old.waiting) reply) (2 * settles_by (some_wait old.waiting) reply)
      → some_wait new.waiting ≡ waits_after (some_wait old.waiting) reply → Made old new event reply
  still_made old new event reply same made waits = search arith

  call_made : (old new : CoreState D) (event : Event) (reply : Reply F) → IsTrue (facts.content old.disk).honest → IsTrue (is_foreground event) → old.failed ≡ false → new.failed ≡ false
      → Does facts old new event reply → Made old new event reply
  call_made old new (Put key value) (Accepted n) h front was is does = command_made old new (Put key value) n refl (row_made old new key.0 _ h does.cause.1 does.made)
  call_made old new (Delete key) (Accepted n) h front was is does = command_made old new (Delete key) n refl (row_made old new key.0 _ h does.cause.1 does.made)
  call_made old new (Swap key expected (Some value)) (Accepted n) h front was is does =
      command_made old new (Swap key expected (Some value)) n refl (row_made old new key.0 _ h does.cause.1.1 does.made)
  call_made old new (Swap key expected None) (Accepted n) h front was is does = command_made old new (Swap key expected None) n refl (row_made old new key.0 _ h does.cause.1.1 does.made)
  call_made old new Flush (Acknowledged n) h front was is does = search (arith, still_made, as_many, does.keeps_body, does.settles)
  call_made old new (Get key) (Found value) h front was is does = search (arith, still_made)
  call_made old new (Get key) Absent h front was is does = search (arith, still_made)
  call_made old new (Swap key expected value) Differs h front was is does = search (arith, still_made)
  call_made old new event (Refused refusal) h front was is does = search (arith, still_made, does.stays)
  call_made old new Convert reply h front was is does = absurd (let no : IsTrue false = front in cc)
  call_made old new Merge reply h front was is does = absurd (let no : IsTrue false = front in cc)
  call_made old new (Swap key expected value) reply h front was is does = absurd does.cause.1
  call_made old new event reply h front was is does = absurd does.cause

  -- ---- runs

  -- a failed store stays one
  stays_failed : (old new : CoreState D) (events : List Event) (replies : List (Reply F)) → Runs facts old events replies new → old.failed ≡ true → new.failed ≡ true
  stays_failed old new [] [] runs failed = ap (λ (c : CoreState D). c.failed) runs ∙ failed
  stays_failed old new (event ∷ events) (reply ∷ replies) runs failed = search (arith, stays_failed runs.0 new events replies runs.2)
  stays_failed old new events replies runs failed = absurd runs

  -- so a store that is not failed was not
  not_failed : (old new : CoreState D) (events : List Event) (replies : List (Reply F)) → Runs facts old events replies new → new.failed ≡ false → old.failed ≡ false
  not_failed old new events replies runs is = search (arith, stays_failed)

  rows_made : (old new : CoreState D) (events : List Event) (replies : List (Reply F)) → IsTrue (facts.content old.disk).honest → IsTrue (list_all is_foreground events) → new.failed ≡ false
      → Runs facts old events replies new → RowsMade facts old events replies new
  rows_made old new [] [] h front is runs = record {
    freezes = 0;
    waited = 0;
    turns = omega (arith, ap (λ (c : CoreState D). c.body.generation) runs);
    fewer = omega arith;
    made = rw runs none_made;
  }
  rows_made old new (event ∷ events) (reply ∷ replies) h front is runs =
      let next = runs.0 in
      let working : next.failed ≡ false = not_failed next new events replies runs.2 is in
      let was : old.failed ≡ false = not_failed old new (event ∷ events) (reply ∷ replies) runs is in
      let fronts = both_true (is_foreground event) (list_all is_foreground events) front in
      let there : IsTrue (facts.content next.disk).honest = subst IsTrue (sym runs.1.disk.honest) h in
      let one = call_made old next event reply h fronts.0 was working runs.1 in
      let rest = rows_made next new events replies there fronts.1 is runs.2 in
      let after : HasMade facts next new (2 * length (accepted_commands events replies) + settling (waits_after (some_wait old.waiting) reply) replies + 4 * rest.freezes + rest.waited) (2 *
      settling (waits_after (some_wait old.waiting) reply) replies + 4 * rest.freezes + 2 * rest.waited) = rw one.waits at rest.made in
      let long : length (accepted_command event reply ++ accepted_commands events replies) ≡ length (accepted_command event reply) + length (accepted_commands events replies)
      = length-append (accepted_command event reply) (accepted_commands events replies) in
      record {
        freezes = one.freezes + rest.freezes;
        waited = one.waited + rest.waited;
        turns = omega (arith, one.turns, rest.turns);
        fewer = omega (arith, one.fewer, rest.fewer);
        made = made_both next.disk one.made after (omega (arith, long)) (omega arith);
      }
  rows_made old new events replies h front is runs = absurd runs

  -- ---- background work

  conversion_made : (moves : ℕ) (old new : CoreState D) (events : List Event) → IsTrue (list_all is_convert events) → Runs facts old events (to_the_end moves) new
      → (slots_written old.converting + moves ≡ 4 * old.shape.buckets) × HasMade facts old new (moves + 3) 4
  conversion_made zero old new (event ∷ []) all runs = search (arith, convert_is, both_true)
  conversion_made zero old new (event ∷ other ∷ events) all runs = absurd runs.2
  conversion_made (suc moves) old new (event ∷ events) all runs = search (arith, conversion_made moves, both_true, convert_is, one_slot)
  conversion_made zero old new [] all runs = absurd runs
  conversion_made (suc moves) old new [] all runs = absurd runs

  merge_made : (moves : ℕ) (old new : CoreState D) (events : List Event) → IsTrue (list_all is_merge events) → Runs facts old events (to_the_end moves) new
      → (count : ℕ) × (new.body.sorted_count ≡ entries_written old.merging + count) × HasMade facts old new (count + 3) 4
  merge_made zero old new (event ∷ []) all runs = search (arith, merge_is, both_true)
  merge_made zero old new (event ∷ other ∷ events) all runs = absurd runs.2
  merge_made (suc moves) old new (event ∷ events) all runs =
      let trues = both_true (is_merge event) (list_all is_merge events) all in
      let is = merge_is event trues.0 in
      let next = runs.0 in
      let does : Does facts old next Merge (Progress Moved) = subst (λ (e : Event). Does facts old next e (Progress Moved)) is runs.1 in
      let rest = merge_made moves next new events trues.1 runs.2 in
      let made = does.made in
      (made.0 + rest.0, omega (arith, made.2, rest.1), made_both next.disk made.3 rest.2 (omega arith) (omega arith))
  merge_made zero old new [] all runs = absurd runs
  merge_made (suc moves) old new [] all runs = absurd runs

  -- what a run makes
  pub run_made : (old new : CoreState D) (events : List Event) (replies : List (Reply F)) → Runs facts old events replies new → RunMade facts old events replies new
  run_made old new events replies runs = search (arith, rows_made, conversion_made, merge_made)
