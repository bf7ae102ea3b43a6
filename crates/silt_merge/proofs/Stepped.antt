-- What a step does, at its exits.
use Rattle.silt_merge.proofs.Common.{◌≡◌, Some, None, ℕ, ◌+◌, ◌*◌, ◌-◌, ◌<◌, Bool, List, length, get_or, Ok, Err, inl, inr, refl, sym, subst, ap, ◌∙◌, arith, cond-false, le-ltb, size, entry_len}
use Rattle.silt_merge.proofs.Common.{sorted_at, Place, HashDigest, SortedDigest, HashState, SortedState, MatchesDigests, HasMerged, IsHeldMerge, MergeState, written_after, TakesStep, Result}
use Rattle.silt_merge.proofs.Common.{ChangesWithin, CountsFault, Makes, MakesAtMost, sorted_size, Ghosts, most_none, up_least, sorted_entry_at, HasCompared, IsSameMerge, LastRises, steps_of}
use Rattle.silt_merge.proofs.Common.{FailsMerge, Finds, TakesMemory, damaged_place, Read, Write, Damaged}
use Rattle.silt_disk.proofs.Images.{within_wider}
use Rattle.silt_merge.specs.declared.merge.StepError.{StepError}
use Rattle.silt_merge.proofs.Comparing.{compared_with}
use Rattle.silt_merge.proofs.Reading.{store_at}

-- what is damaged while a merge gathers
pub gathering_place : (stores : List HashState) (merge : MergeState) (store : HashState) (region : ℕ) → merge.store < merge.stores → length stores ≡ merge.stores
    → store ≡ get_or stores merge.store store → region ≡ store.region → HashDigest region ≡ damaged_place stores merge
gathering_place stores merge store region below counted here is = search (arith, store_at)

-- and what is once all slots are gathered
pub deciding_place : (stores : List HashState) (merge : MergeState) → merge.store ≡ merge.stores → SortedDigest ≡ damaged_place stores merge
deciding_place stores merge all = sym (cond-false _ _ _ (le-ltb merge.store merge.stores (omega (arith, all))))

-- a merge that has found nothing is not stuck
none_stuck : {A : Type 0} (before : MergeState) → before.damaged ≡ None → (place : Place) → before.damaged ≡ Some place → A
none_stuck before sound place found = let no : None ≡ Some place = sym sound ∙ found in absurd (cc)

module _ {D F : Type 0} (facts : Ghosts D F) (stores : List HashState) (sorted : SortedState) (digest : List ℕ) where
  -- a step that did nothing
  idle : {T : Type 0} (disk : D) (before : MergeState) (error : StepError F)
      → ((place : Place) → before.damaged ≡ Some place → (let r : Result T (StepError F) = Err error in r) ≡ Err (Damaged place)) → IsHeldMerge before
      → FailsMerge facts stores sorted disk disk before before error → TakesStep {T = T} facts stores sorted digest disk disk before before (Err error)
  idle {T} disk before error stuck held fails = search (arith, most_none)

  -- one that was refused before it wrote
  pub refused : {T : Type 0} (disk : D) (before after : MergeState) (error : StepError F) → after ≡ before → IsHeldMerge before → before.damaged ≡ None
      → FailsMerge facts stores sorted disk disk before before error → TakesStep {T = T} facts stores sorted digest disk disk before after (Err error)
  refused {T} disk before after error same held sound fails =
      subst (λ (m : MergeState). TakesStep {T = T} facts stores sorted digest disk disk before m (Err error)) (sym same)
      (idle {T = T} disk before error (λ place found. none_stuck before sound place found) held fails)

  -- one of a merge that has found a store damaged
  pub refused_at_once : {T : Type 0} (disk : D) (before : MergeState) (place : Place) → before.damaged ≡ Some place → IsHeldMerge before
      → TakesStep {T = T} facts stores sorted digest disk disk before before (Err (Damaged place))
  refused_at_once {T} disk before place found held = idle {T = T} disk before (Damaged place) (λ other is.
      let same : Some place ≡ Some other = sym found ∙ is in
      let own : place ≡ other = cc in
      ap (λ p. let r : Result T (StepError F) = Err (Damaged p) in r) own) held (refl, refl, found)

  -- a step that wrote nothing
  pub went_on : {T : Type 0} (disk : D) (before after : MergeState) (x : T) → IsSameMerge before after → IsHeldMerge after
      → after.last ≡ before.last → after.written ≡ before.written → steps_of after ≡ steps_of before + 1 → before.damaged ≡ None
      → (HasMerged (facts.content disk) stores sorted before → HasMerged (facts.content disk) stores sorted after) → (HasCompared stores sorted digest before → HasCompared stores sorted digest after)
      → Finds (facts.content disk) stores sorted digest before after → TakesStep facts stores sorted digest disk disk before after (Ok x)
  went_on disk before after x same held last written steps sound merged compared finds = search arith

  module _ (old new : D) (before after : MergeState) (sound : before.damaged ≡ None) (sizes : size (facts.content new) ≡ size (facts.content old))
      (all : before.store ≡ before.stores) (same : IsSameMerge before after) (held : IsHeldMerge after)
      (entry : ChangesWithin (sorted_entry_at before.shape before.region before.written) (entry_len before.shape) (facts.content old) (facts.content new))
      (within : ChangesWithin (sorted_at before.shape before.region) (before.shape.sorted_capacity * entry_len before.shape) (facts.content old) (facts.content new)) where
    in_region : ChangesWithin (sorted_at before.shape before.region) (sorted_size before.shape) (facts.content old) (facts.content new)
    in_region = search (arith, up_least, within_wider)

    -- a step that decided a key, whose entry is written or not
    pub decided_on : {T : Type 0} (is_written : Bool) (x : T) → LastRises before after → after.written ≡ written_after is_written before.written
        → Makes facts.writes facts.syncs (after.written - before.written) 0 old new
        → facts.failures new ≡ facts.failures old → steps_of after ≡ steps_of before + 1 → (HasMerged (facts.content old) stores sorted before → HasMerged (facts.content new) stores sorted after)
        → (HasCompared stores sorted digest before → HasCompared stores sorted digest after) → Finds (facts.content old) stores sorted digest before after
        → TakesStep facts stores sorted digest old new before after (Ok x)
    decided_on is_written x rises written made failures steps merged compared finds = search (arith, none_stuck, in_region)

    -- a step whose write failed
    pub broke : {T : Type 0} (fault : F) → after.last ≡ before.last → after.written ≡ before.written → MakesAtMost facts.writes facts.syncs 1 0 old new
        → CountsFault facts.failures facts.gave old new fault → TakesStep {T = T} facts stores sorted digest old new before after (Err (Write fault))
    broke fault last written most counts = search (arith, in_region)

  -- ---- what is read ahead first

  module _ (old new : D) (before : MergeState) (slots ahead : List (List ℕ)) (reads : HasMerged (facts.content old) stores sorted before
      → HasMerged (facts.content old) stores sorted (record before { slots = slots; ahead = ahead })) where
    abbrev read : MergeState
    read = record before { slots = slots; ahead = ahead }

    -- the digests are the stores' if they were before
    matches_after : MatchesDigests (facts.content old) stores sorted digest before → MatchesDigests (facts.content old) stores sorted digest read
    matches_after matches = record { honest = matches.honest; merged = reads matches.merged; sound = matches.sound; hashes = matches.hashes; entries = matches.entries }

    -- a step that goes on with it
    pub read_and_went : {T : Type 0} (after : MergeState) (x : T) → TakesStep facts stores sorted digest old new read after (Ok x) → TakesStep facts stores sorted digest old new before after (Ok x)
    read_and_went after x is = record {
      stuck = is.stuck;
      size = is.size;
      changes = is.changes;
      region = is.region;
      same = record { shape = is.same.shape; region = is.same.region; stores = is.same.stores };
      held = is.held;
      rises = is.rises;
      gathers = is.gathers;
      grew = is.grew;
      goes = record {
        steps = is.goes.steps;
        made = is.goes.made;
        failures = is.goes.failures;
        merged = λ merged. is.goes.merged (reads merged);
        compared = λ compared. is.goes.compared (compared_with stores sorted digest before slots ahead compared);
        finds = elim is.goes.finds [
          | inl none ↦ inl none
          | inr found ↦ inr (found.0, λ matches. found.1 (matches_after matches))
        ];
      };
      most = tt;
      fails = tt;
    }

    -- it needs memory if it did before
    takes_before : TakesMemory (facts.content old) stores sorted read → TakesMemory (facts.content old) stores sorted before
    takes_before h0 = search arith

    -- the cause of an error is that of the step without it
    fails_before : (mid after : MergeState) (error : StepError F) → (mid ≡ read → after ≡ before) → FailsMerge facts stores sorted old new read mid error
        → FailsMerge facts stores sorted old new before after error
    fails_before mid after (Read fault) back fails = (back fails.0, fails.1, fails.2)
    fails_before mid after error back fails = grind (arith, takes_before)

    -- a step that forgets it again after an error
    pub read_and_failed : {T : Type 0} (mid after : MergeState) (slots_after ahead_after : List (List ℕ)) (error : StepError F)
        → after ≡ record mid { slots = slots_after; ahead = ahead_after } → (mid ≡ read → after ≡ before) → IsHeldMerge after
        → TakesStep {T = T} facts stores sorted digest old new read mid (Err error) → TakesStep {T = T} facts stores sorted digest old new before after (Err error)
    read_and_failed {T} mid after slots_after ahead_after error is_after back held is = search (arith, fails_before)
