-- What a step does that gathers a slot, and one that decides a key.
use Rattle.silt_merge.proofs.Common.{◌≡◌, ℕ, ◌+◌, ◌*◌, ◌<◌, nat_lt, Bool, true, false, IsTrue, List, [], ◌++◌, length, get_or, Option, Some, None, Ok, Err, ◌⊎◌, inl, inr, refl, sym, subst, ap}
use Rattle.silt_merge.proofs.Common.{arith, Content, Shape, entry_len, row_len, HashDigest, SortedDigest, Key, Row, IsRowAt, slot_row, HashState, SortedState, entries_of, Gathers, IsNextEntry}
use Rattle.silt_merge.proofs.Common.{MatchesDigests, AreSound, HasMerged, AreEntries, AreSlots, parts_after, regions_of, IsHeldMerge, MergeState, ends_entries, ends_store, finding, input_after}
use Rattle.silt_merge.proofs.Common.{is_behind, slot_after, source_at, TakesStep, Source, NoMemory, HasTaken, Taken, All, is_some, IsSomeAnd, Ghosts, row_of, MayTake, GathersRow, damaged_place}
use Rattle.silt_merge.proofs.Comparing.{compared_key, compared_slot, entry_agrees, slot_agrees}
use Rattle.silt_merge.proofs.Ending.{merged_behind, merged_noted}
use Rattle.silt_merge.proofs.Pieces.{first_slot}
use Rattle.silt_merge.proofs.Stepped.{deciding_place, gathering_place, refused, went_on}
use Rattle.silt_merge.proofs.Stepping.{gathered_step, slots_more}

-- a slot that is gathered from a store, or not
module _ {D F : Type 0} (facts : Ghosts D F) (stores : List HashState) (disk : D) (merge : MergeState) (store : HashState)
    (held : IsHeldMerge merge) (below : merge.store < merge.stores) (counted : length stores ≡ merge.stores)
    (shapes : All (λ (s : HashState). s.shape ≡ merge.shape) stores) (some : 0 < length merge.slots)
    (long : length (get_or merge.slots 0 []) ≡ row_len merge.shape) (here : store ≡ get_or stores merge.store store) where
  abbrev content : Content
  content = facts.content disk

  -- it fits, or the store is found damaged
  slot_finds : (region : ℕ) (fits : Bool) → region ≡ store.region → ((bytes : List ℕ) → HasTaken merge.input bytes → MayTake (ends_store merge) (bytes ++ get_or merge.slots 0 []) store.digest fits)
      → (sorted : SortedState) (digest : List ℕ) → (finding fits (HashDigest region) ≡ None)
      ⊎ ((finding fits (HashDigest region) ≡ Some (damaged_place stores merge)) × (MatchesDigests content stores sorted digest merge → ⊥))
  slot_finds region true region_is may sorted digest = inl refl
  slot_finds region false region_is may sorted digest =
      inr (ap Some (gathering_place stores merge store region below counted here region_is), λ matches. slot_agrees _ stores sorted digest merge matches store below some long shapes here may)

  -- the row in the slot, by the store
  module _ (row : Option Row) (its : IsRowAt (row_of (get_or merge.slots 0 [])) merge.slot row) where
    -- it is that of the slot, if what is ahead is
    shown : (shape : Shape) (region : ℕ) (image : List ℕ) → AreSlots shape region image merge.slot merge.slots → IsRowAt (slot_row shape region image merge.slot) merge.slot row
    shown shape region image are = rw (← (first_slot shape region merge.slot image merge.slots some are)) at its

    -- it is taken
    pub slot_taken : {T : Type 0} (region : ℕ) (fits : Bool) → region ≡ store.region → merge.damaged ≡ None → (waiting : List (Key × Source)) (input : Taken) (after : MergeState) (x : T)
        → ((bytes : List ℕ) → HasTaken merge.input bytes → MayTake (ends_store merge) (bytes ++ get_or merge.slots 0 []) store.digest fits)
        → Gathers merge.store merge.slot row merge.waiting waiting → ((bytes : List ℕ) → HasTaken merge.input bytes → HasTaken input (input_after (ends_store merge) bytes (get_or merge.slots 0 [])))
        → after ≡ (let m : MergeState = record merge {
          store = (slot_after merge.store merge.slot (4 * merge.shape.buckets)).0;
          slot = (slot_after merge.store merge.slot (4 * merge.shape.buckets)).1;
          waiting = waiting;
          slots = parts_after true merge.slots;
          input = input;
          damaged = finding fits (HashDigest region);
        } in
        m)
        → IsHeldMerge after → (sorted : SortedState) (digest : List ℕ) → TakesStep facts stores sorted digest disk disk merge after (Ok x)
    slot_taken region fits region_is sound waiting input after x may keeps hashed is held_after sorted digest =
        let next : ℕ × ℕ = slot_after merge.store merge.slot (4 * merge.shape.buckets) in
        let taken : MergeState = record merge { store = next.0; slot = next.1; waiting = waiting; slots = parts_after true merge.slots; input = input } in
        let moved : MergeState = record taken { damaged = finding fits (HashDigest region) } in
        let further = slots_more merge.store merge.slot (4 * merge.shape.buckets) in
        subst (λ (m : MergeState). TakesStep facts stores sorted digest disk disk merge m (Ok x)) (sym is) (went_on facts stores sorted digest disk merge moved
        x (record { shape = refl; region = refl; stores = refl }) (subst IsHeldMerge is held_after) refl refl (omega (arith, further)) sound (λ was.
        merged_noted (facts.content disk) stores sorted taken (finding fits (HashDigest region)) (gathered_step (facts.content disk) stores sorted merge row
        waiting next input held below some long hashed (search arith) keeps refl was)) (search (arith, compared_slot))
        (slot_finds region fits region_is may sorted digest))

    -- it is that of the slot that the disk shows, if the merge goes on well
    shows_row : (sorted : SortedState) → HasMerged (facts.content disk) stores sorted merge → AreSound (facts.content disk).shown stores sorted → IsTrue (facts.content disk).honest
        → IsRowAt (slot_row merge.shape (get_or (regions_of stores) merge.store 0) (facts.content disk).shown merge.slot) merge.slot row
    shows_row sorted merged sound honest =
        let image : List ℕ = (facts.content disk).shown in
        let region : ℕ = get_or (regions_of stores) merge.store 0 in
        let inside : merge.store < length stores = omega (arith, below, counted) in
        rw merged.shape at (shown sorted.shape region image ((merged.merged honest sound).gathered.slots inside))

    -- there is no memory for it
    takes_row : (o : Option Row) → row ≡ o → IsSomeAnd o (λ (r : Row). source_at merge.waiting r.key.0 ≡ None)
        → (IsTrue (facts.content disk).honest → IsRowAt (slot_row merge.shape (get_or (regions_of stores) merge.store 0) (facts.content disk).shown merge.slot) merge.slot o)
        → GathersRow (facts.content disk) stores merge
    takes_row o is never shows = search arith

    pub row_refused : {T : Type 0} (after : MergeState) → merge.damaged ≡ None → IsSomeAnd row (λ (r : Row). source_at merge.waiting r.key.0 ≡ None) → after ≡ merge
        → (sorted : SortedState) (digest : List ℕ) → TakesStep {T = T} facts stores sorted digest disk disk merge after (Err NoMemory)
    row_refused after sound new_key same sorted digest =
        refused facts stores sorted digest disk merge after NoMemory same held sound
        (refl, refl, λ merged sound. inl (takes_row row refl new_key (λ honest. shows_row sorted merged (sound honest) honest)))

-- ---- a key

-- whether an entry may be taken, in the words of the merge
pub may_be : (ends ends_is : Bool) (part part_is digest : List ℕ) (answer answer_is : Bool) (input : Taken) → ends ≡ ends_is → part ≡ part_is → answer ≡ answer_is
    → ((bytes : List ℕ) → HasTaken input bytes → MayTake ends (bytes ++ part) digest answer) → (bytes : List ℕ) → HasTaken input bytes → MayTake ends_is (bytes ++ part_is) digest answer_is
may_be ends ends_is part part_is digest answer answer_is input same_ends same_part same_answer may bytes holds = search arith

-- an entry fits, or the old entries are found damaged
pub entry_finds : (content : Content) (stores : List HashState) (sorted : SortedState) (digest : List ℕ) (merge : MergeState) (passes fits : Bool)
    → merge.store ≡ merge.stores → (merge.passed < sorted.count → 0 < length merge.ahead)
    → ((bytes : List ℕ) → HasTaken merge.input bytes → MayTake (ends_entries passes merge.passed sorted.count) (bytes ++ get_or merge.ahead 0 []) digest fits)
    → (finding fits SortedDigest ≡ None) ⊎ ((finding fits SortedDigest ≡ Some (damaged_place stores merge)) × (MatchesDigests content stores sorted digest merge → ⊥))
entry_finds content stores sorted digest merge passes true all there may = inl refl
entry_finds content stores sorted digest merge passes false all there may =
    inr (ap Some (deciding_place stores merge all), λ matches. entry_agrees _ stores sorted digest merge matches passes all there may)

-- an entry that is skipped because its key is not above the last one
pub entry_skipped : {D F T : Type 0} (facts : Ghosts D F) (stores : List HashState) (sorted : SortedState) (digest : List ℕ) (disk : D)
    (merge after : MergeState) (fits : Bool) (next : Option Key) (bytes : List ℕ) (input : Taken) (x : T) → IsHeldMerge merge → merge.store ≡ merge.stores → merge.damaged ≡ None
    → (merge.passed < sorted.count → 0 < length merge.ahead)
    → is_some next ≡ nat_lt merge.passed sorted.count
    → (IsTrue (facts.content disk).honest → AreEntries (entries_of (facts.content disk) sorted) merge.passed merge.ahead → IsNextEntry (entries_of (facts.content disk) sorted) merge.passed bytes next)
    → is_behind merge.last next ≡ true → length (get_or merge.ahead 0 []) ≡ entry_len merge.shape
    → ((bytes : List ℕ) → HasTaken merge.input bytes → MayTake (ends_entries true merge.passed sorted.count) (bytes ++ get_or merge.ahead 0 []) digest fits)
    → ((bytes : List ℕ) → HasTaken merge.input bytes → HasTaken input (bytes ++ get_or merge.ahead 0 []))
    → after ≡ (let m : MergeState = record merge
    { passed = merge.passed + 1; decided = merge.decided + 1; ahead = parts_after true merge.ahead; input = input; damaged = finding fits SortedDigest } in m) → IsHeldMerge after
    → TakesStep facts stores sorted digest disk disk merge after (Ok x)
entry_skipped facts stores sorted digest disk merge after fits next bytes input x held all sound some_ahead some there behind long may hashed is held_after =
    let taken : MergeState = record merge { passed = merge.passed + 1; decided = merge.decided + 1; ahead = parts_after true merge.ahead; input = input } in
    let moved : MergeState = record taken { damaged = finding fits SortedDigest } in
    rw (← is) at (went_on facts stores sorted digest disk merge moved x (record { shape = refl; region = refl; stores = refl }) (subst IsHeldMerge is held_after) refl refl (omega arith)
    sound (λ was. merged_noted _ stores sorted taken _ (merged_behind _ stores sorted merge next bytes input held all some there behind was)) (compared_key stores sorted digest merge fits _
    sound true _ _ _ _ _ _ input _ held all (λ passes. long) may hashed) (entry_finds _ stores sorted digest merge true fits all some_ahead may))
