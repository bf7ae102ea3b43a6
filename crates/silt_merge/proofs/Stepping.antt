-- What each step of a merge leaves.
use Rattle.silt_merge.proofs.Common.{◌≡◌, ◌≢◌, ℕ, ◌+◌, ◌*◌, ◌<◌, ◌≤◌, ◌⊎◌, eqb, true, cond, IsTrue, List, [], ◌∷◌, length, get_or, take, Option, None, inl, inr, refl, sym, subst, ap, ◌∙◌, arith}
use Rattle.silt_merge.proofs.Common.{cases_Bool, cond-true, cond-false, eqb-true, Content, Shape, row_len, Key, Row, IsRowAt, slot_row, HashState, newest_row, SortedState, StoredRow}
use Rattle.silt_merge.proofs.Common.{entries_bytes, rows_bytes, Gathers, HasMerged, AreSlots, parts_after, entries_in, has_row_with, regions_of, IsHeldMerge, MergeState, ends_store, input_after}
use Rattle.silt_merge.proofs.Common.{slot_after, BuilderState, IsBuildingOf, Source, Holds, Sha1, HasTaken, Taken, take_all, decided_rows, gathered_rows}
use Rattle.silt_hash_store.specs.Slots.{rows_before}
use Rattle.silt_sorted_store.specs.State.{sorted_rows}
use Rattle.silt_merge.proofs.Comparing.{slot_bytes}
use Rattle.silt_merge.proofs.Elsewhere.{regions_count}
use Rattle.silt_merge.proofs.Gathering.{next_gathered, none_gathered, waits_kept}

-- ---- at the start

-- nothing is written
none_written : (s : Shape) (region : ℕ) (image : List ℕ) → sorted_rows s region 0 image ≡ []
unfolding sorted_rows
none_written s region image = refl

-- no slot is hashed
no_slots : (s : Shape) (region : ℕ) (image : List ℕ) → rows_before s region image 0 ≡ []
unfolding rows_before
no_slots s region image = refl

-- nothing is gathered, and nothing is due
pub started : (content : Content) (stores : List HashState) (sorted : SortedState) (shape : Shape) (region : ℕ) (waiting : List (Key × Source))
    (index : BuilderState) (slots ahead : List (List ℕ)) (input : Taken) (hasher : Sha1) → shape ≡ sorted.shape → sorted.region ≢ region
    → waiting ≡ [] → IsBuildingOf [] index.building → slots ≡ [] → ahead ≡ [] → HasTaken input [] → Holds hasher []
    → HasMerged content stores sorted
    (record {
      shape = shape;
      region = region;
      stores = length stores;
      store = 0;
      slot = 0;
      waiting = waiting;
      passed = 0;
      written = 0;
      index = index;
      decided = 0;
      last = None;
      slots = slots;
      ahead = ahead;
      input = input;
      hasher = hasher;
      damaged = None;
    })
started content stores sorted shape region waiting index slots ahead input hasher same apart none no_keys none_read none_ahead fresh_input fresh =
    search (arith, none_gathered, no_slots, take_all, none_written)

-- ---- a slot that is gathered

-- so many slots and one
pub slots_more : (store slot slots : ℕ) → (slot_after store slot slots).0 * slots + (slot_after store slot slots).1 ≡ store * slots + slot + 1
slots_more store slot slots = elim (cases_Bool (eqb (slot + 1) slots)) [
  | inl last ↦
      let all : slot + 1 ≡ slots = eqb-true (slot + 1) slots last in
      ap (λ (p : ℕ × ℕ). p.0 * slots + p.1) (cond-true _ _ _ last) ∙ more store slots slot all
  | inr other ↦ ap (λ (p : ℕ × ℕ). p.0 * slots + p.1) (cond-false _ _ _ other) ∙ omega arith
]
  where
    more : (store slots slot : ℕ) → slot + 1 ≡ slots → (store + 1) * slots + 0 ≡ store * slots + slot + 1
    more store slots slot all = grind arith

-- the slot after one of a store
after_last : (store slot slots : ℕ) → (slot_after store slot slots ≡ (store + 1, 0)) ⊎ ((slot_after store slot slots ≡ (store, slot + 1)) × (slot + 1 ≢ slots))
after_last store slot slots = search arith

-- a merge with one slot more
pub gathered_held : (merge : MergeState) (row : Option Row) (after : List (Key × Source)) (next : ℕ × ℕ) (slots : List (List ℕ)) (input : Taken) → IsHeldMerge merge
    → merge.store < merge.stores → Gathers merge.store merge.slot row merge.waiting after → length after ≤ length merge.waiting + 1
    → next ≡ slot_after merge.store merge.slot (4 * merge.shape.buckets) → IsHeldMerge (record merge { store = next.0; slot = next.1; waiting = after; slots = slots; input = input })
gathered_held merge row after next slots input held below keeps long is = search (arith, slots_more)

-- the slots that are ahead after one are the next ones, and there are none behind the last slot of a store
slots_next : (s : Shape) (regions image : List ℕ) (store slot : ℕ) (slots : List (List ℕ)) → AreSlots s (get_or regions store 0) image slot slots
    → AreSlots s (get_or regions (slot_after store slot (4 * s.buckets)).0 0) image (slot_after store slot (4 * s.buckets)).1 (parts_after true slots)
slots_next s regions image store slot [] are = tt
slots_next s regions image store slot (part ∷ []) are = tt
slots_next s regions image store slot (part ∷ other ∷ slots) are = search arith

-- the hashed bytes are those of the slots before the next one, or none before the first of the next store
input_next : (s : Shape) (regions image : List ℕ) (store slot : ℕ) (slots : List (List ℕ)) (input : Taken) → 0 < length slots
    → length (get_or slots 0 []) ≡ row_len s → AreSlots s (get_or regions store 0) image slot slots
    → HasTaken input (input_after (eqb (slot + 1) (4 * s.buckets)) (rows_bytes (rows_before s (get_or regions store 0) image slot)) (get_or slots 0 []))
    → ((slot_after store slot (4 * s.buckets)).0 ≡ store + 1 → HasTaken input [])
    × HasTaken input (rows_bytes (rows_before s (get_or regions (slot_after store slot (4 * s.buckets)).0 0) image (slot_after store slot (4 * s.buckets)).1))
input_next s regions image store slot slots input some long are holds = search (arith, no_slots, slot_bytes)

-- has gathered one slot more
pub gathered_step : (content : Content) (stores : List HashState) (sorted : SortedState) (merge : MergeState) (row : Option Row)
    (after : List (Key × Source)) (next : ℕ × ℕ) (input : Taken) → IsHeldMerge merge → merge.store < merge.stores → 0 < length merge.slots
    → length (get_or merge.slots 0 []) ≡ row_len merge.shape → ((bytes : List ℕ) → HasTaken merge.input bytes → HasTaken input (input_after (ends_store merge) bytes (get_or merge.slots 0 [])))
    → (IsTrue content.honest → sorted.shape ≡ merge.shape → AreSlots sorted.shape (get_or (regions_of stores) merge.store 0) content.shown merge.slot merge.slots
    → IsRowAt (slot_row sorted.shape (get_or (regions_of stores) merge.store 0) content.shown merge.slot) merge.slot row)
    → Gathers merge.store merge.slot row merge.waiting after → next ≡ slot_after merge.store merge.slot (4 * merge.shape.buckets)
    → HasMerged content stores sorted merge → HasMerged content stores sorted (record merge { store = next.0; slot = next.1; waiting = after; slots = parts_after true merge.slots; input = input })
gathered_step content stores sorted merge row after next input held below some long hashed read keeps is so_far = record {
  shape = so_far.shape;
  counted = so_far.counted;
  apart = so_far.apart;
  hashed = so_far.hashed;
  merged = λ honest sound.
      let s : Shape = sorted.shape in
      let image : List ℕ = content.shown in
      let regions : List ℕ = regions_of stores in
      let was = so_far.merged honest sound in
      let none : merge.decided ≡ 0 = held.gathers below in
      let inside : merge.store < length stores = omega (arith, below, so_far.counted) in
      let within : merge.store < length regions = omega (arith, inside, regions_count stores) in
      let slot : merge.slot < 4 * s.buckets = rw (← so_far.shape) at held.slot in
      let first : (key : List ℕ) (l : List StoredRow) → cond (has_row_with key (decided_rows image stores sorted merge.decided)) None (newest_row l key) ≡ newest_row l key =
      λ key l. ap (λ n. cond (has_row_with key (decided_rows image stores sorted n)) None (newest_row l key)) none in
      let shown = read honest so_far.shape (was.gathered.slots inside) in
      let kept = waits_kept s image regions merge.store merge.slot row merge.waiting after within slot sound.hashes shown keeps
      (λ key. was.gathered.waits key ∙ first key (gathered_rows s image regions merge.store merge.slot)) in
      let moved : gathered_rows s image regions next.0 next.1 ≡ gathered_rows s image regions merge.store (merge.slot + 1) =
      cc (so_far.shape, next_gathered s image regions merge.store merge.slot within) in
      let same_next : slot_after merge.store merge.slot (4 * s.buckets) ≡ next = cc (so_far.shape) in
      let holds = input_next s regions image merge.store merge.slot merge.slots input some (long ∙ ap row_len (sym so_far.shape)) (was.gathered.slots inside) (rw (←
      so_far.shape) at (hashed (rows_bytes (rows_before s (get_or regions merge.store 0) image merge.slot)) (was.gathered.slots_hashed inside))) in
      record {
        gathered = record {
          most = was.gathered.most;
          waits = λ key. cc (kept key, first key (gathered_rows s image regions next.0 next.1));
          last = was.gathered.last;
          slots = λ further. rw same_next at (slots_next s regions image merge.store merge.slot merge.slots (was.gathered.slots inside));
          ahead = was.gathered.ahead;
          passes = was.gathered.passes;
          slots_hashed = λ further. rw same_next at holds.1;
          entries_hashed = λ past.
              let last : (slot_after merge.store merge.slot (4 * s.buckets)).0 ≡ merge.store + 1 = elim (after_last merge.store merge.slot (4 * s.buckets)) [
                | inl it ↦ ap (λ (p : ℕ × ℕ). p.0) it
                | inr it ↦ let same : next.0 ≡ merge.store = ap (λ (p : ℕ × ℕ). p.0) (sym same_next ∙ it.0) in absurd (omega (arith, same, past, inside))
              ] in
              subst (λ n. HasTaken input (entries_bytes (take n (entries_in image sorted)))) (sym (held.unpassed below)) (holds.0 last);
        };
        writes = was.writes;
        index = was.index;
      };
}
