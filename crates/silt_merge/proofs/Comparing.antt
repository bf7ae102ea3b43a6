-- The bytes that a merge hashes of what it reads, and what they say of the digests of the stores.
use Rattle.silt_merge.proofs.Common.{cases_Bool, cases_eq, lt-ltb, ◌≡◌, ℕ, ◌+◌, ◌*◌, ◌<◌, ◌≤◌, eqb, nat_lt, Bool, true, false, List, [], ◌++◌, length, get_or, take, Option, inl, inr, refl, sym}
use Rattle.silt_merge.proofs.Common.{ap, ◌∙◌, arith, Some, None, and_parts, cases_lt, cond-true, cond-false, eq-eqb, eqb-true, le-ltb, take_more, slice_get_within, Sha1, Content, Shape, entry_len}
use Rattle.silt_merge.proofs.Common.{row_len, StoredRow, entries_bytes, entry_row, rows_bytes, Key, slot_row, HashState, all_before, SortedState, BuilderState, MatchesDigests, AreEntries}
use Rattle.silt_merge.proofs.Common.{AreSlots, entries_in, regions_of, Place, IsHeldMerge, MergeState, ends_entries, finding, ends_store, hashed_after, input_after, passed_after, slot_after}
use Rattle.silt_merge.proofs.Common.{Source, HasTaken, Taken, length-append, All, take_all, get_or_from_slice_get, sha1, slots_len, hash_rows, rows_before, before_more, bytes_more}
use Rattle.silt_merge.proofs.Common.{entry_count, HasCompared, MayTake}
use Rattle.std.proofs.Common.{if◌then◌else◌}
use Rattle.std.proofs.Math.Nat.{add-mul}
use Rattle.silt_frame.proofs.RowBytes.{row_bytes_of, rows_bytes_more}
use Rattle.silt_merge.proofs.Pieces.{first_entry, first_slot}
use Rattle.silt_merge.proofs.Reading.{store_at}

-- ---- on an honest disk

-- the bytes of the slots before one and of this one, which is ahead
pub slot_bytes : (s : Shape) (region : ℕ) (image : List ℕ) (slot : ℕ) (slots : List (List ℕ)) → 0 < length slots → length (get_or slots 0 []) ≡ row_len s → AreSlots s region image slot slots
    → rows_bytes (rows_before s region image (slot + 1)) ≡ rows_bytes (rows_before s region image slot) ++ get_or slots 0 []
slot_bytes s region image slot slots some long are = cc (
  before_more s region image slot,
  rows_bytes_more (rows_before s region image slot) (slot_row s region image slot),
  first_slot s region slot image slots some are,
  row_bytes_of (get_or slots 0 []) (omega (arith, long)),
)

-- those of the entries before one and of this one, which is ahead
pub entry_bytes : (rows : List StoredRow) (place : ℕ) (ahead : List (List ℕ)) → 0 < length ahead → AreEntries rows place ahead
    → entries_bytes (take (place + 1) rows) ≡ entries_bytes (take place rows) ++ get_or ahead 0 []
entry_bytes rows place ahead some are =
    let part : List ℕ = get_or ahead 0 [] in
    let there = first_entry rows place ahead some are in
    cc (
      take_more rows place (entry_row part) (slice_get_within rows place (entry_row part) there),
      get_or_from_slice_get rows place (entry_row part) (entry_row part) there,
      bytes_more (take place rows) part,
    )

module _ (content : Content) (stores : List HashState) (sorted : SortedState) (digest : List ℕ) (merge : MergeState) (matches : MatchesDigests content stores sorted digest merge) where
  abbrev image : List ℕ
  image = content.shown

  -- the last slot of a store is not refused
  pub slot_agrees : (store : HashState) → merge.store < merge.stores → 0 < length merge.slots → length (get_or merge.slots 0 []) ≡ row_len merge.shape
      → All (λ (s : HashState). s.shape ≡ merge.shape) stores
      → store ≡ get_or stores merge.store store → ((bytes : List ℕ) → HasTaken merge.input bytes → MayTake (ends_store merge) (bytes ++ get_or merge.slots 0 []) store.digest false) → ⊥
  slot_agrees store below some long shapes here may =
      let inside : merge.store < length stores = omega (arith, below, matches.merged.counted) in
      let shape = matches.merged.shape in
      let was = (matches.merged.merged matches.honest matches.sound).gathered in
      let s : Shape = sorted.shape in
      let region : ℕ = get_or (regions_of stores) merge.store 0 in
      let refuses = (may (rows_bytes (rows_before s region image merge.slot)) (was.slots_hashed inside)).1 refl in
      let ends : merge.slot + 1 ≡ 4 * merge.shape.buckets = eqb-true (merge.slot + 1) (4 * merge.shape.buckets) refuses.0 in
      let all : merge.slot + 1 ≡ 4 * s.buckets = ends ∙ ap (λ (t : Shape). 4 * t.buckets) (sym shape) in
      let own : store.shape ≡ s = cc (shapes merge.store store inside) in
      let its = store_at stores _ store inside here in
      let digested : store.digest ≡ sha1 (rows_bytes (hash_rows store.shape store.region image)) = rw (← here) at ((matches.hashes merge.store store inside).digested matches.honest) in
      let bytes : rows_bytes (rows_before s region image merge.slot) ++ get_or merge.slots 0 [] ≡ rows_bytes (hash_rows store.shape store.region image) =
      cc (slot_bytes s region image merge.slot merge.slots some (long ∙ ap row_len (sym shape)) (was.slots inside), all_before s region image) in
      refuses.1 (digested ∙ ap sha1 (sym bytes))

  -- nor is the last entry
  pub entry_agrees : (passes : Bool) → merge.store ≡ merge.stores → (merge.passed < sorted.count → 0 < length merge.ahead)
      → ((bytes : List ℕ) → HasTaken merge.input bytes → MayTake (ends_entries passes merge.passed sorted.count) (bytes ++ get_or merge.ahead 0 []) digest false) → ⊥
  entry_agrees passes all there may =
      let past : length stores ≤ merge.store = omega (arith, all, matches.merged.counted) in
      let was = (matches.merged.merged matches.honest matches.sound).gathered in
      let rows : List StoredRow = entries_in image sorted in
      let refuses = (may (entries_bytes (take merge.passed rows)) (was.entries_hashed past)).1 refl in
      let ends : merge.passed + 1 ≡ sorted.count = eqb-true (merge.passed + 1) sorted.count (and_parts passes (eqb (merge.passed + 1) sorted.count) refuses.0).1 in
      let bytes : entries_bytes (take merge.passed rows) ++ get_or merge.ahead 0 [] ≡ entries_bytes rows = sym (entry_bytes rows merge.passed merge.ahead (there
      (omega (arith, ends))) was.ahead) ∙ ap entries_bytes (take_all (merge.passed + 1) rows (omega (arith, ends, entry_count sorted.shape sorted.region sorted.count image))) in
      refuses.1 (matches.entries matches.honest ∙ ap sha1 (sym bytes))

-- ---- on any disk

-- the length of so many parts and one more
more_parts : (n next len front part : ℕ) → n + 1 ≡ next → front ≡ n * len → part ≡ len → front + part ≡ next * len
more_parts n next len front part one front_is part_is = omega (arith, add-mul n 1 len, ap (λ (k : ℕ). k * len) one, front_is, part_is)

-- if nothing is found, the store fits its digest
fits_of : (fits : Bool) (place : Place) → finding fits place ≡ None → fits ≡ true
fits_of true place none = refl
fits_of false place none = let no : Some place ≡ None = none in absurd (cc)

-- nothing is compared at the start
pub none_compared : (stores : List HashState) (sorted : SortedState) (digest : List ℕ) (merge : MergeState) → merge.store ≡ 0
    → merge.slot ≡ 0 → merge.passed ≡ 0 → HasTaken merge.input [] → HasCompared stores sorted digest merge
none_compared stores sorted digest merge store slot passed fresh = search arith

module _ (stores : List HashState) (sorted : SortedState) (digest : List ℕ) (merge : MergeState) where
  -- what is ahead is not compared yet
  pub compared_with : (slots ahead : List (List ℕ)) → HasCompared stores sorted digest merge → HasCompared stores sorted digest (record merge { slots = slots; ahead = ahead })
  compared_with slots ahead is = record { hashes = is.hashes; entries = is.entries; input = is.input }

  -- a slot more
  pub compared_slot : (fits : Bool) (place : Place) → merge.damaged ≡ None → (store : HashState) (next : ℕ × ℕ) (waiting : List (Key × Source)) (slots : List (List ℕ)) (input : Taken)
      → IsHeldMerge merge → merge.store < merge.stores → length (get_or merge.slots 0 []) ≡ row_len merge.shape → store ≡ get_or stores merge.store store
      → ((bytes : List ℕ) → HasTaken merge.input bytes → MayTake (ends_store merge) (bytes ++ get_or merge.slots 0 []) store.digest fits)
      → ((bytes : List ℕ) → HasTaken merge.input bytes → HasTaken input (input_after (ends_store merge) bytes (get_or merge.slots 0 [])))
      → next ≡ slot_after merge.store merge.slot (4 * merge.shape.buckets) → HasCompared stores sorted digest merge
      → HasCompared stores sorted digest (record merge { store = next.0; slot = next.1; waiting = waiting; slots = slots; input = input; damaged = finding fits place })
  compared_slot fits found sound store next waiting slots input held below long here may hashed next_is is = elim (cases_Bool (ends_store merge)) [
    | inl last ↦
        let next_slot : next.1 ≡ 0 = ap (λ (p : ℕ × ℕ). p.1) (next_is ∙ cond-true _ _ _ last) in
        let slots_are = eqb-true (merge.slot + 1) (4 * merge.shape.buckets) last in
        let all_len : length (bytes ++ part) ≡ slots_len merge.shape = length-append bytes part ∙ more_parts _ _ _ _ _ slots_are hashed_len long in
        let agrees : finding fits found ≡ None → store.digest ≡ sha1 (bytes ++ part) = λ none. (may bytes is.input.2).0 (fits_of fits found none) last in
        record {
          hashes = λ none place its under there. elim (cases_eq place merge.store) [
            | inl same ↦
                let own : its ≡ store = cc (get_or_from_slice_get stores place its store there) in
                (bytes ++ part, all_len, ap (λ (t : HashState). t.digest) own ∙ agrees none)
            | inr other ↦ is.hashes sound place its (omega (arith, under, ap (λ (p : ℕ × ℕ). p.0) (next_is ∙ cond-true _ _ _ last), other)) there
          ];
          entries = λ none some past. absurd (none_passed some past);
          input = ([], cc (len_after (nat_lt next.0 merge.stores)), rw last at (hashed bytes is.input.2));
        }
    | inr other ↦
        let next_store : next.0 ≡ merge.store = ap (λ (p : ℕ × ℕ). p.0) (next_is ∙ cond-false _ _ _ other) in
        let next_slot : next.1 ≡ merge.slot + 1 = ap (λ (p : ℕ × ℕ). p.1) (next_is ∙ cond-false _ _ _ other) in
        record {
          hashes = λ none place its under there. is.hashes sound place its (omega (arith, under, next_store)) there;
          entries = λ none some past. absurd (none_passed some past);
          input = (
            bytes ++ part,
            cc (length-append bytes part, more_parts _ _ _ _ _ refl hashed_len long, cond-true _ _ _ (lt-ltb next.0 merge.stores (omega (arith, below, next_store)))),
            rw other at (hashed bytes is.input.2),
          );
        }
  ]
    where
      part : List ℕ
      part = get_or merge.slots 0 []

      bytes : List ℕ
      bytes = is.input.0

      hashed_len : length bytes ≡ merge.slot * row_len merge.shape
      hashed_len = is.input.1 ∙ cond-true _ _ _ (lt-ltb merge.store merge.stores below)

      none_passed : 0 < sorted.count → sorted.count ≤ merge.passed → ⊥
      none_passed some past = omega (arith, some, past, held.unpassed below)

      len_after : (b : Bool) → 0 ≡ (if b then 0 * row_len merge.shape else merge.passed * entry_len merge.shape)
      len_after true = omega arith
      len_after false = omega (arith, ap (λ n. n * entry_len merge.shape) (held.unpassed below))

  -- a key more, with the next entry or without it
  pub compared_key : (fits : Bool) (place : Place) → merge.damaged ≡ None
      → (passes : Bool) (waiting : List (Key × Source)) (written : ℕ) (index : BuilderState) (decided : ℕ) (last : Option Key)
      (ahead : List (List ℕ)) (input : Taken) (hasher : Sha1) → IsHeldMerge merge → merge.store ≡ merge.stores
      → (passes ≡ true → length (get_or merge.ahead 0 []) ≡ entry_len merge.shape)
      → ((bytes : List ℕ) → HasTaken merge.input bytes → MayTake (ends_entries passes merge.passed sorted.count) (bytes ++ get_or merge.ahead 0 []) digest fits)
      → ((bytes : List ℕ) → HasTaken merge.input bytes → HasTaken input (hashed_after passes bytes (get_or merge.ahead 0 []))) → HasCompared stores sorted digest merge
      → HasCompared stores sorted digest
      (record merge {
        waiting = waiting;
        passed = passed_after passes merge.passed;
        written = written;
        index = index;
        decided = decided;
        last = last;
        ahead = ahead;
        input = input;
        hasher = hasher;
        damaged = finding fits place;
      })
  compared_key fits found sound passes waiting written index decided last ahead input hasher held all long may hashed is = elim (cases_Bool passes) [
    | inr stays ↦
        record {
          hashes = λ none. is.hashes sound;
          entries = λ none some past. is.entries sound some (omega (arith, past, ap (λ b. passed_after b merge.passed) stays));
          input = (bytes, cc (hashed_len, cond-false _ _ _ past_all), rw stays at (hashed bytes is.input.2));
        }
    | inl skips ↦
        record {
          hashes = λ none. is.hashes sound;
          entries = λ none some past. elim (cases_lt merge.passed sorted.count) [
            | inr before ↦ is.entries sound some before
            | inl last_one ↦
                let count : merge.passed + 1 ≡ sorted.count = omega (arith, past, ap (λ b. passed_after b merge.passed) skips, last_one) in
                let ends : ends_entries passes merge.passed sorted.count ≡ true = cc (eq-eqb (merge.passed + 1) sorted.count count) in
                (bytes ++ part, length-append bytes part ∙ more_parts _ _ _ _ _ count hashed_len (long skips), (may bytes is.input.2).0 (fits_of fits found none) ends)
          ];
          input = (
            bytes ++ part,
            cc (length-append bytes part, more_parts merge.passed (merge.passed + 1) (entry_len merge.shape) (length bytes) (length part) refl hashed_len (long skips), cond-false _ _ _ past_all),
            rw skips at (hashed bytes is.input.2),
          );
        }
  ]
    where
      part : List ℕ
      part = get_or merge.ahead 0 []

      bytes : List ℕ
      bytes = is.input.0

      past_all : nat_lt merge.store merge.stores ≡ false
      past_all = le-ltb merge.store merge.stores (omega (arith, all))

      hashed_len : length bytes ≡ merge.passed * entry_len merge.shape
      hashed_len = is.input.1 ∙ cond-false _ _ _ past_all
