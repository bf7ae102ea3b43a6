-- A lookup, at its exits.
use Rattle.silt_engine.proofs.Common.{◌≡◌, ◌<◌, ◌+◌, ◌*◌, ℕ, true, false, IsTrue, List, [], length, get_or, Option, Some, None, refl, ap, sym, ◌∙◌, subst, arith, IfSome, get, cases_lt}
use Rattle.silt_engine.proofs.Common.{get_or_default, Content, is_put, Kind, Put, Delete, slot_row, HashState, IsHashStore, holds_key, sorted_findings, row_at, all_rows, IsIndexed, LogStoreState}
use Rattle.silt_engine.proofs.Common.{FindsLast, HasNoRow, put_place, Found, StoredRow, IsIndexOf, HasNoEntry, HasOnlyValue, entries_of, Holder, Active, Frozen, Hashed, EngineState, Stands}
use Rattle.silt_engine.proofs.Common.{current_map, FindsFrozen, FindsHashed, FindsNewest, frozen_at, hash_store_at, hash_rows_of, row_in, FindsRow, IsItsValue}
use Rattle.silt_engine.proofs.Lookups.{entries_sound, found_active, found_frozen, found_hashed, found_nowhere, found_value, past_hashed}

-- by the row of a holder, its value
its_value : (content : Content) (s : EngineState) (holder : Holder) (kind : Kind) (place : ℕ) (out : List ℕ) (value : ℕ → List ℕ) → ((n : ℕ) → value n ≡ (row_in content s holder n).value)
    → IfSome (put_place (Some (record { kind = kind; place = place }))) (λ n. out ≡ value n) → IsItsValue content s holder (record { kind = kind; place = place }) out
its_value content s holder Put place out value same has = has ∙ same place
its_value content s holder Delete place out value same has = tt

-- a result that is none
pub none_of : {X : Type 0} (o : Option X) → ((x : X) → o ≡ Some x → ⊥) → o ≡ None
none_of None not_some = refl
none_of (Some x) not_some = absurd (not_some x refl)

-- what holds of the numbers below one, and of that one
one_more : (P : ℕ → Type 0) (number : ℕ) → ((index : ℕ) → index < number → P index) → P number → (index : ℕ) → index < number + 1 → P index
one_more P number before here index below = search (arith, cases_lt)

-- ---- a frozen log, by its number

module _ (content : Content) (s : EngineState) (items : List LogStoreState) (number : ℕ) (store : LogStoreState) (are : items ≡ s.frozen)
    (inside : number < length items) (is : store ≡ get_or items number store) where
  log_below : number < length s.frozen
  log_below = rw are at inside

  log_here : store ≡ frozen_at s number
  log_here = cc (get_or_default s.frozen number store s.active log_below)

  module _ (key : List ℕ) (o : Option Found) (stands : Stands content s) (honest : IsTrue content.honest)
      (finds : IsTrue content.honest → IsIndexed content store → FindsLast (all_rows content store.log) key o)
      (before : (index : ℕ) → index < number → HasNoRow (all_rows content (frozen_at s index).log) key) where
    log_finds : FindsLast (all_rows content (frozen_at s number).log) key o
    log_finds = rw log_here at (finds honest (subst (IsIndexed content) (sym log_here) (stands.frozen number s.active log_below).indexed))

    -- it has a row of the key
    pub found_here : (found : Found) → o ≡ Some found → FindsFrozen content s key (Some (number, found))
    found_here found some = (before, rw some at log_finds)

    -- it has none, and is passed
    pub log_passed : ((found : Found) → o ≡ Some found → ⊥) → (index : ℕ) → index < number + 1 → HasNoRow (all_rows content (frozen_at s index).log) key
    log_passed not_some = one_more (λ index. HasNoRow (all_rows content (frozen_at s index).log) key) number before (rw (none_of o not_some) at log_finds)

  -- the value of a row that it has
  pub frozen_value : (o : Option Found) (found : Found) (out : List ℕ) → o ≡ Some found
      → IfSome (put_place o) (λ place. out ≡ (row_at store.log.shape store.log.region content.shown place).value) → IsItsValue content s (Frozen number) found out
  frozen_value o found out some has = search (arith, its_value, log_here)

-- ---- a hash store, by its number

module _ (content : Content) (s : EngineState) (items : List HashState) (number : ℕ) (store : HashState) (are : items ≡ s.hashes)
    (inside : number < length items) (is : store ≡ get_or items number store) where
  hash_below : number < length s.hashes
  hash_below = rw are at inside

  abbrev no_store : HashState
  no_store = record { shape = s.manifest.shape; region = 0; tags = []; puts = 0; digest = [] }

  store_here : store ≡ hash_store_at s number
  store_here = cc (get_or_default s.hashes number store no_store hash_below)

  module _ (key : List ℕ) (o : Option Found) (stands : Stands content s) (honest : IsTrue content.honest)
      (finds : IsTrue content.honest → IsHashStore content store → FindsRow (hash_rows_of content store) key o)
      (before : (index : ℕ) → index < number → holds_key key (hash_rows_of content (hash_store_at s index)) ≡ false) where
    hash_finds : FindsRow (hash_rows_of content (hash_store_at s number)) key o
    hash_finds = rw store_here at (finds honest (subst (IsHashStore content) (sym store_here) (stands.hashed number no_store hash_below)))

    -- it has a row of the key
    pub hash_here : (found : Found) → o ≡ Some found → FindsHashed content s key (Some (number, found))
    hash_here found some = (before, rw some at hash_finds)

    -- it has none, and is passed
    pub hash_passed : ((found : Found) → o ≡ Some found → ⊥) → (index : ℕ) → index < number + 1 → holds_key key (hash_rows_of content (hash_store_at s index)) ≡ false
    hash_passed not_some = one_more (λ index. holds_key key (hash_rows_of content (hash_store_at s index)) ≡ false) number before (rw (none_of o not_some) at hash_finds)

  -- the value of a row that it has
  pub hashed_value : (o : Option Found) (found : Found) (out : List ℕ) → o ≡ Some found
      → IfSome (put_place o) (λ place. out ≡ (slot_row store.shape store.region content.shown place).value) → IsItsValue content s (Hashed number) found out
  hashed_value o found out some has = search (arith, its_value, store_here)

-- ---- the active log

-- the active log has a row of the key
pub newest_active : (content : Content) (s : EngineState) (key : List ℕ) (o : Option Found) (found : Found) → Stands content s → IsTrue content.honest
    → (IsTrue content.honest → IsIndexed content s.active → FindsLast (all_rows content s.active.log) key o) → o ≡ Some found → FindsNewest content s key (Some (Active, found))
newest_active content s key o found stands honest finds some = found_active _ s stands honest key found (rw some at (finds honest stands.indexed))

-- ---- where it has none, with the stores seen through their fields

module _ (content : Content) (view s : EngineState) (is : view ≡ s) (key : List ℕ) (o : Option Found)
    (finds : IsTrue content.honest → IsIndexed content view.active → FindsLast (all_rows content view.active.log) key o) (none : o ≡ None)
    (walked : Option (ℕ × Found)) (walks : Stands content s → IsTrue content.honest → FindsFrozen content s key walked) (stands : Stands content s) (honest : IsTrue content.honest) where
  -- the active log has no row of the key
  active_lacks : HasNoRow (all_rows content s.active.log) key
  active_lacks = search (arith, stands.indexed)

  -- and a frozen log has one
  pub newest_frozen : (number : ℕ) (found : Found) → IfSome walked (λ row. (row.0 < length s.frozen) × (row.1.place < (frozen_at s row.0).log.used)) → walked ≡ Some (number, found)
      → FindsNewest content s key (Some (Frozen number, found))
  newest_frozen number found inside some =
      let there : (number < length s.frozen) × (found.place < (frozen_at s number).log.used) = rw some at inside in
      found_frozen _ s stands honest key number found there.0 active_lacks (rw some at (walks stands honest))

  -- no log has one, and this is what the hash stores have
  module _ (nowhere : walked ≡ None) (hash_walked : Option (ℕ × Found)) (hash_walks : Stands content s → IsTrue content.honest → FindsHashed content s key hash_walked) where
    frozen_lack : FindsFrozen content s key None
    frozen_lack = rw nowhere at (walks stands honest)

    -- a hash store has one
    pub newest_hashed : (number : ℕ) (found : Found) → IfSome hash_walked (λ row. (row.0 < length s.hashes) × (row.1.place < 4 * s.manifest.shape.buckets)) → hash_walked ≡ Some (number, found)
        → FindsNewest content s key (Some (Hashed number, found))
    newest_hashed number found inside some =
        let there : (number < length s.hashes) × (found.place < 4 * s.manifest.shape.buckets) = rw some at inside in
        found_hashed _ s stands honest key number found there.0 active_lacks frozen_lack (rw some at (hash_walks stands honest))

    -- none has one
    pub newest_nowhere : hash_walked ≡ None → FindsNewest content s key None
    newest_nowhere gone = past_hashed _ s stands honest key active_lacks frozen_lack (rw gone at (hash_walks stands honest))

-- ---- the value beside the answer

-- in the active log, which is seen through the stores' fields
pub active_value : (content : Content) (view s : EngineState) → view ≡ s → (o : Option Found) (found : Found) (out : List ℕ) → o ≡ Some found
    → IfSome (put_place o) (λ place. out ≡ (row_at view.active.log.shape view.active.log.region content.shown place).value) → IsItsValue content s Active found out
active_value content view s is o found out some has = search (arith, its_value)

-- a put gives the key its value
put_gives : (content : Content) (s : EngineState) (key : List ℕ) (holder : Holder) (kind : Kind) (place : ℕ) (out : List ℕ)
    → FindsNewest content s key (Some (holder, record { kind = kind; place = place }))
    → IsItsValue content s holder (record { kind = kind; place = place }) out → is_put kind ≡ true → get (current_map content s) key ≡ Some out
put_gives content s key holder Put place out finds has puts = finds ∙ ap Some (sym has)
put_gives content s key holder Delete place out finds has puts = absurd (cc)

-- and a delete gives it none
delete_gives : (content : Content) (s : EngineState) (key : List ℕ) (holder : Holder) (kind : Kind) (place : ℕ)
    → FindsNewest content s key (Some (holder, record { kind = kind; place = place })) → is_put kind ≡ false
    → get (current_map content s) key ≡ None
delete_gives content s key holder Put place finds deletes = absurd (cc)
delete_gives content s key holder Delete place finds deletes = finds

-- the row that was found is a put, and this is the value
pub found_put : (content : Content) (s : EngineState) (key : List ℕ) (walked : Option (Holder × Found)) (holder : Holder) (found : Found) (out : List ℕ) → FindsNewest content s key walked
    → walked ≡ Some (holder, found) → IfSome walked (λ row. IsItsValue content s row.0 row.1 out) → is_put found.kind ≡ true → get (current_map content s) key ≡ Some out
found_put content s key walked holder found out finds some has puts = put_gives _ s key holder _ _ out (rw some at finds) (rw some at has) puts

-- it is a delete
pub found_delete : (content : Content) (s : EngineState) (key : List ℕ) (walked : Option (Holder × Found)) (holder : Holder) (found : Found) → FindsNewest content s key walked
    → walked ≡ Some (holder, found) → is_put found.kind ≡ false → get (current_map content s) key ≡ None
found_delete content s key walked holder found finds some deletes = delete_gives _ s key holder _ _ (rw some at finds) deletes

-- ---- the answer of a lookup

-- no log and no hash store has a row of the key; the entries are seen through the stores' fields
module _ (content : Content) (view s : EngineState) (is : view ≡ s) (key : List ℕ) (walked : Option (Holder × Found))
    (walks : Stands content s → IsTrue content.honest → FindsNewest content s key walked) (none : walked ≡ None)
    (stands : Stands content s) (honest : IsTrue content.honest) where
  newest : FindsNewest content s key None
  newest = rw none at (walks stands honest)

  -- what is found in entries without a finding, if the index is theirs
  told : (P : List StoredRow → Type 0) → (sorted_findings (entries_of content view.sorted) ≡ [] → IsIndexOf (entries_of content view.sorted) view.index
      → P (entries_of content view.sorted)) → P (entries_of content s.sorted)
  told P tells =
      subst (λ (v : EngineState). sorted_findings (entries_of content v.sorted) ≡ [] → IsIndexOf (entries_of content v.sorted) v.index → P (entries_of content v.sorted)) is tells
      (entries_sound content s stands honest) (stands.located honest)

  -- its value was read
  pub gets_value : (value : List ℕ) → (IsTrue content.honest → sorted_findings (entries_of content view.sorted) ≡ []
      → IsIndexOf (entries_of content view.sorted) view.index → HasOnlyValue (entries_of content view.sorted) key value)
      → get (current_map content s) key ≡ Some value
  gets_value value reads = found_value _ s stands honest key value newest (told (λ rows. HasOnlyValue rows key value) (reads honest))

  -- there is none to read
  pub gets_none : (IsTrue content.honest → sorted_findings (entries_of content view.sorted) ≡ [] → IsIndexOf (entries_of content view.sorted) view.index
      → HasNoEntry (entries_of content view.sorted) key)
      → get (current_map content s) key ≡ None
  gets_none lacks = found_nowhere content s stands honest key newest (told (λ rows. HasNoEntry rows key) (lacks honest))
