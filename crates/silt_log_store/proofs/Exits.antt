-- The state at the exits of the calls of a log store.
use Rattle.silt_log_store.proofs.Common.{◌≡◌, ◌↔◌, ℕ, ◌+◌, ◌-◌, ◌<◌, ◌≤◌, true, false, List, [], ◌∷◌, ◌++◌, Option, Some, None, IsTrue, IsSome, IfSome, inl, inr, option_map, refl, sym, subst, ap}
use Rattle.silt_log_store.proofs.Common.{◌∙◌, arith, is_some, option_and_then, Content, ChangesWithin, size, device_size, commits_at, Key, Kind, Slots, IsBucketCount, bucket_count, empty_slots}
use Rattle.silt_log_store.proofs.Common.{first_bucket, second_bucket, candidates_of, Indexes, index_of_keys, placed_or_replaced, index_law, stored_row, keys_of, puts_of, LogState, InBounds}
use Rattle.silt_log_store.proofs.Common.{all_rows, all_count, region_lies, LogStoreState, IsHeldStore, IsIndexed, IsLogStore, FindsLast, IsFirstMatch, has_candidate, Placing}
use Rattle.silt_cuckoo.specs.Index.{indexed}
use Rattle.silt_cuckoo.specs.Placing.{placed}
use Rattle.silt_log.specs.Rows.{row_at, rows_from}
use Rattle.silt_log.specs.Calls.{Empties, Appends, OpensSome}
use Rattle.silt_log.proofs.Standing.{commits_torn_rows}
use Rattle.silt_log_store.specs.Calls.{EmptiesStore, IsFullFor, IsPlacingFor, OpensSomeOfStore, TakesRow}
use Rattle.silt_log_store.specs.declared.lookup.Match.{Match}
use Rattle.silt_log_store.specs.Placement.{HoldsIn, entered, entered_under}
use Rattle.silt_log_store.proofs.Finds.{standing_is, match_is_last, none_is_none, next_table}
use Rattle.silt_log_store.proofs.Matches.{no_match}
use Rattle.silt_log_store.proofs.Rows.{keys_count, keys_push, known_push, puts_push}

-- the table of no keys
pub index_none : (buckets : ℕ) → index_of_keys buckets [] ≡ Some (empty_slots buckets)
unfolding indexed
index_none buckets = refl

-- the first match among a key's candidates in the table of a store
abbrev pub IsMatchIn : Content → LogStoreState → List ℕ → Option Match → Type 0
IsMatchIn content store key found =
    IsFirstMatch (all_rows content store.log) (candidates_of store.table (first_bucket (bucket_count store.table) key) (second_bucket (bucket_count store.table) key)) key found

module _ (content : Content) (store : LogStoreState) (key : List ℕ) (held : IsHeldStore store) (honest : IsTrue content.honest) (index : IsIndexed content store) where
  -- the table holds the newest places
  store_indexes : Indexes store.table store.log.shape.buckets (keys_of (all_rows content store.log))
  store_indexes = index_law store.log.shape.buckets (keys_of (all_rows content store.log)) store.table (subst IsBucketCount held.count held.table.buckets) (index.indexed honest)

  -- a match by the buckets of the geometry
  match_by_shape : (found : Option Match) → IsMatchIn content store key found
      → IsFirstMatch (all_rows content store.log) (candidates_of store.table (first_bucket store.log.shape.buckets key) (second_bucket store.log.shape.buckets key)) key found
  match_by_shape found first = subst (λ n. IsFirstMatch (all_rows content store.log) (candidates_of store.table (first_bucket n key) (second_bucket n key)) key found) held.count first

  -- a match is the last row
  pub find_some : (m : Match) → IsMatchIn content store key (Some m) → FindsLast (all_rows content store.log) key (Some m.found)
  find_some m first = match_is_last (all_rows content store.log) store.table store.log.shape.buckets key store_indexes m (match_by_shape (Some m) first)

  -- no match: no row
  pub find_none : IsMatchIn content store key None → FindsLast (all_rows content store.log) key None
  find_none first = none_is_none (all_rows content store.log) store.table store.log.shape.buckets key store_indexes (match_by_shape None first)

  -- no candidate: no row
  pub find_no_candidate : false ≡ has_candidate store.table key → FindsLast (all_rows content store.log) key None
  find_no_candidate lacks = grind (arith, find_none, no_match)

  -- the table with the key is what the placing rule makes of it
  pub table_with_key : (found : Option Match) → IsMatchIn content store key found
      → index_of_keys store.log.shape.buckets (keys_of (all_rows content store.log) ++ key ∷ [])
      ≡ placed_or_replaced (bucket_count store.table) store.table key store.log.used (option_map (λ (m : Match). m.slot) found)
  table_with_key found first = cc (
    next_table store.log.shape.buckets (keys_of (all_rows content store.log)) store.table key (index.indexed honest),
    keys_count (all_rows content store.log),
    all_count content store.log,
    standing_is (all_rows content store.log) store.table store.log.shape.buckets key store_indexes found (match_by_shape found first),
    held.count,
  )

-- ---- the table after each call

-- the same rows have the same table and the same number of puts
pub index_kept : (old new : Content) (before after : LogStoreState) → new.honest ≡ old.honest → IsIndexed old before
    → after.table ≡ before.table → after.puts ≡ before.puts → after.log.shape ≡ before.log.shape
    → (IsTrue old.honest → all_rows new after.log ≡ all_rows old before.log) → IsIndexed new after
index_kept old new before after same index table puts shape all = grind arith

-- a store whose log was prepared, whose table is empty, and which counts no puts
pub empties_store : (new : Content) (store : LogStoreState) (log : LogState) → Empties new store.log log
    → store.table ≡ empty_slots store.log.shape.buckets → store.puts ≡ 0 → EmptiesStore new store (record { log = log; table = store.table; puts = store.puts })
unfolding rows_from
empties_store new store log empties empty no_puts = grind (arith, index_none)

-- a store whose log took a row, with the key in the table, and one put more if the row is one
pub takes_row : (old new : Content) (store : LogStoreState) (log : LogState) (table : Slots) (puts : ℕ) (kind : Kind) (key : Key) (value : List ℕ) (placing : Placing)
    → new.honest ≡ old.honest → IsIndexed old store
    → IsPlacingFor old store key.0 placing → puts ≡ store.puts + puts_of kind
    → entered store.table placing store.log.used ≡ Some table
    → Appends (stored_row kind key value) old new store.log log → TakesRow kind key value old new store (record { log = log; table = table; puts = puts })
takes_row old new store log table puts kind key value placing same index at more placed appends = grind (arith, known_push, keys_push, puts_push)

-- a table takes an entry at a placing that holds in it
pub holds_enters : (table : Slots) (placing : Placing) (place : ℕ) → HoldsIn table placing → IsSome (entered table placing place)
unfolding placed
holds_enters table placing place holds = grind arith

-- what the placing rule makes of a key is what it makes of its two buckets
pub under_buckets : (buckets first second place : ℕ) (table : Slots) (key : List ℕ) (standing older : Option ℕ) → first ≡ first_bucket buckets key
    → second ≡ second_bucket buckets key → standing ≡ older
    → entered_under table first second place standing ≡ placed_or_replaced buckets table key place older
under_buckets buckets first second place table key standing older first_is second_is same = grind arith

-- the placings that are planned for a key once its older row is looked up
abbrev pub IsPlannedFor : LogStoreState → List ℕ → Option Match → Option Placing → Type 0
IsPlannedFor store key found placing = (place : ℕ) → option_and_then (λ (p : Placing). entered store.table p place) placing
    ≡ placed_or_replaced (bucket_count store.table) store.table key place (option_map (λ (m : Match). m.slot) found)

-- a placing that was planned is one for its key
pub placing_found : (content : Content) (store : LogStoreState) (key : List ℕ) (found : Option Match) (placing : Option Placing) → IsHeldStore store → store.log.used < store.log.shape.log_capacity
    → (IsTrue content.honest → IsIndexed content store → IsMatchIn content store key found)
    → IfSome placing (HoldsIn store.table) → IsPlannedFor store key found placing → IfSome placing (IsPlacingFor content store key)
placing_found content store key found None held room first holds planned = tt
placing_found content store key found (Some placing) held room first holds planned = record {
  room = room;
  holds = holds;
  takes = λ honest index. subst IsSome (sym (table honest index)) (holds_enters store.table placing store.log.used holds);
  table = table;
}
  where
    table : IsTrue content.honest → IsIndexed content store → index_of_keys store.log.shape.buckets (keys_of (all_rows content store.log) ++ key ∷ []) ≡ entered store.table placing store.log.used
    table honest index = table_with_key content store key held honest index found (first honest index) ∙ sym (planned store.log.used)

-- none was planned exactly if the keys with this one have no table
pub placing_none : (content : Content) (store : LogStoreState) (key : List ℕ) (found : Option Match) (placing : Option Placing) → IsHeldStore store → store.log.used < store.log.shape.log_capacity
    → IsTrue content.honest → IsIndexed content store → IsMatchIn content store key found → IfSome placing (HoldsIn store.table) → IsPlannedFor store key found placing
    → (placing ≡ None) ↔ IsFullFor content store key
placing_none content store key found None held room honest index first holds planned =
    (λ none. inr (table_with_key content store key held honest index found first ∙ sym (planned store.log.used)), λ stopped. refl)
placing_none content store key found (Some placing) held room honest index first holds planned = (
  λ none. absurd (cc),
  λ stopped. elim stopped [
    | inl full ↦ absurd (omega (arith, full, room))
    | inr gone ↦
        let enters = holds_enters store.table placing store.log.used holds in
        let none = ap is_some (planned store.log.used ∙ sym (table_with_key content store key held honest index found first) ∙ gone) in
        absurd (let clash : true ≡ false = sym enters ∙ none in cc)
  ],
)

-- a change of commit bytes alone leaves the rows that are shown
pub commits_leave_rows : (old new : Content) (log : LogState) (from count : ℕ) → InBounds log → device_size log.shape ≤ size old
    → from + count ≤ log.shape.log_capacity → ChangesWithin (commits_at log.shape log.region + from) count old new
    → IsTrue old.honest → all_rows new log ≡ all_rows old log
unfolding rows_from row_at
commits_leave_rows old new log from count bounds fits most changes honest =
    let place = region_lies log.shape log.region (size old) bounds.region fits in
    let low : commits_at log.shape log.region ≤ commits_at log.shape log.region + from = omega arith in
    let high : commits_at log.shape log.region + from + count ≤ commits_at log.shape log.region + log.shape.log_capacity = omega (arith, most) in
    commits_torn_rows _ _ _ _ _ place (commits_at log.shape log.region + from) count 0 log.used old.shown new.shown refl low high (omega (arith, bounds.room)) (changes.shown honest)

-- a store some of whose commit bytes may be open
pub opens_some : (old new : Content) (store : LogStoreState) (log : LogState) → device_size store.log.shape ≤ size old → IsLogStore old store
    → ChangesWithin (commits_at store.log.shape store.log.region + store.log.settled) (store.log.used - store.log.settled) old new
    → OpensSome old new store.log log → OpensSomeOfStore old new store (record { log = log; table = store.table; puts = store.puts })
opens_some old new store log fits is changes opens =
    let bounds : InBounds store.log = is.log.bounds in
    record {
      store = ap (λ (l : LogState). let made : LogStoreState = record { log = l; table = store.table; puts = store.puts } in made) opens.log;
      log = opens;
      index = index_kept old new store _ changes.honest is.index refl refl (ap (λ (l : LogState). l.shape) opens.log) (λ honest. ap (all_rows new) opens.log ∙
          commits_leave_rows old new _ _ _ bounds fits (omega (arith, bounds.order, bounds.room)) changes honest);
    }
