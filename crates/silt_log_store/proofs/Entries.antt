-- The law of the entries of a table.
use Rattle.silt_log_store.proofs.Common.{◌≡◌, ℕ, ◌/◌, List, [], get_or, Some, option_map, ap, Slots, Entry, entry_at, place_at, pair_of, key_pair, Indexes, index_law, holds_from_pair}
use Rattle.silt_cuckoo.proofs.Placed.{table_pairs-held}
use Rattle.silt_log_store.specs.Laws.{HasEntries, TableEntryLaw}

-- an entry's place is in the table
held_of : (slots : Slots) (slot tag place : ℕ) → entry_at slots slot ≡ Some (tag, place) → place_at slots slot ≡ Some place
held_of slots slot tag place is = ap (option_map (λ (e : Entry). e.1)) is

-- the slots of a table that holds the newest places
entries_of : (slots : Slots) (buckets : ℕ) (keys : List (List ℕ)) → Indexes slots buckets keys → HasEntries slots buckets keys
entries_of slots buckets keys index = record {
  newest = λ slot tag place is. index.no_other place (slot, held_of slots slot tag place is);
  buckets_of = λ slot tag place is.
      let held : place_at slots slot ≡ Some place = held_of slots slot tag place is in
      let pair : Some (pair_of (slot / 4) tag) ≡ Some (key_pair buckets (get_or keys place [])) =
      cc (table_pairs-held slots slot place index.table.places_apart held, index.newest place (index.no_other place (slot, held))) in
      cc;
  held = λ place newest. holds_from_pair slots place (key_pair buckets (get_or keys place [])) (index.newest place newest);
  once = λ place slot other held also. index.table.places_apart other slot place also held;
}

-- the table of some keys has such slots
pub entry_law : TableEntryLaw
entry_law buckets keys slots count is = entries_of slots buckets keys (index_law buckets keys slots count is)
