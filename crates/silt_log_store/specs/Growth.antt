-- The table of a log's keys as it grows in a rebuild.
use Rattle.std.specs.Prelude.{◌≡◌, ℕ, ◌+◌, ◌≤◌, Bool, true, false, List, [], ◌∷◌, ◌++◌, length, Some, None}
use Rattle.std.specs.List.{list_all}
use Rattle.silt_disk.specs.Layout.{Shape}
use Rattle.silt_frame.specs.declared.key.Kind.{Kind}
use Rattle.silt_cuckoo.specs.Slots.{bucket_count}
use Rattle.silt_cuckoo.specs.Index.{index_of_keys}
use Rattle.silt_frame.specs.Rows.{has_known_kind, StoredRow, keys_of, put_count, puts_of}
use Rattle.silt_log_store.specs.declared.index.KeyIndex.{KeyIndex}

-- the table belongs to the keys beside it, and the number of puts is at most the number of keys
pub record IsKeyIndex (index : KeyIndex) : Type 0 where
  pub indexed : index_of_keys (bucket_count index.table) index.keys.items ≡ Some index.table
  pub most : index.puts ≤ length index.keys.items

-- an index of this many keys, with the buckets of a store of this shape
pub record IsKeyIndexOf (shape : Shape) (count : ℕ) (index : KeyIndex) : Type 0 where
  pub sound : IsKeyIndex index
  pub buckets : bucket_count index.table ≡ shape.buckets
  pub keys : length index.keys.items ≡ count

-- the keys are those of these rows, the rows are of known kinds, and this many of them are puts
pub record IsOfRows (rows : List StoredRow) (index : KeyIndex) : Type 0 where
  pub keys_are : index.keys.items ≡ keys_of rows
  pub known : list_all has_known_kind rows ≡ true
  pub counted : index.puts ≡ put_count rows

-- a key that found a place is added with its table
pub record AddsKey (kind : Kind) (key : List ℕ) (old new : KeyIndex) : Type 0 where
  pub index : IsKeyIndex new
  pub buckets : bucket_count new.table ≡ bucket_count old.table
  pub keys_are : new.keys.items ≡ old.keys.items ++ key ∷ []
  pub counted : new.puts ≡ old.puts + puts_of kind

-- a key is added, or finds no place, and then the keys with it have no table
abbrev pub AddsOrGivesUp : Kind → List ℕ → KeyIndex → KeyIndex → Bool → Type 0
AddsOrGivesUp kind key old new true = AddsKey kind key old new
AddsOrGivesUp kind key old new false = index_of_keys (bucket_count old.table) (old.keys.items ++ key ∷ []) ≡ None
