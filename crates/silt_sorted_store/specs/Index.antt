-- A sorted store with its parts in memory: its index, which is the coded tries of its keys, and its digest.
use Rattle.std.specs.Prelude.{◌≡◌, ℕ, ◌<◌, IsTrue, List, [], length, get_or, Option, Some}
use Rattle.silt_disk.specs.Disk.{Content}
use Rattle.silt_frame.specs.Rows.{StoredRow, keys_of}
use Rattle.silt_sorted_store.specs.State.{SortedState, entries_of}
use Rattle.silt_trie.specs.Marks.{IsMadeOf, MarkedCode}

-- entries of a sorted region, and in memory an index and the digest of their bytes
pub record IndexedState : Type 0 where
  pub sorted : SortedState
  pub index : MarkedCode
  pub digest : List ℕ

-- the index is made of the keys of these rows
abbrev pub IsIndexOf : List StoredRow → MarkedCode → Type 0
IsIndexOf rows index = IsMadeOf (keys_of rows) index

-- if the disk is honest, the index is that of the entries
abbrev pub HasIndex : Content → SortedState → MarkedCode → Type 0
HasIndex content sorted index = IsTrue content.honest → IsIndexOf (entries_of content sorted) index

-- if a row has the key, this is its place
abbrev pub IsPlaceOfKey : List StoredRow → List ℕ → Option ℕ → Type 0
IsPlaceOfKey rows key found = (place : ℕ) → place < length rows → get_or (keys_of rows) place [] ≡ key → found ≡ Some place
