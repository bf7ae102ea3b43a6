-- Entries in the order of their keys.
use Rattle.std.specs.Prelude.{◌≡◌, All, ℕ, ◌+◌, Bool, cond, IsSome, IfSome, List, Option, Some, None}
use Rattle.std.specs.BTreeMap.{BTreeMap, IsLowerBound, Updates, btree_map_len}
use Rattle.std.specs.BTreeMap as tree
use Rattle.std.specs.FinMap.{get}
use Rattle.std.specs.List.Sorted.{IsStrictlySortedBy}
use Rattle.std.specs.Map.{keys_of, lookup}
use Rattle.std.specs.declared.cmp.Ordering.TheVariants.{Less}
use Rattle.silt_event.specs.Commands.{Map}
use Rattle.silt_frame.specs.Rows.{key_cmp}
use Rattle.silt_frame.specs.declared.key.Key.{Key}
use Rattle.silt_dump.specs.declared.spot.Spot.{Spot}

-- one key is below another
abbrev pub IsBelow : Key → Key → Type 0
IsBelow low high = key_cmp low high ≡ Less

-- a key is above the last one; every key is if there was none
abbrev pub IsAbove : Option Key → Key → Type 0
IsAbove None key = Unit {0}
IsAbove (Some last) key = IsBelow last key

-- no key above the last one and below this one has a value
abbrev pub NoneBetween : Map → Option Key → Key → Type 0
NoneBetween map last next = (key : Key) → IsAbove last key → IsBelow key next → get map key.0 ≡ None

-- no key above the last one has a value
abbrev pub NoneAbove : Map → Option Key → Type 0
NoneAbove map last = (key : Key) → IsAbove last key → get map key.0 ≡ None

-- the lowest key above the last one that has a value is this one, and it has this value; or none has one
abbrev pub IsNextEntry : Map → Option Key → Option Key → List ℕ → Type 0
IsNextEntry map last None value = NoneAbove map last
IsNextEntry map last (Some next) value = NoneBetween map last next × (get map next.0 ≡ Some value)

-- the keys of these entries rise
abbrev pub AreInOrder : List (Key × List ℕ) → Type 0
AreInOrder entries = IsStrictlySortedBy key_cmp (keys_of entries)

-- the value that these entries have at a key
abbrev pub value_at : List (Key × List ℕ) → Key → Option (List ℕ)
value_at entries key = lookup (tree.is_at (key_cmp key)) entries

-- they are the entries of the map
abbrev pub AreOfMap : Map → List (Key × List ℕ) → Type 0
AreOfMap map entries = (key : Key) → value_at entries key ≡ get map key.0

-- these entries are in order, and none has a key above the last one
pub record AreOrderedTo (last : Option Key) (entries : List (Key × List ℕ)) : Type 0 where
  pub ordered : AreInOrder entries
  pub upto : All (λ key. IsAbove last key → ⊥) (keys_of entries)

-- these are the entries of the map whose keys are not above the last one
pub record AreFirstEntries (map : Map) (last : Option Key) (entries : List (Key × List ℕ)) : Type 0 where
  pub ordered : AreOrderedTo last entries
  pub same : (key : Key) → (IsAbove last key → ⊥) → value_at entries key ≡ get map key.0

-- What comes after the last key: none that has a value; or this key, with no value between, and this value if it has one.
abbrev pub HasNext : Map → Option Key → Option (Key × Bool) → List ℕ → Type 0
HasNext map last None value = NoneAbove map last
HasNext map last (Some (next, found)) value = NoneBetween map last next × (get map next.0 ≡ cond found (Some value) None)

-- each key with a spot is above the next entry; without a next entry there is none
abbrev pub AreAllAbove : Option Key → BTreeMap Key Spot → Type 0
AreAllAbove None spots = (key : Key) → tree.get key_cmp spots key ≡ None
AreAllAbove (Some next) spots = (key : Key) → IsSome (tree.get key_cmp spots key) → IsBelow next key

-- the lowest key was taken out with its spot, and the next entry is not below it
pub record IsTakenOut (entry : Option Key) (old new : BTreeMap Key Spot) (key : Key) (spot : Spot) : Type 0 where
  pub there : tree.get key_cmp old key ≡ Some spot
  pub lowest : IsLowerBound key_cmp old key
  pub out : Updates key_cmp old new key None
  pub fewer : btree_map_len new + 1 ≡ btree_map_len old
  pub first : IfSome entry (λ next. IsBelow next key → ⊥)

-- the lowest key was taken out with its spot; or none was, since the next entry is below all of them
abbrev pub TakesLowest : Option Key → BTreeMap Key Spot → BTreeMap Key Spot → Option (Key × Spot) → Type 0
TakesLowest entry old new None = (new ≡ old) × AreAllAbove entry old
TakesLowest entry old new (Some (key, spot)) = IsTakenOut entry old new key spot
