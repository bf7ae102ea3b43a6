-- What a merge has compared with the digests of the stores that it reads, on any disk.
use Rattle.std.specs.Prelude.{◌≡◌, ◌≢◌, ℕ, ◌*◌, ◌≤◌, ◌<◌, nat_lt, Bool, true, false, if◌then◌else◌, IsTrue, List, length, slice_get, None, Some}
use Rattle.std.specs.List.{All}
use Rattle.sha1.specs.Sha1.{sha1}
use Rattle.silt_disk.specs.Disk.{Content}
use Rattle.silt_disk.specs.Layout.{entry_len, row_len, slots_len}
use Rattle.silt_hash_store.specs.State.{HashState, IsHashStore}
use Rattle.silt_sorted_store.specs.State.{HasDigest, SortedState}
use Rattle.silt_merge.specs.Merging.{AreSound, HasMerged}
use Rattle.silt_merge.specs.State.{MergeState}
use Rattle.silt_hasher.specs.Taking.{HasTaken}

-- whether bytes may be taken: if they end a store, they have its digest
abbrev pub MayTake : Bool → List ℕ → List ℕ → Bool → Type 0
MayTake ends bytes digest answer = (answer ≡ true → ends ≡ true → digest ≡ sha1 bytes) × (answer ≡ false → (ends ≡ true) × (digest ≢ sha1 bytes))

-- some bytes, so many, have this digest
abbrev pub HasBytes : ℕ → List ℕ → Type 0
HasBytes len digest = (bytes : List ℕ) × (length bytes ≡ len) × (digest ≡ sha1 bytes)

-- the number of bytes that are hashed of what is being read: of the slots of the store in progress, or of the skipped entries
abbrev pub input_len : MergeState → ℕ
input_len merge = if nat_lt merge.store merge.stores then merge.slot * row_len merge.shape else merge.passed * entry_len merge.shape

-- If no store was found damaged, what was read of each store that is read to its end has the store's digest: of the hash stores whose
-- slots are all gathered, and of the entries once all are skipped. What was read of the store in progress is hashed.
pub record HasCompared (stores : List HashState) (sorted : SortedState) (digest : List ℕ) (merge : MergeState) : Type 0 where
  pub hashes : merge.damaged ≡ None → (place : ℕ) (store : HashState) → place < merge.store → slice_get stores place ≡ Some store → HasBytes (slots_len merge.shape) store.digest
  pub entries : merge.damaged ≡ None → 0 < sorted.count → sorted.count ≤ merge.passed → HasBytes (sorted.count * entry_len merge.shape) digest
  pub input : (bytes : List ℕ) × (length bytes ≡ input_len merge) × HasTaken merge.input bytes

-- on a disk that obeys the crash model no store is found damaged
abbrev pub IsSoundMerge : Content → MergeState → Type 0
IsSoundMerge content merge = IsTrue content.honest → merge.damaged ≡ None

-- the disk obeys the crash model, the stores are sound, the merge is theirs, and each store has its digest
pub record MatchesDigests (content : Content) (stores : List HashState) (sorted : SortedState) (digest : List ℕ) (merge : MergeState) : Type 0 where
  pub honest : IsTrue content.honest
  pub merged : HasMerged content stores sorted merge
  pub sound : AreSound content.shown stores sorted
  pub hashes : All (IsHashStore content) stores
  pub entries : HasDigest content sorted digest
