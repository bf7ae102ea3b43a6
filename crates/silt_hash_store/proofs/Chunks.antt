-- Slots that were read together.
use Rattle.silt_hash_store.proofs.Common.{◌≡◌, ℕ, ◌+◌, ◌*◌, ◌<◌, IsTrue, IfErr, Result, false, List, slice_range, arith, Content, Shape, row_len, row_of, HasHead, IsFirstUnsound, IsGrown}
use Rattle.silt_hash_store.proofs.Common.{IsScanRefused, HeadSays, HoldsSlots, is_sound_slot, HashState, IsTagged, Head, ScanError, Damaged, Device, NoMemory, Rebuilt}
use Rattle.silt_hash_store.proofs.Growing.{refused_at}

-- the head of one of them is that of its slot
pub head_held : (s : Shape) (region first count len i : ℕ) (image bytes : List ℕ) (store : HashState) (head : Head) → store.shape ≡ s
    → store.region ≡ region → len ≡ row_len s → i < count → HoldsSlots s region image first count bytes
    → HeadSays (row_of (slice_range bytes (i * len) (i * len + len))).kind (row_of (slice_range bytes (i * len) (i * len + len))).key head → HasHead store image (first + i) head
head_held s region first count len i image bytes store head same number long below holds says = grind arith

-- a refusal at a slot, of a store with the tags of a rebuild
pub refused_grown : {F : Type 0} (content : Content) (rebuilt : Rebuilt) (slot : ℕ) (head : Head) (given : F → Type 0) (error : ScanError F)
    → IsScanRefused (λ at. (at ≡ slot) × (IsTrue content.honest → HasHead rebuilt.store content.shown slot head
    → IsTagged rebuilt.store content.shown slot → is_sound_slot rebuilt.store.shape rebuilt.store.region content.shown slot ≡ false)) given error
    → IsScanRefused (λ at. (at ≡ slot) × (IsTrue content.honest → HasHead rebuilt.store content.shown slot head → IsGrown rebuilt content.shown slot
    → is_sound_slot rebuilt.store.shape rebuilt.store.region content.shown slot ≡ false)) given error
refused_grown content rebuilt slot head given error refused = grind arith

-- a refusal at one of them, of a rebuild of the slots before it
pub refused_in : {F : Type 0} (content : Content) (rebuilt : Rebuilt) (s : Shape) (region slot : ℕ) (head : Head) (given : F → Type 0)
    (Holds Starts : Type 0) (error : ScanError F) → rebuilt.store.shape ≡ s → rebuilt.store.region ≡ region → slot < 4 * s.buckets
    → (IsTrue content.honest → Holds → HasHead rebuilt.store content.shown slot head) → (IsTrue content.honest → Holds → Starts → IsGrown rebuilt content.shown slot)
    → IsScanRefused (λ at. (at ≡ slot) × (IsTrue content.honest → HasHead rebuilt.store content.shown slot head → IsGrown rebuilt content.shown slot
    → is_sound_slot rebuilt.store.shape rebuilt.store.region content.shown slot ≡ false)) given error
    → IsScanRefused (λ at. IsTrue content.honest → Holds → Starts → IsFirstUnsound content s region at) given error
refused_in {F} content rebuilt s region slot head given Holds Starts (Damaged at) same number below has grown refused = λ honest holds starts.
    refused_at {F = F} content rebuilt s region slot given (Damaged at) same number below (λ h. grown h holds starts) (refused.0, λ h is. refused.1 h (has h holds) is) honest
refused_in content rebuilt s region slot head given Holds Starts (Device fault) same number below has grown refused = refused
refused_in content rebuilt s region slot head given Holds Starts NoMemory same number below has grown refused = tt

-- a refusal of what was read, which holds what it should
pub refused_read : {X F : Type 0} (result : Result X (ScanError F)) (given : F → Type 0) (Honest Holds Starts : Type 0) (IsFirst : ℕ → Type 0) → (Honest → Holds)
    → IfErr result (IsScanRefused (λ at. Honest → Holds → Starts → IsFirst at) given) → IfErr result (IsScanRefused (λ at. Honest → Starts → IsFirst at) given)
refused_read result given Honest Holds Starts IsFirst holds refused = grind arith

-- a refusal of a part of a rebuild, by what the rebuild began with
pub refused_later : {F : Type 0} (content : Content) (rebuilt : Rebuilt) (s : Shape) (region slot : ℕ) (given : F → Type 0) (Starts : Type 0) (error : ScanError F)
    → rebuilt.store.shape ≡ s → rebuilt.store.region ≡ region
    → (IsTrue content.honest → Starts → IsGrown rebuilt content.shown slot)
    → IsScanRefused (λ at. IsTrue content.honest → IsGrown rebuilt content.shown slot → IsFirstUnsound content rebuilt.store.shape rebuilt.store.region at) given error
    → IsScanRefused (λ at. IsTrue content.honest → Starts → IsFirstUnsound content s region at) given error
refused_later content rebuilt s region slot given Starts error same number grown refused = grind arith

-- a refusal of a whole rebuild, which begins with no slots
pub refused_all : {F : Type 0} (given : F → Type 0) (Honest Starts : Type 0) (IsFirst : ℕ → Type 0) (error : ScanError F) → (Honest → Starts)
    → IsScanRefused (λ at. Honest → Starts → IsFirst at) given error → IsScanRefused (λ at. Honest → IsFirst at) given error
refused_all given Honest Starts IsFirst error starts refused = grind arith
