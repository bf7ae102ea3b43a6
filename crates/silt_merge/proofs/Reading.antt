-- What the read of a row gives.
use Rattle.silt_merge.proofs.Common.{◌≡◌, ℕ, ◌<◌, List, [], ◌++◌, length, get_or, Option, Some, None, Ok, Err, refl, ap, ◌∙◌, Shape, slot_row, HashState, ReadsRow, regions_of, Source, Result}
use Rattle.silt_merge.proofs.Common.{IfSome, OnOk, All, drop_at, get_or-map, take_at}

-- some hash store
abbrev pub blank : HashState
blank = record { shape = record { value_len = 0; buckets = 0; log_capacity = 0; logs = 0; hashes = 0; sorted_capacity = 0 }; region = 0; tags = []; puts = 0; digest = [] }

-- a weaker fact of a call that returned Ok
weaker_on_ok : {A E : Type 0} {P Q : Type 0} (result : Result A E) → (P → Q) → OnOk result P → OnOk result Q
weaker_on_ok (Ok x) step is = step is
weaker_on_ok (Err e) step is = tt

-- a store of a list, by its place
pub store_at : (stores : List HashState) (place : ℕ) (store : HashState) → place < length stores → store ≡ get_or stores place store → get_or (regions_of stores) place 0 ≡ store.region
store_at stores place store below is = cc (get_or-map (λ (s : HashState). s.region) stores place store 0 below)

-- a key and the value of the row that decides
pub row_read : {A E : Type 0} (result : Result A E) (shape : Shape) (image : List ℕ) (stores : List HashState) (store : HashState) (key : List ℕ) (source : Source) (old front value : List ℕ)
    → source.store < length stores → store ≡ get_or stores source.store store → All (λ s. s.shape ≡ shape) stores → front ≡ key → length front ≡ 20
    → OnOk result (value ≡ (slot_row store.shape store.region image source.slot).value) → OnOk result (ReadsRow shape image (regions_of stores) key (Some source) old (front ++ value))
row_read result shape image stores store key source old front value below is shapes same long read =
    let own_shape : store.shape ≡ shape = ap (λ (s : HashState). s.shape) is ∙ shapes source.store store below in
    weaker_on_ok result (λ got puts.
    let its : value ≡ (slot_row shape (get_or (regions_of stores) source.store 0) image source.slot).value = cc (store_at stores source.store store below is) in
    cc (take_at front value 20 long, drop_at front value 20 long)) read

-- what holds of each source holds of a choice's
pub each_source : {P : Source → Type 0} (o : Option Source) → ((source : Source) → o ≡ Some source → P source) → IfSome o P
each_source None each = tt
each_source (Some source) each = each source refl
