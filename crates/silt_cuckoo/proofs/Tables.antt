-- What is a table.
use Rattle.silt_cuckoo.proofs.Common.{◌≡◌, inl, inr, ℕ, ◌<◌, zero, suc, length, replicate, get_or, Option, None, refl, arith, cases_lt, length-replicate, get_or_past, Slots, Entry, IsTable}
use Rattle.silt_cuckoo.proofs.Common.{IsBucketCount, empty_slots, entry_at, IsSome}

-- free slots have no entry
pub entry_at-free : (n slot : ℕ) → get_or (replicate {A = Option Entry} n None) slot None ≡ None
entry_at-free zero slot = refl
entry_at-free (suc n) zero = refl
entry_at-free (suc n) (suc slot) = entry_at-free n slot

-- free slots are a table
pub empty_table : (buckets : ℕ) → IsBucketCount buckets → IsTable (empty_slots buckets)
empty_table buckets count = search (arith, length-replicate, entry_at-free)

-- a slot with an entry is one of the table's
pub slot_inside : (slots : Slots) (slot : ℕ) → IsSome (entry_at slots slot) → slot < length slots
slot_inside slots slot some = elim (cases_lt slot (length slots)) [ inl there ↦ there | inr past ↦ absurd (cc (get_or_past slots slot None past)) ]
