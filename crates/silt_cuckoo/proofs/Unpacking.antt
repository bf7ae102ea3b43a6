-- Stored slots and what they represent.
use Rattle.silt_cuckoo.proofs.Common.{◌≡◌, ℕ, zero, suc, ◌<◌, List, ◌∷◌, length, replicate, slice_set, get_or, None, refl, ap, Slot, entry_at, unpacked, unpacked_all, get_or-map, map-set}

-- a stored slot that is free
abbrev pub free : Slot
free = record { mark = 0; high = 0; low = 0 }

-- the entry in a slot is that of the stored slot
pub entry_of_stored : (slots : List Slot) (slot : ℕ) (d : Slot) → slot < length slots → entry_at (unpacked_all slots) slot ≡ unpacked (get_or slots slot d)
entry_of_stored slots slot d there = get_or-map unpacked slots slot d None there

-- a stored slot that is written
pub unpacked_all_set : (slots : List Slot) (slot : ℕ) (s : Slot) → unpacked_all (slice_set slots slot s) ≡ slice_set (unpacked_all slots) slot (unpacked s)
unpacked_all_set slots slot s = map-set unpacked slots slot s

-- free slots
pub unpacked_all_free : (n : ℕ) → unpacked_all (replicate n free) ≡ replicate n None
unpacked_all_free zero = refl
unpacked_all_free (suc n) = ap (λ xs. None ∷ xs) (unpacked_all_free n)
