-- Bytes one after another.
use Rattle.silt_jobs.proofs.Common.{◌≡◌, ℕ, List, [], ◌∷◌, ◌++◌, refl, tally_after, tally_of, Tally}

-- one byte more
pub tally_more : (t : Tally) (bytes : List ℕ) (byte : ℕ) → tally_of t (bytes ++ byte ∷ []) ≡ tally_after (tally_of t bytes) byte
tally_more t [] byte = refl
tally_more t (b ∷ bytes) byte = tally_more (tally_after t b) bytes byte
