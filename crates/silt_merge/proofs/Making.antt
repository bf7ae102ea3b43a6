-- How many writes a step of a merge makes.
use Rattle.silt_merge.proofs.Common.{◌≡◌, ℕ, ◌+◌, ◌-◌, ◌≤◌, Bool, true, false, cond, arith, written_after, Makes}

-- of one entry at most one is written
pub one_most : (is_written : Bool) → cond is_written 1 0 ≤ 1
one_most true = omega arith
one_most false = omega arith

-- a key adds at most one entry
pub grown : (is_written : Bool) (old new : ℕ) → new ≡ written_after is_written old → (old ≤ new) × (new ≤ old + 1)
grown is_written old new is = search arith

module _ {D : Type 0} {writes_of syncs_of : D → ℕ} where
  -- as many as the write of the entry made
  pub made_added : {first second : D} (made count old new : ℕ) → count ≡ old + made → count ≡ new → Makes writes_of syncs_of made 0 first second → Makes writes_of syncs_of (new - old) 0 first second
  made_added {first} {second} made count old new counted is makes = search arith
