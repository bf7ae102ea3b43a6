-- How many writes and syncs calls make one after the other.
use Rattle.std.proofs.Common.{◌≡◌, ℕ, ◌+◌, ◌≤◌, refl, arith}
use Rattle.silt_disk.specs.Disk.{Makes, MakesAtMost}

module _ {D : Type 0} {writes_of syncs_of : D → ℕ} where
  -- no call
  pub none_made : {old : D} → Makes writes_of syncs_of 0 0 old old
  none_made = record { writes = omega arith; syncs = omega arith }

  -- some calls, and then others
  pub made_both : {a b c d w s : ℕ} {old new : D} (mid : D) → Makes writes_of syncs_of a b old mid → Makes writes_of syncs_of c d mid new
      → a + c ≡ w → b + d ≡ s → Makes writes_of syncs_of w s old new
  made_both mid first second writes syncs = record { writes = omega (arith, first.writes, second.writes, writes); syncs = omega (arith, first.syncs, second.syncs, syncs) }

  -- so many calls are no more than this
  pub most_made : {a b w s : ℕ} {old new : D} → Makes writes_of syncs_of a b old new → a ≤ w → b ≤ s → MakesAtMost writes_of syncs_of w s old new
  most_made {a} {b} made writes syncs = record { made = (a, b); fewer = (writes, syncs); makes = made }

  -- no call is no more than this
  pub most_none : {w s : ℕ} {old : D} → MakesAtMost writes_of syncs_of w s old old
  most_none = most_made none_made (omega arith) (omega arith)

  -- no more than these are no more than these and some
  pub most_more : {a b w s : ℕ} {old new : D} → MakesAtMost writes_of syncs_of a b old new → a ≤ w → b ≤ s → MakesAtMost writes_of syncs_of w s old new
  most_more most writes syncs = record { made = most.made; fewer = (omega (arith, most.fewer.0, writes), omega (arith, most.fewer.1, syncs)); makes = most.makes }

  -- some calls, and then at most so many others
  pub most_both : {a b c d w s : ℕ} {old new : D} (mid : D) → Makes writes_of syncs_of a b old mid → MakesAtMost writes_of syncs_of c d mid new
      → a + c ≤ w → b + d ≤ s → MakesAtMost writes_of syncs_of w s old new
  most_both {a} {b} mid first second writes syncs = record {
    made = (a + second.made.0, b + second.made.1);
    fewer = (omega (arith, second.fewer.0, writes), omega (arith, second.fewer.1, syncs));
    makes = made_both mid first second.makes refl refl;
  }
