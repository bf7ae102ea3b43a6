-- How many writes of its inner disk a disk that buffers makes.
use Rattle.silt_device.proofs.Common.{ℕ, ◌+◌, ◌≤◌, refl, arith, Makes, made_both, most_made, BufferedState, SavesWrites, SavesWritesLaw, owed_all}

module _ {D : Type 0} {writes_of syncs_of : D → ℕ} where
  pub saves_writes : SavesWritesLaw writes_of syncs_of
  saves_writes = record {
    both = λ a b c d old mid new first second. record {
      made = first.made + second.made;
      fewer = omega (arith, first.fewer, second.fewer);
      makes = made_both mid.inner first.makes second.makes refl refl;
    };
    most = λ w s old new none saves. most_made saves.makes (omega (arith, none, saves.fewer)) (omega arith);
  }

  -- the inner disk made so many writes, and so many others are still owed
  pub gathers_so : (old new : BufferedState D) (made w s : ℕ) → Makes writes_of syncs_of made s old.inner new.inner
      → made + owed_all new.buffers ≤ w + owed_all old.buffers → SavesWrites writes_of syncs_of w s old new
  gathers_so old new made w s makes fewer = record { made = made; fewer = fewer; makes = makes }
