-- What a function that writes does to the disk, in one record.
use Rattle.std.specs.Prelude.{◌≡◌, ℕ, Result, MatchResult}
use Rattle.silt_disk.specs.Disk.{ChangesWithin, Costs, CountsFault, size as size_of}
use Rattle.silt_disk.specs.declared.disk.Disk.{Ghosts}

-- From the old disk to the new one only this range was written, with so many writes and syncs. `Fails` says what an error means.
pub record WroteOr {D F T E : Type 0} (facts : Ghosts D F) (Fails : E → Type 0) (at count w s : ℕ) (old new : D) (result : Result T E) : Type 0 where
  -- the disk is as long as before
  pub size : size_of (facts.content new) ≡ size_of (facts.content old)
  -- only the range has changed, in what is shown and in each possible crash image
  pub changes : ChangesWithin at count (facts.content old) (facts.content new)
  -- after Ok exactly so many writes and syncs, after an error at most as many
  pub made : Costs facts.writes facts.syncs w s old new result
  -- after Ok no call has failed, after an error it is what the error means
  pub failures : MatchResult result (λ _. facts.failures new ≡ facts.failures old) Fails

-- The same if the error is the disk's own fault: one more write or sync has failed, and the disk gave this fault.
abbrev pub Wrote : {D F T : Type 0} → Ghosts D F → (at count w s : ℕ) → D → D → Result T F → Type 0
Wrote facts at count w s old new result = WroteOr facts (CountsFault facts.failures facts.gave old new) at count w s old new result
