-- What functions that write do to the disk, one after the other.
use Rattle.std.proofs.Common.{◌≡◌, ℕ, ◌+◌, ◌%◌, ◌^◌, ◌≤◌, Result, Ok, Err, MatchResult, IsErrAnd, OnOk, OnErr, refl, arith}
use Rattle.std.proofs.lemmas.Result.{err_from_is_err_and}
use Rattle.silt_disk.specs.Disk.{Tears, Settles, Stays, Makes, Costs, CountsFault, size}
use Rattle.silt_disk.specs.Wrote.{WroteOr, Wrote}
use Rattle.silt_disk.specs.declared.disk.Call.TheVariants.{Write, Sync}
use Rattle.silt_disk.specs.declared.disk.Disk.{Ghosts}
use Rattle.silt_disk.proofs.Costs.{none_made, made_both, most_made, most_none, most_more, most_both}
use Rattle.silt_disk.proofs.Images.{within_refl, within_trans, within_wider, write_within, sync_within, failed_sync_within}

-- an error of a function that returns this type after Ok
abbrev pub failure : {E : Type 0} (T : Type 0) → E → Result T E
failure T fault = Err fault

-- an Ok of a function that returns this type after an error
abbrev pub success : {T : Type 0} (E : Type 0) → T → Result T E
success E x = Ok x

-- after Ok of the first calls, what the others cost is added
costs_then : {D F T : Type 0} (facts : Ghosts D F) (a b c d : ℕ) (old mid new : D) (result : Result T F) → Makes facts.writes facts.syncs a b old mid
    → Costs facts.writes facts.syncs c d mid new result → Costs facts.writes facts.syncs (a + c) (b + d) old new result
costs_then facts a b c d old mid new result first second = search (arith, made_both, most_both)

-- after Ok of the first calls, a failure of the others is the only one
counts_then : {D F T : Type 0} (facts : Ghosts D F) (old mid new : D) (result : Result T F) → facts.failures mid ≡ facts.failures old
    → MatchResult result (λ _. facts.failures new ≡ facts.failures mid) (CountsFault facts.failures facts.gave mid new)
    → MatchResult result (λ _. facts.failures new ≡ facts.failures old) (CountsFault facts.failures facts.gave old new)
counts_then facts old mid new result same counts = search arith

module _ {D F : Type 0} {facts : Ghosts D F} where
  -- no call
  pub wrote_none : {T E : Type 0} {Fails : E → Type 0} (at count : ℕ) (disk : D) (x : T) → WroteOr facts Fails at count 0 0 disk disk (Ok x)
  wrote_none at count disk x = record { size = refl; changes = within_refl at count (facts.content disk); made = none_made; failures = refl }

  -- in a wider range
  pub wrote_wider : {T E : Type 0} {Fails : E → Type 0} {at count w s : ℕ} {old new : D} {result : Result T E} (from long : ℕ) → from ≤ at → at + count ≤ from + long
      → WroteOr facts Fails at count w s old new result → WroteOr facts Fails from long w s old new result
  wrote_wider from long low high wrote = record { size = wrote.size; changes = within_wider from long low high wrote.changes; made = wrote.made; failures = wrote.failures }

  -- in a range under another name
  pub wrote_at : {T E : Type 0} {Fails : E → Type 0} {at count at_other count_other w s : ℕ} {old new : D} {result : Result T E} → at ≡ at_other → count ≡ count_other
      → WroteOr facts Fails at count w s old new result → WroteOr facts Fails at_other count_other w s old new result
  wrote_at {at} {count} {at_other} {count_other} same_at same_count wrote = wrote_wider at_other count_other (omega (arith, same_at)) (omega (arith, same_at, same_count)) wrote

  -- an error is passed on by a function that may make more calls
  pub wrote_err : {T U E : Type 0} {Fails : E → Type 0} {at count a b w s : ℕ} {old new : D} {first : Result T E} {fault : E} {result : Result U E} → first ≡ Err fault
      → IsErrAnd result (λ e. e ≡ fault) → a ≤ w → b ≤ s → WroteOr facts Fails at count a b old new first → WroteOr facts Fails at count w s old new result
  wrote_err {T} {U} {E} {Fails} {at} {count} {a} {b} {w} {s} {old} {new} {first} {fault} {result} was is writes syncs wrote = search (arith, err_from_is_err_and, most_more)

  -- no call, and an error
  pub wrote_refused : {T E : Type 0} {Fails : E → Type 0} (at count w s : ℕ) (disk : D) (fault : E) → Fails fault → WroteOr facts Fails at count w s disk disk (failure T fault)
  wrote_refused at count w s disk fault fails = record { size = refl; changes = within_refl at count (facts.content disk); made = most_none; failures = fails }

  -- an error is returned as another one
  pub wrote_failed : {T U E G : Type 0} {Fails : E → Type 0} {FailsAs : G → Type 0} {at count w s : ℕ} {old new : D} {first : Result T E} {fault : E} {other : G} → first ≡ Err fault
      → FailsAs other → WroteOr facts Fails at count w s old new first → WroteOr facts FailsAs at count w s old new (failure U other)
  wrote_failed {T} {U} {E} {G} {Fails} {FailsAs} {at} {count} {w} {s} {old} {new} {first} {fault} {other} was fails wrote = search arith

  -- after Ok of the first calls, the others
  pub wrote_then : {T U E : Type 0} {Fails : E → Type 0} {at count a b c d : ℕ} {old mid new : D} {first : Result U E} {x : U} {result : Result T F} → first ≡ Ok x
      → WroteOr facts Fails at count a b old mid first → Wrote facts at count c d mid new result → Wrote facts at count (a + c) (b + d) old new result
  wrote_then {T} {U} {E} {Fails} {at} {count} {a} {b} {c} {d} {old} {mid} {new} {first} {x} {result} was before after =
      let done : WroteOr facts Fails at count a b old mid (success E x) = rw was at before in
      search (arith, within_trans, costs_then, counts_then)

  -- the Ok of the last calls is that of the whole
  pub wrote_ok : {T U E : Type 0} {Fails : E → Type 0} {at count w s : ℕ} {old new : D} {first : Result U E} {x : U} {y : T} → first ≡ Ok x
      → WroteOr facts Fails at count w s old new first → WroteOr facts Fails at count w s old new (Ok y)
  wrote_ok {T} {U} {E} {Fails} {at} {count} {w} {s} {old} {new} {first} {x} {y} was wrote = search arith

  -- a write of a disk
  pub write_wrote : {T : Type 0} {at count : ℕ} {old new : D} (result : Result T F) → size (facts.content new) ≡ size (facts.content old) → Makes facts.writes facts.syncs 1 0 old new
      → Tears at count (facts.content old) (facts.content new)
      → MatchResult result (λ _. facts.failures new ≡ facts.failures old) (λ fault. (facts.failures new ≡ (facts.failures old + 1) % 2 ^ 64) × facts.gave new fault Write at count)
      → Wrote facts at count 1 0 old new result
  write_wrote (Ok x) same made torn failures = search (arith, write_within)
  write_wrote {T} {at} {count} (Err fault) same made torn failures = record {
    size = same;
    changes = write_within torn;
    made = most_made made (omega arith) (omega arith);
    failures = (failures.0, (Write, at, count, failures.1));
  }

  -- a sync, of which any range may be said
  pub sync_wrote : {T : Type 0} {old new : D} (at count : ℕ) (result : Result T F) → size (facts.content new) ≡ size (facts.content old) → Makes facts.writes facts.syncs 0 1 old new
      → OnOk result (Settles (facts.content old) (facts.content new)) → OnErr result (Stays (facts.content old) (facts.content new))
      → MatchResult result (λ _. facts.failures new ≡ facts.failures old)
      (λ fault. (facts.failures new ≡ (facts.failures old + 1) % 2 ^ 64) × facts.gave new fault Sync 0 (size (facts.content new)))
      → Wrote facts at count 0 1 old new result
  sync_wrote at count (Ok x) same made settles stays failures = search (arith, sync_within)
  sync_wrote {T} {old} {new} at count (Err fault) same made settles stays failures = search (arith, failed_sync_within, most_made)
