-- What a flush does.
use Rattle.silt_store_set.proofs.Common.{◌≡◌, ℕ, ◌*◌, [], refl, ap, subst, ◌∙◌, Ghosts, Stands, waiting_commands, EngineState, Flush, Acknowledged, Refused, basis_of, Makes, MakesAtMost}
use Rattle.silt_store_set.proofs.Common.{Does, some_wait, BreaksOff, ChangesOnlyActive, WorksBy, row_waits, Err, Ok, Result, IsQuiet, Device}
use Rattle.silt_store_set.proofs.Waits.{all_settled, waits_same}
use Rattle.silt_store_set.proofs.Calls.{seen, seen_failed, advanced, broke}

module _ {D F : Type 0} (facts : Ghosts D F) (disk : D) (stores : EngineState) (count : ℕ) (stands : Stands (facts.content disk) stores) where
  -- as many commands wait as rows
  waits : row_waits stores ≡ some_wait (waiting_commands (facts.content disk) stores)
  waits = waits_same (facts.content disk) stores stands.active.bounds

  -- what the call of the stores in memory does
  abbrev Works : {T E : Type 0} → D → EngineState → Result T E → Type 0
  Works new after result = WorksBy facts (λ _. Makes facts.writes facts.syncs (row_waits stores) (2 * row_waits stores) disk new) [] (row_waits stores) (2 * row_waits
      stores) disk new stores after result

  -- the waiting rows are settled, and if none waits nothing is done
  pub flushed : {T E : Type 0} (v : T) (new : D) (after : EngineState) → Works {T = T} {E = E} new after (Ok v) → IsQuiet (facts.content new) after → ChangesOnlyActive stores after
      → (stores.active.log.settled ≡ stores.active.log.used → (new ≡ disk) × (after ≡ stores)) → Does facts (seen facts disk stores count) (seen facts new after count) Flush (Acknowledged count)
  flushed v new after works quiet others idle =
      let stays : waiting_commands (facts.content disk) stores ≡ [] → seen facts new after count ≡ seen facts disk stores count
      = λ none. let both = idle (all_settled (facts.content disk) stores.active.log stands.active.bounds none) in
      ap (λ (d : D). seen facts d after count) both.0 ∙ ap (λ (s : EngineState). seen facts disk s count) both.1 in
      advanced facts _ _ _ _ disk new stores after stands v works count count Flush (Acknowledged count) (refl, refl) refl refl refl (refl, works.failures, stays) (λ m to e. e) (λ _ _. ap (λ m.
      m.current) others.manifest) (λ _. others.converting) (λ _. others.merging) (λ _. quiet.none_wait) (subst (λ (n : ℕ). Makes facts.writes facts.syncs n (2 * n) disk new) waits works.made)

  -- a sync or the write of the commit bytes failed
  pub flush_broke : {T : Type 0} (new : D) (after : EngineState) (fault : F) → Works {T = T} new after (Err fault) → BreaksOff facts disk new stores after fault
      → Does facts (seen facts disk stores count) (seen_failed facts (basis_of (facts.content disk) stores) new after count) Flush (Refused (Device fault))
  flush_broke new after fault works off =
      broke facts _ _ _ _ disk new stores after stands fault count Flush fault works off (λ fails. fails)
      (subst (λ (n : ℕ). MakesAtMost facts.writes facts.syncs n (2 * n) disk new) waits works.made)
