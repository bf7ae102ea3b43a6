-- A write after a sync.
use Rattle.silt_log.proofs.Common.{arith, ◌≡◌, ℕ, List, subst, ◌∙◌, inr, Content, Torn, ChangesWithin, Writes, SyncsAndTears, Settles, Stays, left_after_sync, left_after_failed_sync, torn_refl}

-- the sync failed
pub not_begun : (at count : ℕ) (old new : Content) → Stays old new → SyncsAndTears at count old new
not_begun at count old new stays = search (arith, torn_refl, left_after_failed_sync, stays.shown)

-- the sync returned Ok, and the write was begun
pub begun : (at count : ℕ) (old between new : Content) → Settles old between → ChangesWithin at count between new → SyncsAndTears at count old new
begun at count old between new settles changes = record {
  honest = changes.honest ∙ settles.honest;
  shown = λ honest. subst (λ image. Torn at count image new.shown) (settles.shown honest) (changes.shown (settles.honest ∙ honest));
  left = λ honest image left.
      let from = changes.left (settles.honest ∙ honest) image left in
      inr (subst (λ before. Torn at count before image) (left_after_sync settles honest from.0 from.1) from.2);
}

-- both returned Ok
pub written_after_sync : (at : ℕ) (bytes : List ℕ) (old between new : Content) → Settles old between → Writes at bytes between new → Writes at bytes old new
written_after_sync at bytes old between new settles writes = search (arith, writes.shown, settles.shown)

-- a range under another name
pub tears_at : (at count at_other count_other : ℕ) (old new : Content) → at ≡ at_other → count ≡ count_other → SyncsAndTears at count old new → SyncsAndTears at_other count_other old new
tears_at at count at_other count_other old new same_at same_count tears = search arith
