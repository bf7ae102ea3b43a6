-- The index of a merge is made before its last writes: nothing else of the stores changes.
use Rattle.silt_engine.proofs.Common.{arith, ◌≡◌, ◌<◌, ◌-◌, ◌^◌, ℕ, true, None, List, [], Option, Some, Ok, refl, ap, sym, ◌∙◌, subst, Content, Ghosts, within_refl, HashState, Finished, Body}
use Rattle.silt_engine.proofs.Common.{Digests, HasMerged, Seals, MergeState, is_done, oldest_stores, sorted_in, IndexedState, IsIndexOf, HasDigest, SortedState, entries_of, MarkedCode, EngineState}
use Rattle.silt_engine.proofs.Common.{IsMerging, Stands, Advances, Works, AreCompared, EndsMerge, EndsMerged, Merges, SealsMerge, merge_turn, merged_body, merged_digests, none_made}
use Rattle.silt_engine.proofs.MergeEntries.{entry_advances}
use Rattle.silt_engine.proofs.MergeDone.{taken_sound}
use Rattle.silt_engine.proofs.MergeSteps.{gathered_of, merging_of}
use Rattle.silt_engine.proofs.Swaps.{same_merge}
use Rattle.silt_engine.proofs.Tries.{compared_with_trie, merged_with_trie, way_with_trie, with_trie}
use Rattle.silt_engine.proofs.Exits.{went_so}

-- the sealed merge is in progress
pub sealed_way : (s : EngineState) (merge sealed : MergeState) → Seals merge sealed → IsMerging s merge → IsMerging s sealed
sealed_way s merge sealed seals way = subst (IsMerging s) (sym seals.same) (way_with_trie merge _ s way)

-- the stores, in whose merge a trie is made
abbrev sealed_stores : EngineState → MergeState → Option MarkedCode → EngineState
sealed_stores s merge trie = record s { merging = Some (with_trie merge trie) }

-- they advance by nothing
seal_advances : (content : Content) (s : EngineState) (merge : MergeState) (trie : Option MarkedCode) → s.merging ≡ Some merge
    → Stands content s → Advances [] content content s (sealed_stores s merge trie)
seal_advances content s merge trie was stands =
    let way = merging_of s merge stands.whole was in
    let gathered = gathered_of content s merge stands was in
    search (arith, entry_advances, within_refl, way_with_trie, merged_with_trie, compared_with_trie)

module _ (s t : EngineState) (seals : SealsMerge s t) where
  pub sealed_is : t ≡ sealed_stores s seals.merge (Some seals.seals.made)
  sealed_is = cc (seals.is, seals.seals.same)

  -- the step's work so far
  pub sealed_works : {D F E : Type 0} (facts : Ghosts D F) (disk : D) → Stands (facts.content disk) s → Works {E = E} facts [] 0 0 disk disk s t (Ok (tt {0}))
  sealed_works {E = E} facts disk stands = search (arith, sealed_is, went_so, seal_advances, none_made, facts.content)

  pub sealed_stands : (content : Content) → Stands content s → Stands content t
  sealed_stands content stands = subst (Stands content) (sym sealed_is) (seal_advances _ s _ _ seals.was stands).stands

  -- what ends the sealed merge ends the merge
  compared_before : (count : ℕ) → AreCompared (sealed_stores s seals.merge (Some seals.seals.made)) count → AreCompared s count
  compared_before count are = record { hashes = are.hashes; entries = are.entries }

  ends_before : (after : EngineState) → EndsMerged (sealed_stores s seals.merge (Some seals.seals.made)) after → EndsMerged s after
  ends_before after ends =
      let same : ends.merge ≡ with_trie seals.merge (Some seals.seals.made) = let e : Some ends.merge ≡ Some (with_trie seals.merge (Some seals.seals.made)) = sym ends.was in cc in
      record {
        merge = seals.merge;
        was = seals.was;
        none = ends.none;
        shape = ends.shape;
        current = rw same at ends.current;
        active = ends.active;
        frozen = ends.frozen;
        converting = ends.converting;
        compared = compared_before _ (rw same at ends.compared);
      }

  pub merges_before : (after : EngineState) → merge_turn s ≡ Finished → EndsMerged t after → Merges Finished s after
  merges_before after turn ends = record { due = sym turn; done = ends_before after (rw sealed_is at ends) }

-- a merge that is done may end with a sorted store of its entries and their index, which is made
pub may_end : (before s : EngineState) (body : Body) (digests : Digests) (digest : List ℕ) (seals : SealsMerge before s) → is_done seals.sealed s.sorted ≡ true → seals.sealed.damaged ≡ None
    → s.manifest.current.generation < 2 ^ 63 - 1 → body ≡ merged_body s.manifest.current seals.sealed.stores seals.sealed.region seals.sealed.written
    → digests ≡ merged_digests s seals.sealed.stores digest
    → ((content : Content) (stores : List HashState) (sorted : SortedState) → HasMerged content stores sorted seals.sealed → HasDigest content (sorted_in seals.sealed) digest)
    → (store : IndexedState) × (store.digest ≡ digest) × EndsMerge s body digests store
may_end before s body digests digest seals done sound unspent is digests_are digested =
    let was : s.merging ≡ Some seals.sealed = ap (λ (v : EngineState). v.merging) seals.is in
    let trie = seals.seals.made in
    let same = seals.seals.same in
    let earlier : (content : Content) (stores : List HashState) (sorted : SortedState) → HasMerged content stores sorted seals.sealed → HasMerged content stores sorted seals.merge = λ
    content stores sorted merged. merged_with_trie (with_trie seals.merge (Some trie)) seals.merge.index.sealed content stores sorted (rw same at merged) in
    let done_before : is_done seals.merge s.sorted ≡ true = ap (λ (m : MergeState). is_done m s.sorted) (sym same) ∙ done in
    let made_of : sorted_in seals.sealed ≡ sorted_in seals.merge = ap sorted_in same in (
      record { sorted = sorted_in seals.sealed; index = trie; digest = digest },
      refl,
      record {
        merge = seals.sealed;
        was = was;
        done = done;
        unspent = unspent;
        entries = refl;
        located = λ content stands honest.
            let gathers = (gathered_of content s seals.sealed stands was).0 in
            subst (λ (t : SortedState). IsIndexOf (entries_of content t) trie) (sym made_of) (seals.seals.indexed content (oldest_stores seals.sealed.stores s.hashes) s.sorted done_before
            (earlier content (oldest_stores seals.sealed.stores s.hashes) s.sorted gathers) honest (taken_sound content s stands honest seals.sealed.stores));
        digested = λ content stands. digested content (oldest_stores seals.sealed.stores s.hashes) s.sorted (gathered_of content s seals.sealed stands was).0;
        is = is;
        digests_are = digests_are;
        sealed = ap (λ (m : MergeState). m.index.sealed) same;
        sound = sound;
      },
    )

-- the same in the words of the merge in progress
pub may_end_now : (before s : EngineState) (body : Body) (digests : Digests) (digest : List ℕ) (seals : SealsMerge before s) (merge : MergeState)
    → s.merging ≡ Some merge → is_done merge s.sorted ≡ true → merge.damaged ≡ None
    → s.manifest.current.generation < 2 ^ 63 - 1 → body ≡ merged_body s.manifest.current merge.stores merge.region merge.written → digests ≡ merged_digests s merge.stores digest
    → ((content : Content) (stores : List HashState) (sorted : SortedState) → HasMerged content stores sorted merge → HasDigest content (sorted_in merge) digest)
    → (store : IndexedState) × (store.digest ≡ digest) × EndsMerge s body digests store
may_end_now before s body digests digest seals merge was done sound unspent is digests_are digested =
    let same : merge ≡ seals.sealed = same_merge merge seals.sealed s.merging was (ap (λ (v : EngineState). v.merging) seals.is) in
    may_end before s body _ digest seals (rw same at done) (rw same at sound) unspent (rw same at is) (rw same at digests_are) (rw same at digested)
