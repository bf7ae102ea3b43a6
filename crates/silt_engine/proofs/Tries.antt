-- A merge whose builder has made a trie.
use Rattle.silt_engine.proofs.Common.{arith, ℕ, List, Option, Content, HashState, HasCompared, HasMerged, IsGatheredIn, IsMergedIn, IsHeldMerge, MergeState, SortedState, MarkedCode, EngineState}
use Rattle.silt_engine.proofs.Common.{IsMerging}

-- a merge whose builder has this trie
abbrev pub with_trie : MergeState → Option MarkedCode → MergeState
with_trie merge trie = record merge { index = record { building = merge.index.building; sealed = trie } }

module _ (merge : MergeState) (trie : Option MarkedCode) where
  -- what holds of a merge holds with it
  held_with_trie : IsHeldMerge merge → IsHeldMerge (with_trie merge trie)
  held_with_trie held = search arith

  gathered_with_trie : (image : List ℕ) (stores : List HashState) (sorted : SortedState) → IsGatheredIn image stores sorted merge → IsGatheredIn image stores sorted (with_trie merge trie)
  gathered_with_trie image stores sorted is = assumption

  pub merged_with_trie : (content : Content) (stores : List HashState) (sorted : SortedState) → HasMerged content stores sorted merge → HasMerged content stores sorted (with_trie merge trie)
  merged_with_trie content stores sorted is = record {
    shape = is.shape;
    counted = is.counted;
    apart = is.apart;
    hashed = is.hashed;
    merged = λ honest sound.
        let in_it : IsMergedIn content.shown stores sorted merge = is.merged honest sound in
        record { gathered = gathered_with_trie _ stores sorted in_it.gathered; writes = in_it.writes; index = in_it.index };
  }

  pub compared_with_trie : (stores : List HashState) (sorted : SortedState) (digest : List ℕ) → HasCompared stores sorted digest merge → HasCompared stores sorted digest (with_trie merge trie)
  compared_with_trie stores sorted digest is = assumption

  pub way_with_trie : (s : EngineState) → IsMerging s merge → IsMerging s (with_trie merge trie)
  way_with_trie s way = assumption (held_with_trie way.held)
