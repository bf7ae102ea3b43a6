-- Stores that match an honest disk are sound.
use Rattle.silt_merge.proofs.Common.{◌≡◌, suc, IsTrue, List, [], ◌∷◌, flat_map, map, refl, arith, Content, Shape, HashState, hash_findings, hash_part, regions_of, All, IsHashStore, SoundStoresLaw}
use Rattle.silt_event.proofs.Findings.{nothing_both}

-- there is no finding in stores that match the disk
all_stand : (content : Content) (s : Shape) (stores : List HashState) → IsTrue content.honest → All (λ store. store.shape ≡ s) stores → All (IsHashStore content) stores
    → flat_map (hash_findings s) (map (hash_part s content.shown) (regions_of stores)) ≡ []
all_stand content s [] honest shapes stand = refl
all_stand content s (store ∷ stores) honest shapes stand =
    let rest = all_stand _ s stores honest (λ k blank below. shapes (suc k) blank (omega arith)) (λ k blank below. stand (suc k) blank (omega arith)) in
    let first = (stand 0 store (omega arith)).sound honest in
    nothing_both _ _ (rw (shapes 0 store (omega arith)) at first) rest

pub sound_stores : SoundStoresLaw
sound_stores content stores sorted honest shapes held stand rising = search (arith, all_stand)
