use Rattle.silt_hash_store.proofs.Common.{◌*◌, HashState}
use Rattle.silt_hash_store.proofs.Finding.{weaker_ok}
use Rattle.silt_hash_store.proofs.Growing.{found_in_all, tagged_all}
use Rattle.silt_hash_store.proofs.hash_store.HashStore.find.Goals as goal

pub returns-clause-finds : goal.returns-clause-finds
returns-clause-finds g c = λ honest is.
    let store : HashState = c.args.self.now in
    let content = g.D.Disk.content c.args.disk.now in
    let held = rw c.self.view_is at c.self.invariant in
    weaker_ok c.look_up_heads.result _ _ (λ found finds. found_in_all store.shape store.region content.shown c.args.key.now.0 found finds)
    (c.look_up_heads.ensures.finds honest (4 * store.shape.buckets) (tagged_all content store held honest is))
