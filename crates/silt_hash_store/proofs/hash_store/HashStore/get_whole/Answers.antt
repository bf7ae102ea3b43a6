use Rattle.silt_hash_store.proofs.Common.{◌*◌, Some, None, HashState}
use Rattle.silt_hash_store.proofs.Growing.{found_in_all, tagged_all}
use Rattle.silt_hash_store.proofs.hash_store.HashStore.get_whole.Goals as goal

pub returns-in_default-clause-finds : goal.returns-in_default-clause-finds
returns-in_default-clause-finds g c = λ honest is.
    let store : HashState = c.args.self.now in
    let content = g.D.Disk.content c.args.disk.now in
    let held = rw c.self.view_is at c.self.invariant in
    found_in_all store.shape store.region content.shown c.args.key.now.0 None
    (rw c.in_default.is at (c.in_ok-found.ensures.finds honest (4 * store.shape.buckets) (tagged_all content store held honest is)))

pub returns-in-Put-clause-finds : goal.returns-in-Put-clause-finds
returns-in-Put-clause-finds g c = λ honest is.
    let store : HashState = c.args.self.now in
    let content = g.D.Disk.content c.args.disk.now in
    let held = rw c.self.view_is at c.self.invariant in
    found_in_all store.shape store.region content.shown c.args.key.now.0 (Some c.in-Some.found)
    (rw c.in-Some.is at (c.in_ok-found.ensures.finds honest (4 * store.shape.buckets) (tagged_all content store held honest is)))

pub returns-in-Delete-clause-finds : goal.returns-in-Delete-clause-finds
returns-in-Delete-clause-finds g c = λ honest is.
    let store : HashState = c.args.self.now in
    let content = g.D.Disk.content c.args.disk.now in
    let held = rw c.self.view_is at c.self.invariant in
    found_in_all store.shape store.region content.shown c.args.key.now.0 (Some c.in-Some.found)
    (rw c.in-Some.is at (c.in_ok-found.ensures.finds honest (4 * store.shape.buckets) (tagged_all content store held honest is)))
