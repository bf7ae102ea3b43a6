use Rattle.silt_hash_store.proofs.Growing.{untagged_all}
use Rattle.silt_hash_store.proofs.hash_store.HashStore.get.Goals as goal

pub returns-then-not-has_tag_of-clause-finds : goal.returns-then-not-has_tag_of-clause-finds
returns-then-not-has_tag_of-clause-finds g c = λ honest is.
    let held = rw c.self.view_is at c.self.invariant in
    untagged_all (g.D.Disk.content c.args.disk.now) c.args.self.now c.args.key.now.0 held honest is c.if-not-has_tag_of.ensures
