use Rattle.silt_hash_store.proofs.Finding.{untagged_none}
use Rattle.silt_hash_store.proofs.hash_store.HashStore.look_up_heads.Goals as goal

pub returns-then-not-has_tag_of-clause-finds : goal.returns-then-not-has_tag_of-clause-finds
returns-then-not-has_tag_of-clause-finds g c = λ honest count is. untagged_none c.args.self.now (g.D.Disk.content c.args.disk.now).shown count is c.args.key.now.0 c.if-not-has_tag_of.ensures
