use Rattle.silt_hash_store.proofs.Common.{Some, slice_set, ap, ◌∙◌, arith}
use Rattle.silt_hash_store.proofs.Marking.{tag_set}
use Rattle.silt_hash_store.proofs.tags.Tags.set.Goals as goal

pub returns : goal.returns
returns c = tag_set c.self.inside.numbers.items c.args.slot c.args.tag (omega arith) ∙ ap (λ tags. slice_set tags c.args.slot (Some c.args.tag)) c.self.view_is
