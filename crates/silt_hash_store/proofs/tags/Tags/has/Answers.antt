use Rattle.silt_hash_store.proofs.Common.{◌≡◌, length, sym, ◌∙◌, ap, arith, length-map, bucket_has_tag, tag_seen}
use Rattle.silt_hash_store.proofs.Marking.{has_tag_in}
use Rattle.silt_hash_store.proofs.tags.Tags.has.Goals as goal

pub returns : goal.returns
returns c =
    let long : length c.args.self.now ≡ length c.self.inside.numbers.items = ap length (sym c.self.view_is) ∙ length-map c.self.inside.numbers.items tag_seen in
    rw c.deref.ensures.value (has_tag_in c.self.inside.numbers.items c.args.bucket c.args.tag (omega arith) (omega arith) ∙ ap (λ tags. bucket_has_tag tags c.args.bucket c.args.tag) c.self.view_is)
