use Rattle.silt_hash_store.proofs.Common.{rules, ◌≡◌, replicate, map, ap, ◌∙◌, tag_seen}
use Rattle.silt_hash_store.proofs.Marking.{none_seen}
use Rattle.silt_hash_store.proofs.tags.Tags.new.Goals as goal

pub returns : goal.returns
returns c =
    let items : c.in_ok-numbers.numbers.items ≡ replicate c.args.slots 65535 = c.in_ok-numbers.ensures.items_if_clones_equal (λ y same. search rules) in
    ap (map tag_seen) items ∙ none_seen c.args.slots
