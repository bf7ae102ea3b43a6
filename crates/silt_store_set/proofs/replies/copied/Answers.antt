use Rattle.silt_store_set.proofs.Common.{◌∙◌}
use Rattle.silt_store_set.proofs.replies.copied.Goals as goal

pub returns : goal.returns
returns c = c.new.ensures ∙ c.in_ok-owned.ensures.items_if_clones_equal (λ x y e. e)
