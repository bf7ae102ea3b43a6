use Rattle.silt_shards.proofs.Common.{◌∙◌, sym}
use Rattle.silt_shards.proofs.shard_files.check_unmarked.Goals as goal

pub returns-in-Ok-Marked-clause-cause : goal.returns-in-Ok-Marked-clause-cause
returns-in-Ok-Marked-clause-cause g c = (c.in-Ok-Marked.mark.set, λ h. sym (c.in-Ok-Marked.ensures.marking h) ∙ c.in-Ok-Marked.field-0-is)
