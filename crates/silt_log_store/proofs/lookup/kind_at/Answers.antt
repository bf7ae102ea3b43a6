use Rattle.silt_log_store.proofs.Common.{ap, ◌∙◌, kind_with_key}
use Rattle.silt_log_store.proofs.Matches.{kind_of_head}
use Rattle.silt_log_store.proofs.lookup.kind_at.Goals as goal

pub returns-clause-kind : goal.returns-clause-kind
returns-clause-kind g c = λ honest. c.kind_with_key.ensures ∙ ap (λ head. kind_with_key head c.args.key.now.0) (c.in_ok-head.ensures.head honest) ∙ kind_of_head _ c.args.key.now.0
