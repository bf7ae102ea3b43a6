use Rattle.silt_resp.proofs.Common.{◌++◌, ◌∙◌, ap, All-same, Get, HasValueOf}
use Rattle.std.proofs.Common.{map}
use Rattle.silt_resp.proofs.Named.{looks_fit}
use Rattle.silt_resp.proofs.key_commands.look_all.Goals as goal

pub returns-clause-fits : goal.returns-clause-fits
returns-clause-fits c =
    let len = c.args.settings.now.value_len in
    let keys = c.deref.result.now in
    All-same (HasValueOf len) _ _ (c.in_ok-push_looks.ensures ∙ ap (λ l. l ++ map (λ key. Get key) keys) c.new-events.ensures.items) (looks_fit len keys)
