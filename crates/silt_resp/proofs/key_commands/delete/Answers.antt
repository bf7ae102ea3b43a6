use Rattle.silt_resp.proofs.Common.{◌++◌, ◌∙◌, ap, All-same, Delete, Get, HasValueOf}
use Rattle.std.proofs.Common.{map}
use Rattle.std.proofs.lemmas.List.Elements.{All-append}
use Rattle.silt_resp.proofs.Named.{deletes_fit, looks_fit}
use Rattle.silt_resp.proofs.key_commands.delete.Goals as goal

pub returns-clause-fits : goal.returns-clause-fits
returns-clause-fits c =
    let len = c.args.settings.now.value_len in
    let looks = map (λ key. Get key) c.deref.result.now in
    let deletes = map (λ key. Delete key) c.deref-2.result.now in
    All-same (HasValueOf len) _ _ (c.in_ok-push_deletes.ensures ∙ ap (λ l. l ++ deletes) (c.in_ok-push_looks.ensures ∙ ap (λ l. l ++ looks) c.new-events.ensures.items)) (All-append (HasValueOf len)
    looks deletes (looks_fit len c.deref.result.now) (deletes_fit len c.deref-2.result.now))
