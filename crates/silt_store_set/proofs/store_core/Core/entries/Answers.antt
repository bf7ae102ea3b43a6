use Rattle.silt_store_set.proofs.Common.{ap, sym, ◌∙◌, get, Map, meaning}
use Rattle.silt_standing.proofs.Shown.{stands_shown}
use Rattle.silt_store_set.proofs.store_core.Core.entries.Goals as goal

pub returns-in-Ok-clause-entries : goal.returns-in-Ok-clause-entries
returns-in-Ok-clause-entries g c =
    let stands = c.self.invariant.stands c.if-self.false in
    rw (← c.self.view_is) (λ h key. c.in-Ok.ensures.entries (stands_shown (g.D.Disk.content c.self.inside.disk) c.self.inside.engine stands) h key
    ∙ sym (ap (λ (m : Map). get m key.0) ((meaning (g.D.Disk.content c.self.inside.disk) c.self.inside.engine stands).full h)))
