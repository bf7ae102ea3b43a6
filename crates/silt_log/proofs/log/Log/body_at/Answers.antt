use Rattle.silt_log.proofs.Exits.{body_inside}
use Rattle.silt_log.proofs.log.Log.body_at.Goals as goal

pub returns-clause-fits : goal.returns-clause-fits
returns-clause-fits c =
    let place = rw (← c.self.view_is) at c.requires in
    rw (← c.self.view_is, c.from.ensures, c.row_len.ensures.value, c.bodies_at.ensures.value) (body_inside c.self.inside.geometry _ c.args.place c.bodies_at.ensures.fits place)
