use Rattle.silt_manifest.proofs.BodyBytes.{array_of}
use Rattle.silt_manifest.proofs.ids.IdsPartialEq.eq.Goals as goal

pub returns : goal.returns
returns c =
    let a = array_of c.t1-1.inside.numbers c.t1-1.inside.count c.args.self.now c.t1-1.view_is c.t1-1.invariant in
    let b = array_of c.t2-1.inside.numbers c.t2-1.inside.count c.args.other.now c.t2-1.view_is c.t2-1.invariant in
    rw (a.0, a.1, b.0, b.1, ← c.eq.ensures) c.and_eq.ensures
