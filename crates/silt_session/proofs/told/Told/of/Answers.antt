use Rattle.silt_session.proofs.Common.{arith, refl}
use Rattle.silt_session.proofs.Tolds.{view_named, view_told}
use Rattle.silt_session.proofs.told.Told.of.Goals as goal

pub invariant_of-result : goal.invariant_of-result
invariant_of-result g c = (view_named g.T.Trace c.args.trace.now c.view.result c.view.ensures, omega arith)

pub returns-clause-all : goal.returns-clause-all
returns-clause-all g c = record { from = refl; next = refl; calls = view_told g.T.Trace c.args.trace.now c.view.result c.view.ensures }
