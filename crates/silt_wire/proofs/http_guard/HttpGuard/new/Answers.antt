use Rattle.silt_wire.proofs.Http.{guards_new}
use Rattle.silt_wire.proofs.http_guard.HttpGuard.new.Goals as goal

pub returns : goal.returns
returns g c = guards_new (g.R.Read.remaining c.args.inner)
