use Rattle.silt_server.proofs.Names.{rules}
use Rattle.silt_server.proofs.serve_set.SetServer.servings_of.Goals as goal

pub loop-shard-init : goal.loop-shard-init
loop-shard-init g c = (c.in_ok-servings.ensures.len, search (rules, c.in_ok-servings.ensures.room))
