use Rattle.silt_hasher.proofs.Compressing.{no_round}
use Rattle.silt_hasher.proofs.compress.all_rounds.Goals as goal

pub choosing-init : goal.choosing-init
choosing-init c = no_round c.args.value.now c.args.words.now
