use Rattle.std.proofs.Common.{length}
use Rattle.silt_words.proofs.command.+add_values.Given as goal

abbrev pub decreases-add_values : goal.decreases-add_values
decreases-add_values l = length l.names.now
