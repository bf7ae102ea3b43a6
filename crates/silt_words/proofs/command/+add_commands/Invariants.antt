use Rattle.std.proofs.Common.{length}
use Rattle.silt_words.proofs.command.+add_commands.Given as goal

abbrev pub decreases-add_commands : goal.decreases-add_commands
decreases-add_commands l = length l.forms.now
