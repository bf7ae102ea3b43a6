use Rattle.std.proofs.Common.{length}
use Rattle.silt_words.proofs.command.+add_choices.Given as goal

abbrev pub decreases-add_choices : goal.decreases-add_choices
decreases-add_choices l = length l.choices.now
