-- The commands of a stream, and what they ask for, as values of the code.
use Rattle.silt_resp.specs.declared.command.Command.{Command}
use Rattle.silt_resp.specs.declared.command.Command.TheVariants.{Complete, ManyWords, ManyBytes, Broken}
use Rattle.silt_resp.specs.declared.command.Word.{Word}
use Rattle.silt_resp.specs.declared.command.Word.TheVariants.{Whole, Long}
use Rattle.silt_resp.specs.declared.asked.Asked.{Asked}
use Rattle.silt_resp.specs.declared.asked.Asked.TheVariants.{Text, Events, Admin}
use Rattle.silt_resp.specs.Commands.{Asked as AskedOf, asks, asks_admin, says}
use Rattle.silt_resp.specs.Stream.{Command as CommandOf, Word as WordOf, broken, complete, long, many_bytes, many_words, whole}

-- the word that this is
abbrev pub word_seen : Word → WordOf
word_seen (Whole bytes) = whole bytes.now
word_seen Long = long

-- the command that this is
abbrev pub command_seen : Command → CommandOf
command_seen (Complete words) = complete words
command_seen ManyWords = many_words
command_seen ManyBytes = many_bytes
command_seen (Broken fault) = broken fault

-- what is asked for
abbrev pub asked_seen : Asked → AskedOf
asked_seen (Text text) = says text.items
asked_seen (Events events form) = asks events.items form
asked_seen (Admin tail) = asks_admin tail
