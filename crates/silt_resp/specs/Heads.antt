-- The lines in front of commands and words: how many words come, and how many bytes a word has.
use Rattle.std.specs.Prelude.{ℕ, ◌==◌, ◌&&◌, ◌-◌, nat_le, List, length, take, drop, slice_index, Option, Some, None, is_some, Result, Ok, Err, if◌then◌else◌}
use Rattle.silt_wire.specs.Numbers.{number_of}
use Rattle.silt_resp.specs.declared.fault.ProtocolFault.{ProtocolFault}
use Rattle.silt_resp.specs.declared.fault.ProtocolFault.TheVariants.{BadCount, BadLength, NoDollar, NoCrLf}

-- the most words and the most bytes of a word that are counted down
abbrev pub most_announced : ℕ
most_announced = 1048576

abbrev pub longest_announced : ℕ
longest_announced = 536870912

-- the line without the carriage return at its end; None if it has none
abbrev pub before_return : List ℕ → Option (List ℕ)
before_return line = if slice_index line (length line - 1) == 13 then Some (take (length line - 1) line) else None

-- a number of at most this much
abbrev pub within : ℕ → Option ℕ → Option ℕ
within most None = None
within most (Some n) = if nat_le n most then Some n else None

-- a number of words; a negative one is none
abbrev pub word_count : List ℕ → Option ℕ
word_count text = if (slice_index text 0 == 45) && is_some (number_of (drop 1 text)) then Some 0 else within most_announced (number_of text)

-- a number, or what is wrong with it
abbrev pub number_or : ProtocolFault → Option ℕ → Result ℕ ProtocolFault
number_or fault None = Err fault
number_or fault (Some n) = Ok n

-- how many words a line announces behind its mark `*`
abbrev pub count_announced : Option (List ℕ) → Result ℕ ProtocolFault
count_announced None = Err NoCrLf
count_announced (Some text) = number_or BadCount (word_count text)

-- how many bytes a line announces behind its mark `$`
abbrev pub length_in : Option (List ℕ) → Result ℕ ProtocolFault
length_in None = Err NoCrLf
length_in (Some text) = number_or BadLength (within longest_announced (number_of text))

-- how many words a line announces
abbrev pub words_announced : List ℕ → Result ℕ ProtocolFault
words_announced line = count_announced (before_return (drop 1 line))

-- how many bytes a line announces, with the mark `$` that it has to have
abbrev pub bytes_announced : List ℕ → Result ℕ ProtocolFault
bytes_announced line = if slice_index line 0 == 36 then length_in (before_return (drop 1 line)) else Err NoDollar
