-- The commands in the bytes of a client.
use Rattle.std.specs.Prelude.{◌≡◌, ◌≤◌, ◌==◌, ◌+◌, ◌-◌, ℕ, Bool, true, false, nat_le, nat_lt, List, [], ◌∷◌, ◌++◌, All, length, map, filter, sum_by, slice_index, codes, Result, Ok, Err, if◌then◌else◌}
use Rattle.std.specs.Fmt.{decimal}
use Rattle.std.specs.List.{flat_map}
use Rattle.std.specs.Str.{str_eq_ignore_ascii_case}
use Rattle.std.specs.Str.Lines.{strip_carriage_return}
use Rattle.silt_wire.specs.Lines.{words_of}
use Rattle.silt_resp.specs.Heads.{bytes_announced, longest_announced, most_announced, words_announced}
use Rattle.silt_resp.specs.declared.heads.LineKind.{LineKind}
use Rattle.silt_resp.specs.declared.heads.LineKind.TheVariants.{Inline, Count, WordLength}
use Rattle.silt_resp.specs.declared.fault.ProtocolFault.{ProtocolFault}
use Rattle.silt_resp.specs.declared.fault.ProtocolFault.TheVariants.{InlineTooLong, CountTooLong, LengthTooLong, NoCrLf}

-- ---- commands

-- a word of a command: its bytes, or only that it has more than are kept
pub data Word : Type 0 where
  whole : List ℕ → Word
  long : Word

-- a command: its words, or that they are too many, or have too many bytes together; or what is no command
pub data Command : Type 0 where
  complete : List Word → Command
  many_words : Command
  many_bytes : Command
  broken : ProtocolFault → Command

-- the most bytes of a word, bytes of a command and words of a command that are kept
abbrev pub longest_word : ℕ
longest_word = 8192

abbrev pub most_bytes : ℕ
most_bytes = 262144

abbrev pub most_words : ℕ
most_words = 1024

-- the word of these bytes
abbrev pub word_of : List ℕ → Word
word_of bytes = if nat_lt longest_word (length bytes) then long else whole bytes

-- how many bytes of a word are kept
abbrev pub kept_len : Word → ℕ
kept_len (whole bytes) = length bytes
kept_len long = 0

-- the command of these words
abbrev pub command_read : List Word → Command
command_read words =
    if nat_lt most_words (length words) then many_words
    else if nat_lt most_bytes (sum_by kept_len words) then many_bytes
    else complete words

-- whether a command closes the stream: bytes that are no command do, and a `QUIT`
abbrev pub closes : Command → Bool
closes (complete (whole name ∷ words)) = str_eq_ignore_ascii_case name (codes "quit")
closes (broken fault) = true
closes command = false

-- ---- the stream, a byte at a time

-- where a stream is: in a line with these bytes so far; in a word of which so many bytes are due, its end counted; or closed
pub data Place : Type 0 where
  line : List ℕ → Place
  bulk : ℕ → Word → Place
  closed : Place

-- a stream: the words so far of the command in progress, how many are due, and its place; between two commands none is due
pub record Stream : Type 0 where
  pub words : List Word
  pub left : ℕ
  pub place : Place

-- between two commands
abbrev pub start : Stream
start = record { words = []; left = 0; place = line [] }

-- behind a command
abbrev pub next_stream : Command → Stream
next_stream command = record { words = []; left = 0; place = if closes command then closed else line [] }

-- a byte ends no command
abbrev pub goes_on : Stream → Stream × List Command
goes_on s = (s, [])

-- a byte ends a command
abbrev pub ends : Command → Stream × List Command
ends command = (next_stream command, command ∷ [])

-- what a line is, by how many words are due and by its first byte
abbrev pub line_kind : ℕ → List ℕ → LineKind
line_kind left bytes = if nat_lt 0 left then WordLength else if slice_index bytes 0 == 42 then Count else Inline

-- the most bytes of a line, its carriage return counted
abbrev pub line_limit : LineKind → ℕ
line_limit Inline = 16384
line_limit Count = 32
line_limit WordLength = 32

-- what is wrong with a longer one
abbrev pub too_long : LineKind → ProtocolFault
too_long Inline = InlineTooLong
too_long Count = CountTooLong
too_long WordLength = LengthTooLong

-- a line with one more byte
abbrev pub line_grown : Stream → List ℕ → Stream × List Command
line_grown s bytes =
    if nat_lt (line_limit (line_kind s.left bytes)) (length bytes) then ends (broken (too_long (line_kind s.left bytes)))
    else goes_on (record s { place = line bytes })

-- the words among the parts between spaces: those that have bytes
abbrev pub spaced_words : List (List ℕ) → List Word
spaced_words parts = map word_of (filter (λ part. nat_lt 0 (length part)) parts)

-- the words of a command without marks
abbrev pub inline_words : List ℕ → List Word
inline_words bytes = spaced_words (words_of (strip_carriage_return bytes))

-- a command without marks; with no words it is none
abbrev pub inline_ended : List Word → Stream × List Command
inline_ended [] = goes_on start
inline_ended (word ∷ words) = ends (command_read (word ∷ words))

-- a number of words
abbrev pub count_ended : Result ℕ ProtocolFault → Stream × List Command
count_ended (Ok n) = goes_on (record start { left = n })
count_ended (Err fault) = ends (broken fault)

-- the length of a word
abbrev pub length_ended : Stream → Result ℕ ProtocolFault → Stream × List Command
length_ended s (Ok n) = goes_on (record s { place = bulk (n + 2) (if nat_lt longest_word n then long else whole []) })
length_ended s (Err fault) = ends (broken fault)

-- a line with its line feed
abbrev pub line_closed : Stream → List ℕ → LineKind → Stream × List Command
line_closed s bytes Inline = inline_ended (inline_words bytes)
line_closed s bytes Count = count_ended (words_announced bytes)
line_closed s bytes WordLength = length_ended s (bytes_announced bytes)

-- a word with its end
abbrev pub word_ended : Stream → Word → Stream × List Command
word_ended s word =
    if nat_le s.left 1 then ends (command_read (s.words ++ word ∷ []))
    else goes_on (record { words = s.words ++ word ∷ []; left = s.left - 1; place = line [] })

-- a word with one more byte
abbrev pub word_grown : Word → List ℕ → Word
word_grown (whole bytes) more = whole (bytes ++ more)
word_grown long more = long

-- the byte that has to come when so many of a word are due: its end is a carriage return and a line feed
abbrev pub end_byte : ℕ → ℕ
end_byte due = if due == 2 then 13 else 10

-- a byte of a word or of its end
abbrev pub word_taken : Stream → ℕ → Word → ℕ → Stream × List Command
word_taken s due word b =
    if nat_lt 2 due then goes_on (record s { place = bulk (due - 1) (word_grown word (b ∷ [])) })
    else if b == end_byte due then (if due == 2 then goes_on (record s { place = bulk 1 word }) else word_ended s word)
    else ends (broken NoCrLf)

-- what a byte makes of a stream in this place, and the command that it ends, if it ends one
abbrev pub taken_at : Stream → Place → ℕ → Stream × List Command
taken_at s (line bytes) b = if b == 10 then line_closed s bytes (line_kind s.left bytes) else line_grown s (bytes ++ b ∷ [])
taken_at s (bulk due word) b = word_taken s due word b
taken_at s closed b = goes_on s

abbrev pub byte_taken : Stream → ℕ → Stream × List Command
byte_taken s b = taken_at s s.place b

-- the stream behind these bytes
abbrev pub stream_after : Stream → List ℕ → Stream
stream_after s [] = s
stream_after s (b ∷ bytes) = stream_after (byte_taken s b).0 bytes

-- the commands that these bytes end
abbrev pub commands_after : Stream → List ℕ → List Command
commands_after s [] = []
commands_after s (b ∷ bytes) = (byte_taken s b).1 ++ commands_after (byte_taken s b).0 bytes

-- ---- laws

-- how bytes were cut into reads changes nothing
abbrev pub CutLaw : Type 0
CutLaw =
    (s : Stream) (xs ys : List ℕ) → (stream_after s (xs ++ ys) ≡ stream_after (stream_after s xs) ys)
    × (commands_after s (xs ++ ys) ≡ commands_after s xs ++ commands_after (stream_after s xs) ys)

-- a word as a client encodes it
abbrev pub word_bytes : List ℕ → List ℕ
word_bytes word = 36 ∷ (decimal (length word) ++ (13 ∷ 10 ∷ (word ++ 13 ∷ 10 ∷ [])))

-- a command as a client encodes it
abbrev pub command_bytes : List (List ℕ) → List ℕ
command_bytes words = 42 ∷ (decimal (length words) ++ (13 ∷ 10 ∷ flat_map word_bytes words))

-- a command that the protocol can encode
pub record IsEncodable (words : List (List ℕ)) : Type 0 where
  pub some : 1 ≤ length words
  pub most : length words ≤ most_announced
  pub short : All (λ word. length word ≤ longest_announced) words

-- commands up to the first one that closes the stream, that one included
abbrev pub up_to_closing : List Command → List Command
up_to_closing [] = []
up_to_closing (command ∷ commands) = command ∷ (if closes command then [] else up_to_closing commands)

-- the commands that a client encodes are read, up to the one that closes the stream
abbrev pub RespLaw : Type 0
RespLaw =
    (commands : List (List (List ℕ))) → All IsEncodable commands
    → commands_after start (flat_map command_bytes commands) ≡ up_to_closing (map (λ words. command_read (map word_of words)) commands)
