-- Commands in memory: what the buffers of a stream hold of it.
use Rattle.std.specs.Prelude.{◌≡◌, ◌==◌, ◌≤◌, ◌<◌, ◌+◌, ◌-◌, ℕ, Bool, false, List, [], ◌∷◌, All, MatchBool, length, sum_by}
use Rattle.silt_resp.specs.declared.words.Span.{Span}
use Rattle.silt_resp.specs.declared.words.Span.TheVariants.{Whole, Long}
use Rattle.silt_resp.specs.declared.words.Extent.{Extent}
use Rattle.silt_resp.specs.declared.words.Extent.TheVariants.{FitsValues, ManyBytes, ManyWords}
use Rattle.silt_resp.specs.declared.words.WordBuffer.{WordBuffer}
use Rattle.silt_resp.specs.Words.{words_in}
use Rattle.silt_resp.specs.declared.command_buffer.BufferPlace.{BufferPlace}
use Rattle.silt_resp.specs.declared.command_buffer.BufferPlace.TheVariants.{Line, Word, Broken}
use Rattle.silt_resp.specs.declared.command_buffer.CommandBuffer.{CommandBuffer}
use Rattle.silt_resp.specs.Stream.{Word as WordOf, whole, long, kept_len, longest_word, most_bytes, most_words, Command, broken, command_read, Place, line}
use Rattle.silt_resp.specs.Stream.{bulk, Stream, line_kind, line_limit, next_stream, commands_after, stream_after}

-- the bytes of a word are among so many
abbrev pub IsWithin : ℕ → Span → Type 0
IsWithin len (Whole first behind) = (first ≤ behind) × (behind ≤ len)
IsWithin len Long = Unit {0}

-- these are the words, or they are too many, or have too many bytes together
abbrev pub AreKept : Extent → List ℕ → List Span → List WordOf → Type 0
AreKept FitsValues bytes spans words = (words_in bytes spans ≡ words) × All (IsWithin (length bytes)) spans × (sum_by kept_len words ≡ length bytes)
AreKept ManyBytes bytes spans words = (length spans ≡ length words) × (most_bytes < sum_by kept_len words)
AreKept ManyWords bytes spans words = (length spans ≡ most_words) × (most_words < length words)

-- bounded memory holds the words as far as they are kept
pub record HoldsWith (extent : Extent) (bytes : List ℕ) (spans : List Span) (words : List WordOf) : Type 0 where
  pub few_bytes : length bytes ≤ most_bytes
  pub few_spans : length spans ≤ most_words
  pub kept : AreKept extent bytes spans words

abbrev pub HoldsWords : WordBuffer → List WordOf → Type 0
HoldsWords buffer words = HoldsWith buffer.extent buffer.bytes.items buffer.spans.items words

-- ---- the stream

-- none of these bytes is a line feed
abbrev pub NoFeed : List ℕ → Type 0
NoFeed [] = Unit {0}
NoFeed (b ∷ bytes) = ((b == 10) ≡ false) × NoFeed bytes

-- these are the bytes of a word so far, and so many are due, its end counted; or it is too long to be kept
abbrev pub IsPiece : Bool → ℕ → List ℕ → WordOf → Type 0
IsPiece is_long due piece word = MatchBool is_long ((word ≡ long) × (piece ≡ [])) ((word ≡ whole piece) × (length piece + (due - 2) ≤ longest_word))

-- the buffer is at this place, where so many words are due
abbrev pub HoldsStreamPlace : ℕ → BufferPlace → List ℕ → Place → Type 0
HoldsStreamPlace left Line piece (line bytes) = (bytes ≡ piece) × (length piece ≤ line_limit (line_kind left piece))
HoldsStreamPlace left (Word due is_long) piece (bulk d word) = (d ≡ due) × IsPiece is_long due piece word
HoldsStreamPlace left place piece at = ⊥

-- bounded memory holds a stream that is not closed
pub record HoldsStream (buffer : CommandBuffer) (s : Stream) : Type 0 where
  pub words : HoldsWords buffer.words s.words
  pub left : buffer.left ≡ s.left
  pub place : HoldsStreamPlace s.left buffer.place buffer.piece.items s.place

-- the buffer holds a command that has ended
abbrev pub HoldsEnded : BufferPlace → WordBuffer → Command → Type 0
HoldsEnded (Broken fault) buffer command = command ≡ broken fault
HoldsEnded place buffer command = (words : List WordOf) × HoldsWords buffer words × (command ≡ command_read words)

abbrev pub HoldsCommand : CommandBuffer → Command → Type 0
HoldsCommand buffer command = HoldsEnded buffer.place buffer.words command

-- These bytes were taken of a stream. Either the last one ends a command and no other does, and the buffer has it; or they end none.
abbrev pub TakesInput : Stream → List ℕ → Bool → CommandBuffer → Type 0
TakesInput s bytes ends buffer =
    MatchBool ends ((command : Command) × HoldsCommand buffer command × (commands_after s bytes ≡ command ∷ []) × (stream_after s bytes ≡ next_stream command))
    (HoldsStream buffer (stream_after s bytes) × (commands_after s bytes ≡ []))
