-- What a command buffer took of a stream.
use Rattle.std.proofs.lemmas.Bool.{le-leb, lt-leb}
use Rattle.silt_resp.proofs.Common.{◌≡◌, ◌<◌, ◌≤◌, ◌+◌, ◌-◌, ◌==◌, ℕ, Bool, not, true, false, List, [], ◌∷◌, ◌++◌, length, take, drop, refl, sym, ap, subst, ◌∙◌, arith, if◌then◌else◌, take-add}
use Rattle.silt_resp.proofs.Common.{Line, Broken, CommandBuffer, ProtocolFault, WordLength, HoldsStream, HoldsWords, IsPiece, NoFeed, TakesInput, Command, Stream, broken, bulk, byte_taken, closed}
use Rattle.silt_resp.proofs.Common.{inline_words, line, line_kind, line_limit, next_stream, stream_after, too_long, word_ended, word_grown}
use Rattle.std.proofs.lemmas.List.{length-append}
use Rattle.silt_resp.specs.declared.command_buffer.BufferPlace.TheVariants.{Word}
use Rattle.silt_resp.specs.declared.heads.LineKind.{LineKind}
use Rattle.silt_resp.specs.declared.heads.LineKind.TheVariants.{Inline}
use Rattle.silt_resp.specs.Buffers.{HoldsCommand, HoldsStreamPlace}
use Rattle.silt_resp.specs.Stream.{Place, Word as WordOf, inline_ended, line_closed}
use Rattle.silt_resp.proofs.Runs.{Goes, Goes-byte, at_end, at_line, at_word, closed_run, line_over, line_run, word_run}
use Rattle.silt_resp.proofs.Streams.{commands_after-append, stream_after-append}

-- bytes that end no command
pub takes_on : (s t : Stream) (bytes : List ℕ) (buffer : CommandBuffer) → Goes s bytes t [] → HoldsStream buffer t → TakesInput s bytes false buffer
takes_on s t bytes buffer goes holds = (subst (λ u. HoldsStream buffer u) (sym goes.stream) holds, goes.commands_are)

-- bytes that end a command
pub takes_command : (s : Stream) (bytes : List ℕ) (command : Command) (buffer : CommandBuffer) → Goes s bytes (next_stream command) (command ∷ []) → HoldsCommand buffer command
    → TakesInput s bytes true buffer
takes_command s bytes command buffer goes holds = (command, holds, goes.commands_are, goes.stream)

-- bytes in two parts
pub takes_more : (s : Stream) (xs ys : List ℕ) (ended : Bool) (mid buffer : CommandBuffer) → TakesInput s xs false mid → ((t : Stream) → HoldsStream mid t → TakesInput t ys ended buffer)
    → TakesInput s (xs ++ ys) ended buffer
takes_more s xs ys ended mid buffer h more = search (arith, commands_after-append, stream_after-append)

-- some bytes more of the same ones
pub takes_part : (s : Stream) (bytes rest : List ℕ) (done count : ℕ) (ended : Bool) (mid buffer : CommandBuffer) → TakesInput s (take done bytes) false mid → rest ≡ drop done bytes
    → ((t : Stream) → HoldsStream mid t → TakesInput t (take count rest) ended buffer) → TakesInput s (take (done + count) bytes) ended buffer
takes_part s bytes rest done count ended mid buffer h is more = rw (take-add done count bytes) (search (arith, takes_more))

-- behind bytes that begin no command others change nothing
pub takes_behind : (s : Stream) (xs ys : List ℕ) (fault : ProtocolFault) (buffer : CommandBuffer) → buffer.place ≡ Broken fault → TakesInput s xs true buffer → TakesInput s (xs ++ ys) true buffer
takes_behind s xs ys fault buffer is h =
    let broke : h.0 ≡ broken fault = rw is at h.1 in
    let rest = closed_run [] 0 ys in
    let t : stream_after s xs ≡ at_end [] 0 = cc (h.3) in (h.0, h.1, cc (commands_after-append s xs ys, rest.commands_are, h.2), cc (stream_after-append s xs ys, rest.stream))

-- ---- lines

line_place : (left : ℕ) (piece : List ℕ) (at : Place) → HoldsStreamPlace left Line piece at → (at ≡ line piece) × (length piece ≤ line_limit (line_kind left piece))
line_place left piece (line bytes) h = (ap (λ t. line t) h.0, h.1)
line_place left piece (bulk d word) h = absurd h
line_place left piece closed h = absurd h

-- a buffer in a line holds a stream in this line
pub line_held : (b : CommandBuffer) (s : Stream) → b.place ≡ Line → HoldsStream b s
    → (s ≡ at_line s.words s.left b.piece.items) × (length b.piece.items ≤ line_limit (line_kind s.left b.piece.items))
line_held b s is h = search (arith, line_place)

limit-more : (left : ℕ) (piece xs : List ℕ) → length piece ≤ line_limit (line_kind left piece) → length piece ≤ line_limit (line_kind left (piece ++ xs))
limit-more left [] xs h = omega arith
limit-more left (b ∷ bytes) xs h = h

-- a line that gets too long
pub takes_over : (old new : CommandBuffer) (s : Stream) (xs : List ℕ) (kind : LineKind) → old.place ≡ Line → HoldsStream old s → NoFeed xs → kind ≡ line_kind old.left (old.piece.items ++ xs)
    → line_limit kind < length old.piece.items + length xs → new.place ≡ Broken (too_long kind) → TakesInput s xs true new
takes_over old new s xs kind is h none e over broke =
    let held = line_held old s is h in
    let piece = old.piece.items in
    let same : kind ≡ line_kind s.left (piece ++ xs) = cc (h.left) in
    let longer : line_limit (line_kind s.left (piece ++ xs)) < length (piece ++ xs) = rw (← same) (omega (arith, length-append piece xs)) in
    let goes = line_over s.words s.left piece xs none (limit-more s.left piece xs held.1) longer in
    takes_command s xs (broken (too_long kind)) new (rw (held.0, same) goes) (rw broke refl)

-- a line that does not
pub takes_line : (old new : CommandBuffer) (s : Stream) (xs : List ℕ) (kind : LineKind) → old.place ≡ Line → HoldsStream old s → NoFeed xs → kind ≡ line_kind old.left (old.piece.items ++ xs)
    → length old.piece.items + length xs ≤ line_limit kind → new.words ≡ old.words → new.left ≡ old.left → new.place ≡ Line → new.piece.items ≡ old.piece.items ++ xs → TakesInput s xs false new
takes_line old new s xs kind is h none e short words left place piece =
    let held = line_held old s is h in
    let bytes = old.piece.items in
    let same : kind ≡ line_kind s.left (bytes ++ xs) = cc (h.left) in
    let fits : length (bytes ++ xs) ≤ line_limit (line_kind s.left (bytes ++ xs)) = rw (← same) (omega (arith, length-append bytes xs)) in
    takes_on s (at_line s.words s.left (bytes ++ xs)) xs new (rw held.0 (line_run s.words s.left bytes xs none fits))
    (record { words = rw words h.words; left = left ∙ h.left; place = rw (place, piece) (refl, fits) })

-- the line feed of a line
feed_taken : (s : Stream) (piece : List ℕ) (kind : LineKind) → s ≡ at_line s.words s.left piece → line_kind s.left piece ≡ kind
    → byte_taken s 10 ≡ line_closed (at_line s.words s.left piece) piece kind
feed_taken s piece kind is e = ap (λ t. byte_taken t 10) is ∙ ap (line_closed (at_line s.words s.left piece) piece) e

-- only a line in front of a command has no mark
not_due : (left : ℕ) (bytes : List ℕ) (kind : LineKind) → line_kind left bytes ≡ kind → (kind ≡ WordLength → ⊥) → left ≡ 0
not_due left bytes kind e other = search arith

-- a buffer at the start of a line
holds_line : (buffer : CommandBuffer) (words : List WordOf) (left : ℕ) → HoldsWords buffer.words words → buffer.left ≡ left → buffer.place ≡ Line → buffer.piece.items ≡ []
    → HoldsStream buffer (at_line words left [])
holds_line buffer words left holds due place piece = record { words = holds; left = due; place = rw (place, piece) (refl, omega arith) }

inline_cases : (new : CommandBuffer) (s : Stream) (ended : Bool) (words : List WordOf) → byte_taken s 10 ≡ inline_ended words → HoldsWords new.words words → new.left ≡ 0 → new.place ≡ Line
    → new.piece.items ≡ [] → ended ≡ not (length words == 0) → TakesInput s (10 ∷ []) ended new
inline_cases new s ended words step holds left place piece told = search (arith, takes_on, Goes-byte, holds_line, takes_command)

-- a command without marks
pub takes_inline : (old new : CommandBuffer) (s : Stream) (ended : Bool) (words : List WordOf) → old.place ≡ Line → HoldsStream old s → line_kind old.left old.piece.items ≡ Inline
    → words ≡ inline_words old.piece.items → HoldsWords new.words words → new.left ≡ old.left → new.place ≡ Line → new.piece.items ≡ [] → ended ≡ not (length words == 0)
    → TakesInput s (10 ∷ []) ended new
takes_inline old new s ended words is h kind are holds left place piece told =
    let held = line_held old s is h in
    let taken = feed_taken s old.piece.items Inline held.0 (rw (← h.left) kind) in
    let none : old.left ≡ 0 = not_due old.left old.piece.items Inline kind (λ e. absurd (cc)) in
    inline_cases new s ended words (rw are taken) holds (left ∙ none) place piece told

-- ---- words

word_place : (left due : ℕ) (is_long : Bool) (piece : List ℕ) (at : Place) → HoldsStreamPlace left (Word due is_long) piece at
    → (word : WordOf) × (at ≡ bulk due word) × IsPiece is_long due piece word
word_place left due is_long piece at h = search arith

-- a buffer in a word holds a stream in this word
pub word_held : (b : CommandBuffer) (s : Stream) (due : ℕ) (is_long : Bool) → b.place ≡ Word due is_long → HoldsStream b s
    → (word : WordOf) × (s ≡ at_word s.words s.left due word) × IsPiece is_long due b.piece.items word
word_held b s due is_long is h = search (arith, word_place)

-- a word with more bytes
more_word : (is_long : Bool) (word : WordOf) (piece xs : List ℕ) (due count : ℕ) → count ≡ length xs → count + 2 ≤ due → IsPiece is_long due piece word
    → IsPiece is_long (due - count) (if is_long then piece else piece ++ xs) (word_grown word xs)
more_word is_long word piece xs due count size room h = search (arith, length-append)

piece_of : (is_long : Bool) (word : WordOf) (piece : List ℕ) (due : ℕ) → IsPiece is_long due piece word → IsPiece is_long 0 piece word
piece_of true word piece due h = h
piece_of false word piece due h = (h.0, (let fits = h.1 in omega (arith, fits)))

feed_ends : (words : List WordOf) (left due : ℕ) (word : WordOf) → due < 2 → byte_taken (at_word words left due word) 10 ≡ word_ended (at_word words left due word) word
feed_ends words left due word small = search arith

-- the bytes in front of a word's end
pub takes_run : (old new : CommandBuffer) (s : Stream) (due count : ℕ) (is_long : Bool) (xs : List ℕ) → old.place ≡ Word due is_long → HoldsStream old s → count ≡ length xs → count + 2 ≤ due
    → new.words ≡ old.words → new.left ≡ old.left → new.place ≡ Word (due - count) is_long → new.piece.items ≡ (if is_long then old.piece.items else old.piece.items ++ xs)
    → TakesInput s xs false new
takes_run old new s due count is_long xs is h size room words left place piece =
    let held = word_held old s due is_long is h in
    let next = at_word s.words s.left (due - length xs) (word_grown held.0 xs) in
    takes_on s next xs new (rw (← held.1) at (word_run s.words s.left due held.0 xs (omega arith))) (search (arith, more_word))

-- the line feed behind a word
pub word_feed : (old : CommandBuffer) (s : Stream) (due : ℕ) (is_long : Bool) → old.place ≡ Word due is_long → due < 2 → HoldsStream old s
    → (word : WordOf) × IsPiece is_long 0 old.piece.items word × (byte_taken s 10 ≡ word_ended s word)
word_feed old s due is_long is small h = search (arith, word_held, piece_of, feed_ends)

-- the last word of a command
pub takes_last : (old new : CommandBuffer) (s : Stream) (word : WordOf) → HoldsStream old s → byte_taken s 10 ≡ word_ended s word → HoldsWords new.words (s.words ++ word ∷ []) → old.left ≤ 1
    → new.place ≡ Line → TakesInput s (10 ∷ []) true new
takes_last old new s word h step holds last place = search (arith, le-leb, takes_command, Goes-byte)

-- another word
pub takes_word : (old new : CommandBuffer) (s : Stream) (word : WordOf) → HoldsStream old s → byte_taken s 10 ≡ word_ended s word → HoldsWords new.words (s.words ++ word ∷ []) → 1 < old.left
    → new.left ≡ old.left - 1 → new.place ≡ Line → new.piece.items ≡ [] → TakesInput s (10 ∷ []) false new
takes_word old new s word h step holds more left place piece = search (arith, lt-leb, takes_on, Goes-byte, holds_line)
