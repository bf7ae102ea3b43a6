-- What runs of bytes make of a stream.
use Rattle.std.proofs.lemmas.Bool.{eqb-true, le-ltb, lt-ltb}
use Rattle.silt_resp.proofs.Common.{inl, inr, ap, ◌≡◌, ◌<◌, ◌≤◌, ◌+◌, ◌-◌, ◌==◌, ℕ, suc, true, false, List, [], ◌∷◌, ◌++◌, length, take, get_or, Some, None, refl, ◌∙◌, append_assoc, arith, nat_lt}
use Rattle.silt_resp.proofs.Common.{cases_lt, length-take-le, Command, Stream, broken, bulk, byte_taken, closed, commands_after, goes_on, line, line_kind, line_limit, long, stream_after, too_long}
use Rattle.silt_resp.proofs.Common.{whole, word_grown, NoFeed}
use Rattle.std.specs.List.{position}
use Rattle.std.proofs.lemmas.List.{append-nil, get_or-take, length-append, take_more}
use Rattle.std.proofs.lemmas.List.Quantifiers.{position-Some}
use Rattle.std.proofs.lemmas.List.Sums.{fails_before_first}
use Rattle.silt_resp.specs.Stream.{Word, ends}
use Rattle.silt_resp.proofs.Streams.{commands_after-append, stream_after-append}

-- these bytes take one stream to the other, and end these commands
pub record Goes (s : Stream) (bytes : List ℕ) (t : Stream) (commands : List Command) : Type 0 where
  pub stream : stream_after s bytes ≡ t
  pub commands_are : commands_after s bytes ≡ commands

pub Goes-none : (s : Stream) → Goes s [] s []
Goes-none s = record { stream = refl; commands_are = refl }

-- one byte
pub Goes-byte : (s : Stream) (b : ℕ) (t : Stream) (commands : List Command) → byte_taken s b ≡ (t, commands) → Goes s (b ∷ []) t commands
Goes-byte s b t commands e = record { stream = ap (λ p. p.0) e; commands_are = append-nil (byte_taken s b).1 ∙ ap (λ p. p.1) e }

-- one run of bytes and then another
pub Goes-append : {s t u : Stream} {xs ys : List ℕ} {cs ds : List Command} → Goes s xs t cs → Goes t ys u ds → Goes s (xs ++ ys) u (cs ++ ds)
Goes-append {s} {t} {u} {xs} {ys} {cs} {ds} h k =
    record { stream = cc (stream_after-append s xs ys, h.stream, k.stream); commands_are = cc (commands_after-append s xs ys, h.commands_are, h.stream, k.commands_are) }

-- the first byte, and then the others
pub Goes-cons : (s : Stream) (b : ℕ) (bytes : List ℕ) (t u : Stream) (cs ds : List Command) → byte_taken s b ≡ (t, cs) → Goes t bytes u ds → Goes s (b ∷ bytes) u (cs ++ ds)
Goes-cons s b bytes t u cs ds e h = Goes-append (Goes-byte s b t cs e) h

-- ---- places

abbrev pub at_line : List Word → ℕ → List ℕ → Stream
at_line words left bytes = record { words = words; left = left; place = line bytes }

abbrev pub at_word : List Word → ℕ → ℕ → Word → Stream
at_word words left due word = record { words = words; left = left; place = bulk due word }

abbrev pub at_end : List Word → ℕ → Stream
at_end words left = record { words = words; left = left; place = closed }

-- a closed stream takes all bytes
pub closed_run : (words : List Word) (left : ℕ) (xs : List ℕ) → Goes (at_end words left) xs (at_end words left) []
closed_run words left [] = Goes-none (at_end words left)
closed_run words left (x ∷ xs) = search (arith, closed_run words left xs, Goes-cons)

-- ---- lines

no_feed-places : (xs : List ℕ) → ((k : ℕ) → k < length xs → (get_or xs k 0 == 10) ≡ false) → NoFeed xs
no_feed-places [] h = tt
no_feed-places (x ∷ xs) h = (h 0 (omega arith), no_feed-places xs (λ k lt. h (suc k) (omega arith)))

-- if the search finds no line feed there is none
pub NoFeed-none : (xs : List ℕ) → position (λ b. b == 10) xs ≡ None → NoFeed xs
NoFeed-none xs e = search (arith, no_feed-places, fails_before_first)

-- before the first line feed there is none
pub NoFeed-before : (xs : List ℕ) (at : ℕ) → position (λ b. b == 10) xs ≡ Some at → NoFeed (take at xs)
NoFeed-before xs at e =
    let first = position-Some (λ (b : ℕ). b == 10) xs at 0 e in
    no_feed-places (take at xs) (λ k lt. let below : k < at = omega (arith, length-take-le at xs, first.0) in rw (get_or-take at xs k 0 below) (first.2 k below))

-- the bytes up to the first line feed, with it
pub upto_feed : (xs : List ℕ) (at : ℕ) → position (λ b. b == 10) xs ≡ Some at → (at < length xs) × (take (at + 1) xs ≡ take at xs ++ 10 ∷ [])
upto_feed xs at e =
    let first = position-Some (λ (b : ℕ). b == 10) xs at 0 e in
    (first.0, take_more xs at 0 first.0 ∙ ap (λ x. take at xs ++ x ∷ []) (eqb-true (get_or xs at 0) 10 first.1))

-- the first byte says what a line is
pub line_kind-first : (left x : ℕ) (bytes more : List ℕ) → line_kind left (bytes ++ x ∷ more) ≡ line_kind left (bytes ++ x ∷ [])
line_kind-first left x [] more = refl
line_kind-first left x (b ∷ bytes) more = refl

-- one byte more
line_step : (words : List Word) (left : ℕ) (bytes : List ℕ) (x : ℕ) → (x == 10) ≡ false → nat_lt (line_limit (line_kind left (bytes ++ x ∷ []))) (length (bytes ++ x ∷ [])) ≡ false
    → byte_taken (at_line words left bytes) x ≡ goes_on (at_line words left (bytes ++ x ∷ []))
line_step words left bytes x other short = search arith

-- one byte too many
line_burst : (words : List Word) (left : ℕ) (bytes : List ℕ) (x : ℕ) → (x == 10) ≡ false → nat_lt (line_limit (line_kind left (bytes ++ x ∷ []))) (length (bytes ++ x ∷ [])) ≡ true
    → byte_taken (at_line words left bytes) x ≡ ends (broken (too_long (line_kind left (bytes ++ x ∷ []))))
line_burst words left bytes x other over = search arith

-- bytes of a line that does not get too long
pub line_run : (words : List Word) (left : ℕ) (bytes xs : List ℕ) → NoFeed xs → length (bytes ++ xs) ≤ line_limit (line_kind left (bytes ++ xs))
    → Goes (at_line words left bytes) xs (at_line words left (bytes ++ xs)) []
line_run words left bytes [] none short = search (arith, append-nil, Goes-none)
line_run words left bytes (x ∷ xs) none short = search (arith, line_run words left (bytes ++ x ∷ []) xs, append_assoc, line_kind-first, length-append, line_step, le-ltb, Goes-cons)

-- bytes of a line that gets too long
pub line_over : (words : List Word) (left : ℕ) (bytes xs : List ℕ) → NoFeed xs → length bytes ≤ line_limit (line_kind left (bytes ++ xs))
    → line_limit (line_kind left (bytes ++ xs)) < length (bytes ++ xs) → Goes (at_line words left bytes) xs (at_end [] 0) (broken (too_long (line_kind left (bytes ++ xs))) ∷ [])
line_over words left bytes [] none short over = search (arith, append-nil)
line_over words left bytes (x ∷ xs) none short over =
    let more = bytes ++ x ∷ [] in
    let same : more ++ xs ≡ bytes ++ x ∷ xs = append_assoc bytes (x ∷ []) xs in
    let kind = line_kind-first left x bytes xs in
    let s = at_line words left bytes in
    elim (cases_lt (line_limit (line_kind left more)) (length more)) [
      | inl below ↦ rw kind (Goes-cons s x xs (at_end [] 0) (at_end [] 0) _ [] (line_burst words left bytes x none.0 (lt-ltb (line_limit (line_kind left more)) (length
          more) below)) (closed_run [] 0 xs))
      | inr within ↦
          let step = line_step words left bytes x none.0 (le-ltb (line_limit (line_kind left more)) (length more) within) in
          let fits : length more ≤ line_limit (line_kind left (more ++ xs)) = rw (same, kind) within in
          rw (← same) (Goes-cons s x xs (at_line words left more) (at_end [] 0) [] _ step (line_over words left more xs none.1 fits (rw same over)))
    ]

-- ---- words

word_grown-none : (word : Word) → word_grown word [] ≡ word
word_grown-none (whole bytes) = ap (λ t. whole t) (append-nil bytes)
word_grown-none long = refl

word_grown-cons : (word : Word) (x : ℕ) (xs : List ℕ) → word_grown (word_grown word (x ∷ [])) xs ≡ word_grown word (x ∷ xs)
word_grown-cons (whole bytes) x xs = ap (λ t. whole t) (append_assoc bytes (x ∷ []) xs)
word_grown-cons long x xs = refl

-- bytes of a word in front of its end
pub word_run : (words : List Word) (left due : ℕ) (word : Word) (xs : List ℕ) → length xs + 2 ≤ due
    → Goes (at_word words left due word) xs (at_word words left (due - length xs) (word_grown word xs)) []
word_run words left due word [] room = search (arith, word_grown-none, Goes-none)
word_run words left due word (x ∷ xs) room = search (arith, word_run words left (due - 1) (word_grown word (x ∷ [])) xs, lt-ltb, word_grown-cons, Goes-cons)
