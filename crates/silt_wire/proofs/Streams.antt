-- Taking bytes in two parts is taking them at once.
use Rattle.silt_wire.proofs.Common.{eqb-true, ◌≡◌, ◌==◌, ◌+◌, ◌<◌, take, get_or, ℕ, suc, true, false, cond, List, [], ◌∷◌, ◌++◌, length, refl, sym, ap, subst, ◌∙◌, append_assoc, arith, Option}
use Rattle.silt_wire.proofs.Common.{Some, None, position, take_all, take_more, append-nil, length-take-le, fails_before_first, Appends, Consumes, Keeps, HoldsBytes, LineBuffer, lines_after}
use Rattle.silt_wire.proofs.Common.{rest_after, MatchBool, get_or-take, TakesPiece}
use Rattle.std.proofs.lemmas.List.Quantifiers.{position-Some}
use Rattle.silt_wire.specs.declared.line_buffer.Taken.{Taken}

-- what is pending after two parts
pub rest_after-append : (p xs ys : List ℕ) → rest_after p (xs ++ ys) ≡ rest_after (rest_after p xs) ys
rest_after-append p [] ys = refl
rest_after-append p (x ∷ xs) ys = search (arith, rest_after-append [] xs ys, rest_after-append (p ++ x ∷ []) xs ys)

-- lines are divided in two parts as at once
pub lines_after-append : (p xs ys : List ℕ) → lines_after p (xs ++ ys) ≡ lines_after p xs ++ lines_after (rest_after p xs) ys
lines_after-append p [] ys = refl
lines_after-append p (x ∷ xs) ys = search (arith, lines_after-append [] xs ys, lines_after-append (p ++ x ∷ []) xs ys)

-- what is appended twice is appended at once
pub Appends-append : (a b c : Option (List ℕ)) (xs ys : List ℕ) → Appends a b xs → Appends b c ys → Appends a c (xs ++ ys)
Appends-append a b c xs ys h k = search (arith, append_assoc)

-- what is kept was appended
pub Appends-keeps : (a b c : Option (List ℕ)) (xs : List ℕ) → Appends a b xs → Keeps b c → Appends a c xs
Appends-keeps a b c xs h k = search arith

pub Appends-none : (w : Option (List ℕ)) → Appends w w []
Appends-none None = tt
Appends-none (Some xs) = sym (append-nil xs)

pub Consumes-append : (a b c : Option (List ℕ)) (xs ys : List ℕ) → Consumes a b xs → Consumes b c ys → Consumes a c (xs ++ ys)
Consumes-append a b c xs ys h k = search (arith, append_assoc)

pub Consumes-keeps : (a b c : Option (List ℕ)) (xs : List ℕ) → Consumes a b xs → Keeps b c → Consumes a c xs
Consumes-keeps a b c xs h k = search arith

-- ---- up to the first line feed

-- none of these bytes is a line feed
abbrev EndNone : List ℕ → Type 0
EndNone bytes = (k : ℕ) → k < length bytes → (get_or bytes k 0 == 10) ≡ false

-- nor is one of those after the first
EndNone-rest : (x : ℕ) (xs : List ℕ) → EndNone (x ∷ xs) → EndNone xs
EndNone-rest x xs h = λ k lt. h (suc k) (omega arith)

-- then they end no line
lines_after-none : (p bytes : List ℕ) → EndNone bytes → lines_after p bytes ≡ []
lines_after-none p [] h = refl
lines_after-none p (x ∷ xs) h =
    subst (λ b. cond b (p ∷ lines_after [] xs) (lines_after (p ++ x ∷ []) xs) ≡ []) (sym (h 0 (omega arith))) (lines_after-none (p ++ x ∷ []) xs (EndNone-rest x xs h))

rest_after-none : (p bytes : List ℕ) → EndNone bytes → rest_after p bytes ≡ p ++ bytes
rest_after-none p [] h = sym (append-nil p)
rest_after-none p (x ∷ xs) h =
    subst (λ b. cond b (rest_after [] xs) (rest_after (p ++ x ∷ []) xs) ≡ p ++ x ∷ xs) (sym (h 0 (omega arith))) (rest_after-none (p ++ x ∷ []) xs (EndNone-rest
    x xs h) ∙ append_assoc p (x ∷ []) xs)

-- if the search finds no line feed there is none
EndNone-position : (bytes : List ℕ) → position (λ b. b == 10) bytes ≡ None → EndNone bytes
EndNone-position bytes e = search (arith, fails_before_first)

-- before the first line feed there is none
EndNone-before : (bytes : List ℕ) (at : ℕ) → position (λ b. b == 10) bytes ≡ Some at → EndNone (take at bytes)
EndNone-before bytes at e = λ k lt.
    let found = position-Some (λ (b : ℕ). b == 10) bytes at 0 e in
    search (arith, length-take-le, get_or-take, found.2)

-- the bytes up to the first line feed, with it
upto-first : (bytes : List ℕ) (at : ℕ) → position (λ b. b == 10) bytes ≡ Some at → take (at + 1) bytes ≡ take at bytes ++ 10 ∷ []
upto-first bytes at e =
    let found = position-Some (λ (b : ℕ). b == 10) bytes at 0 e in
    take_more bytes at 0 found.0 ∙ ap (λ x. take at bytes ++ x ∷ []) (eqb-true (get_or bytes at 0) 10 found.1)

-- the first line feed ends the line in progress, and no other
pub lines_after-first : (p bytes : List ℕ) (at : ℕ) → position (λ b. b == 10) bytes ≡ Some at → lines_after p (take (at + 1) bytes) ≡ (p ++ take at bytes) ∷ []
lines_after-first p bytes at e = search (arith, EndNone-before, upto-first, lines_after-append, lines_after-none, rest_after-none)

pub rest_after-first : (p bytes : List ℕ) (at : ℕ) → position (λ b. b == 10) bytes ≡ Some at → rest_after p (take (at + 1) bytes) ≡ []
rest_after-first p bytes at e = ap (rest_after p) (upto-first bytes at e) ∙ rest_after-append p (take at bytes) (10 ∷ [])

-- if there is no line feed no line ends
pub lines_after-unended : (p bytes : List ℕ) → position (λ b. b == 10) bytes ≡ None → lines_after p bytes ≡ []
lines_after-unended p bytes e = lines_after-none p bytes (EndNone-position bytes e)

pub rest_after-unended : (p bytes : List ℕ) → position (λ b. b == 10) bytes ≡ None → rest_after p bytes ≡ p ++ bytes
rest_after-unended p bytes e = rest_after-none p bytes (EndNone-position bytes e)

-- ---- what a line buffer took

-- the first line feed ended the line, and the buffer has it
pub taken-line : (begun bytes : List ℕ) (at : ℕ) (front : List ℕ) (pending : LineBuffer) → position (λ b. b == 10) bytes ≡ Some at → front ≡ take at bytes → HoldsBytes pending (begun ++ front)
    → TakesPiece begun bytes (record { count = at + 1; ends_line = true }) pending
taken-line begun bytes at front pending e is h = search (arith, lines_after-first, rest_after-first)

-- no line ended
pub taken-rest : (begun bytes : List ℕ) (pending : LineBuffer) → position (λ b. b == 10) bytes ≡ None → HoldsBytes pending (begun ++ bytes)
    → TakesPiece begun bytes (record { count = length bytes; ends_line = false }) pending
taken-rest begun bytes pending e h = search (arith, take_all, rest_after-unended, lines_after-unended)

-- the line that was ended, and that no other was
pub piece-line : (begun bytes : List ℕ) (taken : Taken) (pending : LineBuffer) → taken.ends_line ≡ true → TakesPiece begun bytes taken pending
    → (line : List ℕ) × HoldsBytes pending line × (lines_after begun (take taken.count bytes) ≡ line ∷ [])
piece-line begun bytes taken pending e h = search arith

-- no line is in progress after it
pub piece-over : (begun bytes : List ℕ) (taken : Taken) (pending : LineBuffer) → taken.ends_line ≡ true → TakesPiece begun bytes taken pending
    → rest_after begun (take taken.count bytes) ≡ []
piece-over begun bytes taken pending e h = subst (λ b. MatchBool b (rest_after begun (take taken.count bytes) ≡ []) (taken.count ≡ length bytes)) e h.rest

-- if no line was ended there was no line feed, and the buffer has all bytes
pub piece-open : (begun bytes : List ℕ) (taken : Taken) (pending : LineBuffer) → taken.ends_line ≡ false → TakesPiece begun bytes taken pending
    → HoldsBytes pending (rest_after begun (take taken.count bytes)) × (lines_after begun (take taken.count bytes) ≡ [])
piece-open begun bytes taken pending e h = search arith
