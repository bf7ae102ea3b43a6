-- Bytes that are read and hashed, one piece behind the other.
use Rattle.std.proofs.Common.{◌≡◌, ◌+◌, ◌++◌, ℕ, List, arith, length, length-append, subst, sym}
use Rattle.silt_care.specs.Orders.{Reads, then_bytes}
use Rattle.silt_care.specs.declared.looks.Looks.{Ghosts as LooksOf}
use Rattle.silt_hasher.specs.Taking.{HasTaken, Taken}

-- these bytes were read from there on, and are hashed
abbrev pub AreTaken : {S G : Type 0} → LooksOf S G → ℕ → S → S → ℕ → Taken → Type 0
AreTaken looks at first last done hasher = (bytes : List ℕ) × Reads looks at first bytes last × (length bytes ≡ done) × HasTaken hasher bytes

-- one piece more
pub taken_more : {S G : Type 0} (looks : LooksOf S G) (at : ℕ) (first mid last : S) (done count : ℕ) (piece : List ℕ) (old new : Taken) → AreTaken looks at first mid done old
    → looks.gave mid (at + done) piece last → length piece ≡ count → ((taken : List ℕ) → HasTaken old taken → HasTaken new (taken ++ piece))
    → AreTaken looks at first last (done + count) new
taken_more looks at first mid last done count piece old new (bytes, reads, len, taken) given width grows =
    (bytes ++ piece, then_bytes reads (rw len given), omega (arith, length-append bytes piece, len, width), grows bytes taken)
