-- Taking bytes in two parts is taking them at once.
use Rattle.std.proofs.Common.{arith}
use Rattle.silt_resp.proofs.Common.{◌≡◌, ℕ, List, [], ◌∷◌, ◌++◌, refl, append_assoc, Stream, byte_taken, commands_after, stream_after}
use Rattle.silt_resp.specs.Stream.{CutLaw}

pub stream_after-append : (s : Stream) (xs ys : List ℕ) → stream_after s (xs ++ ys) ≡ stream_after (stream_after s xs) ys
stream_after-append s [] ys = refl
stream_after-append s (x ∷ xs) ys = stream_after-append (byte_taken s x).0 xs ys

pub commands_after-append : (s : Stream) (xs ys : List ℕ) → commands_after s (xs ++ ys) ≡ commands_after s xs ++ commands_after (stream_after s xs) ys
commands_after-append s [] ys = refl
commands_after-append s (x ∷ xs) ys = search (arith, commands_after-append (byte_taken s x).0 xs ys, append_assoc)

pub cut_law : CutLaw
cut_law = λ s xs ys. (stream_after-append s xs ys, commands_after-append s xs ys)
