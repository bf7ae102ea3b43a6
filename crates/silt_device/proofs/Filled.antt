-- Files that are filled.
use Rattle.silt_device.proofs.Common.{◌≡◌, ℕ, suc, true, false, ◌+◌, ◌≤◌, List, length, slice_range, IsTrue, refl, arith, OnOk, Result, append_assoc, length-append, length-take, length-replicate}
use Rattle.silt_device.proofs.Common.{length-between, split_between, Content, Settles, Writes, size, splice, IsFilledFile, IsWritten, Resizes, ShowsAlike}
use Rattle.silt_device.specs.File.{Rewrites}

-- bytes that are written where they are change nothing
pub spliced_again : (at count : ℕ) (image : List ℕ) → at + count ≤ length image → splice at (slice_range image at (at + count)) image ≡ image
spliced_again at count image fits = search (arith, length-between, append_assoc, split_between)

-- a piece of a file was written where it is
pub piece_written : {T E : Type 0} (at count : ℕ) (bytes : List ℕ) (old new : Content) (result : Result T E) → length bytes ≡ count → (IsTrue old.honest → at + count ≤ size old)
    → (IsTrue old.honest → bytes ≡ slice_range old.shown at (at + count)) → new.honest ≡ old.honest
    → (at + length bytes ≤ size old → OnOk result (Writes at bytes old new)) → OnOk result (ShowsAlike old new)
piece_written at count bytes old new result long fits read honest writes = search (arith, spliced_again)

-- one more piece was written
pub one_more : {F : Type 0} (written_at : F → ℕ → List ℕ → F → Type 0) (old mid new : F) (at : ℕ) (bytes : List ℕ) (to : ℕ) → IsWritten written_at old at mid → written_at mid at bytes new
    → to ≡ at + length bytes → IsWritten written_at old to new
unfolding Rewrites
one_more written_at old mid new at bytes to (pieces, written) writes is = (suc pieces, (mid, at, bytes, written, writes, is))

-- no piece was written
pub none_written : {F : Type 0} (written_at : F → ℕ → List ℕ → F → Type 0) (file : F) → IsWritten written_at file 0 file
unfolding Rewrites
none_written written_at file = (0, (refl, refl))

-- what shows alike twice shows alike
pub alike_twice : (first second third : Content) → ShowsAlike first second → ShowsAlike second third → ShowsAlike first third
alike_twice first second third before after = search (arith, after.shown, before.shown)

-- a file that got its length first, was written and synced, if the last sync returned Ok
pub grown_on : {F T E : Type 0} (content : F → Content) (written_at : F → ℕ → List ℕ → F → Type 0) (synced : F → F → Type 0) (old sized written new : F) (len : ℕ) (result : Result T E)
    → Resizes len (content old) (content sized) → ShowsAlike (content sized) (content written) → IsWritten written_at sized len written
    → OnOk result (synced written new) → OnOk result (Settles (content written) (content new)) → OnOk result (IsFilledFile content written_at synced old len new)
grown_on content written_at synced old sized written new len result cut alike all settled settles = search arith

-- a file that was written and synced, then got its length, and was synced, the same
pub shrunk_on : {F T E : Type 0} (content : F → Content) (written_at : F → ℕ → List ℕ → F → Type 0) (synced : F → F → Type 0) (old written whole sized new : F) (len : ℕ) (result : Result T E)
    → ShowsAlike (content old) (content written) → IsWritten written_at old len written → Settles (content written) (content whole) → Resizes len (content whole) (content sized)
    → OnOk result (synced sized new) → OnOk result (Settles (content sized) (content new)) → OnOk result (IsFilledFile content written_at synced old len new)
shrunk_on content written_at synced old written whole sized new len result alike all kept cut settled settles = search arith

-- a file that was given a length has it
pub sized_fits : (len : ℕ) (old new : Content) → Resizes len old new → IsTrue new.honest → len ≤ size new
sized_fits len old new cut honest = search (arith, length-append, length-take, length-replicate, cut.shown)

-- no `Ok` is an error
pub never : {A : Type 0} → false ≡ true → A
never h = absurd (cc)
