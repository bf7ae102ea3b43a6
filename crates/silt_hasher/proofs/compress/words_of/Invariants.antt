use Rattle.std.proofs.Common.{◌≡◌, ◌-◌, ◌≤◌, length, take}
use Rattle.sha1.specs.Sha1.{first_words, schedule}
use Rattle.silt_hasher.proofs.compress.words_of.Given as goal

-- the words so far are those of the block
abbrev pub invariant-block : goal.invariant-block
invariant-block l = (length l.words ≡ 80) × (take l.i l.words ≡ first_words l.block l.i)

-- the words so far are those of the first rounds
abbrev pub invariant-made : goal.invariant-made
invariant-made l = (length l.words ≡ 80) × (16 ≤ l.t) × (take l.t l.words ≡ schedule l.block (l.t - 16))
