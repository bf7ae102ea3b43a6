use Rattle.std.proofs.Common.{◌≡◌, List, ℕ, ◌++◌, take, drop, sym, ◌∙◌, ap}
use Rattle.std.proofs.Math.Seq.{take-append_seam, drop-append_seam}
use Rattle.std.proofs.lemmas.List.{take-append-drop}
use Rattle.silt_frame.specs.declared.key.Key.{Key}
use Rattle.silt_frame.proofs.entry.entry_bytes_law.Goals as goal

pub returns : goal.returns
returns c = (
  λ key value size.
      let front : take 20 (key.0 ++ value) ≡ key.0 = ap (λ (n : ℕ). take n (key.0 ++ value)) (sym size) ∙ take-append_seam key.0 value in
      let back : drop 20 (key.0 ++ value) ≡ value = ap (λ (n : ℕ). drop n (key.0 ++ value)) (sym size) ∙ drop-append_seam key.0 value in
      let whole : Key → List ℕ → Key × List ℕ = λ k v. (k, v) in
      ap (λ (k : List ℕ). whole (record { 0 = k }) (drop 20 (key.0 ++ value))) front ∙ ap (λ (v : List ℕ). whole key v) back,
  λ bytes. take-append-drop 20 bytes,
)
