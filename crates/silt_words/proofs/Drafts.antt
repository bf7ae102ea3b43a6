-- Whether a file is the draft of a backup.
use Rattle.std.proofs.Common.{◌≡◌, ◌∙◌, refl, sym, ap, ap₂, ℕ, ◌-◌, Bool, true, false, true≢false, List, ◌++◌, length, take, drop, codes, bytes_eq}
use Rattle.std.proofs.lemmas.Bool.Decides.{same_from_decides}
use Rattle.std.proofs.lemmas.List.{append_cancel_right, take-append-drop}
use Rattle.std.proofs.lemmas.List.Prefix.{end_rest}
use Rattle.std.proofs.lemmas.Slice.Eq.{bytes_eq-Decides}
use Rattle.silt_words.specs.Backups.{draft_of}

-- a file whose name ends with `.new` is the draft of what is in front of it
pub by_front : (file name path : List ℕ) (at : ℕ) → bytes_eq (drop at file) (codes ".new") ≡ true → name ≡ take at file
    → bytes_eq name path ≡ bytes_eq file (draft_of path)
by_front file name path at ends front =
    same_from_decides _ _ (bytes_eq-Decides name path) (
      (λ same. append_cancel_right name path (codes ".new") (sym whole ∙ (bytes_eq-Decides file (draft_of path)).0 same)),
      λ same. (bytes_eq-Decides file (draft_of path)).1 (whole ∙ ap (λ (n : List ℕ). n ++ codes ".new") same),
    )
  where
    whole : file ≡ name ++ codes ".new"
    whole = sym (take-append-drop at file) ∙ ap₂ (λ (a b : List ℕ). a ++ b) (sym front) ((bytes_eq-Decides _ _).0 ends)

-- a file whose name does not end so is no draft
pub no_draft : (file path : List ℕ) → bytes_eq (drop (length file - length (codes ".new")) file) (codes ".new") ≡ false → false ≡ bytes_eq file (draft_of path)
no_draft file path other = differs _ (λ same. true≢false (sym ((bytes_eq-Decides _ _).1 (end_rest file (codes ".new") path ((bytes_eq-Decides file (draft_of path)).0 same))) ∙ other))
  where
    differs : (same : Bool) → (same ≡ true → ⊥) → false ≡ same
    differs true not = absurd (not refl)
    differs false not = refl
