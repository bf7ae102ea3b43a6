-- What is found in the sorted entries, and how many there are.
use Rattle.silt_recovery.proofs.Common.{◌≡◌, ℕ, Bool, true, false, IsTrue, List, [], ◌∷◌, length, Option, Some, Ok, refl, ap, ◌∙◌, arith, sum_by-cons, Content, Shape, StoredRow, put_count}
use Rattle.silt_recovery.proofs.Common.{digest_findings, entries_digest, image_verdict, image_digests, image_stores, SortedState, finding_if, Finding, Place, Body, Digests, HasFirstEntry}
use Rattle.silt_recovery.proofs.Common.{AreSoundHashes, AreSoundLogs, suc, ◌==◌, cond, slice_get, said_sorted, HasDigest, sorted_rows, Sorted, SortedDigest, first_entry_law, AreSoundEntries}
use Rattle.silt_image.specs.Stores.{stores_named}
use Rattle.silt_sorted_store.specs.Findings.{sorted_findings}
use Rattle.silt_sorted_store.specs.Rebuild.{IsFirstOutOfOrder}
use Rattle.silt_event.specs.declared.damage.Finding.TheVariants.{Damaged}
use Rattle.silt_sorted_store.proofs.Entries.{entries_law}
use Rattle.silt_recovery.proofs.Firsts.{first_of_front}

-- the first finding in the entries that the current record names is the verdict, if nothing is found in the logs and the hash stores
pub entry_verdict : (shape : Shape) (body : Body) (image : List ℕ) (finding : Finding) → image_stores image ≡ Ok (stores_named shape body image) → AreSoundLogs shape image (body.active ∷ body.frozen)
    → AreSoundHashes shape (image_digests image) image body.hashed → HasFirstEntry shape (image_digests image) image body.sorted body.sorted_count finding → image_verdict image ≡ Some finding
unfolding stores_named
entry_verdict shape body image finding stores logs hashes found = first_entry_law image (stores_named shape body image) finding stores logs hashes found.first

module _ (content : Content) (shape : Shape) (said : Option Digests) (region count : ℕ) where
  rows : List StoredRow
  rows = sorted_rows shape region count content.shown

  -- the first entry that is not above the one before it
  pub unsound_entry : (place : ℕ) → IsFirstOutOfOrder (sorted_rows shape region count content.shown) place → HasFirstEntry shape said content.shown region count (Damaged (Sorted place))
  unfolding rows
  unsound_entry place found = record { first = search (arith, first_of_front) }

  module _ (store : SortedState) (digest : List ℕ) (is : store ≡ record { shape = shape; region = region; count = count })
      (digested : HasDigest content store digest) (sound : IsTrue content.honest → sorted_findings (sorted_rows shape region count content.shown) ≡ [])
      (told : Option (List ℕ)) (is_said : told ≡ said_sorted said) (test : Bool) (tests : (place : Place) → digest_findings place told digest ≡ finding_if test (Damaged place)) where
    -- the digest is that of what is shown
    digest_shown : IsTrue content.honest → digest ≡ entries_digest (sorted_rows shape region count content.shown)
    digest_shown h = digested h ∙ ap (λ (s : SortedState). entries_digest (sorted_rows s.shape s.region s.count content.shown)) is

    -- the manifest has another digest
    pub other_sorted : test ≡ true → IsTrue content.honest → HasFirstEntry shape said content.shown region count (Damaged SortedDigest)
    unfolding rows
    other_sorted other h = search arith

    -- the manifest has this digest, or none
    pub sound_sorted : test ≡ false → IsTrue content.honest → AreSoundEntries shape said content.shown region count
    unfolding rows
    sound_sorted same h = search arith

-- if all rows are puts, there are as many puts as rows
all_puts : (rows : List StoredRow) → ((place : ℕ) (row : StoredRow) → slice_get rows place ≡ Some row → row.kind ≡ 1) → put_count rows ≡ length rows
all_puts [] puts = refl
all_puts (row ∷ rows) puts = omega (
  arith,
  sum_by-cons (λ (r : StoredRow). cond (r.kind == 1) 1 0) row rows,
  ap (λ (n : ℕ). cond {A = ℕ} (n == 1) 1 0) (puts 0 row refl),
  all_puts rows (λ place other there. puts (suc place) other there),
)

-- so the entries are as many puts as they are
pub charge_of_entries : (shape : Shape) (region count : ℕ) (image : List ℕ) → put_count (sorted_rows shape region count image) ≡ count
charge_of_entries shape region count image = search (arith, entries_law, all_puts)
