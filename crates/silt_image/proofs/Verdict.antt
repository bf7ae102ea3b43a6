-- When an image is good, and what it then represents.
use Rattle.silt_image.proofs.Common.{Bool, true, false, not, nat_lt, if◌then◌else◌, flat_map, slice_get, IsTrue, sym, ap, ◌∙◌, arith, list_all, enumerate_from, range_with_len, and_parts, and_from}
use Rattle.silt_image.proofs.Common.{Shape, StoredRow, first_body, Digests, Part, Stores, image_digests, stores_of_current, stores_shaped, finding_if, map_of_rows, Finding, Damaged, Crowded}
use Rattle.silt_image.proofs.Common.{Place, Sorted, Charge, fine_of, fits_take, of_fine, ◌≡◌, ◌↔◌, ℕ, ◌-◌, List, [], ◌∷◌, ◌++◌, length, get_or, Option, Some, None, is_some, IsSome, Result, Ok}
use Rattle.silt_image.proofs.Common.{Err, refl, keys_of, slot_findings, fits_none}
use Rattle.std.specs.Str.{bytes_eq}
use Rattle.silt_manifest.specs.Digests.{long_record}
use Rattle.silt_image.specs.Meaning.{AreDigestsOf, IsSound, all_logs_fit, charge_findings, charge_of, digest_findings, entries_digest, findings_of, map_where_sound, rows_found}
use Rattle.silt_image.specs.Meaning.{said_entry_findings, said_hash_findings, image_fits, image_map, image_rows, image_stands, image_verdict, is_crowding, rows_of, store_findings}
use Rattle.silt_log_store.specs.Findings.{fits_table, row_findings, log_findings}
use Rattle.silt_event.proofs.Findings.{nothing_both, nothing_first, nothing_second}
use Rattle.silt_image.specs.Stores.{image_stores, stores_named}
use Rattle.silt_sorted_store.specs.State.{sorted_rows}
use Rattle.silt_sorted_store.specs.Findings.{entry_findings, is_key_below, sorted_findings}
use Rattle.silt_hash_store.specs.Findings.{hash_findings}
use Rattle.silt_image.specs.Laws.{EmptyLaw, NoStoresLaw, RowsLaw, SoundLaw, StandsLaw, VerdictLaw}
use Rattle.silt_image.proofs.Named.{digests_law, whole_law}
use Rattle.silt_image.proofs.Sound.{finds_none, logs_sound_law, said_law}

-- ---- findings

-- a finding that is no crowding
is_damage : Finding → Bool
is_damage f = not (is_crowding f)

-- a test of all elements of two lists
all_append : {X : Type 0} (p : X → Bool) (xs ys : List X) → list_all p xs ≡ true → list_all p ys ≡ true → list_all p (xs ++ ys) ≡ true
all_append p [] ys hx hy = hy
all_append p (x ∷ xs) ys hx hy = search (arith, all_append p xs ys, and_parts, and_from)

-- the elements of a list's lists
all_flat : {X Y : Type 0} (p : Y → Bool) (q : X → Bool) (f : X → List Y) (xs : List X) → list_all q xs ≡ true → ((x : X) → q x ≡ true → list_all p (f x) ≡ true) → list_all p (flat_map f xs) ≡ true
all_flat p q f [] all each = refl
all_flat p q f (x ∷ xs) all each = search (arith, all_flat p q f xs, and_parts, all_append)

any_passes : {X : Type 0} (xs : List X) → list_all (λ x. true) xs ≡ true
any_passes [] = refl
any_passes (x ∷ xs) = any_passes xs

-- no finding can be both
none_left : (fs : List Finding) → list_all is_crowding fs ≡ true → list_all is_damage fs ≡ true → fs ≡ []
unfolding is_damage
none_left [] c d = refl
none_left (f ∷ fs) c d = search (arith, and_parts)

damage_if : (test : Bool) (f : Finding) → is_damage f ≡ true → list_all is_damage (finding_if test f) ≡ true
damage_if true f d = and_from _ _ d refl
damage_if false f d = refl

crowded_if : (test : Bool) → test ≡ true → list_all is_damage (finding_if (not test) Crowded) ≡ true
crowded_if true e = refl
crowded_if false e = absurd (cc)

-- a log whose keys have places is not crowded
log_damage : (shape : Shape) (part : Part) → fits_table shape part.rows ≡ true → list_all is_damage (log_findings shape part) ≡ true
unfolding is_damage log_findings
log_damage shape part fit =
    all_flat is_damage (λ j. true) (row_findings shape part) (enumerate_from 0 part.rows) (any_passes (enumerate_from 0 part.rows))
    (search (arith, all_append, is_damage, damage_if, crowded_if, fits_take))

hash_damage : (shape : Shape) (part : Part) → list_all is_damage (hash_findings shape part) ≡ true
unfolding is_damage hash_findings
hash_damage shape part = all_flat is_damage (λ j. true) (slot_findings shape part) (enumerate_from 0 part.rows) (any_passes (enumerate_from 0 part.rows)) (search (arith, damage_if))

sorted_damage : (rows : List StoredRow) → list_all is_damage (sorted_findings rows) ≡ true
unfolding is_damage sorted_findings
sorted_damage rows =
    all_flat is_damage (λ j. true) (entry_findings rows) (range_with_len 1 (length rows - 1)) (any_passes (range_with_len 1 (length rows - 1)))
    (λ j _. damage_if (not (is_key_below (get_or (keys_of rows) (j - 1) []) (get_or (keys_of rows) j []))) (Damaged (Sorted j)) refl)

-- nor is a digest
digest_damage : (place : Place) (said : Option (List ℕ)) (digest : List ℕ) → list_all is_damage (digest_findings place said digest) ≡ true
unfolding is_damage
digest_damage place None digest = refl
digest_damage place (Some first) digest = damage_if (not (bytes_eq first digest)) (Damaged place) refl

said_hash_damage : (shape : Shape) (said : Option Digests) (place : ℕ) (part : Part) → list_all is_damage (said_hash_findings shape said (place, part)) ≡ true
said_hash_damage shape said place part = search (arith, all_append, is_damage, hash_damage, digest_damage)

said_entry_damage : (said : Option Digests) (entries : List StoredRow) → list_all is_damage (said_entry_findings said entries) ≡ true
said_entry_damage said entries = search (arith, all_append, is_damage, sorted_damage, digest_damage)

-- if the keys of all logs have places, no log is crowded
store_damage : (said : Option Digests) (s : Stores) → list_all (λ (part : Part). fits_table s.shape part.rows) s.logs ≡ true → list_all is_damage (store_findings said s) ≡ true
unfolding is_damage store_findings
store_damage said s fit =
    let logs : List Finding = flat_map (log_findings s.shape) s.logs in
    let hashes : List Finding = flat_map (said_hash_findings s.shape said) (enumerate_from 0 s.hashes) in
    let entries : List Finding = said_entry_findings said s.entries in
    all_append is_damage (logs ++ hashes ++ entries) (charge_findings s) (all_append is_damage (logs ++ hashes) entries (all_append is_damage logs hashes
    (all_flat is_damage (λ (part : Part). fits_table s.shape part.rows) (log_findings s.shape) s.logs fit (log_damage s.shape)) (all_flat is_damage (λ j. true)
    (said_hash_findings s.shape said) (enumerate_from 0 s.hashes) (any_passes (enumerate_from 0 s.hashes)) (λ j _. said_hash_damage s.shape said j.0 j.1)))
    (said_entry_damage said s.entries)) (damage_if (nat_lt s.shape.sorted_capacity (charge_of s)) (Damaged Charge) refl)

-- if the logs have no finding, their keys have places
all_logs : (shape : Shape) (logs : List Part) → flat_map (log_findings shape) logs ≡ [] → list_all (λ (part : Part). fits_table shape part.rows) logs ≡ true
all_logs shape [] none = refl
all_logs shape (part ∷ logs) none =
    and_from _ _ (fine_of shape part (nothing_first (log_findings shape part) (flat_map (log_findings shape) logs) none)).fits
    (all_logs shape logs (nothing_second (log_findings shape part) (flat_map (log_findings shape) logs) none))

-- no first finding, no finding
first_none : (fs : List Finding) → slice_get fs 0 ≡ None → fs ≡ []
first_none [] e = refl
first_none (f ∷ fs) e = absurd (cc)

some_if : {A : Type 0} (test : Bool) (x : A) → is_some (if test then Some x else None) ≡ true → test ≡ true
some_if true x e = refl
some_if false x e = absurd (cc)

-- ---- the verdict

-- an image is good exactly if it represents a map and the keys of its logs have places
pub verdict_law : VerdictLaw
unfolding image_verdict image_stands image_fits
verdict_law image = go (image_digests image) (image_stores image)
  where
    go : (said : Option Digests) (r : Result Stores Finding) → (slice_get (findings_of said r) 0 ≡ None) ↔ (IsSome (map_where_sound said r) × IsTrue (all_logs_fit r))
    go said (Err f) = (λ none. absurd (cc), λ both. absurd (let e = both.0 in cc))
    go said (Ok s) = (
      λ none.
          let nothing = first_none (store_findings said s) none in
          (rw nothing refl, all_logs s.shape s.logs (finds_none said s nothing).logs),
      λ both.
          let nothing = none_left (store_findings said s) (some_if (list_all is_crowding (store_findings said s)) _ both.0) (store_damage said s both.1) in
          ap (λ fs. slice_get fs 0) nothing,
    )

-- the verdict of an image with stores is their first finding
pub verdict_of : (image : List ℕ) (s : Stores) → image_stores image ≡ Ok s → image_verdict image ≡ slice_get (store_findings (image_digests image) s) 0
unfolding image_verdict
verdict_of image s e = ap (λ r. slice_get (findings_of (image_digests image) r) 0) e

-- an image with stores is good exactly if they have no finding and the digests in its manifest are theirs
pub sound_law : SoundLaw
sound_law image s e = (
  λ good. (said_law (image_digests image) s).0 (first_none (store_findings (image_digests image) s) (sym (verdict_of image s e) ∙ good)),
  λ both. verdict_of image s e ∙ ap (λ fs. slice_get fs 0) ((said_law (image_digests image) s).1 both),
)

-- the rows of an image with stores are theirs
pub rows_law : RowsLaw
unfolding image_rows
rows_law image s e = ap rows_found e

-- an image with sound stores, and with their digests, represents the map of their rows
pub stands_law : StandsLaw
unfolding image_map
stands_law image s e sound digests = record {
  good = (sound_law image s e).1 (sound, digests);
  has_shape = (whole_law image s e).has_shape;
  has_map = ap map_of_rows (rows_law image s e);
}

-- an image without stores has the finding in their place as its verdict
pub no_stores_law : NoStoresLaw
unfolding image_verdict
no_stores_law image finding e = ap (λ r. slice_get (findings_of (image_digests image) r) 0) e

-- ---- a device that was just formatted

-- stores with one empty log and nothing else have no rows
no_rows : (s : Stores) (region : ℕ) → s.logs ≡ record { region = region; rows = [] } ∷ [] → s.hashes ≡ [] → s.entries ≡ [] → rows_of s ≡ []
unfolding rows_of
no_rows s region logs hashes entries = rw (logs, hashes, entries) refl

-- and no finding
nothing_found : (s : Stores) (region : ℕ) → s.logs ≡ record { region = region; rows = [] } ∷ [] → s.hashes ≡ [] → s.entries ≡ [] → IsSound s
nothing_found s region logs hashes entries = search (arith, nothing_both, of_fine, fits_none, no_rows, logs_sound_law)

-- the digests of stores without hash stores and entries
first_digests : (said : Option Digests) (digests : Digests) (s : Stores) → said ≡ Some digests → digests.sorted.0 ≡ entries_digest [] → s.hashes ≡ [] → s.entries ≡ [] → AreDigestsOf said s
first_digests said digests s is digest hashes entries = search arith

-- it represents the empty map
pub empty_law : EmptyLaw
unfolding image_stores stores_named sorted_rows
empty_law image shape digests has_shape has_record digest none =
    let s : Stores = stores_named shape first_body image in
    let e : image_stores image ≡ Ok s = ap (stores_shaped image) has_shape ∙ ap (stores_of_current shape image) has_record in
    let logs : s.logs ≡ record { region = 0; rows = [] } ∷ [] = ap (λ (rows : List StoredRow). record { region = 0; rows = rows } ∷ []) none in
    let said = digests_law image s (long_record first_body digests) e has_record in
    let stands = stands_law image s e (nothing_found s 0 logs refl refl) (first_digests (image_digests image) digests s said digest refl refl) in
    record { good = stands.good; has_shape = stands.has_shape; has_map = stands.has_map ∙ ap map_of_rows (no_rows s 0 logs refl refl) }
