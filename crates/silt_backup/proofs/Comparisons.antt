-- A good image with the record, the digests and the logs of a moment is a backup of it.
use Rattle.silt_backup.proofs.Common.{◌≡◌, ◌<◌, ℕ, zero, suc, IfOk, IsTrue, List, [], ◌∷◌, get_or, length, map, slice_get, slice_index_or, Some, Result, Ok, Err, ap, subst, sym, ◌∙◌, refl, sha1}
use Rattle.silt_backup.proofs.Common.{AreLogs, HasDigests, IsBackup, IsOfMoment, Content, Shows, Shape, rows_bytes, HashState, IsHashStore, Part, Digests, SortedState, entries_of}
use Rattle.std.proofs.lemmas.Option.{get_or_from_slice_get, none-some, same_Some, slice_get_within}
use Rattle.silt_hash_store.specs.Slots.{hash_part, hash_rows}
use Rattle.silt_image.specs.Meaning.{AreDigestsOf, entries_digest, part_digest}
use Rattle.silt_image.specs.Stores.{stores_named}
use Rattle.silt_recovery.proofs.Shown.{held_good}
use Rattle.silt_recovery.specs.Opening.{Holds}
use Rattle.silt_standing.specs.Standing.{shown_stores}
use Rattle.silt_standing.specs.State.{EngineState, IsHashOf, hash_region_of}
use Rattle.silt_view.specs.declared.moment.Moment.{Moment}

-- an item of a list that is made of another one
item_of : {X Y : Type 0} (f : X → Y) (xs : List X) (place : ℕ) (y : Y) → slice_get (map f xs) place ≡ Some y → (x : X) × (slice_get xs place ≡ Some x) × (f x ≡ y)
item_of f [] place y is = absurd (none-some y is)
item_of f (x ∷ xs) zero y is = (x, refl, same_Some (f x) y is)
item_of f (x ∷ xs) (suc place) y is = item_of f xs place y is

module _ (content : Content) (s : EngineState) (holds : Holds content s) (honest : IsTrue content.honest) where
  -- the shape, the record and the stores that are shown
  shape_shown : (shown_stores content s).shape ≡ s.manifest.shape
  unfolding stores_named
  shape_shown = refl

  body_shown : (shown_stores content s).body ≡ s.manifest.current
  unfolding stores_named
  body_shown = refl

  hashes_shown : (shown_stores content s).hashes ≡ map (hash_part s.manifest.shape content.shown) (map hash_region_of s.hashes)
  unfolding stores_named
  hashes_shown = ap (map (hash_part s.manifest.shape content.shown)) (sym holds.whole.hash_regions)

  entries_shown : s.digest ≡ entries_digest (shown_stores content s).entries
  unfolding stores_named
  entries_shown = holds.digested honest ∙ ap (λ (t : SortedState). entries_digest (entries_of content t)) holds.whole.sorted

  -- the digest of a hash store that is shown
  hash_said : (place : ℕ) (part : Part) → slice_get (shown_stores content s).hashes place ≡ Some part
      → (store : HashState) × (slice_get s.hashes place ≡ Some store) × (store.digest ≡ part_digest part)
  hash_said place part here =
      let shape : Shape = s.manifest.shape in
      let listed = item_of (hash_part shape content.shown) (map hash_region_of s.hashes) place part (ap (λ (l : List Part). slice_get l place) (sym hashes_shown) ∙ here) in
      let held = item_of hash_region_of s.hashes place listed.0 listed.1 in
      let store : HashState = held.0 in
      let below : place < length s.hashes = slice_get_within s.hashes place store held.1 in
      let it : slice_index_or s.hashes place store ≡ store = get_or_from_slice_get s.hashes place store store held.1 in
      let stands : IsHashStore content store = subst (IsHashStore content) it (holds.hashed place store below) in
      let of_shape : IsHashOf shape store = subst (IsHashOf shape) it (holds.whole.hashed place store below) in (
        store,
        held.1,
        stands.digested honest
            ∙ ap (λ (t : Shape). sha1 (rows_bytes (hash_rows t store.region content.shown))) of_shape.has_shape
            ∙ ap (λ (n : ℕ). sha1 (rows_bytes (hash_rows shape n content.shown))) held.2
            ∙ ap part_digest listed.2,
      )

  -- digests that were compared with those in memory are those of the stores that are shown
  digests_shown : (digests : Digests) → HasDigests s digests → AreDigestsOf (Some digests) (shown_stores content s)
  digests_shown digests same = record {
    hashed = λ place part here digest is.
        let it = hash_said place part here in
        let said : (get_or digests.hashed place (record { 0 = [] })).0 ≡ digest = (let e : Some (get_or digests.hashed place (record { 0 = [] })).0 ≡ Some digest = is in same_Some _ _ e) in
        sym said ∙ same.hashed place it.0 it.1 ∙ it.2;
    sorted = λ digest is.
        let said : digests.sorted.0 ≡ digest = (let e : Some digests.sorted.0 ≡ Some digest = is in same_Some _ _ e) in
        sym said ∙ same.sorted ∙ entries_shown;
  }

-- what is held of a device is like a moment, and the logs are: the device shows a backup
pub shows_backup : (content : Content) (s : EngineState) (moment : Moment) → Holds content s → IsOfMoment s moment
    → Shows content (AreLogs moment.geometry (moment.body.active ∷ moment.body.frozen) moment.logs.items) → Shows content (IsBackup moment)
shows_backup content s moment holds like logs = record {
  holds = λ honest. record {
    good = held_good content s holds honest;
    stores = shown_stores content s;
    are = holds.named honest;
    shape = shape_shown content s holds honest ∙ like.shape;
    body = body_shown content s holds honest ∙ like.body;
    digests = digests_shown content s holds honest moment.digests like.digests;
    logs = logs.holds honest;
  };
}

-- what follows of a value, of a result
pub of_ok : {A E : Type 0} {P Q : A → Type 0} (result : Result A E) → ((a : A) → P a → Q a) → IfOk result P → IfOk result Q
of_ok (Ok a) follows here = follows a here
of_ok (Err e) follows here = tt
