-- Stores that a body names, and the images that have them.
use Rattle.silt_engine.proofs.Common.{arith, ◌≡◌, ◌<◌, ℕ, List, [], ◌++◌, map, take, Option, Some, Result, Ok, refl, ap, sym, ◌∙◌, subst, Torn, Shape, commits_at, log_size, log_rows, StoredRow}
use Rattle.silt_engine.proofs.Common.{manifest_found, current_manifest, where_found, Body, Digests, SlotRecord, Map, map_after, Stores, image_digests, image_stores, AreDigestsOf, HasActive, IsSound}
use Rattle.silt_engine.proofs.Common.{StandsFor, rows_of, command_of, map_of_rows, whole_law, map_law, rows_law, digests_law, stores_law, log_region_law, append_law, own_rows_law, beginning_law}
use Rattle.silt_engine.proofs.Common.{stands_law}
use Rattle.std.proofs.lemmas.List.{append-nil}
use Rattle.silt_manifest.specs.declared.slot.Damage.{Damage}
use Rattle.silt_image.specs.Stores.{stores_named}
use Rattle.silt_image.specs.Meaning.{image_map, with_log_rows}

-- ---- one image

pub named_shape : (shape : Shape) (body : Body) (image : List ℕ) → (stores_named shape body image).shape ≡ shape
unfolding stores_named
named_shape shape body image = refl

pub named_body : (shape : Shape) (body : Body) (image : List ℕ) → (stores_named shape body image).body ≡ body
unfolding stores_named
named_body shape body image = refl

-- other rows of a log leave the shape and the body
pub with_shape : (region : ℕ) (rows : List StoredRow) (t : Stores) → (with_log_rows region rows t).shape ≡ t.shape
unfolding with_log_rows
with_shape region rows t = refl

pub with_body : (region : ℕ) (rows : List StoredRow) (t : Stores) → (with_log_rows region rows t).body ≡ t.body
unfolding with_log_rows
with_body region rows t = refl

-- the stores of an image are those that their body names in it
pub named_here : (shape : Shape) (body : Body) (t : Stores) (image : List ℕ) → image_stores image ≡ Ok t → t.shape ≡ shape → t.body ≡ body → stores_named shape body image ≡ t
named_here shape body t image is same_shape same_body = cc (((stores_law image t).0 is).named)

-- an image that is changed in a log region has the stores with that log's rows
pub region_torn : (shape : Shape) (t : Stores) (region : ℕ) (rows : List StoredRow) (before image : List ℕ) → t.shape ≡ shape → image_stores before ≡ Ok t → region < shape.logs
    → Torn (commits_at shape region) (log_size shape) before image → log_rows shape region image ≡ rows → image_stores image ≡ Ok (with_log_rows region rows t)
region_torn shape t region rows before image same named below torn are = search (arith, log_region_law)

-- the first log is the active one
pub active_named : (shape : Shape) (body : Body) (t : Stores) (rows : List StoredRow) (image : List ℕ) → image_stores image ≡ Ok t
    → t.shape ≡ shape → t.body ≡ body → log_rows shape body.active image ≡ rows → HasActive rows t
active_named shape body t rows image is same_shape same_body are = search (arith, whole_law)

-- the map of an image with stores
pub stores_map : (t : Stores) (image : List ℕ) → image_stores image ≡ Ok t → image_map image ≡ map_of_rows (rows_of t)
unfolding image_map
stores_map t image is = ap map_of_rows (rows_law image t is)

-- an image with sound stores and with these digests in its record, which are theirs
pub stands_for : (shape : Shape) (t : Stores) (said : Option Digests) (m : Map) (image : List ℕ) → image_stores image ≡ Ok t
    → t.shape ≡ shape → IsSound t → AreDigestsOf said t → image_digests image ≡ said → map_of_rows (rows_of t) ≡ m → StandsFor shape m image
stands_for shape t said m image is same_shape sound are says has_map =
    subst (λ (n : Map). StandsFor shape n image) has_map
    (subst (λ (s : Shape). StandsFor s (map_of_rows (rows_of t)) image) same_shape (stands_law image t is sound (subst (λ (o : Option Digests). AreDigestsOf o t) (sym says) are)))

-- a current record was found
pub found_current : (r : Result SlotRecord Damage) (found : SlotRecord) → where_found r ≡ Some found → r ≡ Ok found
found_current r found e = search arith

-- an image with stores has the digests of the current record
pub says_current : (shape : Shape) (t : Stores) (found : SlotRecord) (image : List ℕ) → image_stores image ≡ Ok t → t.shape ≡ shape
    → current_manifest shape image ≡ Some found → image_digests image ≡ found.digests
says_current shape t found image is same_shape is_current = digests_law image t found is (cc (found_current (manifest_found shape image) found is_current))

-- the digests of stores do not depend on the rows of the logs
pub said_with_rows : (said : Option Digests) (region : ℕ) (rows : List StoredRow) (t : Stores) → AreDigestsOf said t → AreDigestsOf said (with_log_rows region rows t)
unfolding with_log_rows
said_with_rows said region rows t are = record { hashed = are.hashed; sorted = are.sorted }

-- ---- the rows of the active log

module _ (t : Stores) (active : ℕ) (settled waiting : List StoredRow) (is : t.body.active ≡ active) (has : HasActive settled t) where
  -- all rows with further ones in the active log
  pub rows_with_more : (more : List StoredRow) → rows_of (with_log_rows active (settled ++ more) t) ≡ rows_of t ++ more
  rows_with_more more = cc (append_law t settled more has)

  -- their map
  pub map_with_more : (more : List StoredRow) → map_of_rows (rows_of (with_log_rows active (settled ++ more) t)) ≡ map_after (map_of_rows (rows_of t)) (map command_of more)
  map_with_more more = ap map_of_rows (rows_with_more more) ∙ map_law (rows_of t) more

  -- the log with its own rows
  pub own_rows : with_log_rows active settled t ≡ t
  own_rows = cc (own_rows_law t settled has)

  -- if nothing is found with all rows, nothing is with a beginning of the waiting ones
  pub sound_some : (n : ℕ) → IsSound (with_log_rows active (settled ++ waiting) t) → IsSound (with_log_rows active (settled ++ take n waiting) t)
  sound_some n sound = beginning_law t active n settled waiting sound

  -- and with the settled ones alone
  pub sound_settled : IsSound (with_log_rows active (settled ++ waiting) t) → IsSound t
  sound_settled sound =
      let none : take 0 waiting ≡ [] = refl in
      subst IsSound (ap (λ (r : List StoredRow). with_log_rows active r t) (ap (λ (r : List StoredRow). settled ++ r) none ∙ append-nil settled) ∙ own_rows) (sound_some 0 sound)
