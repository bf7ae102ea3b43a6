-- What an image with stores has.
use Rattle.silt_image.proofs.Common.{le-leb, leb-true, not-true, eqb-true, ◌⊎◌, ◌%◌, ◌≤◌, ◌==◌, Bool, true, false, not, nat_le, ◌&&◌, if◌then◌else◌, sym, ap, ◌∙◌, list_any, and_parts}
use Rattle.silt_image.proofs.Common.{length-between, bytes_eq-Decides, Shape, InLimits, device_size, is_well_formed, Body, Digests, SlotRecord, Damage, header_of, header_shape, is_formatted}
use Rattle.silt_image.proofs.Common.{is_in_limits, Part, log_part, Stores, stores_of_current, stores_shaped, Finding, NotFormatted, Damaged, Header, Length, ◌≡◌, ℕ, ◌||◌, List, [], ◌∷◌, length}
use Rattle.silt_image.proofs.Common.{map, Option, Some, None, Result, Ok, Err, refl, arith, IsHeader, version_of, digests_found}
use Rattle.silt_manifest.specs.Current.{manifest_found, open_record, record_found, greater_record, is_sound_record}
use Rattle.silt_image.specs.Laws.{HasStores, DigestsLaw, LimitsLaw, StoresLaw, WholeLaw}
use Rattle.silt_manifest.proofs.SoundBodies.{own_slot}
use Rattle.silt_disk.specs.declared.header.Version.{Version}
use Rattle.silt_image.specs.Stores.{image_digests, image_stores, shape_found, stores_named}
use Rattle.silt_manifest.specs.declared.slot.Damage.TheVariants as damage

-- ---- the header

-- the test of the limits, taken apart
limits_of : (s : Shape) → is_in_limits s ≡ true → InLimits s
limits_of s is = search (arith, and_parts, leb-true)

-- and put together
in_limits : (s : Shape) → InLimits s → is_in_limits s ≡ true
in_limits s limits = search (arith, le-leb)

-- the test of the limits decides them
pub limits_law : LimitsLaw
limits_law shape = (limits_of shape, in_limits shape)

-- the three tests of a header, one after the other
abbrev pub tested : Bool → Bool → Bool → Shape → Result Shape Finding
tested formatted limited long shape = if not formatted then Err NotFormatted else if not limited then Err (Damaged Header) else if not long then Err (Damaged Length) else Ok shape

-- they all succeed if a shape is found
all_passed : (a b c : Bool) (found shape : Shape) → tested a b c found ≡ Ok shape → (a ≡ true) × (b ≡ true) × (c ≡ true) × (found ≡ shape)
all_passed true true true found shape e = (refl, refl, refl, cc)
all_passed a b c found shape e = absurd (cc)

-- what a header has whose device has a shape
pub record IsShaped (len : ℕ) (header : List ℕ) (shape : Shape) : Type 0 where
  pub long : 37 ≤ len
  pub formatted : is_formatted header ≡ true
  pub limits : InLimits shape
  pub size : len ≡ device_size shape
  pub is : header_shape header ≡ shape

-- the parts of the tests
pub shape_parts : (len : ℕ) (header : List ℕ) (shape : Shape) → shape_found len header ≡ Ok shape → IsShaped len header shape
unfolding shape_found
shape_parts len header shape e =
    let all = all_passed (nat_le 37 len && is_formatted header) (is_in_limits (header_shape header)) (len == device_size (header_shape header)) (header_shape header) shape e in
    let front = and_parts (nat_le 37 len) (is_formatted header) all.0 in
    let size : len ≡ device_size (header_shape header) = eqb-true len (device_size (header_shape header)) all.2 in
    record {
      long = leb-true 37 len front.0;
      formatted = front.1;
      limits = limits_of shape (ap is_in_limits (sym all.3) ∙ all.1);
      size = size ∙ ap (λ (s : Shape). device_size s) all.3;
      is = all.3;
    }

-- a number of one of the two versions
version_is : (n : ℕ) → ((n == 1) || (n == 2)) ≡ true → (n ≡ 1) ⊎ (n ≡ 2)
version_is n is = search (arith, eqb-true)

-- the bytes of a header that is formatted
pub header_is : (header : List ℕ) → length header ≡ 37 → is_formatted header ≡ true → IsHeader header
header_is header long formatted = search (arith, formatted, and_parts, eqb-true, bytes_eq-Decides, version_is)

-- ---- the manifest

-- the body of a sound record is well formed
sound_body : (s : Shape) (version : Version) (slot : ℕ) (held found : SlotRecord) → is_sound_record s version slot (Some held) ≡ true → held ≡ found → is_well_formed s slot found.body ≡ true
sound_body s version slot held found sound same = search (arith, and_parts)

-- the record of greater generation is one of the two
greater_sound : (s : Shape) (version : Version) (first second : Option SlotRecord) (found : SlotRecord) → is_sound_record s version 0 first ≡ true
    → is_sound_record s version 1 second ≡ true → greater_record first second ≡ Ok found → (slot : ℕ) × (is_well_formed s slot found.body ≡ true)
greater_sound s version None None found s0 s1 e = absurd (cc)
greater_sound s version None (Some b) found s0 s1 e = (1, sound_body s _ 1 b found s1 (cc))
greater_sound s version (Some a) None found s0 s1 e = (0, sound_body s _ 0 a found s0 (cc))
greater_sound s version (Some a) (Some b) found s0 s1 e = go _ e
  where
    go : (newer : Bool) → (let greater : Result SlotRecord Damage = Ok (if newer then b else a) in greater ≡ Ok found) → (slot : ℕ) × (is_well_formed s slot found.body ≡ true)
    go true e = (1, sound_body s _ 1 b found s1 (cc))
    go false e = (0, sound_body s _ 0 a found s0 (cc))

-- the two tests of the slots
abbrev pub both_sound_found : Bool → Bool → Result SlotRecord Damage → Result SlotRecord Damage
both_sound_found first second found = if not first then Err (damage.Slot 0) else if not second then Err (damage.Slot 1) else found

-- they succeed if a record is found
both_sound : (a b : Bool) (r : Result SlotRecord Damage) (found : SlotRecord) → both_sound_found a b r ≡ Ok found → (a ≡ true) × (b ≡ true) × (r ≡ Ok found)
both_sound true true r found e = (refl, refl, e)
both_sound a b r found e = absurd (cc)

-- the current body is well formed
pub current_sound : (s : Shape) (image : List ℕ) (found : SlotRecord) → manifest_found s image ≡ Ok found → is_well_formed s (found.body.generation % 2) found.body ≡ true
unfolding record_found
current_sound s image found e =
    let version : Version = version_of (header_of image) in
    let tests = both_sound (is_sound_record s version 0 (open_record image 0)) (is_sound_record s version 1 (open_record image 1))
    (greater_record (open_record image 0) (open_record image 1)) found e in
    let sound = greater_sound s version (open_record image 0) (open_record image 1) found tests.0 tests.1 tests.2 in
    own_slot s sound.0 found.body sound.1

-- ---- the stores

-- a record with these digests
abbrev pub record_with : Option Digests → Body → SlotRecord
record_with digests body = record { body = body; digests = digests }

-- stores that were named are so by their own shape and body
pub named_has : (image : List ℕ) (s : Stores) (shape : Shape) (found : SlotRecord) → shape_found (length image) (header_of image) ≡ Ok shape
    → manifest_found shape image ≡ Ok found → stores_named shape found.body image ≡ s → HasStores s image
unfolding stores_named
named_has image s shape found has_shape has_record same =
    let is_shape : shape ≡ s.shape = ap (λ (t : Stores). t.shape) same in
    let is_body : found.body ≡ s.body = ap (λ (t : Stores). t.body) same in
    record {
      shape = has_shape ∙ ap Ok is_shape;
      digests = found.digests;
      current = ap (λ t. manifest_found t image) (sym is_shape) ∙ has_record ∙ ap (λ b. Ok (record_with found.digests b)) is_body;
      named = sym same ∙ ap (λ t. stores_named t found.body image) is_shape ∙ ap (λ b. stores_named s.shape b image) is_body;
    }

from_current : (image : List ℕ) (s : Stores) (shape : Shape) → shape_found (length image) (header_of image) ≡ Ok shape
    → (r : Result SlotRecord Damage) → manifest_found shape image ≡ r → stores_of_current shape image r ≡ Ok s → HasStores s image
from_current image s shape has_shape (Err damaged) has e = absurd (cc)
from_current image s shape has_shape (Ok found) has e = named_has image s shape found has_shape has (let same : stores_named shape found.body image ≡ s = cc in same)

from_shaped : (image : List ℕ) (s : Stores) (r : Result Shape Finding) → shape_found (length image) (header_of image) ≡ r → stores_shaped image r ≡ Ok s → HasStores s image
from_shaped image s (Err finding) has e = absurd (cc)
from_shaped image s (Ok shape) has e = from_current image s shape has (manifest_found shape image) refl e

-- an image has these stores exactly if its shape and its current body are theirs, and the regions that the body names have their rows
pub stores_law : StoresLaw
unfolding image_stores
stores_law image s = (
  λ e. from_shaped image s (shape_found (length image) (header_of image)) refl e,
  λ has. ap (stores_shaped image) has.shape ∙ ap (stores_of_current s.shape image) has.current ∙ ap Ok (sym has.named),
)

-- a log of an image is asked for by its region
pub any_part : (shape : Shape) (image : List ℕ) (region : ℕ) (ids : List ℕ) → list_any (λ (part : Part). part.region == region) (map (log_part shape image) ids) ≡ list_any (λ id. id == region) ids
any_part shape image region [] = refl
any_part shape image region (id ∷ ids) = ap (λ rest. (id == region) || rest) (any_part shape image region ids)

-- the active log is not among the frozen ones
pub apart_of : (s : Shape) (slot : ℕ) (b : Body) → is_well_formed s slot b ≡ true → list_any (λ id. id == b.active) b.frozen ≡ false
apart_of s slot b sound = not-true _ (and_parts _ _ (and_parts _ _ (and_parts _ _ (and_parts _ _ (and_parts _ _ (and_parts _ _ sound).0).0).0).1).0).1

-- an image with stores is whole
pub whole_law : WholeLaw
unfolding stores_named
whole_law image s e =
    let has = (stores_law image s).0 e in
    let shaped = shape_parts (length image) (header_of image) s.shape has.shape in
    let sound = current_sound s.shape image (record_with has.digests s.body) has.current in
    let logs : s.logs ≡ map (log_part s.shape image) (s.body.active ∷ s.body.frozen) = ap (λ (t : Stores). t.logs) has.named in
    record {
      header = header_is (header_of image) (length-between image 0 37 shaped.long) shaped.formatted;
      has_shape = shaped.is;
      limits = shaped.limits;
      size = shaped.size;
      sound = sound;
      active = record {
        frozen = map (log_part s.shape image) s.body.frozen;
        logs = logs;
        apart = any_part s.shape image s.body.active s.body.frozen ∙ apart_of s.shape (s.body.generation % 2) s.body sound;
      };
      names = λ region. ap (list_any (λ (part : Part). part.region == region)) logs ∙ any_part s.shape image region (s.body.active ∷ s.body.frozen);
    }

-- the digests of an image with stores are those after the current body
pub digests_law : DigestsLaw
unfolding image_digests
digests_law image s found e is_current = ap (λ (t : Shape). digests_found (manifest_found t image)) (whole_law image s e).has_shape ∙ ap digests_found is_current
