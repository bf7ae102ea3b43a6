-- Findings in logs that are read one after the other.
use Rattle.silt_recovery.proofs.Common.{◌≡◌, ◌<◌, ℕ, ◌+◌, true, false, List, [], ◌∷◌, ◌++◌, length, map, take, get_or, Some, Ok, refl, ap, sym, ◌∙◌, arith, map-append, sum_by-cons, Content, Shape}
use Rattle.silt_recovery.proofs.Common.{image_verdict, log_part, put_count, StoredRow, image_stores, Finding, log_rows, LogStoreState, Body, AreSoundLogs, HasFirstFinding, put_rows, append_assoc}
use Rattle.silt_recovery.proofs.Common.{is_some, list_all, get_or-map, flat_map-append, FirstFinding, oldest_first, part_rows, keys_of, has_known_kind, Log, count_law, first_finding_law}
use Rattle.std.proofs.lemmas.Option.{slice_get-get_or}
use Rattle.silt_cuckoo.specs.Index.{index_of_keys}
use Rattle.silt_log_store.specs.Findings.{fits_table}
use Rattle.silt_image.specs.Stores.{stores_named}
use Rattle.silt_event.specs.declared.damage.Finding.TheVariants.{Damaged, Crowded}
use Rattle.silt_log_store.proofs.Findings.{log_sound_law}
use Rattle.silt_log_store.specs.Rebuild.{IsFirstCrowded, IsFirstDamaged, IsRebuilt, has_known_kind_at}
use Rattle.silt_cuckoo.specs.Slots.{Slots}

-- no row, of an unknown kind
blank : StoredRow
blank = record { kind = 0; key = []; value = [] }

-- the kind of a row that is there
kind_there : (rows : List StoredRow) (place : ℕ) → place < length rows → has_known_kind (get_or rows place blank) ≡ has_known_kind_at rows place
kind_there rows place there = sym (get_or-map has_known_kind rows place blank false there)

-- ---- in one log

module _ (shape : Shape) (image : List ℕ) (region : ℕ) where
  rows : List StoredRow
  rows = log_rows shape region image

  alone : (place : ℕ) (row : StoredRow) (finding : Finding) → FirstFinding shape (log_part shape image region) place row finding → HasFirstFinding shape image (region ∷ []) finding
  alone place row finding first = record { before = []; region = region; after = []; all = refl; sound = refl; place = place; row = row; first = first }

  -- a row of an unknown kind
  pub damaged_row : (place : ℕ) → IsFirstDamaged shape.buckets (log_rows shape region image) place → HasFirstFinding shape image (region ∷ []) (Damaged (Log region place))
  unfolding fits_table rows
  damaged_row place first =
      let row : StoredRow = get_or (log_rows shape region image) place blank in
      let unknown : has_known_kind row ≡ false = kind_there (log_rows shape region image) place first.there ∙ first.unknown in
      alone place row (Damaged (Log region place)) (search (arith, slice_get-get_or))

  -- a key that finds no place
  pub crowded_row : (place : ℕ) → IsFirstCrowded shape.buckets (log_rows shape region image) place → HasFirstFinding shape image (region ∷ []) Crowded
  unfolding fits_table rows
  crowded_row place first =
      let row : StoredRow = get_or (log_rows shape region image) place blank in
      let known : has_known_kind row ≡ true = kind_there (log_rows shape region image) place first.there ∙ first.known in
      let none : fits_table shape (take (place + 1) (log_rows shape region image)) ≡ false = ap is_some first.crowded in
      alone place row Crowded (search (arith, slice_get-get_or))

  -- all kinds known and all keys placed
  pub sound_log : (table : Slots) → list_all has_known_kind (log_rows shape region image) ≡ true
      → index_of_keys shape.buckets (keys_of (log_rows shape region image)) ≡ Some table → AreSoundLogs shape image (region ∷ [])
  unfolding fits_table
  sound_log table known indexed = search (arith, log_sound_law)

-- a log that was rebuilt
pub rebuilt_sound : (content : Content) (shape : Shape) (region : ℕ) (store : LogStoreState) → store.log.shape ≡ shape
    → store.log.region ≡ region → IsRebuilt content store → AreSoundLogs shape content.shown (region ∷ [])
rebuilt_sound content shape region store has_shape has_region rebuilt = search (arith, sound_log)

-- ---- in several

-- some logs and those behind them
pub sound_both : (shape : Shape) (image some more : List ℕ) → AreSoundLogs shape image some → AreSoundLogs shape image more → AreSoundLogs shape image (some ++ more)
sound_both shape image some more first second = search (arith, map-append, flat_map-append)

-- the first finding among some of the logs, behind others in which nothing is found
pub found_within : (shape : Shape) (image before regions after : List ℕ) (finding : Finding) → AreSoundLogs shape image before
    → HasFirstFinding shape image regions finding → HasFirstFinding shape image (before ++ regions ++ after) finding
found_within shape image before regions after finding sound found = record {
  before = before ++ found.before;
  region = found.region;
  after = found.after ++ after;
  all = search (arith, append_assoc);
  sound = sound_both shape image before found.before sound found.sound;
  place = found.place;
  row = found.row;
  first = found.first;
}

-- the first finding in the logs that the current record names is the verdict
pub log_verdict : (shape : Shape) (body : Body) (image : List ℕ) (finding : Finding) → image_stores image ≡ Ok (stores_named shape body image)
    → HasFirstFinding shape image (body.active ∷ body.frozen) finding → image_verdict image ≡ Some finding
unfolding stores_named
log_verdict shape body image finding stores found =
    first_finding_law image (stores_named shape body image) (map (log_part shape image) found.before) (map (log_part shape image) found.after)
    (log_part shape image found.region) found.place found.row finding stores
    (ap (map (log_part shape image)) found.all ∙ map-append (log_part shape image) found.before (found.region ∷ found.after)) found.sound found.first

-- ---- the puts

-- the puts in the rows of some logs
pub charge_of_logs : (shape : Shape) (image regions : List ℕ) → put_count (oldest_first (map part_rows (map (log_part shape image) regions))) ≡ put_rows shape image regions
charge_of_logs shape image [] = refl
charge_of_logs shape image (region ∷ regions) = search (arith, charge_of_logs shape image regions, count_law, sum_by-cons)
