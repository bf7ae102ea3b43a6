-- The state at each exit of the calls of a log.
use Rattle.silt_log.proofs.Common.{◌≡◌, ℕ, ◌+◌, ◌-◌, ◌*◌, ◌≤◌, ◌<◌, false, IsTrue, List, [], ◌∷◌, ◌++◌, length, refl, sym, ap, ◌∙◌, subst, arith, map-range_with_len_more, Content, LeavesOnly}
use Rattle.silt_log.proofs.Common.{ChangesWithin, Writes, size, Shape, row_len, commits_at, bodies_at, device_size, shown_left, within_leaves, body_row, body_at, row_of, StoredRow, LogState}
use Rattle.silt_log.proofs.Common.{InBounds, IsLog, settled_rows, all_rows, KeepsRows, regions_apart, Appends}
use Rattle.silt_log.specs.Rows.{row_at, rows_from, log_rows, open_count}
use Rattle.silt_log.proofs.Counts.{count_is}
use Rattle.silt_log.proofs.Bodies.{body_before, rows_below, row_written}
use Rattle.silt_log.proofs.Standing.{Lies, Stands, rows_standing, body_torn, commits_spliced, commits_within}

-- a log region lies within the device
pub log_inside : (s : Shape) (region : ℕ) → region < s.logs → bodies_at s region + s.log_capacity * row_len s ≤ device_size s
log_inside s region before = search (arith, regions_apart)

pub region_lies : (s : Shape) (region len : ℕ) → region < s.logs → device_size s ≤ len → Lies (commits_at s region) s.log_capacity (bodies_at s region) (row_len s) len
region_lies s region len before fits = search (arith, log_inside, regions_apart)

-- so does each of its bodies
pub body_inside : (s : Shape) (bodies place : ℕ) → bodies + s.log_capacity * row_len s ≤ device_size s → place < s.log_capacity → bodies + place * row_len s + row_len s ≤ device_size s
body_inside s bodies place inside before = search (arith, body_before)

-- an image of this disk has the settled rows
abbrev pub StandsIn : Content → LogState → List StoredRow → List ℕ → Type 0
StandsIn content log rows = Stands (commits_at log.shape log.region) log.shape.log_capacity (bodies_at log.shape log.region) (row_len log.shape) (size content) log.settled rows

-- a log matches the disk if each image has its settled rows
pub log_from : (content : Content) (log : LogState) (rows : List StoredRow) → InBounds log → log.stale ≡ false → device_size log.shape ≤ size content
    → LeavesOnly content (StandsIn content log rows) → IsLog content log
unfolding log_rows rows_from row_at open_count
log_from content log rows bounds sealed fits leaves =
    let place = region_lies _ _ _ bounds.region fits in
    let shown : IsTrue content.honest → StandsIn content log rows content.shown = λ honest. leaves.each honest content.shown (shown_left _) in
    let more : ℕ = log.used - log.settled in
    let both : log.settled + more ≡ log.used = omega (arith, bounds.order) in
    let most : log.settled + more ≤ log.shape.log_capacity = omega (arith, both, bounds.room) in
    record {
      bounds = bounds;
      sealed = sealed;
      images = record { each = λ honest image left. rows_standing _ _ _ _ _ place _ rows image (omega (arith, most)) (leaves.each honest image left) ∙ sym (shown honest).hold };
      full = λ honest.
          cc (rows_standing _ _ _ _ _ place (log.settled + more) _ _ most (commits_spliced _ _ _ _ _ place log.settled more rows content.shown most (shown honest)));
      commits = record { each = λ honest image left. (leaves.each honest image left).are };
    }

-- each image of a log has its settled rows
pub log_standing : (content : Content) (log : LogState) → IsLog content log → device_size log.shape ≤ size content → LeavesOnly content (StandsIn content log (settled_rows content log))
unfolding log_rows rows_from row_at open_count
log_standing content log is fits =
    let place = region_lies _ _ _ is.bounds.region fits in
    let most : log.settled ≤ log.shape.log_capacity = omega (arith, is.bounds.order, is.bounds.room) in
    record {
      each = λ honest image left.
          let long : length image ≡ size content = left.size ∙ sym content.sizes in
          let commits = is.commits.each honest image left in
          record {
            long = long;
            are = commits;
            hold = cc (count_is _ _ image (commits_within _ _ _ _ _ place image long) log.settled most commits, is.images.each honest image left);
          };
    }

-- the rows of a log in its images
pub stands_images : (content : Content) (log : LogState) (rows : List StoredRow) → InBounds log → device_size log.shape ≤ size content
    → LeavesOnly content (StandsIn content log rows) → LeavesOnly content (λ image. log_rows log.shape log.region image ≡ rows)
unfolding log_rows rows_from row_at open_count
stands_images content log rows bounds fits leaves =
    let place = region_lies log.shape log.region (size content) bounds.region fits in
    record { each = λ honest image left. rows_standing _ _ _ _ _ place log.settled rows image (omega (arith, bounds.order, bounds.room)) (leaves.each honest image left) }

-- a device of the same size has room for the same regions
pub fits_resized : (s : Shape) (old new : Content) → device_size s ≤ size old → size new ≡ size old → device_size s ≤ size new
fits_resized s old new fits same = subst (λ n. device_size s ≤ n) (sym same) fits

-- the same image on a disk of the same size
pub stands_resized : (old new : Content) (log : LogState) (rows : List StoredRow) (image : List ℕ) → size new ≡ size old → StandsIn old log rows image → StandsIn new log rows image
stands_resized old new log rows image same stands = record { long = stands.long ∙ sym same; are = stands.are; hold = stands.hold }

-- ---- append: a write over a body after the rows

module _ (old new : Content) (log : LogState) (is : IsLog old log) (fits : device_size log.shape ≤ size old) (same : size new ≡ size old)
    (room : log.used < log.shape.log_capacity) (changes : ChangesWithin (body_at log.shape log.region log.used) (row_len log.shape) old new) where
  append_stands : LeavesOnly new (StandsIn new log (settled_rows old log))
  append_stands =
      let place = region_lies log.shape log.region (size old) is.bounds.region fits in
      within_leaves changes (log_standing old log is fits) (λ before after stands torn. search (arith, stands_resized, body_torn))

  append_fits : device_size log.shape ≤ size new
  append_fits = fits_resized log.shape old new fits same

  -- at each exit
  pub append_images : LeavesOnly new (λ image. log_rows log.shape log.region image ≡ settled_rows old log)
  append_images = stands_images new log (settled_rows old log) is.bounds append_fits append_stands

  append_settled : IsTrue old.honest → settled_rows new log ≡ settled_rows old log
  unfolding rows_from row_at
  append_settled honest = (append_stands.each (changes.honest ∙ honest) new.shown (shown_left new)).hold

  append_all : IsTrue old.honest → all_rows new log ≡ all_rows old log
  unfolding rows_from row_at
  append_all honest =
      let place = region_lies log.shape log.region (size old) is.bounds.region fits in
      rows_below (bodies_at log.shape log.region) (row_len log.shape) old.shown new.shown log.used log.shape.log_capacity log.used room place.inside (changes.shown honest) (omega arith)

  -- at an exit with a fault
  pub append_failed : KeepsRows old new log log
  append_failed =
      let stands = log_from new log (settled_rows old log) is.bounds is.sealed append_fits append_stands in
      record { log = refl; stands = stands; settled = append_settled; all = append_all; full = λ honest. stands.full (changes.honest ∙ honest) ∙ append_all honest }

  -- at the exit with Ok
  pub append_done : (bytes : List ℕ) → length bytes ≡ row_len log.shape → Writes (body_at log.shape log.region log.used) bytes old new
      → Appends (row_of bytes) old new log (record log { used = log.used + 1 })
  unfolding rows_from row_at
  append_done bytes long writes =
      let place = region_lies log.shape log.region (size old) is.bounds.region fits in
      let bounds : InBounds (record log { used = log.used + 1 }) = search arith in
      let row : ℕ → StoredRow = body_row (bodies_at log.shape log.region) (row_len log.shape) new.shown in
      record {
        log = refl;
        stands = log_from new (record log { used = log.used + 1 }) (settled_rows old log) bounds is.sealed append_fits append_stands;
        settled = append_settled;
        all = λ honest. map-range_with_len_more row 0 log.used log.used (omega arith)
            ∙ ap (λ rows. rows ++ row log.used ∷ []) (append_all honest)
            ∙ ap (λ last. all_rows old log ++ last ∷ [])
            (cc (writes.shown honest, row_written (bodies_at log.shape log.region) (row_len log.shape) old.shown bytes log.used log.shape.log_capacity room long place.inside));
      }

-- the same for a row and a log under other names
pub appends_as : (row row_other : StoredRow) (old new : Content) (before after after_other : LogState) → row ≡ row_other
    → after_other ≡ after → Appends row old new before after → Appends row_other old new before after_other
appends_as row row_other old new before after after_other same_row same_after appends = search arith
