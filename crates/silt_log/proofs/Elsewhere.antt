-- For the crates above: what calls on other parts of the disk leave of a log, and how its rows make one list.
use Rattle.silt_log.proofs.Common.{◌≡◌, ℕ, ◌+◌, ◌-◌, ◌*◌, ◌≤◌, ◌<◌, IsTrue, List, ◌++◌, length, map, get_or, refl, sym, ap, ◌∙◌, subst, inl, inr, arith, range_with_len, prefix_len, ChangesWithin}
use Rattle.silt_log.proofs.Common.{Content, LeavesOnly, Torn, size, Shape, bodies_at, device_size, commits_at, row_len, shown_left, torn_slice_before, within_leaves, torn_slice_after, CommitsAre}
use Rattle.silt_log.proofs.Common.{body_at, body_row, commit_bytes, row_of, StoredRow, LogState, IsLog, settled_rows, waiting_rows, all_rows, KeepsRows, length-map-range_with_len, is_open, ◌⊎◌}
use Rattle.silt_log.proofs.Common.{LiesOutside, log_len, log_size, within_wider, up_least, get_or-map-range_with_len}
use Rattle.silt_log.specs.Rows.{rows_from, row_at, log_rows, open_count}
use Rattle.silt_log.proofs.Counts.{count_most}
use Rattle.silt_log.proofs.Bodies.{body_before, map_range_same, range_split, rows_behind}
use Rattle.silt_log.proofs.Standing.{commits_within}
use Rattle.silt_log.proofs.Exits.{fits_resized, StandsIn, region_lies, log_from, log_standing, stands_resized}

-- a range outside a log's commit bytes and bodies lies before its commit bytes or after its bodies
pub outside_bodies : (s : Shape) (region at count : ℕ) → LiesOutside (commits_at s region) (log_len s) at count → (at + count ≤ commits_at s region)
    ⊎ (bodies_at s region + s.log_capacity * row_len s ≤ at)
outside_bodies s region at count outside = search arith

-- ---- the rows of a log

-- all rows are the settled ones and then the waiting ones
pub all_are_settled_and_waiting : (content : Content) (log : LogState) → log.settled ≤ log.used → all_rows content log ≡ settled_rows content log ++ waiting_rows content log
unfolding rows_from
all_are_settled_and_waiting content log order =
    let more : ℕ = log.used - log.settled in
    let row : ℕ → StoredRow = row_at log.shape log.region content.shown in
    ap (λ n. map row (range_with_len 0 n)) (omega arith) ∙ range_split row 0 log.settled more
    ∙ ap (λ n. map row (range_with_len 0 log.settled) ++ map row (range_with_len n more)) (omega arith)

-- their number is the log's count
pub all_count : (content : Content) (log : LogState) → length (all_rows content log) ≡ log.used
unfolding rows_from
all_count content log = length-map-range_with_len (row_at log.shape log.region content.shown) 0 log.used

-- and each is the row in its body
pub row_of_all : (content : Content) (log : LogState) (place : ℕ) (default : StoredRow) → place < log.used
    → get_or (all_rows content log) place default ≡ row_at log.shape log.region content.shown place
unfolding rows_from
row_of_all content log place default below = get_or-map-range_with_len (row_at log.shape log.region content.shown) 0 log.used place place default below (omega arith)

-- what is shown has the settled rows
pub shown_rows : (content : Content) (log : LogState) → IsLog content log → IsTrue content.honest → log_rows log.shape log.region content.shown ≡ settled_rows content log
shown_rows content log is honest = is.images.each honest content.shown (shown_left content)

-- ---- a change elsewhere

module _ (commits count bodies len : ℕ) (lies : commits + count ≤ bodies) (at long : ℕ) (outside : (at + long ≤ commits) ⊎ (bodies + count * len ≤ at)) (old new : List ℕ)
    (torn : Torn at long old new) where
  commit_elsewhere : (place : ℕ) → place < count → get_or new (commits + place) 0 ≡ get_or old (commits + place) 0
  commit_elsewhere place below = search arith

  commits_elsewhere : (n : ℕ) → n ≤ count → CommitsAre commits count n old → CommitsAre commits count n new
  commits_elsewhere n most are = search (arith, commit_elsewhere, are.opened, are.closed)

  pub rows_elsewhere : (n : ℕ) → n ≤ count → bodies + count * len ≤ length old → map (body_row bodies len new) (range_with_len 0 n) ≡ map (body_row bodies len old) (range_with_len 0 n)
  rows_elsewhere n most fits = elim outside [
    | inl before ↦ rows_behind bodies len old new at long count 0 n (omega arith) (omega arith) fits torn
    | inr behind ↦ map_range_same (body_row bodies len new) (body_row bodies len old) 0 n (λ place low high.
        let inside : bodies + place * len + len ≤ bodies + count * len = body_before bodies len place count (omega (arith, most, high)) in
        ap row_of (torn_slice_before at long old new torn (bodies + place * len) (bodies + place * len + len) (omega (arith, inside, behind)) (omega (arith, inside, fits))))
  ]

-- a change outside a log region leaves its rows in an image
pub log_rows_elsewhere : (s : Shape) (region at count : ℕ) (old new : List ℕ) → region < s.logs → device_size s ≤ length old
    → LiesOutside (commits_at s region) (log_len s) at count → Torn at count old new → log_rows s region new ≡ log_rows s region old
unfolding log_rows rows_from row_at open_count
log_rows_elsewhere s region at count old new before fits outside torn =
    let place = region_lies s region _ before fits in
    let commits_fit = commits_within _ _ _ _ _ place old refl in
    let inside = place.inside in
    let ends : commits_at s region + s.log_capacity ≤ bodies_at s region + s.log_capacity * row_len s = omega (arith, place.apart) in
    let bytes : commit_bytes (commits_at s region) s.log_capacity new ≡ commit_bytes (commits_at s region) s.log_capacity old = elim outside [
      | inl earlier ↦ torn_slice_after at count old new torn (commits_at s region) (commits_at s region + s.log_capacity) earlier commits_fit
      | inr behind ↦ torn_slice_before at count old new torn (commits_at s region) (commits_at s region + s.log_capacity) (omega (arith, ends, behind)) commits_fit
    ] in
    let counted : ℕ = prefix_len is_open (commit_bytes (commits_at s region) s.log_capacity old) in
    cc (rows_elsewhere _ _ _ _ place.apart at count (outside_bodies s region at count outside) old new torn counted (count_most _ _ old commits_fit) inside)

-- a change outside the region of a log leaves the log and its rows
pub log_elsewhere : (old new : Content) (log : LogState) (at count : ℕ) → IsLog old log → device_size log.shape ≤ size old → size new ≡ size old
    → LiesOutside (commits_at log.shape log.region) (log_len log.shape) at count → ChangesWithin at count old new → KeepsRows old new log log
unfolding rows_from row_at
log_elsewhere old new log at count is fits same outside changes =
    let place = region_lies log.shape log.region (size old) is.bounds.region fits in
    let fits_new = fits_resized log.shape old new fits same in
    let settled_most : log.settled ≤ log.shape.log_capacity = omega (arith, is.bounds.order, is.bounds.room) in
    let leaves : LeavesOnly new (StandsIn new log (settled_rows old log)) = within_leaves changes (log_standing old log is fits)
    (λ before after stands torn. stands_resized old new log (settled_rows old log) after same (record {
      long = torn.size ∙ stands.long;
      are = commits_elsewhere _ _ _ _ place.apart at count (outside_bodies log.shape log.region at count outside) before after torn log.settled settled_most stands.are;
      hold = rows_elsewhere _ _ _ _ place.apart at count (outside_bodies log.shape log.region at count outside) before after torn log.settled
          settled_most (subst (λ n. bodies_at log.shape log.region + log.shape.log_capacity * row_len log.shape ≤ n) (sym stands.long) place.inside) ∙ stands.hold;
    })) in
    let stands = log_from new log (settled_rows old log) is.bounds is.sealed fits_new leaves in
    let all : IsTrue old.honest → all_rows new log ≡ all_rows old log =
    λ honest. rows_elsewhere _ _ _ _ place.apart at count (outside_bodies log.shape log.region at count outside) old.shown new.shown (changes.shown honest) log.used is.bounds.room place.inside in
    record {
      log = refl;
      stands = stands;
      settled = λ honest. (leaves.each (changes.honest ∙ honest) new.shown (shown_left new)).hold;
      all = all;
      full = λ honest. stands.full (changes.honest ∙ honest) ∙ all honest;
    }

-- ---- the changes of a call lie in the log's region

-- a body
pub body_in_region : (s : Shape) (region place : ℕ) (old new : Content) → place < s.log_capacity → ChangesWithin (body_at s region place) (row_len s) old new
    → ChangesWithin (commits_at s region) (log_size s) old new
body_in_region s region place old new before changes =
    let inside : bodies_at s region + place * row_len s + row_len s ≤ bodies_at s region + s.log_capacity * row_len s = body_before (bodies_at s region) (row_len s) place s.log_capacity before in
    within_wider (commits_at s region) (log_size s) (omega arith) (omega (arith, inside, up_least (s.log_capacity * row_len s))) changes

-- some commit bytes
pub commits_in_region : (s : Shape) (region from count : ℕ) (old new : Content) → from + count ≤ s.log_capacity
    → ChangesWithin (commits_at s region + from) count old new → ChangesWithin (commits_at s region) (log_size s) old new
commits_in_region s region from count old new most changes =
    within_wider (commits_at s region) (log_size s) (omega arith) (omega (arith, most, up_least s.log_capacity)) changes
