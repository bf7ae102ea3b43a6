-- The result of a scan.
use Rattle.silt_log.proofs.Common.{◌≡◌, ℕ, Bool, List, map, drop, Result, Ok, ap, ◌∙◌, prefix_len, range_with_len, list_any, Shape, row_len, commits_at, bodies_at, is_open, Row, ScanError}
use Rattle.silt_log.proofs.Common.{AreRows, FirstUnknown, commit_bytes, body_row, IsScanRefused, is_ok, MatchResult, arith}
use Rattle.silt_log.specs.Rows.{row_at, rows_from, log_rows, open_count, has_stale_commit}
use Rattle.silt_log.proofs.Scanned.{refused_weaker}

-- a mapped result is Ok only if the result was
pub mapped_ok : {T E F : Type 0} (Q : E → Type 0) (before : Result T E) (after : Result T F) (x : T) → is_ok after ≡ is_ok before
    → MatchResult before (λ y. after ≡ Ok y) Q → after ≡ Ok x → before ≡ Ok x
mapped_ok Q before after x same mapped is = search arith

module _ (shape : Shape) (region : ℕ) (shown : List ℕ) (at commits bodies len count : ℕ) (at_is : at ≡ commits_at shape region)
    (commits_are : commits ≡ shape.log_capacity) (bodies_is : bodies ≡ bodies_at shape region) (len_is : len ≡ row_len shape) (counted : count ≡ prefix_len is_open
    (commit_bytes at commits shown)) where
  commits_same : commit_bytes at commits shown ≡ commit_bytes (commits_at shape region) shape.log_capacity shown
  commits_same = ap (λ n. commit_bytes n commits shown) at_is ∙ ap (λ n. commit_bytes (commits_at shape region) n shown) commits_are

  -- the rows before the first closed commit byte are counted
  pub scan_count : count ≡ open_count shape region shown
  unfolding open_count
  scan_count = counted ∙ ap (prefix_len is_open) commits_same

  -- a commit byte past them was looked for
  pub scan_stale : (stale : Bool) → stale ≡ list_any is_open (drop count (commit_bytes at commits shown)) → stale ≡ has_stale_commit shape region shown
  unfolding has_stale_commit
  scan_stale stale found = search (arith, scan_count, commits_same)

  -- and their rows were read
  pub scan_rows : (rows : List Row) → AreRows rows (map (body_row bodies len shown) (range_with_len 0 count)) → AreRows rows (log_rows shape region shown)
  unfolding log_rows rows_from row_at
  scan_rows rows are = search (arith, scan_count)

  -- or the first of an unknown kind was found
  pub scan_unknown : (place : ℕ) → FirstUnknown (body_row bodies len shown) count place → FirstUnknown (row_at shape region shown) (open_count shape region shown) place
  unfolding row_at
  scan_unknown place first = search (arith, scan_count)

-- so a refused scan names that row
pub scan_refused : {F : Type 0} (honest : Type 0) (shape : Shape) (region : ℕ) (shown : List ℕ) (at commits bodies len count : ℕ)
    (was_given : F → Type 0) (error : ScanError F) → at ≡ commits_at shape region → commits ≡ shape.log_capacity → bodies ≡ bodies_at shape region → len ≡ row_len shape
    → (honest → count ≡ prefix_len is_open (commit_bytes at commits shown))
    → IsScanRefused (λ place. honest → FirstUnknown (body_row bodies len shown) count place) was_given error
    → IsScanRefused (λ place. honest → FirstUnknown (row_at shape region shown) (open_count shape region shown) place) was_given error
scan_refused honest shape region shown at commits bodies len count was_given error at_is commits_are bodies_is len_is counted refused = search (arith, refused_weaker, scan_unknown)
