-- The state at each exit of the calls that write all commit bytes of a log or those of the waiting rows.
use Rattle.silt_log.proofs.Common.{◌≡◌, ℕ, ◌+◌, ◌-◌, ◌≤◌, ◌<◌, false, IsTrue, List, [], ◌++◌, length, map, replicate, refl, sym, ap, ◌∙◌, subst, inl, inr, arith, prefix_len, range_with_len}
use Rattle.silt_log.proofs.Common.{false≢true, get_or-replicate, length-replicate, append-nil, length-map-range_with_len, Content, Torn, LeavesOnly, Writes, Rests, size, splice, row_len}
use Rattle.silt_log.proofs.Common.{commits_at, bodies_at, device_size, shown_left, rests_leaves, splice_byte, is_open, commit_bytes, body_row, StoredRow, LogState, InBounds, IsLog, settled_rows}
use Rattle.silt_log.proofs.Common.{all_rows, SyncsAndTears, OpensCommits, take-map-range_with_len, first_rows, opened_image, Empties, OpensSome, HasBeginning}
use Rattle.silt_log.specs.Rows.{rows_from, row_at, log_rows, open_count}
use Rattle.silt_log.proofs.Bodies.{range_split}
use Rattle.silt_log.proofs.Splices.{spliced_over}
use Rattle.silt_log.proofs.Standing.{Stands, commits_torn_rows, commits_spliced, commits_torn, commits_within}
use Rattle.silt_log.proofs.Exits.{fits_resized, StandsIn, region_lies, log_from, log_standing, stands_images}

-- ---- prepare: zeros over all commit bytes

pub prepare_done : (old new : Content) (log : LogState) (bytes : ℕ) → log.region < log.shape.logs → device_size log.shape ≤ size old → size new ≡ size old → bytes ≡ log.shape.log_capacity
    → Writes (commits_at log.shape log.region) (replicate bytes 0) old new → Rests new → Empties new log (record log { settled = 0; used = 0; stale = false })
unfolding rows_from
prepare_done old new log bytes region fits same all writes rests =
    let after : LogState = record log { settled = 0; used = 0; stale = false } in
    let place = region_lies log.shape log.region (size old) region fits in
    let bounds : InBounds after = search arith in
    let fits_new = fits_resized log.shape old new fits same in
    let zeros : List ℕ = replicate bytes 0 in
    let long : length zeros ≡ bytes = length-replicate bytes 0 in
    let within : commits_at log.shape log.region + log.shape.log_capacity ≤ size old = commits_within _ _ _ _ _ place old.shown refl in
    let leaves : LeavesOnly new (StandsIn new after []) = search (arith, rests_leaves, splice_byte, get_or-replicate, writes.shown) in
    record { log = refl; stands = log_from new after [] bounds refl fits_new leaves; images = stands_images new after [] bounds fits_new leaves }

-- ---- open_commits: a sync, a write over the commit bytes of the waiting rows, a sync

module _ (old : Content) (log : LogState) (is : IsLog old log) (fits : device_size log.shape ≤ size old) where
  open_most : log.settled + (log.used - log.settled) ≤ log.shape.log_capacity
  open_most = omega (arith, is.bounds.order, is.bounds.room)

  -- what is shown has the settled rows
  open_shown : IsTrue old.honest → StandsIn old log (settled_rows old log) old.shown
  open_shown honest = (log_standing old log is fits).each honest old.shown (shown_left old)

  -- the commit bytes of the waiting rows lie within what is shown
  open_within : commits_at log.shape log.region + log.settled + length {A = ℕ} (replicate (log.used - log.settled) 167) ≤ length old.shown
  open_within = search (arith, region_lies, commits_within, length-replicate, open_most)

  -- after a write there, with all of these commit bytes open, the image is the same
  pub open_full_same : (new : List ℕ) → Torn (commits_at log.shape log.region + log.settled) (log.used - log.settled) old.shown new
      → splice (commits_at log.shape log.region + log.settled) (replicate (log.used - log.settled) 167) new ≡ opened_image old log
  open_full_same new torn = search (arith, length-replicate, spliced_over, open_within)

  -- an image with some of these commit bytes open
  pub open_beginning : (before image : List ℕ) → StandsIn old log (settled_rows old log) before → before ≡ old.shown
      → Torn (commits_at log.shape log.region + log.settled) (log.used - log.settled) before image → HasBeginning old log image
  unfolding log_rows rows_from row_at open_count
  open_beginning before image stands shown torn =
      let place = region_lies log.shape log.region (size old) is.bounds.region fits in
      let more : ℕ = log.used - log.settled in
      let counted : ℕ = prefix_len is_open (commit_bytes (commits_at log.shape log.region) log.shape.log_capacity image) in
      let between = commits_torn _ _ _ _ _ place log.settled more (settled_rows old log) before image open_most stands torn in
      let low : log.settled ≤ counted = between.0 in
      let high : counted ≤ log.settled + more = between.1 in
      let row : ℕ → StoredRow = body_row (bodies_at log.shape log.region) (row_len log.shape) old.shown in
      let within : commits_at log.shape log.region ≤ commits_at log.shape log.region + log.settled = omega arith in
      let ends : commits_at log.shape log.region + log.settled + more ≤ commits_at log.shape log.region + log.shape.log_capacity = omega (arith, open_most) in (
        counted - log.settled,
        subst (λ n. counted - log.settled ≤ n) (sym (length-map-range_with_len row log.settled more)) (omega arith),
        commits_torn_rows _ _ _ _ _ place (commits_at log.shape log.region + log.settled) more 0 counted before image stands.long within ends (omega (arith, high, open_most)) torn
            ∙ ap (λ (shown : List ℕ). map (body_row (bodies_at log.shape log.region) (row_len log.shape) shown) (range_with_len 0 counted)) shown
            ∙ ap (λ n. map row (range_with_len 0 n)) (omega arith)
            ∙ range_split row 0 log.settled (counted - log.settled)
            ∙ ap (λ n. map row (range_with_len 0 log.settled) ++ map row (range_with_len n (counted - log.settled))) (omega arith)
            ∙ ap (λ rest. map row (range_with_len 0 log.settled) ++ rest) (sym (take-map-range_with_len row log.settled more (counted - log.settled) (omega arith))),
      )

  -- at an exit with a fault
  pub open_failed : (new : Content) → SyncsAndTears (commits_at log.shape log.region + log.settled) (log.used - log.settled) old new → OpensSome old new log log
  open_failed new tears = record {
    log = refl;
    images = record {
      each = λ honest image left.
          let was : IsTrue old.honest = sym tears.honest ∙ honest in
          elim (tears.left was image left) [
            | inl before ↦ (0, omega arith, is.images.each was image before ∙ sym (append-nil (settled_rows old log)))
            | inr torn ↦ open_beginning old.shown image (open_shown was) refl torn
          ];
    };
    full = λ honest. ap (log_rows log.shape log.region) (open_full_same new.shown (tears.shown honest)) ∙ is.full honest;
  }

  -- at the exit with Ok
  pub open_done : (new : Content) (bytes : ℕ) → bytes ≡ log.used - log.settled → size new ≡ size old → Writes (commits_at log.shape log.region + log.settled) (replicate bytes 167) old new → Rests new
      → OpensCommits old new log (record log { settled = log.used })
  unfolding rows_from row_at
  open_done new bytes count same writes rests =
      let after : LogState = record log { settled = log.used } in
      let place = region_lies log.shape log.region (size old) is.bounds.region fits in
      let more : ℕ = log.used - log.settled in
      let both : log.settled + more ≡ log.used = omega (arith, is.bounds.order) in
      let fits_new = fits_resized log.shape old new fits same in
      let bounds : InBounds after = record { region = is.bounds.region; order = omega arith; room = is.bounds.room; gap = λ stale. absurd (false≢true (sym is.sealed ∙ stale)) } in
      let shown : IsTrue old.honest → new.shown ≡ opened_image old log = λ honest.
      writes.shown honest ∙ ap (λ n. splice (commits_at log.shape log.region + log.settled) (replicate n 167) old.shown) count in
      let stands : IsTrue old.honest → StandsIn new after (all_rows old log) new.shown = λ honest.
      let opened = commits_spliced _ _ _ _ _ place log.settled more (settled_rows old log) old.shown open_most (open_shown honest) in
      let as_used = subst (λ n. Stands (commits_at log.shape log.region) log.shape.log_capacity (bodies_at log.shape log.region)
      (row_len log.shape) (size old) n (first_rows log.shape log.region old.shown n) (opened_image old log)) both opened in
      subst (StandsIn new after (all_rows old log)) (sym (shown honest)) (record { long = as_used.long ∙ sym same; are = as_used.are; hold = as_used.hold }) in
      let leaves : LeavesOnly new (StandsIn new after (all_rows old log)) = rests_leaves rests (record { holds = λ honest. stands (sym writes.honest ∙ honest) }) in
      record {
        log = refl;
        stands = log_from new after (all_rows old log) bounds is.sealed fits_new leaves;
        settled = λ honest. (stands honest).hold;
        all = λ honest. (stands honest).hold;
      }
