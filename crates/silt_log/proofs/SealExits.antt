-- The state at each exit of a seal.
use Rattle.silt_log.proofs.Common.{◌≡◌, ℕ, ◌+◌, ◌-◌, ◌≤◌, ◌<◌, false, IsTrue, List, length, get_or, replicate, refl, sym, ap, ◌∙◌, subst, inl, inr, arith, prefix_len, cases_lt, get_or-replicate}
use Rattle.silt_log.proofs.Common.{length-replicate, Content, Torn, LeavesOnly, ChangesWithin, Writes, Rests, size, splice, commits_at, device_size, rests_leaves, torn_splice, splice_byte}
use Rattle.silt_log.proofs.Common.{is_open, CommitsAre, commit_bytes, LogState, InBounds, settled_rows, Seals, left_at_rest, IsScanned}
use Rattle.silt_log.specs.Rows.{rows_from, row_at, log_rows, open_count, has_stale_commit}
use Rattle.silt_log.proofs.Counts.{same_byte, count_between, counted_open, first_closed, commits_counted}
use Rattle.silt_log.proofs.Standing.{commits_torn_rows, commits_within}
use Rattle.silt_log.proofs.Exits.{fits_resized, StandsIn, region_lies, log_from}

module _ (commits count : ℕ) (old : List ℕ) (fits : commits + count ≤ length old) where
  -- a write past the first closed commit byte leaves the count
  pub counted_same : (image : List ℕ) (n long : ℕ) → n ≡ prefix_len is_open (commit_bytes commits count old) → n < count
      → Torn (commits + n + 1) long old image → prefix_len is_open (commit_bytes commits count image) ≡ n
  counted_same image n long counted room torn =
      let between = count_between commits count image (omega (arith, torn.size)) n n (omega arith) (omega arith) (λ place below. ap is_open (torn.before
      (commits + place) (omega arith)) ∙ counted_open commits count old fits place (omega arith)) (λ below.
      let first : is_open (get_or old (commits + n) 0) ≡ false = ap (λ k. is_open (get_or old (commits + k) 0)) counted ∙ first_closed commits count old fits (omega arith) in
      ap is_open (torn.before (commits + n) (omega arith)) ∙ first) in
      omega (arith, between.0, between.1)

  -- zeros over all commit bytes past the first closed one
  pub sealed_commits : (n more : ℕ) → n ≡ prefix_len is_open (commit_bytes commits count old) → n < count → more ≡ count - (n + 1) → CommitsAre commits count n (splice
      (commits + n + 1) (replicate more 0) old)
  sealed_commits n more counted room rest =
      let zeros : List ℕ = replicate more 0 in
      let long : length zeros ≡ more = length-replicate more 0 in
      let within : commits + n + 1 + length zeros ≤ length old = omega arith in
      let torn = torn_splice (commits + n + 1) zeros old within in
      record {
        opened = λ place below. ap is_open (torn.before (commits + place) (omega arith)) ∙ counted_open commits count old fits place (omega arith);
        closed = λ place past below. elim (cases_lt n place) [
          | inl above ↦ ap is_open (same_byte (splice (commits + n + 1) zeros old) (commits + place) (commits + n + 1 + (place - (n + 1))) (omega arith)
              ∙ splice_byte (commits + n + 1) zeros old (place - (n + 1)) within (omega arith)
              ∙ get_or-replicate more (place - (n + 1)) 0 0 (omega arith))
          | inr most ↦
              let here : place ≡ prefix_len is_open (commit_bytes commits count old) = omega arith in
              cc (torn.before (commits + place) (omega arith), first_closed commits count old fits (omega arith))
        ];
      }

module _ (old new : Content) (log : LogState) (bounds : InBounds log) (fits : device_size log.shape ≤ size old) (rests : Rests old) (scanned : IsTrue old.honest → IsScanned old log) where
  seal_within : commits_at log.shape log.region + log.shape.log_capacity ≤ length old.shown
  seal_within = commits_within _ _ _ _ _ (region_lies log.shape log.region (size old) bounds.region fits) old.shown refl

  -- an image that differs past the first closed commit byte alone
  seal_torn : (image : List ℕ) (long : ℕ) → IsTrue old.honest → log.used < log.shape.log_capacity → long ≡ log.shape.log_capacity - (log.used + 1)
      → Torn (commits_at log.shape log.region + log.used + 1) long old.shown image
      → log_rows log.shape log.region image ≡ log_rows log.shape log.region old.shown
  unfolding log_rows rows_from row_at open_count
  seal_torn image long honest room rest torn =
      let place = region_lies _ _ _ bounds.region fits in
      let low : commits_at log.shape log.region ≤ commits_at log.shape log.region + log.used + 1 = omega arith in
      let high : commits_at log.shape log.region + log.used + 1 + long ≤ commits_at log.shape log.region + log.shape.log_capacity = omega (arith, room, rest) in
      cc (
        counted_same _ _ old.shown seal_within image log.used long (scanned honest).used room torn,
        commits_torn_rows _ _ _ _ _ place (commits_at log.shape log.region + log.used + 1) long 0 log.used old.shown image refl low high (omega (arith, room)) torn,
        (scanned honest).used,
      )

  -- at each exit
  pub seal_images : (long : ℕ) → log.used < log.shape.log_capacity → long ≡ log.shape.log_capacity - (log.used + 1) → ChangesWithin (commits_at log.shape log.region + log.used + 1) long old new
      → LeavesOnly new (λ image. log_rows log.shape log.region image ≡ log_rows log.shape log.region old.shown)
  seal_images long room rest changes = record { each = search (arith, seal_torn, left_at_rest, changes.left) }

  -- at the exit with Ok, if a commit byte past the first closed one was open
  pub seal_done : (more : ℕ) → log.used < log.shape.log_capacity → more ≡ log.shape.log_capacity - (log.used + 1) → size new ≡ size old
      → Writes (commits_at log.shape log.region + log.used + 1) (replicate more 0) old new → Rests new
      → Seals old new log (record log { stale = false })
  unfolding rows_from row_at open_count
  seal_done more room rest same writes settled =
      let after : LogState = record log { stale = false } in
      let place = region_lies log.shape log.region (size old) bounds.region fits in
      let fits_new = fits_resized log.shape old new fits same in
      let bounds_new : InBounds after = search arith in
      let zeros : List ℕ = replicate more 0 in
      let long : length zeros ≡ more = length-replicate more 0 in
      let low : commits_at log.shape log.region ≤ commits_at log.shape log.region + log.used + 1 = omega arith in
      let high : commits_at log.shape log.region + log.used + 1 + length zeros ≤ commits_at log.shape log.region + log.shape.log_capacity = omega (arith, room, rest, long) in
      let within : commits_at log.shape log.region + log.used + 1 + length zeros ≤ length old.shown = omega (arith, high, seal_within) in
      let stands : IsTrue old.honest → StandsIn new after (settled_rows old log) new.shown = λ honest.
      let counted : log.settled ≡ log.used = (scanned honest).settled ∙ sym (scanned honest).used in
      let torn = torn_splice (commits_at log.shape log.region + log.used + 1) zeros old.shown within in
      let are : CommitsAre (commits_at log.shape log.region) log.shape.log_capacity log.settled (splice (commits_at log.shape log.region + log.used + 1) zeros old.shown) =
      search (arith, sealed_commits, seal_within) in
      subst (StandsIn new after (settled_rows old log)) (sym (writes.shown honest)) (record {
        long = torn.size ∙ sym same;
        are = are;
        hold = commits_torn_rows _ _ _ _ _ place (commits_at log.shape log.region + log.used + 1) (length zeros) 0 log.settled old.shown _ refl low high (omega (arith, counted, room)) torn;
      }) in
      record {
        log = refl;
        stands = log_from new after (settled_rows old log) bounds_new refl fits_new (rests_leaves settled (record { holds = λ honest. stands (sym writes.honest ∙ honest) }));
        settled = λ honest. (stands honest).hold;
      }

-- if no commit byte past the first closed one was open
module _ (old : Content) (log : LogState) (bounds : InBounds log) (fits : device_size log.shape ≤ size old) (rests : Rests old) (scanned : IsTrue old.honest → IsScanned old log) where
  pub quiet_images : LeavesOnly old (λ image. log_rows log.shape log.region image ≡ log_rows log.shape log.region old.shown)
  quiet_images = record { each = λ honest image left. ap (log_rows log.shape log.region) (left_at_rest rests honest image left) }

  pub quiet_done : log.stale ≡ false → Seals old old log log
  unfolding has_stale_commit rows_from row_at open_count
  quiet_done tight =
      let within : commits_at log.shape log.region + log.shape.log_capacity ≤ length old.shown = search (arith, commits_within, region_lies) in
      let stands : IsTrue old.honest → StandsIn old log (settled_rows old log) old.shown = search (arith, commits_counted) in
      record {
        log = ap (λ stale. record log { stale = stale }) tight;
        stands = log_from old log (settled_rows old log) bounds tight fits (rests_leaves rests (record { holds = stands }));
        settled = λ honest. refl;
      }
