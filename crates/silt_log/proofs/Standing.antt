-- Images that have the rows of a log.
use Rattle.silt_log.proofs.Common.{◌≡◌, ℕ, ◌+◌, ◌-◌, ◌*◌, ◌≤◌, ◌<◌, List, length, map, replicate, ap, ◌∙◌, inl, inr, arith, prefix_len, range_with_len, cases_lt, get_or-replicate}
use Rattle.silt_log.proofs.Common.{length-replicate, Torn, splice, torn_splice, splice_byte, is_open, CommitsAre, commit_bytes, body_row, StoredRow}
use Rattle.silt_log.proofs.Counts.{same_byte, count_is, count_between, torn_commits}
use Rattle.silt_log.proofs.Bodies.{rows_below, rows_behind}

-- the parts of a log region: its commit bytes before its bodies, all within the device
pub record Lies (commits count bodies len whole : ℕ) : Type 0 where
  pub apart : commits + count ≤ bodies
  pub inside : bodies + count * len ≤ whole

-- in an image of this size the commit bytes of these rows are open and all others closed
pub record Stands (commits count bodies len whole n : ℕ) (rows : List StoredRow) (image : List ℕ) : Type 0 where
  pub long : length image ≡ whole
  pub are : CommitsAre commits count n image
  pub hold : map (body_row bodies len image) (range_with_len 0 n) ≡ rows

module _ (commits count bodies len whole : ℕ) (lies : Lies commits count bodies len whole) where
  -- the commit bytes lie within an image of this size
  pub commits_within : (image : List ℕ) → length image ≡ whole → commits + count ≤ length image
  commits_within image long = omega (arith, lies.apart, lies.inside)

  -- an image's rows are the rows that it has
  pub rows_standing : (n : ℕ) (rows : List StoredRow) (image : List ℕ) → n ≤ count → Stands commits count bodies len whole n rows image
      → map (body_row bodies len image) (range_with_len 0 (prefix_len is_open (commit_bytes commits count image))) ≡ rows
  rows_standing n rows image most stands =
      ap (λ k. map (body_row bodies len image) (range_with_len 0 k)) (count_is commits count image (commits_within image stands.long) n most stands.are) ∙ stands.hold

  -- a write over a body after the rows
  pub body_torn : (used n : ℕ) (rows : List StoredRow) (before after : List ℕ) → used < count → n ≤ used
      → Stands commits count bodies len whole n rows before → Torn (bodies + used * len) len before after → Stands commits count bodies len whole n rows after
  body_torn used n rows before after room most stands torn = record {
    long = torn.size ∙ stands.long;
    are = torn_commits commits count n (bodies + used * len) len before after (omega (arith, room, most)) (omega (arith, lies.apart)) torn stands.are;
    hold = rows_below bodies len before after used count n room (omega (arith, lies.inside, stands.long)) torn most ∙ stands.hold;
  }

  -- a write over some of the commit bytes
  pub commits_torn_rows : (at long from n : ℕ) (before after : List ℕ) → length before ≡ whole → commits ≤ at → at + long ≤ commits + count
      → from + n ≤ count → Torn at long before after → map (body_row bodies len after) (range_with_len from n) ≡ map (body_row bodies len before) (range_with_len from n)
  commits_torn_rows at long from n before after size_is low high most torn =
      rows_behind bodies len before after at long count from n (omega (arith, lies.apart, high)) most (omega (arith, lies.inside, size_is)) torn

  -- with some more commit bytes open
  pub commits_spliced : (n more : ℕ) (rows : List StoredRow) (before : List ℕ) → n + more ≤ count → Stands commits count bodies len whole n rows before
      → Stands commits count bodies len whole (n + more) (map (body_row bodies len before) (range_with_len 0 (n + more))) (splice (commits + n) (replicate more 167) before)
  commits_spliced n more rows before most stands =
      let ones : List ℕ = replicate more 167 in
      let long : length ones ≡ more = length-replicate more 167 in
      let fits : commits + n + length ones ≤ length before = omega (arith, long, lies.apart, lies.inside, stands.long) in
      let torn : Torn (commits + n) (length ones) before (splice (commits + n) ones before) = torn_splice (commits + n) ones before fits in
      record {
        long = torn.size ∙ stands.long;
        are = record {
          opened = λ place below. elim (cases_lt place n) [
            | inl low ↦ ap is_open (torn.before (commits + place) (omega arith)) ∙ stands.are.opened place low
            | inr high ↦ ap is_open (same_byte (splice (commits + n) ones before) (commits + place) (commits + n + (place - n)) (omega arith)
                ∙ splice_byte (commits + n) ones before (place - n) fits (omega (arith, long)) ∙ get_or-replicate more (place - n) 167 0 (omega arith))
          ];
          closed = λ place past below. ap is_open (torn.after (commits + place) (omega (arith, long))) ∙ stands.are.closed place (omega arith) below;
        };
        hold = commits_torn_rows (commits + n) (length ones) 0 (n + more) before _ stands.long (omega arith) (omega (arith, long)) (omega arith) torn;
      }

  -- a write over the commit bytes of the waiting rows leaves the rows and a prefix of these
  pub commits_torn : (n more : ℕ) (rows : List StoredRow) (before after : List ℕ) → n + more ≤ count → Stands commits count bodies len whole n rows before → Torn (commits + n) more before after
      → (n ≤ prefix_len is_open (commit_bytes commits count after)) × (prefix_len is_open (commit_bytes commits count after) ≤ n + more)
  commits_torn n more rows before after most stands torn = count_between commits count after (commits_within after (torn.size ∙ stands.long)) n (n + more)
      (omega arith) most (search (arith, torn.before, stands.are.opened)) (search (arith, torn.after, stands.are.closed))
