-- How many commit bytes are open before the first closed one.
use Rattle.silt_log.proofs.Common.{◌≡◌, ℕ, ◌+◌, ◌-◌, ◌≤◌, ◌<◌, true, false, List, length, drop, get_or, sym, ap, ◌∙◌, inl, inr, arith, length-drop, prefix_len, list_any, cases_lt, cases_Bool}
use Rattle.silt_log.proofs.Common.{false≢true, length-between, get_or-between, Torn, is_open, CommitsAre, commit_bytes, get_or-drop, cases_order}
use Rattle.std.proofs.lemmas.List.Folds.{list_any_at}
use Rattle.std.proofs.lemmas.List.Sums.{prefix_len-le-length, prefix_len_passes, prefix_len_stops}

-- equal places have the same byte
pub same_byte : (image : List ℕ) (a b : ℕ) → a ≡ b → get_or image a 0 ≡ get_or image b 0
same_byte image a b same = ap (λ (n : ℕ). get_or image n 0) same

module _ (commits count : ℕ) (image : List ℕ) (fits : commits + count ≤ length image) where
  -- the buffer has each commit byte
  pub commits_length : length (commit_bytes commits count image) ≡ count
  commits_length = let long = length-between image commits (commits + count) fits in omega (arith, long)

  -- a commit byte
  pub commit_byte : (place : ℕ) → place < count → get_or (commit_bytes commits count image) place 0 ≡ get_or image (commits + place) 0
  commit_byte place below = get_or-between image commits (commits + count) place 0 (omega arith)

  -- no more commit bytes are counted than there are
  pub count_most : prefix_len is_open (commit_bytes commits count image) ≤ count
  count_most = omega (arith, prefix_len-le-length is_open (commit_bytes commits count image), commits_length)

  -- a commit byte that is counted is open
  pub counted_open : (place : ℕ) → place < prefix_len is_open (commit_bytes commits count image) → is_open (get_or image (commits + place) 0) ≡ true
  counted_open place below =
      let inside : place < count = omega (arith, count_most) in
      ap is_open (sym (commit_byte place inside)) ∙ prefix_len_passes is_open (commit_bytes commits count image) place 0 below

  -- the first commit byte that is not counted is closed
  pub first_closed : prefix_len is_open (commit_bytes commits count image) < count → is_open (get_or image (commits + prefix_len is_open (commit_bytes commits count image)) 0) ≡ false
  first_closed below = ap is_open (sym (commit_byte _ below)) ∙ prefix_len_stops is_open (commit_bytes commits count image) 0 (omega (arith, commits_length))

  -- the first n open and all others closed: n are counted
  pub count_is : (n : ℕ) → n ≤ count → CommitsAre commits count n image → prefix_len is_open (commit_bytes commits count image) ≡ n
  count_is n most are =
      let counted : ℕ = prefix_len is_open (commit_bytes commits count image) in
      elim (cases_order counted n) [
        | inl same ↦ same
        | inr (inl below) ↦ absurd (false≢true (sym (first_closed (omega arith)) ∙ are.opened counted below))
        | inr (inr above) ↦ absurd (false≢true (sym (are.closed n (omega arith) (omega (arith, count_most))) ∙ counted_open n above))
      ]

  -- between n open commit bytes and a closed one from m on, at least n and at most m are counted
  pub count_between : (n m : ℕ) → n ≤ count → m ≤ count → ((place : ℕ) → place < n → is_open (get_or image (commits + place) 0) ≡ true) → (m < count → is_open (get_or image (commits + m) 0) ≡ false)
      → (n ≤ prefix_len is_open (commit_bytes commits count image)) × (prefix_len is_open (commit_bytes commits count image) ≤ m)
  count_between n m low high opened closed =
      let counted : ℕ = prefix_len is_open (commit_bytes commits count image) in (
        search (arith, cases_lt, first_closed),
        elim (cases_lt m counted) [
          | inl above ↦ absurd (false≢true (sym (closed (omega (arith, count_most))) ∙ counted_open m above))
          | inr most ↦ most
        ],
      )

  -- if no commit byte past the counted ones is open, exactly the counted ones are
  pub commits_counted : list_any is_open (drop (prefix_len is_open (commit_bytes commits count image)) (commit_bytes commits count image)) ≡ false
      → CommitsAre commits count (prefix_len is_open (commit_bytes commits count image)) image
  commits_counted none =
      let bytes : List ℕ = commit_bytes commits count image in
      let counted : ℕ = prefix_len is_open bytes in
      record {
        opened = counted_open;
        closed = λ place past below.
            let here : get_or (drop counted bytes) (place - counted) 0 ≡ get_or image (commits + place) 0 =
            search (arith, get_or-drop, same_byte, commit_byte) in
            search (arith, cases_Bool, list_any_at, length-drop, commits_length);
      }

-- ---- after a write

-- commit bytes outside a write's range stay
pub torn_commits : (commits count n at len : ℕ) (old new : List ℕ) → n ≤ count → commits + count ≤ at → Torn at len old new → CommitsAre commits count n old → CommitsAre commits count n new
torn_commits commits count n at len old new most apart torn are = search (arith, torn.before, are.opened, are.closed)
