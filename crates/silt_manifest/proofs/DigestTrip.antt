-- What is written of digests is what is read.
use Rattle.silt_manifest.proofs.Common.{◌≡◌, ℕ, suc, ◌+◌, ◌*◌, ◌<◌, true, nat_le, List, [], ◌∷◌, ◌++◌, length, map, get_or, refl, sym, ap, ◌∙◌, arith, append_assoc, append-nil, length-append}
use Rattle.silt_manifest.proofs.Common.{range_with_len, nat_tests, number_at, Digest, FitsSlot, body_bytes, long_bit, FitsDigests, digest_at, digest_bytes, digests_bytes, digests_of, is_long}
use Rattle.silt_manifest.proofs.Common.{record_bytes, Body, Digests, drop_at, take_at, body_of, RecordLaw}
use Rattle.silt_manifest.proofs.RoundTrip.{body_law, fitting_length, generation_field, map_same, range_on}

-- a digest behind some bytes
digest_behind : (d : Digest) (i : ℕ) (pre post : List ℕ) → length pre ≡ i → length d.0 ≡ 20 → digest_at i (pre ++ (d.0 ++ post)) ≡ d
digest_behind d i pre post e long = grind (arith, drop_at, take_at)

-- digests of 20 bytes each
abbrev pub AllLong : List Digest → Digest → Type 0
AllLong ds d = (k : ℕ) → k < length ds → length (get_or ds k d).0 ≡ 20

-- the digests behind the first
long_rest : (d : Digest) (ds : List Digest) (none : Digest) → AllLong (d ∷ ds) none → AllLong ds none
long_rest d ds none long k inside = let next = long (suc k) in next (omega arith)

-- digests one after the other
digests_behind : (ds : List Digest) (none : Digest) (i : ℕ) (pre post : List ℕ) → length pre ≡ i → AllLong ds none
    → map (λ k. digest_at (i + 20 * k) (pre ++ (digest_bytes ds ++ post))) (range_with_len 0 (length ds)) ≡ ds
digests_behind [] none i pre post e long = refl
digests_behind (d ∷ ds) none i pre post e long =
    let bytes = pre ++ ((d.0 ++ digest_bytes ds) ++ post) in
    let one : bytes ≡ pre ++ (d.0 ++ (digest_bytes ds ++ post)) = ap (λ s. pre ++ s) (append_assoc d.0 (digest_bytes ds) post) in
    let two : bytes ≡ (pre ++ d.0) ++ (digest_bytes ds ++ post) = one ∙ sym (append_assoc pre d.0 (digest_bytes ds ++ post)) in
    let first : length d.0 ≡ 20 = long 0 (omega arith) in
    let place : i + 20 * 0 ≡ i = omega arith in
    let head : digest_at (i + 20 * 0) bytes ≡ d = cc (digest_behind d i pre (digest_bytes ds ++ post) e first) in
    let moved : (k : ℕ) → digest_at (i + 20 * (k + 1)) bytes ≡ digest_at (i + 20 + 20 * k) ((pre ++ d.0) ++ (digest_bytes ds ++ post)) =
    λ k. let same : i + 20 * (k + 1) ≡ i + 20 + 20 * k = omega arith in cc in
    let rest = digests_behind ds none (i + 20) (pre ++ d.0) post (omega (arith, length-append pre d.0, e, first)) (long_rest d ds none long) in
    cc (range_on (λ k. digest_at (i + 20 * k) bytes) 0 (length ds), map_same _ _ (range_with_len 0 (length ds)) moved)

-- twenty bytes for each digest
pub length_digest_bytes : (ds : List Digest) (none : Digest) → AllLong ds none → length (digest_bytes ds) ≡ 20 * length ds
length_digest_bytes [] none long = refl
length_digest_bytes (d ∷ ds) none long = omega (arith, length-append d.0 (digest_bytes ds), long 0 (omega arith), length_digest_bytes ds none (long_rest d ds none long))

-- 340 bytes
pub length_digests_bytes : (d : Digests) → FitsDigests d → length (digests_bytes d) ≡ 340
length_digests_bytes d fits =
    omega (arith, length-append (digest_bytes d.hashed) d.sorted.0, fits.sorted, fits.count, length_digest_bytes d.hashed d.sorted (λ k inside. fits.hashed k (omega (arith, fits.count))))

-- 460 bytes
pub length_record_bytes : (b : Body) (d : Digests) → FitsSlot b → FitsDigests d → length (record_bytes b d) ≡ 460
length_record_bytes b d fits fits_digests = omega (arith, length-append (body_bytes b) (digests_bytes d), fitting_length b fits, length_digests_bytes d fits_digests)

-- the digests of a slot read back
digests_back : (front : List ℕ) (d : Digests) → length front ≡ 121 → FitsDigests d → digests_of (front ++ digests_bytes d) ≡ d
digests_back front d long fits =
    let slot = front ++ digests_bytes d in
    let all_long : AllLong d.hashed d.sorted = λ k inside. fits.hashed k (omega (arith, fits.count)) in
    let hashed : map (λ k. digest_at (121 + 20 * k) slot) (range_with_len 0 16) ≡ d.hashed =
    ap (λ (n : ℕ). map (λ k. digest_at (121 + 20 * k) slot) (range_with_len 0 n)) (sym fits.count) ∙ digests_behind d.hashed d.sorted 121 front d.sorted.0 long all_long in
    let whole : slot ≡ (front ++ digest_bytes d.hashed) ++ (d.sorted.0 ++ []) =
    sym (append_assoc front (digest_bytes d.hashed) d.sorted.0) ∙ ap (λ rest. (front ++ digest_bytes d.hashed) ++ rest) (sym (append-nil d.sorted.0)) in
    let before : length (front ++ digest_bytes d.hashed) ≡ 441 = omega (arith, length-append front (digest_bytes d.hashed), long, fits.count, length_digest_bytes d.hashed d.sorted all_long) in
    let sorted : digest_at 441 slot ≡ d.sorted = ap (digest_at 441) whole ∙ digest_behind d.sorted 441 (front ++ digest_bytes d.hashed) [] before fits.sorted in
    both hashed sorted
  where
    both : {xs : List Digest} {x : Digest} → xs ≡ d.hashed → x ≡ d.sorted → (let made : Digests = record { hashed = xs; sorted = x } in made ≡ d)
    both p q = rw (p, q) refl

-- the highest bit is set
long_field : (b : Body) (commit : ℕ) (rest : List ℕ) → FitsSlot b → is_long (commit ∷ body_bytes b ++ rest) ≡ true
long_field b commit rest fits =
    let field : number_at 8 1 (commit ∷ body_bytes b ++ rest) ≡ b.generation + long_bit = generation_field b commit rest fits in
    let least : nat_le long_bit (b.generation + long_bit) ≡ true = grind (arith, nat_tests) in
    ap (nat_le long_bit) field ∙ least

-- a body and its digests read back
pub record_law : RecordLaw
record_law body digests commit fits fits_digests =
    let slot = commit ∷ record_bytes body digests in
    let body_back : body_of slot ≡ body = body_law body commit (digests_bytes digests) fits in
    let long : is_long slot ≡ true = long_field body commit (digests_bytes digests) fits in
    let front_long : length (commit ∷ body_bytes body) ≡ 121 = let rest = fitting_length body fits in omega (arith, rest) in
    let back : digests_of slot ≡ digests = digests_back (commit ∷ body_bytes body) digests front_long fits_digests in
    rw (long, body_back, back) refl
