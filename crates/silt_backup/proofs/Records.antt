-- Equal records of a manifest.
use Rattle.silt_backup.proofs.Common.{◌≡◌, ◌&&◌, ◌++◌, ◌-◌, ◌==◌, ℕ, List, Bool, true, length, nat_eq, replicate, take, ap, sym, refl, ◌∙◌, take-append_seam, and_parts, eqb-true, Decides-eqb}
use Rattle.silt_backup.proofs.Common.{slice_eq-Decides, Body}
use Rattle.std.specs.Cmp.Lexicographic.{pointwise}

-- the test of two lists of regions, which have zeros behind them in memory
abbrev pub same_ids : List ℕ → List ℕ → Bool
same_ids a b = pointwise nat_eq (a ++ replicate (16 - length a) 0) (b ++ replicate (16 - length b) 0) && nat_eq (length a) (length b)

ids_equal : (a b : List ℕ) → same_ids a b ≡ true → a ≡ b
ids_equal a b same =
    let zeros_a : List ℕ = replicate (16 - length a) 0 in
    let zeros_b : List ℕ = replicate (16 - length b) 0 in
    let parts = and_parts (pointwise nat_eq (a ++ zeros_a) (b ++ zeros_b)) (nat_eq (length a) (length b)) same in
    let whole : a ++ zeros_a ≡ b ++ zeros_b = (slice_eq-Decides Decides-eqb (a ++ zeros_a) (b ++ zeros_b) (pointwise nat_eq (a ++ zeros_a) (b ++ zeros_b)) refl).0 parts.0 in
    let long : length a ≡ length b = eqb-true (length a) (length b) parts.1 in
    sym (take-append_seam a zeros_a) ∙ ap (take (length a)) whole ∙ ap (λ n. take n (b ++ zeros_b)) long ∙ take-append_seam b zeros_b

-- the test of two records
abbrev pub same_body : Body → Body → Bool
same_body a b =
    (a.generation == b.generation) && ((a.active == b.active) && (same_ids a.frozen b.frozen && (same_ids a.hashed b.hashed
    && ((a.sorted == b.sorted) && (a.sorted_count == b.sorted_count)))))

pub body_equal : (a b : Body) (result : Bool) → result ≡ same_body a b → result ≡ true → a ≡ b
body_equal a b result is both =
    let p1 = and_parts (a.generation == b.generation) _ (sym is ∙ both) in
    let p2 = and_parts (a.active == b.active) _ p1.1 in
    let p3 = and_parts (same_ids a.frozen b.frozen) _ p2.1 in
    let p4 = and_parts (same_ids a.hashed b.hashed) _ p3.1 in
    let p5 = and_parts (a.sorted == b.sorted) _ p4.1 in
    let generation : a.generation ≡ b.generation = eqb-true a.generation b.generation p1.0 in
    let active : a.active ≡ b.active = eqb-true a.active b.active p2.0 in
    let frozen : a.frozen ≡ b.frozen = ids_equal a.frozen b.frozen p3.0 in
    let hashed : a.hashed ≡ b.hashed = ids_equal a.hashed b.hashed p4.0 in
    let sorted : a.sorted ≡ b.sorted = eqb-true a.sorted b.sorted p5.0 in
    let count : a.sorted_count ≡ b.sorted_count = eqb-true a.sorted_count b.sorted_count p5.1 in
    ap (λ (n : ℕ). record { generation = n; active = a.active; frozen = a.frozen; hashed = a.hashed; sorted = a.sorted; sorted_count = a.sorted_count }) generation
    ∙ ap (λ (n : ℕ). record { generation = b.generation; active = n; frozen = a.frozen; hashed = a.hashed; sorted = a.sorted; sorted_count = a.sorted_count }) active
    ∙ ap (λ (ids : List ℕ). record { generation = b.generation; active = b.active; frozen = ids; hashed = a.hashed; sorted = a.sorted; sorted_count = a.sorted_count }) frozen
    ∙ ap (λ (ids : List ℕ). record { generation = b.generation; active = b.active; frozen = b.frozen; hashed = ids; sorted = a.sorted; sorted_count = a.sorted_count }) hashed
    ∙ ap (λ (n : ℕ). record { generation = b.generation; active = b.active; frozen = b.frozen; hashed = b.hashed; sorted = n; sorted_count = a.sorted_count }) sorted
    ∙ ap (λ (n : ℕ). record { generation = b.generation; active = b.active; frozen = b.frozen; hashed = b.hashed; sorted = b.sorted; sorted_count = n }) count
