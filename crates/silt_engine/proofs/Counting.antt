-- Which log regions are free, and how many.
use Rattle.silt_engine.proofs.Common.{or_parts, ◌≡◌, ◌≢◌, ◌≤◌, ◌<◌, ℕ, ◌+◌, ◌-◌, ◌%◌, ◌^◌, ◌==◌, true, false, nat_lt, suc, zero, List, [], ◌∷◌, length, refl, ap, sym, ◌∙◌, arith, list_any, eqb}
use Rattle.silt_engine.proofs.Common.{and_parts, eq-eqb, eqb-true, lt-ltb, ltb-true, not-true, and_from, Shape, all_below, has_sound_logs, is_distinct, is_well_formed, Body, AreAllNamed}
use Rattle.silt_engine.proofs.Common.{IsLowestFree, next_body, nat_le, take, Some, subst, nat_tests, length-map, length-take, has_sound_hashes, IsNext, current_slot, Digests, AreWhole, EngineState}
use Rattle.silt_engine.proofs.Common.{hash_region_of, names_hash, ConversionState, AreAllHashesNamed, EndsConversion, converted_body, le-leb, IndexedState, EndsMerge, merged_body, NextLog}
use Rattle.silt_engine.proofs.Common.{region_of, IsNextLog, empty_store, AllByRecursion, HasNoFreeLog}
use Rattle.std.specs.List.{IsDistinct}
use Rattle.std.proofs.lemmas.Bool.{or_cases, or_from}
use Rattle.std.proofs.lemmas.Map.Steps.{length-le_from_distinct_below, le-length_from_below}
use Rattle.silt_manifest.proofs.SoundBodies.{sound_parts}
use Rattle.silt_image.proofs.Named.{apart_of}

-- a test of two numbers from either side
turned : (a b : ℕ) → eqb a b ≡ eqb b a
turned a b = grind (arith, nat_tests)

-- a test of the elements from either side
any_turned : (ids : List ℕ) (x : ℕ) → list_any (λ id. id == x) ids ≡ list_any (eqb x) ids
any_turned [] x = refl
any_turned (id ∷ ids) x = cc (turned id x, any_turned ids x)

-- with all of n regions among them there are as many ids
pub all_among : (n : ℕ) (ids : List ℕ) → ((region : ℕ) → region < n → list_any (λ id. id == region) ids ≡ true) → n ≤ length ids
all_among n ids among = le-length_from_below ids n (λ x below. sym (any_turned ids x) ∙ among x below)

-- distinct ids in std's words
apart_from : (ids : List ℕ) (x : ℕ) → list_any (λ other. other == x) ids ≡ false → AllByRecursion (λ y. eqb x y ≡ false) ids
apart_from [] x none = tt
apart_from (id ∷ ids) x none = let parts = or_parts (eqb id x) (list_any (λ other. other == x) ids) none in (turned x id ∙ parts.0, apart_from ids x parts.1)

distinct_ids : (ids : List ℕ) → is_distinct ids ≡ true → IsDistinct eqb ids
unfolding IsDistinct
distinct_ids [] e = tt
distinct_ids (id ∷ ids) e = search (arith, distinct_ids ids, and_parts, apart_from, not-true)

below_each : (n : ℕ) (ids : List ℕ) → all_below n ids ≡ true → (x : ℕ) → list_any (eqb x) ids ≡ true → x < n
below_each n [] all x e = absurd (let no : false ≡ true = e in cc)
below_each n (id ∷ ids) all x e = search (arith, below_each n ids, and_parts, or_cases, eqb-true, ltb-true)

-- distinct ids below n are at most n
pub at_most : (n : ℕ) (ids : List ℕ) → is_distinct ids ≡ true → all_below n ids ≡ true → length ids ≤ n
at_most n ids distinct all = length-le_from_distinct_below ids n (distinct_ids ids distinct) (below_each n ids all)

-- the tests of a well-formed record, with those of its logs and of its hash stores one by one
pub record HasTests (s : Shape) (b : Body) : Type 0 where
  pub generation : b.generation < 2 ^ 63
  pub logs : has_sound_logs s.logs b ≡ true
  pub hashes : has_sound_hashes s.hashes b ≡ true
  pub sorted : nat_lt b.sorted 2 ≡ true
  pub count : nat_le b.sorted_count s.sorted_capacity ≡ true
  pub fewer : length b.frozen < s.logs
  pub active : nat_lt b.active s.logs ≡ true
  pub frozen : all_below s.logs b.frozen ≡ true
  pub apart : list_any (λ id. id == b.active) b.frozen ≡ false
  pub distinct : is_distinct b.frozen ≡ true
  pub most : length b.hashed ≤ s.hashes
  pub hashed : all_below s.hashes b.hashed ≡ true
  pub distinct_hashes : is_distinct b.hashed ≡ true

pub tests_of : (s : Shape) (slot : ℕ) (b : Body) → is_well_formed s slot b ≡ true → HasTests s b
tests_of s slot b sound = let parts = sound_parts s slot b sound in search (arith, and_parts, ltb-true, apart_of s slot b sound)

-- a record of the next generation with such tests is well formed
next_well_formed : (s : Shape) (b next : Body) → next.generation ≡ b.generation + 1 → b.generation < 2 ^ 63 - 1 → has_sound_logs s.logs next ≡ true → has_sound_hashes s.hashes next ≡ true
    → nat_lt next.sorted 2 ≡ true → nat_le next.sorted_count s.sorted_capacity ≡ true → is_well_formed s ((b.generation + 1) % 2) next ≡ true
next_well_formed s b next is unspent logs hashes sorted count = search (arith, lt-ltb, eq-eqb, and_from, next.generation)

-- with a free region there is one to spare
pub one_to_spare : (s : Shape) (slot region : ℕ) (b : Body) → is_well_formed s slot b ≡ true → IsLowestFree s.logs b region → length b.frozen + 1 < s.logs
one_to_spare s slot region b sound lowest =
    let tests = tests_of s slot b sound in
    let below : nat_lt region s.logs ≡ true = lt-ltb region s.logs lowest.below in
    omega (arith, at_most s.logs (region ∷ b.active ∷ b.frozen) (cc (lowest.free, tests.apart, tests.distinct)) (cc (below, tests.active, tests.frozen)))

-- the next body is well formed
pub next_sound : (s : Shape) (slot region : ℕ) (b : Body) → is_well_formed s slot b ≡ true → IsLowestFree s.logs b region → b.generation < 2 ^ 63 - 1
    → is_well_formed s ((b.generation + 1) % 2) (next_body b region) ≡ true
next_sound s slot region b sound lowest unspent =
    let tests = tests_of s slot b sound in
    let fewer : nat_lt (length (b.active ∷ b.frozen)) s.logs ≡ true = lt-ltb _ _ (omega (arith, one_to_spare s slot region b sound lowest)) in
    let below : nat_lt region s.logs ≡ true = lt-ltb region s.logs lowest.below in
    next_well_formed s b (next_body b region) refl unspent (cc (lowest.free, tests.active, tests.frozen, tests.apart, tests.distinct)) tests.hashes tests.sorted tests.count

-- ---- hash regions, and the body that names one more

-- with a free region there are fewer
pub fewer_hashes : (s : Shape) (slot region : ℕ) (b : Body) → is_well_formed s slot b ≡ true → region < s.hashes → names_hash b region ≡ false → length b.hashed < s.hashes
fewer_hashes s slot region b sound inside free =
    let tests = tests_of s slot b sound in
    let below : nat_lt region s.hashes ≡ true = lt-ltb region s.hashes inside in
    omega (arith, at_most s.hashes (region ∷ b.hashed) (cc (free, tests.distinct_hashes)) (cc (below, tests.hashed)))

-- ---- fewer frozen logs

-- the first numbers of a list have what the list has
pub none_of_first : (ids : List ℕ) (n x : ℕ) → list_any (λ other. other == x) ids ≡ false → list_any (λ other. other == x) (take n ids) ≡ false
none_of_first [] zero x none = refl
none_of_first [] (suc n) x none = refl
none_of_first (id ∷ ids) zero x none = refl
none_of_first (id ∷ ids) (suc n) x none =
    let parts = or_parts (eqb id x) (list_any (λ other. other == x) ids) none in or_from _ _ parts.0 (none_of_first ids n x parts.1)

pub distinct_first : (ids : List ℕ) (n : ℕ) → is_distinct ids ≡ true → is_distinct (take n ids) ≡ true
distinct_first [] zero e = refl
distinct_first [] (suc n) e = refl
distinct_first (id ∷ ids) zero e = refl
distinct_first (id ∷ ids) (suc n) e = search (arith, distinct_first ids n, and_parts, and_from, none_of_first, not-true)

pub below_first : (most : ℕ) (ids : List ℕ) (n : ℕ) → all_below most ids ≡ true → all_below most (take n ids) ≡ true
below_first most [] zero e = refl
below_first most [] (suc n) e = refl
below_first most (id ∷ ids) zero e = refl
below_first most (id ∷ ids) (suc n) e = search (arith, below_first most ids n, and_parts, and_from)

sound_logs_first : (s : Shape) (slot : ℕ) (b : Body) (n generation : ℕ) (hashed : List ℕ) → is_well_formed s slot b ≡ true
    → has_sound_logs s.logs (record b { generation = generation; frozen = take n b.frozen; hashed = hashed }) ≡ true
sound_logs_first s slot b n generation hashed sound =
    let tests = tests_of s slot b sound in
    let fewer : nat_lt (length (take n b.frozen)) s.logs ≡ true = lt-ltb _ _ (omega (arith, tests.fewer, length-take n b.frozen)) in
    cc (tests.active, below_first s.logs b.frozen n tests.frozen, none_of_first b.frozen n b.active tests.apart, distinct_first b.frozen n tests.distinct)

-- the body that names a free region in place of the oldest log is well formed
pub converted_sound_body : (s : Shape) (slot region : ℕ) (b : Body) → is_well_formed s slot b ≡ true → region < s.hashes → names_hash b region ≡ false → b.generation < 2 ^ 63 - 1
    → is_well_formed s ((b.generation + 1) % 2) (converted_body b region) ≡ true
converted_sound_body s slot region b sound inside free unspent =
    let tests = tests_of s slot b sound in
    let most : nat_le (length (region ∷ b.hashed)) s.hashes ≡ true = grind (arith, nat_tests, fewer_hashes s slot region b sound inside free) in
    let below : nat_lt region s.hashes ≡ true = lt-ltb region s.hashes inside in
    next_well_formed s b (converted_body b region) refl unspent (sound_logs_first s slot b (length b.frozen - 1) (b.generation + 1) (region ∷ b.hashed) sound)
    (cc (free, tests.hashed, tests.distinct_hashes)) tests.sorted tests.count

-- ---- of the stores in memory

-- there are as many hash stores as the body names
pub hash_count : (s : EngineState) → AreWhole s → length s.hashes ≡ length s.manifest.current.hashed
hash_count s whole = sym (length-map s.hashes hash_region_of) ∙ ap length whole.hash_regions

-- if every region is named, there is a hash store in each
pub no_hash_free : (s : EngineState) (slot : ℕ) → AreWhole s → is_well_formed s.manifest.shape slot s.manifest.current ≡ true
    → AreAllHashesNamed s.manifest.shape.hashes s.manifest.current → length s.hashes ≡ s.manifest.shape.hashes
no_hash_free s slot whole sound named = omega (arith, hash_count s whole, all_among _ _ named, (tests_of s.manifest.shape slot s.manifest.current sound).most)

-- if one is free, there are fewer
pub hash_free : (s : EngineState) (slot region : ℕ) → AreWhole s → is_well_formed s.manifest.shape slot s.manifest.current ≡ true
    → region < s.manifest.shape.hashes → names_hash s.manifest.current region ≡ false → length s.hashes < s.manifest.shape.hashes
hash_free s slot region whole sound inside free = omega (arith, fewer_hashes s.manifest.shape slot region s.manifest.current sound inside free, hash_count s whole)

-- the record that ends a conversion may follow the current one
pub may_end : (s : EngineState) (body : Body) (digests : Digests) → is_well_formed s.manifest.shape (current_slot s.manifest) s.manifest.current ≡ true
    → AreWhole s → EndsConversion s body digests → IsNext s.manifest body
may_end s body digests sound whole ends = search (arith, converted_sound_body)

-- it has room for one hash store more
pub room_for_hash : (s : EngineState) (current : Body) (conversion : ConversionState) (limit : ℕ) → AreWhole s
    → is_well_formed s.manifest.shape (current_slot s.manifest) s.manifest.current ≡ true → s.converting ≡ Some conversion
    → limit ≡ s.manifest.shape.hashes → limit ≤ 16 → current ≡ s.manifest.current → length current.hashed < 16
room_for_hash s current conversion limit whole sound was limit_is most same = search (arith, fewer_hashes)

-- ---- the body that names the sorted store of a merge

-- the body with other entries, and without the oldest hash stores, is well formed
merged_sound_body : (s : Shape) (slot count region written : ℕ) (b : Body) → is_well_formed s slot b ≡ true → region < 2 → written ≤ s.sorted_capacity → b.generation < 2 ^ 63 - 1
    → is_well_formed s ((b.generation + 1) % 2) (merged_body b count region written) ≡ true
merged_sound_body s slot count region written b sound there room unspent =
    let tests = tests_of s slot b sound in
    let newer : ℕ = length b.hashed - count in
    let fewer : nat_le (length (take newer b.hashed)) s.hashes ≡ true = le-leb _ _ (omega (arith, tests.most, length-take newer b.hashed)) in
    next_well_formed s b (merged_body b count region written) refl unspent tests.logs
    (cc (below_first s.hashes b.hashed newer tests.hashed, distinct_first b.hashed newer tests.distinct_hashes)) (lt-ltb region 2 there) (le-leb written s.sorted_capacity room)

-- the record that ends a merge may follow the current one
pub may_end_merge : (s : EngineState) (body : Body) (digests : Digests) (store : IndexedState)
    → is_well_formed s.manifest.shape (current_slot s.manifest) s.manifest.current ≡ true → AreWhole s → EndsMerge s body digests store → IsNext s.manifest body
may_end_merge s body digests store sound whole ends = search (arith, merged_sound_body)

-- there are no more hash stores than a manifest has room for
pub few_hashes : (s : EngineState) (limit : ℕ) → AreWhole s → is_well_formed s.manifest.shape (current_slot s.manifest) s.manifest.current ≡ true
    → limit ≡ s.manifest.shape.hashes → limit ≤ 16 → length s.hashes ≤ 16
few_hashes s limit whole sound limit_is most = omega (arith, (tests_of s.manifest.shape (current_slot s.manifest) s.manifest.current sound).most, limit_is, most, hash_count s whole)

-- ---- the stores in memory, and the log that comes next

-- the record of the next log may follow the current one
pub may_follow : (s : EngineState) (next : NextLog) → is_well_formed s.manifest.shape (current_slot s.manifest) s.manifest.current ≡ true → IsNextLog s next → IsNext s.manifest next.body
may_follow s next sound is = search (arith, next_sound)

-- there are as many frozen logs as the body names
pub frozen_count : (s : EngineState) → AreWhole s → length s.frozen ≡ length s.manifest.current.frozen
frozen_count s whole = sym (length-map s.frozen region_of) ∙ ap length whole.frozen_regions

-- the stores if every region is named
pub no_room : (s : EngineState) (slot logs : ℕ) → logs ≡ s.manifest.shape.logs → AreWhole s → is_well_formed s.manifest.shape slot s.manifest.current ≡ true
    → AreAllNamed logs s.manifest.current → HasNoFreeLog s
no_room s slot logs is whole sound named =
    let all = all_among s.manifest.shape.logs (s.manifest.current.active ∷ s.manifest.current.frozen) (rw is at named) in
    omega (arith, all, (tests_of s.manifest.shape slot s.manifest.current sound).fewer, frozen_count s whole)

-- and if one is free
pub has_room : (s : EngineState) (slot logs region : ℕ) → logs ≡ s.manifest.shape.logs → AreWhole s → is_well_formed s.manifest.shape slot s.manifest.current ≡ true
    → IsLowestFree logs s.manifest.current region → length s.frozen + 1 < s.manifest.shape.logs
has_room s slot logs region is whole sound lowest =
    let spare = one_to_spare s.manifest.shape slot region s.manifest.current sound (subst (λ (n : ℕ). IsLowestFree n s.manifest.current region) is lowest) in
    omega (arith, spare, frozen_count s whole)

pub not_all : (s : EngineState) → length s.frozen + 1 < s.manifest.shape.logs → HasNoFreeLog s → ⊥
not_all s room all = absurd (omega (arith, room, all))

-- the next log is made
pub is_next : (s : EngineState) (slot logs region : ℕ) (next : NextLog) → logs ≡ s.manifest.shape.logs → AreWhole s
    → is_well_formed s.manifest.shape slot s.manifest.current ≡ true → IsLowestFree logs s.manifest.current region
    → s.manifest.current.generation ≢ 2 ^ 63 - 1 → next.body ≡ next_body s.manifest.current region → next.store ≡ empty_store s.manifest.shape region → IsNextLog s next
is_next s slot logs region next is whole sound lowest unspent body store = record {
  region = region;
  lowest = rw is at lowest;
  spare = has_room s slot logs region is whole sound lowest;
  unspent = omega (arith, (tests_of s.manifest.shape slot s.manifest.current sound).generation, unspent);
  body = body;
  store = store;
}

pub before_last : (s : Shape) (slot : ℕ) (b : Body) → is_well_formed s slot b ≡ true → b.generation ≢ 2 ^ 63 - 1 → b.generation < 2 ^ 63 - 1
before_last s slot b sound unspent = omega (arith, (tests_of s slot b sound).generation, unspent)
