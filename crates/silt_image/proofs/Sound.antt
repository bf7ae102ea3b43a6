-- When stores have no finding.
use Rattle.silt_image.proofs.Common.{zero, suc, ◌+◌, ◌≤◌, Bool, nat_lt, flat_map, slice_get, sym, ap, ◌∙◌, arith, append_assoc, enumerate_from, and_from, bytes_eq-Decides, Shape, StoredRow}
use Rattle.silt_image.proofs.Common.{put_count, Part, oldest_first, part_rows, Stores, Digests, finding_if, hash_findings, Damaged, Place, Charge, HashDigest, fine_of, of_fine, inl, inr, ◌≡◌, ℕ}
use Rattle.silt_image.proofs.Common.{List, [], ◌∷◌, ◌++◌, map, take, drop, Option, Some, None, refl, subst, take-append-drop, ltb-false, le-ltb, cases_Bool, AreFine, fine_front}
use Rattle.silt_image.specs.Meaning.{AreDigestsOf, IsSound, charge_findings, charge_of, digest_findings, part_digest, said_entry_findings, said_hash, said_hash_findings, with_part_rows, rows_of}
use Rattle.silt_image.specs.Meaning.{store_findings, with_log_rows, with_new_log}
use Rattle.silt_event.proofs.Findings.{nothing_first, nothing_second, nothing_both, nothing_where_passes, passes_where_nothing}
use Rattle.std.specs.Option.{ForSome}
use Rattle.std.proofs.lemmas.List.Folds.{list_all-append}
use Rattle.silt_log_store.specs.Findings.{log_findings}
use Rattle.silt_sorted_store.specs.Findings.{sorted_findings}
use Rattle.silt_image.specs.Laws.{BeginningLaw, ChargeLaw, FindsNothing, FrozenLaw, LogsSoundLaw, PartsLaw, SaidLaw, TakenLaw}
use Rattle.silt_event.proofs.Rows.{count_law}
use Rattle.silt_image.proofs.Rows.{keeps_rows, new_log_law, takes_rows}

-- ---- the digests

-- if there is no finding, the manifest's digest is this one
pub digest_is : (place : Place) (said : Option (List ℕ)) (digest : List ℕ) → digest_findings place said digest ≡ [] → ForSome said (λ other. other ≡ digest)
digest_is place said digest none = search (arith, bytes_eq-Decides, passes_where_nothing)

-- and if it is this one, there is no finding
pub nothing_of_digest : (place : Place) (said : Option (List ℕ)) (digest : List ℕ) → ForSome said (λ other. other ≡ digest) → digest_findings place said digest ≡ []
nothing_of_digest place said digest is = search (arith, nothing_where_passes, bytes_eq-Decides)

-- each digest that is said of some hash stores, from a place on, is that of its store
AreHashDigests : Option Digests → ℕ → List Part → Type 0
AreHashDigests said k parts = (n place : ℕ) (part : Part) → k + n ≡ place → slice_get parts n ≡ Some part → ForSome (said_hash said place) (λ digest. digest ≡ part_digest part)

-- some hash stores without a finding in them or in their digests, taken apart
hashes_are : (shape : Shape) (said : Option Digests) (k : ℕ) (parts : List Part) → flat_map (said_hash_findings shape said) (enumerate_from k parts) ≡ []
    → (flat_map (hash_findings shape) parts ≡ []) × AreHashDigests said k parts
unfolding AreHashDigests
hashes_are shape said k [] none = (refl, λ n place part is there. absurd (cc))
hashes_are shape said k (first ∷ parts) none =
    let own : said_hash_findings shape said (k, first) ≡ [] = nothing_first (said_hash_findings shape said (k, first)) (flat_map (said_hash_findings shape said) (enumerate_from (k + 1) parts)) none in
    let others = hashes_are shape said (k + 1) parts (nothing_second (said_hash_findings shape said (k, first)) (flat_map (said_hash_findings shape said) (enumerate_from (k + 1) parts)) none) in
    let slots = nothing_first (hash_findings shape first) (digest_findings (HashDigest first.region) (said_hash said k) (part_digest first)) own in
    let digest = digest_is (HashDigest first.region) (said_hash said k) (part_digest first)
    (nothing_second (hash_findings shape first) (digest_findings (HashDigest first.region) (said_hash said k) (part_digest first)) own) in
    (nothing_both (hash_findings shape first) (flat_map (hash_findings shape) parts) slots others.0, go digest others.1)
  where
    go : ForSome (said_hash said k) (λ digest. digest ≡ part_digest first)
        → ((n place : ℕ) (part : Part) → k + 1 + n ≡ place → slice_get parts n ≡ Some part → ForSome (said_hash said place) (λ digest. digest ≡ part_digest part))
        → (n place : ℕ) (part : Part) → k + n ≡ place → slice_get (first ∷ parts) n ≡ Some part → ForSome (said_hash said place) (λ digest. digest ≡ part_digest part)
    go digest later zero place part is there = let same : first ≡ part = cc in let here : k ≡ place = omega arith in rw (← here, ← same) digest
    go digest later (suc n) place part is there = later n place part (omega arith) there

-- and put together
nothing_of_hashes : (shape : Shape) (said : Option Digests) (k : ℕ) (parts : List Part) → flat_map (hash_findings shape) parts ≡ []
    → AreHashDigests said k parts → flat_map (said_hash_findings shape said) (enumerate_from k parts) ≡ []
unfolding AreHashDigests
nothing_of_hashes shape said k [] none digests = refl
nothing_of_hashes shape said k (first ∷ parts) none digests =
    nothing_both (said_hash_findings shape said (k, first)) (flat_map (said_hash_findings shape said) (enumerate_from (k + 1) parts)) (nothing_both
    (hash_findings shape first) (digest_findings (HashDigest first.region) (said_hash said k) (part_digest first)) (nothing_first (hash_findings shape first)
    (flat_map (hash_findings shape) parts) none) (nothing_of_digest (HashDigest first.region) (said_hash said k) (part_digest first) (digests 0 k first (omega
    arith) refl))) (nothing_of_hashes shape said (k + 1) parts (nothing_second (hash_findings shape first) (flat_map (hash_findings shape) parts) none) (λ n
    place part is there. digests (suc n) place part (omega arith) there))

-- the same for all hash stores, from the first one on
from_first : (said : Option Digests) (parts : List Part) → AreHashDigests said 0 parts → (place : ℕ) (part : Part)
    → slice_get parts place ≡ Some part → ForSome (said_hash said place) (λ digest. digest ≡ part_digest part)
unfolding AreHashDigests
from_first said parts digests place part there = digests place place part (omega arith) there

to_first : (said : Option Digests) (parts : List Part)
    → ((place : ℕ) (part : Part) → slice_get parts place ≡ Some part → ForSome (said_hash said place) (λ digest. digest ≡ part_digest part)) → AreHashDigests said 0 parts
unfolding AreHashDigests
to_first said parts digests n place part is there = let same : n ≡ place = omega arith in digests place part (rw same at there)

-- if the manifest has no digests, none is wrong
pub none_said : (s : Stores) → AreDigestsOf None s
none_said s = record { hashed = λ place part there digest is. absurd (cc); sorted = λ digest is. absurd (cc) }

-- ---- the stores

-- no more puts than there may be
charge_passes : (n capacity : ℕ) → finding_if (nat_lt capacity n) (Damaged Charge) ≡ [] → n ≤ capacity
charge_passes n capacity none = elim (cases_Bool (nat_lt capacity n)) [ inl is ↦ absurd (cc) | inr is ↦ ltb-false capacity n is ]

charge_nothing : (n capacity : ℕ) → n ≤ capacity → finding_if (nat_lt capacity n) (Damaged Charge) ≡ []
charge_nothing n capacity most = ap (λ (b : Bool). finding_if b (Damaged Charge)) (le-ltb capacity n most)

-- the findings of the logs, of the hash stores, of the sorted store and of the charge are none
pub record FindsNone (said : Option Digests) (s : Stores) : Type 0 where
  pub logs : flat_map (log_findings s.shape) s.logs ≡ []
  pub hashes : flat_map (said_hash_findings s.shape said) (enumerate_from 0 s.hashes) ≡ []
  pub entries : said_entry_findings said s.entries ≡ []
  pub charge : charge_findings s ≡ []

-- the list of all findings is empty
pub finds_none : (said : Option Digests) (s : Stores) → store_findings said s ≡ [] → FindsNone said s
unfolding store_findings
finds_none said s none = search (arith, nothing_first, nothing_second)

-- and put together
pub none_found : (said : Option Digests) (s : Stores) → FindsNone said s → store_findings said s ≡ []
unfolding store_findings
none_found said s none = search (arith, nothing_both)

-- the stores have no finding, and the digests in the manifest are theirs
said_nothing : (said : Option Digests) (s : Stores) → store_findings said s ≡ [] → FindsNothing s × AreDigestsOf said s
said_nothing said s none =
    let parts = finds_none said s none in
    let hashes = hashes_are s.shape said 0 s.hashes parts.hashes in search (arith, nothing_first, charge_passes, from_first, digest_is, nothing_second)

-- and if so, there is no finding
nothing_said : (said : Option Digests) (s : Stores) → FindsNothing s → AreDigestsOf said s → store_findings said s ≡ []
nothing_said said s nothing digests = search (arith, none_found, nothing_of_hashes, to_first, nothing_both, nothing_of_digest, charge_nothing)

-- sound stores have no finding
pub finds_nothing : (s : Stores) → IsSound s → FindsNothing s
finds_nothing s sound = (said_nothing None s sound).0

pub is_sound : (s : Stores) → FindsNothing s → IsSound s
is_sound s nothing = nothing_said None s nothing (none_said s)

-- stores whose digests the manifest gives have no finding exactly if they are sound and the digests are theirs
pub said_law : SaidLaw
said_law said s = search (arith, said_nothing, is_sound, nothing_said, finds_nothing)

-- there is no finding exactly if no part has one
pub parts_law : PartsLaw
parts_law s = (finds_nothing s, is_sound s)

-- if there is no finding, there are at most as many puts as the store may hold
pub charge_law : ChargeLaw
charge_law s sound = (finds_nothing s sound).charge

-- one log with other rows
log_with : (shape : Shape) (region : ℕ) (old new : List StoredRow) (part : Part) → (AreFine shape old → AreFine shape new)
    → log_findings shape (with_part_rows region old part) ≡ [] → log_findings shape (with_part_rows region new part) ≡ []
log_with shape region old new part fine none = search (arith, takes_rows, of_fine, fine_of, keeps_rows)

-- all logs, one of them with other rows
logs_with : (shape : Shape) (region : ℕ) (old new : List StoredRow) (parts : List Part) → (AreFine shape old → AreFine shape new)
    → flat_map (log_findings shape) (map (with_part_rows region old) parts) ≡ [] → flat_map (log_findings shape) (map (with_part_rows region new) parts) ≡ []
logs_with shape region old new [] fine none = refl
logs_with shape region old new (part ∷ parts) fine none =
    nothing_both _ _ (log_with shape region old new part fine (nothing_first _ _ none)) (logs_with shape region old new parts fine (nothing_second _ _ none))

-- sound stores, one log with other rows
sound_with : (s : Stores) (region : ℕ) (old new : List StoredRow) → (AreFine s.shape old → AreFine s.shape new)
    → charge_of (with_log_rows region new s) ≤ s.shape.sorted_capacity → IsSound (with_log_rows region old s) → IsSound (with_log_rows region new s)
unfolding with_log_rows
sound_with s region old new fine most sound =
    let nothing = finds_nothing (with_log_rows region old s) sound in
    search (arith, is_sound, logs_with)

-- ---- fewer rows

-- fewer rows of one log have no more puts
part_charge : (region : ℕ) (rows more : List StoredRow) (part : Part) → put_count (part_rows (with_part_rows region rows part)) ≤ put_count (part_rows (with_part_rows region (rows ++ more) part))
part_charge region rows more part = search (arith, takes_rows, count_law, keeps_rows)

parts_charge : (region : ℕ) (rows more : List StoredRow) (parts : List Part)
    → put_count (oldest_first (map part_rows (map (with_part_rows region rows) parts))) ≤ put_count (oldest_first (map part_rows (map (with_part_rows region (rows ++ more)) parts)))
parts_charge region rows more [] = omega arith
parts_charge region rows more (part ∷ parts) = search (arith, parts_charge region rows more parts, part_charge, count_law)

-- with fewer rows of a log, all rows have no more puts
fewer_puts : (s : Stores) (region : ℕ) (rows more : List StoredRow) → charge_of (with_log_rows region rows s) ≤ charge_of (with_log_rows region (rows ++ more) s)
unfolding rows_of with_log_rows
fewer_puts s region rows more = search (arith, parts_charge, count_law)

-- the puts of sound stores, one log with other rows
charge_with : (s : Stores) (region : ℕ) (rows : List StoredRow) → IsSound (with_log_rows region rows s) → charge_of (with_log_rows region rows s) ≤ s.shape.sorted_capacity
unfolding with_log_rows
charge_with s region rows sound = (finds_nothing (with_log_rows region rows s) sound).charge

-- if there is no finding, there is none with the first rows of a log alone
pub sound_front : (s : Stores) (region : ℕ) (rows more : List StoredRow) → IsSound (with_log_rows region (rows ++ more) s) → IsSound (with_log_rows region rows s)
sound_front s region rows more sound =
    let capacity : charge_of (with_log_rows region (rows ++ more) s) ≤ s.shape.sorted_capacity = charge_with s region (rows ++ more) sound in
    sound_with s region (rows ++ more) rows (fine_front s.shape rows more) (omega (arith, capacity, fewer_puts s region rows more)) sound

-- if there is no finding, there is none after the last rows of a log are dropped
pub beginning_law : BeginningLaw
beginning_law s region n rows more sound =
    let split : rows ++ more ≡ (rows ++ take n more) ++ drop n more = ap (λ l. rows ++ l) (sym (take-append-drop n more)) ∙ sym (append_assoc rows (take n more) (drop n more)) in
    sound_front s region (rows ++ take n more) (drop n more) (subst (λ l. IsSound (with_log_rows region l s)) split sound)

-- ---- one row more

-- if there is no finding, there is none with one more row of a known kind that fits into the table and the capacity
pub taken_law : TakenLaw
taken_law s region rows row sound known fits most = sound_with s region rows (rows ++ row ∷ []) (search (arith, list_all-append, and_from)) most sound

-- ---- a new log

-- an empty log has no findings
empty_log : (shape : Shape) (region : ℕ) → log_findings shape (record { region = region; rows = [] }) ≡ []
unfolding log_findings
empty_log shape region = refl

-- if there is no finding, there is none with a new log
pub frozen_law : FrozenLaw
unfolding with_new_log
frozen_law s next sound = search (arith, finds_nothing, new_log_law, is_sound, nothing_both, empty_log)

-- ---- stores with logs alone

-- no hash stores: no finding in them
pub no_hashes : (s : Stores) → s.hashes ≡ [] → flat_map (hash_findings s.shape) s.hashes ≡ []
no_hashes s none = ap (flat_map (hash_findings s.shape)) none

-- no entries: no finding in them
pub no_entries : (s : Stores) → s.entries ≡ [] → sorted_findings s.entries ≡ []
unfolding sorted_findings
no_entries s none = ap sorted_findings none

-- stores with logs alone, which have no finding, have none exactly if the puts are not too many
pub logs_sound_law : LogsSoundLaw
logs_sound_law s logs hashes entries = search (arith, charge_law, is_sound, no_hashes, no_entries)
