-- The first finding, as a search comes upon it.
use Rattle.silt_image.proofs.Common.{zero, suc, ◌+◌, ◌≤◌, true, flat_map, slice_get, ap, ◌∙◌, arith, false, list_all, enumerate_from, and_parts, Shape, has_known_kind, StoredRow, Part}
use Rattle.silt_image.proofs.Common.{image_digests, Finding, Damaged, Crowded, Charge, fits_take, ◌≡◌, ℕ, List, [], ◌∷◌, ◌++◌, take, length, Some, lt-ltb, take-take}
use Rattle.silt_image.specs.Meaning.{charge_findings, said_entry_findings, said_hash_findings, store_findings}
use Rattle.silt_log_store.specs.Findings.{fits_table, row_findings, log_findings}
use Rattle.silt_event.proofs.Findings.{nothing_both, nothing_where_passes}
use Rattle.std.proofs.lemmas.Grind.{flat_map-append}
use Rattle.silt_image.specs.Laws.{ChargeFoundLaw, FirstEntryLaw, FirstFinding, FirstFindingLaw, FirstSlotLaw}
use Rattle.silt_image.proofs.Verdict.{verdict_of}

-- the first of a list is the first of a longer one
first_of_front : {X : Type 0} (xs ys : List X) (x : X) → slice_get xs 0 ≡ Some x → slice_get (xs ++ ys) 0 ≡ Some x
first_of_front [] ys x e = absurd (cc)
first_of_front (y ∷ xs) ys x e = e

-- after nothing too
first_behind : {X : Type 0} (xs ys : List X) (x : X) → xs ≡ [] → slice_get ys 0 ≡ Some x → slice_get (xs ++ ys) 0 ≡ Some x
first_behind xs ys x none e = ap (λ l. slice_get (l ++ ys) 0) none ∙ e

-- ---- in a log

-- the first row with a finding, among the rows from a place on
first_row : (shape : Shape) (part : Part) (k n : ℕ) (rows : List StoredRow) (row : StoredRow) (finding : Finding) → slice_get rows n ≡ Some row → list_all has_known_kind (take n rows) ≡ true
    → ((m : ℕ) → m ≤ k + n → fits_table shape (take m part.rows) ≡ true) → slice_get (row_findings shape part (k + n, row)) 0 ≡ Some finding
    → slice_get (flat_map (row_findings shape part) (enumerate_from k rows)) 0 ≡ Some finding
first_row shape part k n [] row finding there known fits found = absurd (cc)
first_row shape part k zero (first ∷ rows) row finding there known fits found = search (arith, first_of_front)
first_row shape part k (suc n) (first ∷ rows) row finding there known fits found =
    search (arith, first_row shape part (k + 1) n rows row finding there, and_parts, nothing_both, nothing_where_passes, first_behind)

-- the first finding of a log
pub first_in_log : (shape : Shape) (part : Part) (place : ℕ) (row : StoredRow) (finding : Finding) → FirstFinding shape part place row finding → slice_get (log_findings shape part) 0 ≡ Some finding
unfolding log_findings
first_in_log shape part place row finding first =
    let here : 0 + place ≡ place = omega arith in
    first_row shape part 0 place part.rows row finding first.there first.known
    (λ m most. cc (take-take m place part.rows (omega arith), fits_take shape (take place part.rows) m first.fits)) (rw here first.first)

-- ---- in the stores

-- the first finding in the first log that has one is the verdict
pub first_finding_law : FirstFindingLaw
unfolding store_findings
first_finding_law image s before after part place row finding e logs none first =
    let found = first_in_log s.shape part place row finding first in
    let rest : List Finding = flat_map (log_findings s.shape) after in
    let in_logs : slice_get (flat_map (log_findings s.shape) s.logs) 0 ≡ Some finding = search (arith, flat_map-append, first_behind, first_of_front) in
    let hashes : List Finding = flat_map (said_hash_findings s.shape (image_digests image)) (enumerate_from 0 s.hashes) in
    let entries : List Finding = said_entry_findings (image_digests image) s.entries in
    verdict_of image s e ∙ first_of_front (flat_map (log_findings s.shape) s.logs ++ hashes ++ entries) (charge_findings s) finding (search (arith, first_of_front))

-- and in one of a known kind without a place
crowded_row : (shape : Shape) (part : Part) (place : ℕ) (row : StoredRow) → has_known_kind row ≡ true → fits_table shape (take (place + 1) part.rows) ≡ false
    → slice_get (row_findings shape part (place, row)) 0 ≡ Some Crowded
crowded_row shape part place row known crowded = cc

-- the places of two lists, one behind the other
pub places_append : (k : ℕ) (xs ys : List Part) → enumerate_from k (xs ++ ys) ≡ enumerate_from k xs ++ enumerate_from (k + length xs) ys
places_append k [] ys = let here : k + 0 ≡ k = omega arith in rw here
places_append k (x ∷ xs) ys = search (arith, places_append (k + 1) xs ys)

-- so is that in the first hash store that has one
pub first_slot_law : FirstSlotLaw
unfolding store_findings
first_slot_law image s before after part finding e logs hashes none found =
    let said = image_digests image in
    let own : List Finding = said_hash_findings s.shape said (length before, part) in
    let rest : List Finding = flat_map (said_hash_findings s.shape said) (enumerate_from (length before + 1) after) in
    let all : List Finding = flat_map (said_hash_findings s.shape said) (enumerate_from 0 s.hashes) in
    let entries : List Finding = said_entry_findings said s.entries in
    let start : 0 + length before ≡ length before = omega arith in
    let places : enumerate_from 0 s.hashes ≡ enumerate_from 0 before ++ (length before, part) ∷ enumerate_from (length before + 1) after = search (arith, places_append) in
    let in_hashes : slice_get all 0 ≡ Some finding = search (arith, flat_map-append, first_behind, first_of_front) in
    verdict_of image s e ∙ first_of_front (flat_map (log_findings s.shape) s.logs ++ all ++ entries) (charge_findings s) finding (search (arith, first_of_front, first_behind))

-- so is that in the sorted store
pub first_entry_law : FirstEntryLaw
unfolding store_findings
first_entry_law image s finding e logs hashes found =
    let all : List Finding = flat_map (said_hash_findings s.shape (image_digests image)) (enumerate_from 0 s.hashes) in
    let entries : List Finding = said_entry_findings (image_digests image) s.entries in
    verdict_of image s e ∙ first_of_front _ _ _ (first_behind _ _ _ (nothing_both _ all logs hashes) found)

-- if there is no other finding, and there are more puts than the store may hold, that is the verdict
pub charge_found_law : ChargeFoundLaw
unfolding store_findings
charge_found_law image s e logs hashes entries many =
    let all : List Finding = flat_map (said_hash_findings s.shape (image_digests image)) (enumerate_from 0 s.hashes) in
    let sorted : List Finding = said_entry_findings (image_digests image) s.entries in
    verdict_of image s e ∙ first_behind (flat_map (log_findings s.shape) s.logs ++ all ++ sorted) (charge_findings s) (Damaged Charge) (search (arith, nothing_both)) (search (arith, lt-ltb))
