-- The logs so far, and one more.
use Rattle.silt_recovery.proofs.Common.{◌≡◌, ◌<◌, ℕ, ◌+◌, IsTrue, List, [], ◌∷◌, ◌++◌, length, take, drop, get_or, ap, sym, ◌∙◌, arith, map-append, Content, Shape, put_count, Finding, log_rows}
use Rattle.silt_recovery.proofs.Common.{LogStoreState, region_of, AreReadLogs, AreSoundLogs, HasFirstFinding, IsReadLog, put_rows, append_assoc, drop_more, take-append-drop, take_more, All-push}
use Rattle.silt_recovery.proofs.Common.{sum_by_push}
use Rattle.silt_recovery.proofs.Searches.{found_within, sound_both}

-- one log more
pub one_more_read : (content : Content) (shape : Shape) (regions : List ℕ) (i : ℕ) (stores : List LogStoreState) (puts : ℕ) (store : LogStoreState) (added : ℕ)
    → i < length regions → AreReadLogs content shape (take i regions) stores puts
    → store.log.region ≡ get_or regions i 0 → IsReadLog content shape store → (IsTrue content.honest → AreSoundLogs shape content.shown (get_or regions i 0 ∷ []))
    → (IsTrue content.honest → added ≡ put_count (log_rows shape (get_or regions i 0) content.shown)) → AreReadLogs content shape (take (i + 1) regions) (stores ++ store ∷ []) (puts + added)
one_more_read content shape regions i stores puts store added before read has_region own sound counted =
    let region : ℕ = get_or regions i 0 in
    let next = take_more regions i 0 before in
    rw next (record {
      has_regions = map-append region_of stores (store ∷ []) ∙ ap (λ (ids : List ℕ). ids ++ store.log.region ∷ []) read.has_regions ∙ ap (λ (id : ℕ). take i regions ++ id ∷ []) has_region;
      each = All-push (IsReadLog content shape) stores store read.each own;
      sound = λ h. sound_both shape content.shown (take i regions) (region ∷ []) (read.sound h) (sound h);
      counted = λ h. ap (λ (n : ℕ). n + added) (read.counted h) ∙ ap (λ (n : ℕ). put_rows shape content.shown (take i regions) + n) (counted h) ∙ sym (sum_by_push
          (λ (id : ℕ). put_count (log_rows shape id content.shown)) (take i regions) region);
    })

-- a finding in the next log
pub next_finding : (content : Content) (shape : Shape) (regions : List ℕ) (i : ℕ) (stores : List LogStoreState) (puts : ℕ) → i < length regions → AreReadLogs content shape (take i regions) stores puts
    → (finding : Finding) → (IsTrue content.honest → HasFirstFinding shape content.shown (get_or regions i 0 ∷ []) finding)
    → IsTrue content.honest → HasFirstFinding shape content.shown regions finding
next_finding content shape regions i stores puts before read finding found h =
    let region : ℕ = get_or regions i 0 in
    let all : take i regions ++ (region ∷ []) ++ drop (i + 1) regions ≡ regions = search (arith, append_assoc, drop_more, take-append-drop) in
    search (arith, found_within)
