-- The numbers of what is held of a device.
use Rattle.silt_recovery.proofs.Common.{◌≡◌, ◌≤◌, ℕ, ◌+◌, IsTrue, List, [], ◌∷◌, All, length, map, Option, refl, ap, sym, ◌∙◌, arith, sum_by, true, sum_by-cons, Content, Shape, InLimits, log_part}
use Rattle.silt_recovery.proofs.Common.{Stores, Digests, log_rows, LogStoreState, Body, EngineState, region_of, IsReadLog, Holds, length-map, All-head, All-tail, Part, layout_of, CountsHashRows}
use Rattle.silt_recovery.proofs.Common.{IsReported}
use Rattle.silt_image.specs.Stores.{stores_named}
use Rattle.silt_event.specs.declared.report.Layout.{Layout}
use Rattle.silt_event.specs.declared.report.Report.{Report}
use Rattle.silt_manifest.specs.Body.{is_well_formed}
use Rattle.silt_standing.specs.Standing.{shown_stores}
use Rattle.silt_recovery.proofs.Examinations.{named_regions}
use Rattle.silt_recovery.proofs.Shown.{held_good}
use Rattle.silt_recovery.proofs.Takings.{row_count}

-- how many rows a log has, in memory and on the device
abbrev pub used_rows : LogStoreState → ℕ
used_rows store = store.log.used

abbrev pub part_count : Part → ℕ
part_count part = length part.rows

-- a log that was read has as many rows as are shown
count_read : (content : Content) (shape : Shape) (store : LogStoreState) → IsTrue content.honest → IsReadLog content shape store
    → store.log.used ≡ length (log_rows shape store.log.region content.shown)
count_read content shape store h read =
    (read.scanned h).used ∙ sym (row_count store.log.shape store.log.region content.shown) ∙ ap (λ (s : Shape). length (log_rows s store.log.region content.shown)) read.has_shape

-- and so have several together
counts_read : (content : Content) (shape : Shape) (stores : List LogStoreState) → IsTrue content.honest → All (IsReadLog content shape) stores
    → sum_by used_rows stores ≡ sum_by part_count (map (log_part shape content.shown) (map region_of stores))
counts_read content shape [] h read = refl
counts_read content shape (store ∷ stores) h read =
    let first = count_read content shape store h (All-head (IsReadLog content shape) store stores read) in
    search (arith, counts_read content shape stores h (All-tail (IsReadLog content shape) store stores read), All-tail, sum_by-cons)

-- the numbers of the stores that are held
pub reported : (content : Content) (s : EngineState) (body : Body) (hash_rows : ℕ) → Holds content s → CountsHashRows content s hash_rows
    → body ≡ s.manifest.current → IsTrue content.honest → IsReported content.shown (record {
      generation = body.generation;
      active = body.active;
      active_rows = s.active.log.used;
      frozen = length body.frozen;
      frozen_rows = sum_by used_rows s.frozen;
      hashes = length body.hashed;
      hash_rows = hash_rows;
      entries = body.sorted_count;
      charge = s.charge;
      layout = layout_of s.manifest.digests;
    })
unfolding stores_named
reported content s body hash_rows holds counts same h =
    let named : Stores = shown_stores content s in
    let own = count_read _ _ _ h holds.active in
    let first : Part = log_part s.manifest.shape content.shown s.manifest.current.active in
    let active_rows : s.active.log.used ≡ sum_by part_count (first ∷ []) =
    own ∙ ap (λ (n : ℕ). length (log_rows s.manifest.shape n content.shown)) holds.whole.active_region
    ∙ (let plus : length (log_rows s.manifest.shape s.manifest.current.active content.shown) ≡ length (log_rows s.manifest.shape s.manifest.current.active content.shown) + 0 = omega arith in plus)
    ∙ sym (sum_by-cons part_count first []) in
    let frozen_rows : sum_by used_rows s.frozen ≡ sum_by part_count (map (log_part s.manifest.shape content.shown) s.manifest.current.frozen) =
    cc (counts_read content s.manifest.shape s.frozen h holds.frozen, holds.whole.frozen_regions) in
    let told : Option Digests → Body → ℕ → ℕ → ℕ → ℕ → Report = λ said b n older hashed charge. record {
      generation = b.generation;
      active = b.active;
      active_rows = n;
      frozen = length b.frozen;
      frozen_rows = older;
      hashes = length b.hashed;
      hash_rows = hashed;
      entries = b.sorted_count;
      charge = charge;
      layout = layout_of said;
    } in
    let said : Option Digests = s.manifest.digests in
    record {
      stores = shown_stores content s;
      are = holds.named h;
      good = held_good _ s holds h;
      numbers = cc (counts h, holds.counted h, holds.says h);
    }

-- no log has more rows than a table has room for
pub few_rows : (content : Content) (shape : Shape) (stores : List LogStoreState) → InLimits shape → All (IsReadLog content shape) stores
    → All (λ (store : LogStoreState). store.log.used ≤ 131072) stores
few_rows content shape stores limits read = search arith

-- the same of numbers that are named in another way
pub reported_so : (content : Content) (s : EngineState) (body : Body) (rows frozen older hashes hash_rows : ℕ) (layout : Layout) → Holds content s
    → CountsHashRows content s hash_rows → body ≡ s.manifest.current → rows ≡ s.active.log.used → frozen ≡ length body.frozen
    → older ≡ sum_by used_rows s.frozen → hashes ≡ length body.hashed → layout ≡ layout_of s.manifest.digests
    → IsTrue content.honest → IsReported content.shown (record {
      generation = body.generation;
      active = body.active;
      active_rows = rows;
      frozen = frozen;
      frozen_rows = older;
      hashes = hashes;
      hash_rows = hash_rows;
      entries = body.sorted_count;
      charge = s.charge;
      layout = layout;
    })
reported_so content s body rows frozen older hashes hash_rows layout holds counts same are_rows are_frozen are_older are_hashes is_layout h = search (arith, reported)

-- no more logs are frozen than a device can have
pub few_frozen : (content : Content) (s : EngineState) (slot : ℕ) → Holds content s → is_well_formed s.manifest.shape slot s.manifest.current ≡ true → length s.frozen ≤ 7
few_frozen content s slot holds sound = search (arith, named_regions, length-map)
