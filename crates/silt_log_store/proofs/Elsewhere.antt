-- For the crates above: what calls on other parts of the disk leave of a log store, and how one store serves as another.
use Rattle.silt_log_store.proofs.Common.{◌≡◌, ℕ, ◌≤◌, IsTrue, sym, ◌∙◌, arith, ChangesWithin, Content, LiesOutside, size, device_size, commits_at, log_len, LogState, InBounds, all_rows}
use Rattle.silt_log_store.proofs.Common.{log_rows_elsewhere, outside_bodies, rows_elsewhere, region_lies, LogStoreState, IsIndexed, IsFrozenStore}
use Rattle.silt_log.specs.Rows.{row_at, rows_from}
use Rattle.silt_log_store.proofs.Exits.{index_kept}

-- a change outside the region of a log leaves the rows that are shown
pub rows_outside : (old new : Content) (log : LogState) (at count : ℕ) → InBounds log → device_size log.shape ≤ size old
    → LiesOutside (commits_at log.shape log.region) (log_len log.shape) at count → ChangesWithin at count old new → IsTrue old.honest → all_rows new log ≡ all_rows old log
unfolding rows_from row_at
rows_outside old new log at count bounds fits outside changes honest =
    let place = region_lies log.shape log.region (size old) bounds.region fits in
    rows_elsewhere _ _ _ _ place.apart at count (outside_bodies log.shape log.region at count outside) old.shown new.shown (changes.shown honest) log.used bounds.room place.inside

-- so its store stays indexed
pub index_elsewhere : (old new : Content) (store : LogStoreState) (at count : ℕ) → IsIndexed old store → InBounds store.log
    → device_size store.log.shape ≤ size old → LiesOutside (commits_at store.log.shape store.log.region) (log_len store.log.shape) at count → ChangesWithin at count old new → IsIndexed new store
index_elsewhere old new store at count index bounds fits outside changes = search (arith, index_kept, rows_outside)

-- so does a store that is only read
pub frozen_elsewhere : (old new : Content) (store : LogStoreState) (at count : ℕ) → IsFrozenStore old store → InBounds store.log
    → device_size store.log.shape ≤ size old → LiesOutside (commits_at store.log.shape store.log.region) (log_len store.log.shape) at count → ChangesWithin at count old new → IsFrozenStore new store
frozen_elsewhere old new store at count is bounds fits outside changes = record {
  images = record {
    each = λ honest image left.
        let was = sym changes.honest ∙ honest in
        let before = changes.left was image left in
        log_rows_elsewhere _ _ at count before.0 image bounds.region (rw ((old.sizes ∙ sym before.1.size)) at fits) outside before.2
        ∙ is.images.each was before.0 before.1 ∙ sym (rows_outside old new _ at count bounds fits outside changes was);
  };
  index = index_elsewhere old new store at count is.index bounds fits outside changes;
}
