-- A conversion whose slots are all written: the stores in which its hash store replaces the oldest log.
use Rattle.silt_engine.proofs.Common.{◌≡◌, ◌≢◌, ◌<◌, ℕ, ◌-◌, ◌*◌, IsTrue, List, ◌++◌, length, get_or, Option, Some, Ok, ap, sym, ◌∙◌, subst, arith, IfSome, get_or-map, length-map, Content, log_rows}
use Rattle.silt_engine.proofs.Common.{StoredRow, put_count, all_rows, waiting_rows, IsFrozenStore, bucket_count_is, Body, Part, known_rows, Stores, image_stores, hash_rows, IsSound, part_digest}
use Rattle.silt_engine.proofs.Common.{rows_of, with_log_rows, map_of_rows, whole_law, count_law, ConversionState, HasWritten, IsDigestOf, converted_rows, HasOldest, IsTableOf, converted_charge}
use Rattle.silt_engine.proofs.Common.{IsUnderWay, EngineState, oldest_log, region_of, IsFrozen, Stands, base_map, shown_stores, converted_body, ReplacesLog, with_converted, all_charged}
use Rattle.silt_engine.proofs.Common.{all_digested, all_due}
use Rattle.silt_engine.proofs.ConvertStores.{converts, oldest_named, oldest_named_with, rows_converted, rows_named}
use Rattle.silt_engine.proofs.Named.{named_body, named_here, named_shape, with_shape}
use Rattle.silt_engine.proofs.Facts.{base_is, shown_named, shown_sound}
use Rattle.silt_engine.proofs.Elsewhere.{frozen_named, not_active, scanned_all}

-- ---- the oldest log

module _ (content : Content) (s : EngineState) (stands : Stands content s) (some : 0 < length s.frozen) where
  pub last_inside : length s.frozen - 1 < length s.frozen
  last_inside = omega (arith, some)

  -- as it is
  pub oldest_frozen : IsFrozen content (oldest_log s)
  oldest_frozen = stands.frozen (length s.frozen - 1) s.active last_inside

  pub oldest_shape : (oldest_log s).log.shape ≡ s.manifest.shape
  oldest_shape = (stands.whole.settled (length s.frozen - 1) s.active last_inside).has_shape

  -- its region is the last one that the body names
  pub ids : length s.manifest.current.frozen ≡ length s.frozen
  ids = ap length (sym stands.whole.frozen_regions) ∙ length-map s.frozen region_of

  pub some_ids : 0 < length s.manifest.current.frozen
  some_ids = omega (arith, some, ids)

  abbrev last_id : ℕ
  last_id = get_or s.manifest.current.frozen (length s.manifest.current.frozen - 1) 0

  oldest_region : (oldest_log s).log.region ≡ last_id
  oldest_region = cc (get_or-map region_of s.frozen (length s.frozen - 1) s.active 0 last_inside, stands.whole.frozen_regions, ids)

  -- its rows in an image
  oldest_rows : (image : List ℕ) → log_rows (oldest_log s).log.shape (oldest_log s).log.region image ≡ log_rows s.manifest.shape last_id image
  oldest_rows image = cc (oldest_shape, oldest_region)

  -- are those that are shown
  shown_rows : IsTrue content.honest → log_rows s.manifest.shape last_id content.shown ≡ all_rows content (oldest_log s).log
  shown_rows h = sym (oldest_rows content.shown) ∙ sym (scanned_all content (oldest_log s).log (oldest_frozen.rows h))

  same_rows : IsTrue content.honest → (image : List ℕ) → image_stores image ≡ Ok (shown_stores content s) → log_rows s.manifest.shape last_id image ≡ log_rows s.manifest.shape last_id content.shown
  same_rows h image named =
      let same_shape = named_shape _ _ _ in
      let same_body = named_body _ _ _ in
      rows_named _ _ _ 0 _ image (named_here _ _ _ image named same_shape same_body) (omega (arith, some_ids))

  -- in each possible crash image
  pub oldest_stands : IsFrozenStore content (oldest_log s)
  oldest_stands = record {
    images = record { each = λ h image left. oldest_rows image ∙ same_rows h image (stands.named.each h image left) ∙ shown_rows h };
    index = oldest_frozen.indexed;
  }

  -- it is not the active log
  not_the_active : IsTrue content.honest → last_id ≢ s.manifest.current.active
  not_the_active h same = not_active _ s stands h _ (frozen_named s stands.whole.frozen_regions _ _ last_inside) (oldest_region ∙ same)

-- ---- the stores without it

module _ (content : Content) (s : EngineState) (stands : Stands content s) (conversion : ConversionState) (was : s.converting ≡ Some conversion) where
  pub way : IsUnderWay s conversion
  way = subst (λ (o : Option ConversionState). IfSome o (IsUnderWay s)) was stands.whole.under_way

  pub has_written : HasWritten content (oldest_log s) conversion
  has_written = rw was at stands.written

  abbrev rows : List StoredRow
  rows = all_rows content (oldest_log s).log

  abbrev t : Stores
  t = shown_stores content s

  t_shape : t.shape ≡ s.manifest.shape
  t_shape = named_shape _ _ _

  -- the record that is current then, the hash store, and the stores
  abbrev pub ending_body : Body
  ending_body = converted_body s.manifest.current conversion.region

  abbrev pub ending_part : Part
  ending_part = record { region = conversion.region; rows = converted_rows (shown_stores content s).shape (oldest_log s).table (all_rows content (oldest_log s).log) }

  abbrev pub ending_stores : Stores
  ending_stores = with_converted ending_body ending_part (shown_stores content s)

  -- the oldest log has these rows, also once the waiting rows are settled
  pub oldest : IsTrue content.honest → HasOldest rows t
  oldest h = rw (shown_rows content s stands way.some_frozen h) at (oldest_named s.manifest.shape s.manifest.current 0 content.shown (some_ids content s stands way.some_frozen))

  abbrev full : Stores
  full = with_log_rows s.manifest.current.active (all_rows content s.active.log) (shown_stores content s)

  pub oldest_full : IsTrue content.honest → HasOldest rows full
  oldest_full h =
      rw (shown_rows content s stands way.some_frozen h) at (oldest_named_with s.manifest.shape s.manifest.current 0 content.shown s.manifest.current.active
      (all_rows content s.active.log) (some_ids content s stands way.some_frozen) (not_the_active content s stands way.some_frozen h))

  -- and their table
  pub table_of : IsTrue content.honest → IsTableOf t.shape rows (oldest_log s).table
  table_of h =
      let log_shape : (oldest_log s).log.shape ≡ t.shape = oldest_shape _ s stands way.some_frozen ∙ sym t_shape in
      let indexed = (oldest_frozen _ s stands way.some_frozen).indexed in
      rw (← log_shape) (record {
        count = rw (← log_shape) at (bucket_count_is t.shape.buckets (whole_law content.shown t (shown_named content s stands h)).limits.buckets);
        known = indexed.known h;
        indexed = indexed.indexed h;
      })

  -- the hash store may replace the log
  replaces : IsTrue content.honest → ReplacesLog rows ending_part t ending_stores
  replaces h = converts t ending_body rows (oldest_log s).table conversion.region (oldest h) (table_of h) (shown_sound _ s stands h)

  -- with the same map
  pub ending_map : IsTrue content.honest → map_of_rows (rows_of ending_stores) ≡ base_map content s
  ending_map h = (replaces h).map ∙ sym (base_is _ s)

  -- nothing is found in them
  pub ending_sound : IsTrue content.honest → IsSound ending_stores
  ending_sound h = (replaces h).sound

  -- also once the waiting rows are settled
  pub ending_full_sound : IsTrue content.honest → IsSound (with_log_rows s.manifest.current.active (all_rows content s.active.log) ending_stores)
  ending_full_sound h =
      let all : List StoredRow = all_rows content s.active.log in
      let same : full.shape ≡ t.shape = with_shape _ all t in
      let sound : IsSound full = subst (λ (n : ℕ). IsSound (with_log_rows n all t)) stands.whole.active_region (stands.sound h) in
      let is = (converts full ending_body rows (oldest_log s).table conversion.region (oldest_full h) (rw (← same) at (table_of h)) sound).sound in
      search (arith, rows_converted)

  module _ (done : conversion.next ≡ 4 * conversion.shape.buckets) where
    same_shape : conversion.shape ≡ t.shape
    same_shape = way.has_shape ∙ sym t_shape

    -- the slots show the hash store
    pub ending_slots : IsTrue content.honest → hash_rows s.manifest.shape conversion.region content.shown ≡ ending_part.rows
    ending_slots h = cc (way.has_shape, all_due content (oldest_log s) conversion done has_written h, same_shape)

    -- the digest of what was hashed is its digest
    pub ending_digest : (digest : List ℕ) → IsDigestOf conversion.hasher digest → IsTrue content.honest → digest ≡ part_digest ending_part
    ending_digest digest finalizes h = cc (all_digested content (oldest_log s) conversion digest done has_written h finalizes, way.has_shape, ending_slots h)

    -- the puts that went away do not count
    pub ending_counted : IsTrue content.honest → (charge : ℕ) → charge ≡ s.charge - ((oldest_log s).puts - conversion.puts)
        → charge ≡ put_count (rows_of ending_stores ++ waiting_rows content s.active.log)
    ending_counted h charge is =
        let waiting : List StoredRow = waiting_rows content s.active.log in
        let part_puts : conversion.puts ≡ put_count (known_rows ending_part) = cc (all_charged content (oldest_log s) conversion done has_written h, same_shape) in
        omega (
          arith,
          is,
          (oldest_frozen _ s stands way.some_frozen).indexed.counted h,
          part_puts,
          converted_charge t.shape rows (oldest_log s).table (table_of h),
          (replaces h).charge,
          count_law (rows_of ending_stores) waiting,
          count_law (rows_of t) waiting,
          stands.counted h,
        )
