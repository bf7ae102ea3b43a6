-- What the images of a disk on which the stores stand represent.
use Rattle.std.proofs.Common.{rules}
use Rattle.silt_engine.proofs.Common.{◌≡◌, ◌≤◌, ◌<◌, ℕ, ◌+◌, ◌-◌, IsTrue, List, ◌++◌, length, map, replicate, Ok, inr, refl, ap, sym, ◌∙◌, subst, arith, Content, Left, LeavesOnly, Torn, size}
use Rattle.silt_engine.proofs.Common.{device_size, commits_at, log_size, shown_left, torn_wider, regions_apart, up_least, log_rows, StoredRow, put_count, InBounds, LogState, all_rows, settled_rows}
use Rattle.silt_engine.proofs.Common.{waiting_rows, all_are_settled_and_waiting, log_inside, Map, map_after, Stores, image_digests, image_stores, HasActive, IsSound, StandsFor, image_map, rows_of}
use Rattle.silt_engine.proofs.Common.{with_log_rows, command_of, map_of_rows, rows_law, where_found, RecordIsCurrent, EngineState, Stands, current_map, full_image, shown_stores, length-replicate}
use Rattle.silt_engine.proofs.Common.{torn_splice, torn_slice_before, other_regions, IsGoodWith}
use Rattle.silt_log.specs.State as log
use Rattle.silt_image.specs.Meaning.{image_charge}
use Rattle.silt_disk.specs.Header.{version_of}
use Rattle.silt_standing.specs.Standing.{base_map}
use Rattle.silt_engine.proofs.Named.{active_named, map_with_more, named_body, named_here, named_shape, region_torn, rows_with_more, said_with_rows, says_current, sound_settled, stands_for}
use Rattle.silt_engine.proofs.Named.{stores_map, with_body, with_shape}

-- the map of the settled rows
pub base_is : (content : Content) (s : EngineState) → base_map content s ≡ map_of_rows (rows_of (shown_stores content s))
unfolding base_map
base_is content s = refl

-- the charge of an image is that of its stores
charge_is : (image : List ℕ) (t : Stores) → image_stores image ≡ Ok t → image_charge image ≡ put_count (rows_of t)
unfolding image_charge
charge_is image t is = ap put_count (rows_law image t is)

-- opening the commit bytes of the waiting rows changes their log's region alone
pub full_torn : (content : Content) (l : LogState) → InBounds l → size content ≡ device_size l.shape → Torn (commits_at l.shape l.region) (log_size l.shape) content.shown (log.opened_image content l)
full_torn content l bounds sized =
    let ones : List ℕ = replicate (l.used - l.settled) 167 in
    let long : length ones ≡ l.used - l.settled = length-replicate (l.used - l.settled) 167 in
    let within : commits_at l.shape l.region + l.settled + length ones ≤ length content.shown =
    omega (arith, long, log_inside l.shape l.region bounds.region, (regions_apart l.shape).commits l.region, bounds.order, bounds.room, sized) in
    torn_wider _ _ (omega arith) (omega (arith, long, bounds.order, bounds.room, up_least l.shape.log_capacity)) (torn_splice _ ones _ within)

-- with the commit bytes of a log's waiting rows open, the map of the stores that are shown, of which it is the active one, is that after their
-- commands
pub opened_map : (content : Content) (l : LogState) (t : Stores) → log.IsLog content l → size content ≡ device_size l.shape → t.shape ≡ l.shape → t.body.active ≡ l.region
    → IsTrue content.honest → image_stores content.shown ≡ Ok t → image_map (log.opened_image content l) ≡ map_after (map_of_rows (rows_of t)) (map command_of (waiting_rows content l))
opened_map content l t is sized same_shape same_region honest named =
    let settled : List StoredRow = settled_rows content l in
    let waiting : List StoredRow = waiting_rows content l in
    let shown : log_rows l.shape l.region content.shown ≡ settled = is.images.each honest content.shown (shown_left content) in
    let has : HasActive settled t = active_named l.shape t.body t settled content.shown named same_shape refl (ap (λ (n : ℕ). log_rows l.shape n content.shown) same_region ∙ shown) in
    let all : image_stores (log.opened_image content l) ≡ Ok (with_log_rows l.region (settled ++ waiting) t) = region_torn l.shape t l.region (settled ++ waiting) content.shown
    (log.opened_image content l) same_shape named is.bounds.region (full_torn content l is.bounds sized) (is.full honest ∙ all_are_settled_and_waiting content l is.bounds.order) in
    stores_map (with_log_rows l.region (settled ++ waiting) t) (log.opened_image content l) all ∙ map_with_more t l.region settled waiting same_region has waiting

module _ (content : Content) (s : EngineState) (stands : Stands content s) where
  -- the active log's region
  pub active_below : s.manifest.current.active < s.manifest.shape.logs
  active_below = search arith

  -- the active log's rows in an image
  pub active_rows : (image : List ℕ) → log_rows s.manifest.shape s.manifest.current.active image ≡ log_rows s.active.log.shape s.active.log.region image
  active_rows image = cc (stands.whole.has_shape, stands.whole.active_region)

  -- the active log's size
  pub active_size : size content ≡ device_size s.active.log.shape
  active_size = stands.has_size ∙ ap device_size (sym stands.whole.has_shape)

  -- all rows of the active log
  pub rows_split : all_rows content s.active.log ≡ settled_rows content s.active.log ++ waiting_rows content s.active.log
  rows_split = all_are_settled_and_waiting content s.active.log stands.active.bounds.order

  -- what is shown has these stores
  pub shown_named : IsTrue content.honest → image_stores content.shown ≡ Ok (shown_stores content s)
  shown_named honest = stands.named.each honest content.shown (shown_left _)

  -- of which the first log is the active one
  pub has_active : IsTrue content.honest → HasActive (settled_rows content s.active.log) (shown_stores content s)
  has_active honest = active_named _ _ _ _ _ (shown_named honest) (named_shape _ _ _) (named_body _ _ _) (active_rows _ ∙ stands.active.images.each honest content.shown (shown_left _))

  -- the region of the active log in the stores
  pub active_is : (shown_stores content s).body.active ≡ s.manifest.current.active
  active_is = ap (λ b. b.active) (named_body _ _ _)

  -- nothing is found, also with all rows
  pub all_sound : IsTrue content.honest → IsSound (with_log_rows s.manifest.current.active (settled_rows content s.active.log ++ waiting_rows content s.active.log) (shown_stores content s))
  all_sound honest = search (rules, arith, rows_split, stands.whole.active_region, stands.sound)

  -- nothing is found in what is shown
  pub shown_sound : IsTrue content.honest → IsSound (shown_stores content s)
  shown_sound honest = sound_settled _ _ _ _ active_is (has_active honest) (all_sound honest)

  -- the rows of the active log in the full image
  pub full_rows : IsTrue content.honest → log_rows s.manifest.shape s.manifest.current.active (full_image content s) ≡ all_rows content s.active.log
  full_rows honest = active_rows _ ∙ stands.active.full honest

  -- an image with a current record and stores of this shape has the record's digests
  pub says_held : (image : List ℕ) (t : Stores) → image_stores image ≡ Ok t → t.shape ≡ s.manifest.shape → RecordIsCurrent s.manifest image → image_digests image ≡ s.manifest.digests
  says_held image t is same_shape is_current = says_current _ t _ image is same_shape is_current

  -- it is current in each possible crash image
  pub left_is_current : IsTrue content.honest → (image : List ℕ) → Left content image → RecordIsCurrent s.manifest image
  left_is_current honest image left = (stands.current.each honest image left).current

  -- and in the full image
  full_is_current : IsTrue content.honest → RecordIsCurrent s.manifest (full_image content s)
  full_is_current honest =
      let torn = full_torn content s.active.log stands.active.bounds active_size in
      let same_header =
      torn_slice_before (commits_at s.active.log.shape s.active.log.region) (log_size s.active.log.shape) content.shown (full_image content s) torn 0 37 (omega arith) (omega arith) in
      ap where_found (other_regions s.manifest.shape (commits_at s.active.log.shape s.active.log.region) (log_size s.active.log.shape)
      content.shown (full_image content s) (omega (arith, active_size)) (inr (omega arith)) torn (ap version_of same_header))
      ∙ left_is_current honest content.shown (shown_left content)

  -- an image that is changed in the region of the active log
  pub torn_active : (before image : List ℕ) (rows : List StoredRow) → image_stores before ≡ Ok (shown_stores content s)
      → Torn (commits_at s.active.log.shape s.active.log.region) (log_size s.active.log.shape) before image
      → log_rows s.active.log.shape s.active.log.region image ≡ rows → image_stores image ≡ Ok (with_log_rows s.manifest.current.active rows (shown_stores content s))
  torn_active before image rows named torn are = search (arith, region_torn, named_shape, active_below)

  -- the stores of the full image
  pub full_stores : IsTrue content.honest → image_stores (full_image content s) ≡ Ok (with_log_rows s.manifest.current.active (all_rows content s.active.log) (shown_stores content s))
  full_stores honest = search (rules, arith, torn_active, shown_named, full_torn, active_size, stands.active.bounds, stands.active.full)

  -- an image with these rows in the active log: its map
  pub map_with_rows : IsTrue content.honest → (image : List ℕ) (more : List StoredRow)
      → image_stores image ≡ Ok (with_log_rows s.manifest.current.active (settled_rows content s.active.log ++ more) (shown_stores content s))
      → image_map image ≡ map_after (base_map content s) (map command_of more)
  map_with_rows honest image more is =
      stores_map (with_log_rows s.manifest.current.active (settled_rows content s.active.log ++ more) (shown_stores content s)) image is
      ∙ map_with_more (shown_stores content s) s.manifest.current.active (settled_rows content s.active.log) (waiting_rows content s.active.log) active_is (has_active honest) more
      ∙ ap (λ (m : Map). map_after m (map command_of more)) (sym (base_is content s))

  -- the map of the full image
  pub full_map : IsTrue content.honest → image_map (full_image content s) ≡ current_map content s
  full_map honest = map_with_rows honest (full_image content s) (waiting_rows content s.active.log) (cc (full_stores honest, rows_split))

  -- the numbers of the full image
  pub full_numbers : IsTrue content.honest → IsGoodWith s.manifest.shape s.manifest.current s.charge (full_image content s)
  full_numbers honest =
      let t : Stores = with_log_rows s.manifest.current.active (all_rows content s.active.log) (shown_stores content s) in
      let split : t ≡ with_log_rows s.manifest.current.active (settled_rows content s.active.log ++ waiting_rows content s.active.log) (shown_stores content s) = search (arith, rows_split) in
      let is : image_stores (full_image content s) ≡ Ok t = full_stores honest in
      let same_shape : t.shape ≡ s.manifest.shape = search (arith, with_shape, named_shape) in
      record {
        stores = is ∙ ap Ok (sym (named_here s.manifest.shape s.manifest.current t (full_image content s) is same_shape (search (arith, with_body, named_body))));
        good = (stands_for s.manifest.shape t s.manifest.digests (map_of_rows (rows_of t)) (full_image content s) is same_shape (subst IsSound (sym split) (all_sound honest))
            (said_with_rows s.manifest.digests s.manifest.current.active (all_rows content s.active.log) (shown_stores content s) (stands.said honest))
            (says_held (full_image content s) t is same_shape (full_is_current honest)) refl).good;
        charged =
            cc (
              charge_is (full_image content s) t is,
              rows_with_more (shown_stores content s) s.manifest.current.active (settled_rows content s.active.log) (waiting_rows content s.active.log) active_is
                  (has_active honest) (waiting_rows content s.active.log),
              stands.counted honest,
            );
      }

  -- the map of what is shown
  pub shown_map : IsTrue content.honest → image_map content.shown ≡ base_map content s
  shown_map honest = stores_map _ _ (shown_named honest) ∙ sym (base_is _ s)

  -- each image represents the base
  pub base_stands : IsTrue content.honest → (image : List ℕ) → image_stores image ≡ Ok (shown_stores content s) → RecordIsCurrent s.manifest image
      → StandsFor s.manifest.shape (base_map content s) image
  base_stands honest image is is_current = search (arith, named_shape, stands_for, shown_sound, says_held, base_is, stands.said)

  pub base_safe : LeavesOnly content (StandsFor s.manifest.shape (base_map content s))
  base_safe = record { each = λ honest image left. base_stands honest image (stands.named.each honest image left) (left_is_current honest image left) }

  -- an image with these rows in the active log, in which nothing is found
  pub stands_with_rows : IsTrue content.honest → (image : List ℕ) (more : List StoredRow)
      → image_stores image ≡ Ok (with_log_rows s.manifest.current.active (settled_rows content s.active.log ++ more) (shown_stores content s)) → RecordIsCurrent s.manifest image
      → IsSound (with_log_rows s.manifest.current.active (settled_rows content s.active.log ++ more) (shown_stores content s))
      → StandsFor s.manifest.shape (map_after (base_map content s) (map command_of more)) image
  stands_with_rows honest image more is is_current sound =
      let t : Stores = with_log_rows s.manifest.current.active (settled_rows content s.active.log ++ more) (shown_stores content s) in
      let same_shape : t.shape ≡ s.manifest.shape = with_shape _ _ _ ∙ named_shape _ _ _ in
      stands_for s.manifest.shape t s.manifest.digests (map_after (base_map content s) (map command_of more)) image is same_shape sound (said_with_rows _ _ _ _ (stands.said honest))
      (says_held image t is same_shape is_current) (cc (
        map_with_more (shown_stores content s) s.manifest.current.active (settled_rows content s.active.log) (waiting_rows content s.active.log) active_is (has_active honest) more,
        base_is content s,
      ))
