use Rattle.silt_recovery.proofs.Common.{◌≡◌, ◌<◌, ◌≤◌, ◌+◌, ℕ, IsTrue, List, [], ◌∷◌, All, length, sym, ◌∙◌, subst, arith, err_from_is_err_and, GaveAny, HasFirstEntry, HasFirstSlot}
use Rattle.silt_recovery.proofs.Common.{HasFirstFinding, IsFound, current_slot}
use Rattle.silt_recovery.proofs.Examinations.{HasRegions, active_refused, charge_refused, entry_refused, frozen_refused, hashed_refused, held, named_so, regions_so, rows_counted, says_so}
use Rattle.silt_recovery.proofs.Refusals.{refused_weaker}
use Rattle.silt_recovery.proofs.examination.read_stores.Goals as goal

pub returns-in_err-active-clause-cause : goal.returns-in_err-active-clause-cause
returns-in_err-active-clause-cause g c =
    let content = g.D.Disk.content c.args.disk.now in
    let shape = c.geometry-geometry.result in
    let body = c.current-body.result in
    let named = named_so content c.args.manifest shape body c.geometry-geometry.ensures.value c.current-body.ensures.value c.requires.named in
    let refused = err_from_is_err_and c.from_residual.result c.from_residual.ensures.1 in
    rw (refused.1, refused.2) (refused_weaker (λ finding. IsTrue content.honest → HasFirstFinding shape content.shown (body.active ∷ []) finding)
    (λ finding. IsTrue content.honest → IsFound content.shown finding)
    (GaveAny g.D.Disk.gave c.args.disk.now) c.in_err-active.field-0.0 (active_refused content shape body named) c.in_err-active.ensures.cause)

pub read_frozen-requires-clause-regions : goal.read_frozen-requires-clause-regions
read_frozen-requires-clause-regions g c κs within =
    let all : HasRegions c.geometry-geometry.result c.current-body.result =
    regions_so c.args.manifest (current_slot c.args.manifest) c.geometry-geometry.result c.current-body.result c.geometry-geometry.ensures.value
    c.current-body.ensures.value c.sorted_capacity.ensures.limits c.current-body.ensures.sound in
    subst (λ (ids : List ℕ). All (λ (region : ℕ). region < c.geometry-geometry.result.logs) ids) (sym c.as_slice.ensures.value) all.frozen

pub read_frozen-requires-clause-few : goal.read_frozen-requires-clause-few
read_frozen-requires-clause-few g c κs within =
    let all : HasRegions c.geometry-geometry.result c.current-body.result =
    regions_so c.args.manifest (current_slot c.args.manifest) c.geometry-geometry.result c.current-body.result c.geometry-geometry.ensures.value
    c.current-body.ensures.value c.sorted_capacity.ensures.limits c.current-body.ensures.sound in
    subst (λ (ids : List ℕ). length ids ≤ 7) (sym c.as_slice.ensures.value) all.few

pub read_hashes-requires-clause-regions : goal.read_hashes-requires-clause-regions
read_hashes-requires-clause-regions g c κs within =
    let all : HasRegions c.geometry-geometry.result c.current-body.result =
    regions_so c.args.manifest (current_slot c.args.manifest) c.geometry-geometry.result c.current-body.result c.geometry-geometry.ensures.value
    c.current-body.ensures.value c.sorted_capacity.ensures.limits c.current-body.ensures.sound in
    subst (λ (ids : List ℕ). All (λ (region : ℕ). region < c.geometry-geometry.result.hashes) ids) (sym c.as_slice-2.ensures.value) all.hashed

pub read_hashes-requires-clause-few : goal.read_hashes-requires-clause-few
read_hashes-requires-clause-few g c κs within =
    let all : HasRegions c.geometry-geometry.result c.current-body.result =
    regions_so c.args.manifest (current_slot c.args.manifest) c.geometry-geometry.result c.current-body.result c.geometry-geometry.ensures.value
    c.current-body.ensures.value c.sorted_capacity.ensures.limits c.current-body.ensures.sound in
    subst (λ (ids : List ℕ). length ids ≤ 16) (sym c.as_slice-2.ensures.value) all.few_hashed

pub returns-in_err-frozen-clause-cause : goal.returns-in_err-frozen-clause-cause
returns-in_err-frozen-clause-cause g c =
    let content = g.D.Disk.content c.args.disk.now in
    let shape = c.geometry-geometry.result in
    let body = c.current-body.result in
    let named = named_so content c.args.manifest shape body c.geometry-geometry.ensures.value c.current-body.ensures.value c.requires.named in
    let refused = err_from_is_err_and c.from_residual-in_err-frozen.result c.from_residual-in_err-frozen.ensures.1 in
    rw (refused.1, refused.2) (refused_weaker (λ finding. IsTrue content.honest → HasFirstFinding shape content.shown c.as_slice.result.now finding)
    (λ finding. IsTrue content.honest → IsFound content.shown finding)
    (GaveAny g.D.Disk.gave c.args.disk.now) c.in_err-frozen.field-0.0
    (frozen_refused content shape body named c.in_ok-active.ensures.sound c.as_slice.result.now c.as_slice.ensures.value) c.in_err-frozen.ensures.cause)

pub returns-in_err-hashes-clause-cause : goal.returns-in_err-hashes-clause-cause
returns-in_err-hashes-clause-cause g c =
    let content = g.D.Disk.content c.args.disk.now in
    let shape = c.geometry-geometry.result in
    let body = c.current-body.result in
    let named = named_so content c.args.manifest shape body c.geometry-geometry.ensures.value c.current-body.ensures.value c.requires.named in
    let says = says_so content c.args.manifest c.digests-said.result c.digests-said.ensures.value c.requires.says in
    let refused = err_from_is_err_and c.from_residual-in_err-hashes.result c.from_residual-in_err-hashes.ensures.1 in
    rw (refused.1, refused.2) (refused_weaker (λ finding. IsTrue content.honest
    → HasFirstSlot shape c.digests-said.result content.shown c.as_slice-2.result.now finding) (λ finding. IsTrue content.honest → IsFound content.shown finding)
    (GaveAny g.D.Disk.gave c.args.disk.now) c.in_err-hashes.field-0.0
    (hashed_refused content shape body named c.in_ok-active.ensures.sound c.as_slice.result.now c.as_slice.ensures.value
    c.in_ok-frozen.frozen.stores.items c.in_ok-frozen.frozen.puts c.in_ok-frozen.ensures.read c.digests-said.result says
    c.as_slice-2.result.now c.as_slice-2.ensures.value) c.in_err-hashes.ensures.cause)

pub read_entries-requires-clause-region : goal.read_entries-requires-clause-region
read_entries-requires-clause-region g c κs within =
    let all : HasRegions c.geometry-geometry.result c.current-body.result =
    regions_so c.args.manifest (current_slot c.args.manifest) c.geometry-geometry.result c.current-body.result c.geometry-geometry.ensures.value
    c.current-body.ensures.value c.sorted_capacity.ensures.limits c.current-body.ensures.sound in
    all.sorted

pub read_entries-requires-clause-count : goal.read_entries-requires-clause-count
read_entries-requires-clause-count g c κs within =
    let all : HasRegions c.geometry-geometry.result c.current-body.result =
    regions_so c.args.manifest (current_slot c.args.manifest) c.geometry-geometry.result c.current-body.result c.geometry-geometry.ensures.value
    c.current-body.ensures.value c.sorted_capacity.ensures.limits c.current-body.ensures.sound in
    all.room

pub returns-in_err-sorted-clause-cause : goal.returns-in_err-sorted-clause-cause
returns-in_err-sorted-clause-cause g c =
    let content = g.D.Disk.content c.args.disk.now in
    let shape = c.geometry-geometry.result in
    let body = c.current-body.result in
    let named = named_so content c.args.manifest shape body c.geometry-geometry.ensures.value c.current-body.ensures.value c.requires.named in
    let says = says_so content c.args.manifest c.digests-said.result c.digests-said.ensures.value c.requires.says in
    let refused = err_from_is_err_and c.from_residual-in_err-sorted.result c.from_residual-in_err-sorted.ensures.1 in
    rw (refused.1, refused.2) (refused_weaker (λ finding. IsTrue content.honest
    → HasFirstEntry shape c.digests-said.result content.shown body.sorted body.sorted_count finding) (λ finding. IsTrue content.honest → IsFound content.shown finding)
    (GaveAny g.D.Disk.gave c.args.disk.now) c.in_err-sorted.field-0.0
    (entry_refused content shape body named c.in_ok-active.ensures.sound c.as_slice.result.now c.as_slice.ensures.value
    c.in_ok-frozen.frozen.stores.items c.in_ok-frozen.frozen.puts c.in_ok-frozen.ensures.read c.digests-said.result says
    c.as_slice-2.result.now c.as_slice-2.ensures.value c.in_ok-hashes.hashes.stores.items c.in_ok-hashes.hashes.puts c.in_ok-hashes.hashes.rows
    c.in_ok-hashes.ensures.read) c.in_err-sorted.ensures.cause)

pub returns-then-charge-most-clause-cause : goal.returns-then-charge-most-clause-cause
returns-then-charge-most-clause-cause g c =
    let content = g.D.Disk.content c.args.disk.now in
    let shape = c.geometry-geometry.result in
    let body = c.current-body.result in
    let named = named_so content c.args.manifest shape body c.geometry-geometry.ensures.value c.current-body.ensures.value c.requires.named in
    let says = says_so content c.args.manifest c.digests-said.result c.digests-said.ensures.value c.requires.says in
    let many : shape.sorted_capacity < c.from-newest.result + c.in_ok-frozen.frozen.puts + c.in_ok-hashes.hashes.puts + c.in_ok-sorted.sorted.sorted.count =
    omega (arith, c.if-charge-most.true, c.from-most.ensures, c.sorted_capacity.ensures.value, c.from-entries.ensures, c.len.ensures.value) in
    charge_refused content shape body named c.in_ok-active.ensures.sound c.as_slice.result.now c.as_slice.ensures.value
    c.in_ok-frozen.frozen.stores.items c.in_ok-frozen.frozen.puts c.in_ok-frozen.ensures.read c.digests-said.result says
    c.as_slice-2.result.now c.as_slice-2.ensures.value c.in_ok-hashes.hashes.stores.items c.in_ok-hashes.hashes.puts c.in_ok-hashes.hashes.rows c.in_ok-hashes.ensures.read
    c.in_ok-sorted.sorted.sorted c.in_ok-sorted.ensures.store c.len.ensures.held c.in_ok-sorted.ensures.sound
    c.from-newest.result (λ h. c.from-newest.ensures ∙ c.puts.ensures.value ∙ c.in_ok-active.ensures.counted h) many

pub returns-clause-holds : goal.returns-clause-holds
returns-clause-holds g c =
    let content = g.D.Disk.content c.args.disk.now in
    let shape = c.geometry-geometry.result in
    let body = c.current-body.result in
    let named = named_so content c.args.manifest shape body c.geometry-geometry.ensures.value c.current-body.ensures.value c.requires.named in
    let says = says_so content c.args.manifest c.digests-said.result c.digests-said.ensures.value c.requires.says in
    let charge : ℕ = c.from-newest.result + c.in_ok-frozen.frozen.puts + c.in_ok-hashes.hashes.puts + c.from-entries.result in
    let total : charge ≡ c.from-newest.result + c.in_ok-frozen.frozen.puts + c.in_ok-hashes.hashes.puts + c.in_ok-sorted.sorted.sorted.count =
    omega (arith, c.from-entries.ensures, c.len.ensures.value) in
    let most : charge ≤ shape.sorted_capacity = omega (arith, c.if-charge-most.false, c.from-most.ensures, c.sorted_capacity.ensures.value) in
    held content shape body named c.in_ok-active.ensures.sound c.as_slice.result.now c.as_slice.ensures.value c.in_ok-frozen.frozen.stores.items
    c.in_ok-frozen.frozen.puts c.in_ok-frozen.ensures.read c.digests-said.result says
    c.as_slice-2.result.now c.as_slice-2.ensures.value c.in_ok-hashes.hashes.stores.items c.in_ok-hashes.hashes.puts c.in_ok-hashes.hashes.rows c.in_ok-hashes.ensures.read
    c.in_ok-sorted.sorted.sorted c.in_ok-sorted.ensures.store c.len.ensures.held c.in_ok-sorted.ensures.sound
    c.from-newest.result (λ h. c.from-newest.ensures ∙ c.puts.ensures.value ∙ c.in_ok-active.ensures.counted h) c.args.manifest
    c.geometry-geometry.ensures.value c.current-body.ensures.value c.digests-said.ensures.value
    c.in_ok-active.active c.in_ok-sorted.sorted.index c.in_ok-sorted.sorted.digest charge c.sorted_capacity.ensures.limits
    c.requires.size c.requires.idle c.requires.current c.in_ok-active.ensures.read c.in_ok-active.ensures.region c.in_ok-sorted.ensures.indexed
    c.in_ok-sorted.ensures.digested total most

pub returns-clause-hash_rows : goal.returns-clause-hash_rows
returns-clause-hash_rows g c =
    let content = g.D.Disk.content c.args.disk.now in
    let shape = c.geometry-geometry.result in
    let body = c.current-body.result in
    let named = named_so content c.args.manifest shape body c.geometry-geometry.ensures.value c.current-body.ensures.value c.requires.named in
    let says = says_so content c.args.manifest c.digests-said.result c.digests-said.ensures.value c.requires.says in
    rows_counted content shape body named c.in_ok-active.ensures.sound c.as_slice.result.now c.as_slice.ensures.value
    c.in_ok-frozen.frozen.stores.items c.in_ok-frozen.frozen.puts c.in_ok-frozen.ensures.read c.digests-said.result says
    c.as_slice-2.result.now c.as_slice-2.ensures.value c.in_ok-hashes.hashes.stores.items c.in_ok-hashes.hashes.puts c.in_ok-hashes.hashes.rows c.in_ok-hashes.ensures.read
    c.args.manifest c.geometry-geometry.ensures.value c.current-body.ensures.value

pub read_log-requires-clause-region : goal.read_log-requires-clause-region
read_log-requires-clause-region g c κs within =
    let all : HasRegions c.geometry-geometry.result c.current-body.result =
    regions_so c.args.manifest (current_slot c.args.manifest) c.geometry-geometry.result c.current-body.result c.geometry-geometry.ensures.value
    c.current-body.ensures.value c.sorted_capacity.ensures.limits c.current-body.ensures.sound in
    all.active
