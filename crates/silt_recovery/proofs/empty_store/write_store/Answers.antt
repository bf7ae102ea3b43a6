use Rattle.silt_recovery.proofs.Common.{◌≡◌, ◌∙◌, ℕ, [], ◌∷◌, refl, subst, arith, ChangesWithin, LeavesOnly, Writes, commits_at, log_rows, rules, Makes, MakesAtMost, LogState}
use Rattle.silt_disk.proofs.Costs.{made_both, most_both, most_made, most_more}
use Rattle.silt_recovery.proofs.Formats.{formatted, second_closed}
use Rattle.silt_recovery.proofs.HalfFormats.{commit_closed, commit_kept, commit_kept_by_write, left_at_last, left_but_for_commit, left_closed, on_err}
use Rattle.silt_recovery.proofs.empty_store.write_store.Goals as goal

pub returns-in_err-write_synced-clause-stopped : goal.returns-in_err-write_synced-clause-stopped
returns-in_err-write_synced-clause-stopped g c =
    on_err c.from_residual.result (left_but_for_commit c.args.geometry.now (g.D.Disk.content c.args.disk.now) (g.D.Disk.content c.write_synced.new.disk) c.write_synced.ensures.wrote.changes)

pub returns-in_err-write-clause-stopped : goal.returns-in_err-write-clause-stopped
returns-in_err-write-clause-stopped g c =
    let c0 = g.D.Disk.content c.args.disk.now in
    let c1 = g.D.Disk.content c.write_synced.new.disk in
    let c2 = g.D.Disk.content c.write.new.self in
    let closed1 = commit_closed c0 c1 (omega (arith, c.requires.size)) c.in_ok-write_synced.ensures.written c.in_ok-write_synced.ensures.rests in
    on_err c.from_residual-in_err-write.result (left_closed c.args.geometry.now c0 c2
    (commit_kept_by_write c.slot_start.result 1 c1 c2 (omega (arith, c.slot_start.ensures)) c.write.ensures.torn closed1))

pub returns-in_err-prepare-clause-stopped : goal.returns-in_err-prepare-clause-stopped
returns-in_err-prepare-clause-stopped g c =
    let c0 = g.D.Disk.content c.args.disk.now in
    let c1 = g.D.Disk.content c.write_synced.new.disk in
    let c2 = g.D.Disk.content c.write.new.self in
    let c3 = g.D.Disk.content c.prepare.new.disk in
    let closed1 = commit_closed c0 c1 (omega (arith, c.requires.size)) c.in_ok-write_synced.ensures.written c.in_ok-write_synced.ensures.rests in
    let closed2 = commit_kept_by_write c.slot_start.result 1 c1 c2 (omega (arith, c.slot_start.ensures)) c.write.ensures.torn closed1 in
    on_err c.from_residual-in_err-prepare.result (left_closed c.args.geometry.now c0 c3 (commit_kept _ _ c2 c3 (omega arith) c.prepare.ensures.wrote.changes closed2))

pub returns-in_err-write_first-clause-stopped : goal.returns-in_err-write_first-clause-stopped
returns-in_err-write_first-clause-stopped g c =
    let c0 = g.D.Disk.content c.args.disk.now in
    let c1 = g.D.Disk.content c.write_synced.new.disk in
    let c2 = g.D.Disk.content c.write.new.self in
    let c3 = g.D.Disk.content c.prepare.new.disk in
    let c4 = g.D.Disk.content c.write_first.new.disk in
    let closed1 = commit_closed c0 c1 (omega (arith, c.requires.size)) c.in_ok-write_synced.ensures.written c.in_ok-write_synced.ensures.rests in
    let closed2 = commit_kept_by_write c.slot_start.result 1 c1 c2 (omega (arith, c.slot_start.ensures)) c.write.ensures.torn closed1 in
    let closed3 = commit_kept _ _ c2 c3 (omega arith) c.prepare.ensures.wrote.changes closed2 in
    on_err c.from_residual-in_err-write_first.result (left_closed c.args.geometry.now c0 c4 (commit_kept _ _ c3 c4 (omega arith) c.write_first.ensures.wrote.changes closed3))

pub returns-in_err-write_header-clause-stopped : goal.returns-in_err-write_header-clause-stopped
returns-in_err-write_header-clause-stopped g c =
    let c3 = g.D.Disk.content c.prepare.new.disk in
    let rows = subst (λ (l : LogState). LeavesOnly c3 (λ image. log_rows l.shape l.region image ≡ [])) c.requires.log c.in_ok-prepare.ensures.ok.images in
    let size3 = c.prepare.ensures.wrote.size ∙ c.write.ensures.size ∙ c.write_synced.ensures.wrote.size ∙ c.requires.size in
    let size4 = c.write_first.ensures.wrote.size ∙ size3 in
    on_err c.from_residual-in_err-write_header.result
    (left_at_last c.args.geometry.now c.empty_digests-digests.result (g.D.Disk.content c.args.disk.now) c3 (g.D.Disk.content c.write_first.new.disk)
    (g.D.Disk.content c.write_header.new.disk) c.requires.limits c.empty_digests-digests.ensures size3 size4 (c.write_header.ensures.wrote.size ∙ size4)
    rows c.write_first.ensures.wrote.changes c.in_ok-write_first.ensures.current c.write_header.ensures.wrote.changes c.write_header.ensures.stopped)

pub write_header-requires-clause-closed : goal.write_header-requires-clause-closed
write_header-requires-clause-closed g c κs within =
    let c0 = g.D.Disk.content c.args.disk.now in
    let c1 = g.D.Disk.content c.write_synced.new.disk in
    let c2 = g.D.Disk.content c.write.new.self in
    let c3 = g.D.Disk.content c.prepare.new.disk in
    let c4 = g.D.Disk.content c.write_first.new.disk in
    let closed1 = commit_closed c0 c1 (omega (arith, c.requires.size)) c.in_ok-write_synced.ensures.written c.in_ok-write_synced.ensures.rests in
    let closed2 = commit_kept_by_write c.slot_start.result 1 c1 c2 (omega (arith, c.slot_start.ensures)) c.write.ensures.torn closed1 in
    let closed3 = commit_kept _ _ c2 c3 (omega arith) c.prepare.ensures.wrote.changes closed2 in
    commit_kept _ _ c3 c4 (omega arith) c.write_first.ensures.wrote.changes closed3

pub write_first-requires-clause-closed : goal.write_first-requires-clause-closed
write_first-requires-clause-closed g c κs within =
    let c1 = g.D.Disk.content c.write_synced.new.disk in
    let c2 = g.D.Disk.content c.write.new.self in
    let c3 = g.D.Disk.content c.prepare.new.disk in
    let prepared = subst (λ (l : LogState). ChangesWithin (commits_at l.shape l.region) l.shape.log_capacity c2 c3) c.requires.log c.prepare.ensures.wrote.changes in
    second_closed c.args.geometry.now c.requires.limits c1 c2 c3 (c.write_synced.ensures.wrote.size ∙ c.requires.size) c.write.ensures.size
    (subst (λ (at : ℕ). Writes at (0 ∷ []) c1 c2) c.slot_start.ensures c.in_ok-write.ensures.written) prepared c.in_ok-prepare.ensures.rests

pub returns-clause-images : goal.returns-clause-images
returns-clause-images g c =
    let c3 = g.D.Disk.content c.prepare.new.disk in
    let rows = subst (λ (l : LogState). LeavesOnly c3 (λ image. log_rows l.shape l.region image ≡ [])) c.requires.log c.in_ok-prepare.ensures.ok.images in
    let size3 = c.prepare.ensures.wrote.size ∙ c.write.ensures.size ∙ c.write_synced.ensures.wrote.size ∙ c.requires.size in
    let size4 = c.write_first.ensures.wrote.size ∙ size3 in
    formatted c.args.geometry.now c.empty_digests-digests.result c3 (g.D.Disk.content c.write_first.new.disk)
    (g.D.Disk.content c.write_header.new.disk) c.requires.limits c.empty_digests-digests.ensures size3 size4 (c.write_header.ensures.wrote.size ∙ size4)
    rows c.write_first.ensures.wrote.changes c.in_ok-write_first.ensures.current c.write_header.ensures.wrote.changes c.in_ok-write_header.ensures.header c.in_ok-write_header.ensures.rests

pub returns-in_err-write_synced-clause-made : goal.returns-in_err-write_synced-clause-made
returns-in_err-write_synced-clause-made g c =
    let most : MakesAtMost g.D.Disk.writes g.D.Disk.syncs 8 7 c.args.disk.now c.write_synced.new.disk = most_more c.in_err-write_synced.ensures.wrote.made (omega arith) (omega arith) in
    search (rules, most)

pub returns-in_err-write-clause-made : goal.returns-in_err-write-clause-made
returns-in_err-write-clause-made g c =
    let one : Makes g.D.Disk.writes g.D.Disk.syncs 1 1 c.args.disk.now c.write_synced.new.disk = c.in_ok-write_synced.ensures.wrote.made in
    let most : MakesAtMost g.D.Disk.writes g.D.Disk.syncs 8 7 c.args.disk.now c.write.new.self =
    most_made (made_both c.write_synced.new.disk one c.write.ensures.made refl refl) (omega arith) (omega arith) in
    search (rules, most)

pub returns-in_err-prepare-clause-made : goal.returns-in_err-prepare-clause-made
returns-in_err-prepare-clause-made g c =
    let one : Makes g.D.Disk.writes g.D.Disk.syncs 1 1 c.args.disk.now c.write_synced.new.disk = c.in_ok-write_synced.ensures.wrote.made in
    let two : Makes g.D.Disk.writes g.D.Disk.syncs 2 1 c.args.disk.now c.write.new.self = made_both c.write_synced.new.disk one c.write.ensures.made refl refl in
    let most : MakesAtMost g.D.Disk.writes g.D.Disk.syncs 8 7 c.args.disk.now c.prepare.new.disk = most_both c.write.new.self two c.in_err-prepare.ensures.wrote.made (omega arith) (omega arith) in
    search (rules, most)

pub returns-in_err-write_first-clause-made : goal.returns-in_err-write_first-clause-made
returns-in_err-write_first-clause-made g c =
    let one : Makes g.D.Disk.writes g.D.Disk.syncs 1 1 c.args.disk.now c.write_synced.new.disk = c.in_ok-write_synced.ensures.wrote.made in
    let two : Makes g.D.Disk.writes g.D.Disk.syncs 2 1 c.args.disk.now c.write.new.self = made_both c.write_synced.new.disk one c.write.ensures.made refl refl in
    let three : Makes g.D.Disk.writes g.D.Disk.syncs 3 2 c.args.disk.now c.prepare.new.disk = made_both c.write.new.self two c.in_ok-prepare.ensures.wrote.made refl refl in
    let most : MakesAtMost g.D.Disk.writes g.D.Disk.syncs 8 7 c.args.disk.now c.write_first.new.disk =
    most_both c.prepare.new.disk three c.in_err-write_first.ensures.wrote.made (omega arith) (omega arith) in
    search (rules, most)

pub returns-in_err-write_header-clause-made : goal.returns-in_err-write_header-clause-made
returns-in_err-write_header-clause-made g c =
    let one : Makes g.D.Disk.writes g.D.Disk.syncs 1 1 c.args.disk.now c.write_synced.new.disk = c.in_ok-write_synced.ensures.wrote.made in
    let two : Makes g.D.Disk.writes g.D.Disk.syncs 2 1 c.args.disk.now c.write.new.self = made_both c.write_synced.new.disk one c.write.ensures.made refl refl in
    let three : Makes g.D.Disk.writes g.D.Disk.syncs 3 2 c.args.disk.now c.prepare.new.disk = made_both c.write.new.self two c.in_ok-prepare.ensures.wrote.made refl refl in
    let four : Makes g.D.Disk.writes g.D.Disk.syncs 6 5 c.args.disk.now c.write_first.new.disk = made_both c.prepare.new.disk three c.in_ok-write_first.ensures.wrote.made refl refl in
    let most : MakesAtMost g.D.Disk.writes g.D.Disk.syncs 8 7 c.args.disk.now c.write_header.new.disk =
    most_both c.write_first.new.disk four c.in_err-write_header.ensures.wrote.made (omega arith) (omega arith) in
    search (rules, most)

pub returns-clause-made : goal.returns-clause-made
returns-clause-made g c =
    let one : Makes g.D.Disk.writes g.D.Disk.syncs 1 1 c.args.disk.now c.write_synced.new.disk = c.in_ok-write_synced.ensures.wrote.made in
    let two : Makes g.D.Disk.writes g.D.Disk.syncs 2 1 c.args.disk.now c.write.new.self = made_both c.write_synced.new.disk one c.write.ensures.made refl refl in
    let three : Makes g.D.Disk.writes g.D.Disk.syncs 3 2 c.args.disk.now c.prepare.new.disk = made_both c.write.new.self two c.in_ok-prepare.ensures.wrote.made refl refl in
    let four : Makes g.D.Disk.writes g.D.Disk.syncs 6 5 c.args.disk.now c.write_first.new.disk = made_both c.prepare.new.disk three c.in_ok-write_first.ensures.wrote.made refl refl in
    made_both c.write_first.new.disk four c.in_ok-write_header.ensures.wrote.made refl refl
