use Rattle.silt_recovery.proofs.Common.{List, ℕ, sym, ◌∙◌, ap, subst, arith, Writes, header_bytes, splice}
use Rattle.silt_disk.proofs.Wrote.{wrote_err, wrote_ok, wrote_then, wrote_wider}
use Rattle.silt_recovery.proofs.Formats.{committed}
use Rattle.silt_recovery.proofs.HalfFormats.{header_behind, header_committed}
use Rattle.silt_recovery.proofs.header.write_header.Goals as goal

pub returns-in_err-write_synced-clause-stopped : goal.returns-in_err-write_synced-clause-stopped
returns-in_err-write_synced-clause-stopped g c =
    header_behind c.args.geometry.now 1 _ (g.D.Disk.content c.args.disk.now) (g.D.Disk.content c.write_synced.new.disk) (omega arith) c.write_synced.ensures.wrote.changes c.requires.closed

pub returns-in_err-write_synced-2-clause-stopped : goal.returns-in_err-write_synced-2-clause-stopped
returns-in_err-write_synced-2-clause-stopped g c =
    let old = g.D.Disk.content c.args.disk.now in
    let between = g.D.Disk.content c.write_synced.new.disk in
    let written = subst (λ (bytes : List ℕ). Writes 1 bytes old between) c.header_bytes-header.ensures c.in_ok-write_synced.ensures.written in
    header_committed c.args.geometry.now old between (g.D.Disk.content c.write_synced-2.new.disk) (omega (arith, c.requires.size))
    written c.in_ok-write_synced.ensures.rests c.write_synced.ensures.wrote.size c.write_synced-2.ensures.wrote.changes

pub returns-clause-stopped : goal.returns-clause-stopped
returns-clause-stopped g c =
    let old = g.D.Disk.content c.args.disk.now in
    let between = g.D.Disk.content c.write_synced.new.disk in
    let written = subst (λ (bytes : List ℕ). Writes 1 bytes old between) c.header_bytes-header.ensures c.in_ok-write_synced.ensures.written in
    header_committed c.args.geometry.now old between (g.D.Disk.content c.write_synced-2.new.disk) (omega (arith, c.requires.size))
    written c.in_ok-write_synced.ensures.rests c.write_synced.ensures.wrote.size c.write_synced-2.ensures.wrote.changes

pub returns-clause-header : goal.returns-clause-header
returns-clause-header g c = λ h.
    let second = c.in_ok-write_synced-2.ensures.written in
    let first = c.in_ok-write_synced.ensures.written in
    let h1 = sym second.honest ∙ h in
    let h0 = sym first.honest ∙ h1 in
    committed 0 (header_bytes c.args.geometry.now) (g.D.Disk.content c.args.disk.now).shown (g.D.Disk.content c.write_synced.new.disk).shown (g.D.Disk.content c.write_synced-2.new.disk).shown
    (omega (arith, c.requires.size)) (first.shown h0 ∙ ap (λ (bytes : List ℕ). splice 1 bytes (g.D.Disk.content c.args.disk.now).shown) c.header_bytes-header.ensures) (second.shown h1)

pub returns-in_err-write_synced-clause-wrote : goal.returns-in_err-write_synced-clause-wrote
returns-in_err-write_synced-clause-wrote g c = wrote_err c.in_err-write_synced.was c.from_residual.ensures.1 (omega arith) (omega arith)
    (wrote_wider 0 37 (omega arith) (omega arith) c.write_synced.ensures.wrote)

pub returns-in_err-write_synced-2-clause-wrote : goal.returns-in_err-write_synced-2-clause-wrote
returns-in_err-write_synced-2-clause-wrote g c =
    let header = wrote_wider 0 37 (omega arith) (omega arith) c.write_synced.ensures.wrote in
    let commit = wrote_wider 0 37 (omega arith) (omega arith) c.write_synced-2.ensures.wrote in
    wrote_err c.in_err-write_synced-2.was c.from_residual-in_err-write_synced-2.ensures.1 (omega arith) (omega arith) (wrote_then c.in_ok-write_synced.was header commit)

pub returns-clause-wrote : goal.returns-clause-wrote
returns-clause-wrote g c =
    let header = wrote_wider 0 37 (omega arith) (omega arith) c.write_synced.ensures.wrote in
    let commit = wrote_wider 0 37 (omega arith) (omega arith) c.write_synced-2.ensures.wrote in
    wrote_ok c.in_ok-write_synced-2.was (wrote_then c.in_ok-write_synced.was header commit)
