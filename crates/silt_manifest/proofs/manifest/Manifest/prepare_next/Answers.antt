use Rattle.silt_manifest.proofs.Common.{rules, ◌+◌, length, refl, sym, ap, subst, ◌∙◌, arith, InLimits, slot_at, wrote_err, wrote_ok, wrote_then, wrote_wider, FitsSlot, spare_slot}
use Rattle.silt_manifest.proofs.DigestTrip.{length_record_bytes}
use Rattle.silt_manifest.proofs.SoundBodies.{fits_slot}
use Rattle.silt_manifest.proofs.PrepareExits.{close_fails, bytes_fail, next_written, all_prepared, prepared_state}
use Rattle.silt_manifest.proofs.manifest.Manifest.prepare_next.Goals as goal

pub record_bytes-requires : goal.record_bytes-requires
record_bytes-requires g c =
    fits_slot c.args.self.now.shape (spare_slot c.args.self.now) c.args.next (subst (λ state. InLimits state.shape) c.self.view_is c.logs-known.ensures.limits) c.requires.next.sound

pub returns-in_err-write_synced-clause-wrote : goal.returns-in_err-write_synced-clause-wrote
returns-in_err-write_synced-clause-wrote g c =
    let place = c.closing_place.ensures in
    wrote_err c.in_err-write_synced.was c.from_residual.ensures.1 (omega arith) (omega arith) (wrote_wider _ _ place.least (omega (arith, place.most)) c.write_synced.ensures.wrote)

pub returns-in_err-write_synced-clause-each : goal.returns-in_err-write_synced-clause-each
returns-in_err-write_synced-clause-each g c =
    close_fails c.args.self.now c.closing_place.result _ _ c.requires.size c.requires.current c.closing_place.ensures.value c.in_err-write_synced.ensures.wrote.changes

pub returns-in_err-write_record : goal.returns-in_err-write_record
returns-in_err-write_record g c =
    let m = c.args.self.now in
    let place = c.closing_place.ensures in
    let start = ap slot_at c.spare_slot-slot.ensures.value in
    let closed = wrote_wider (slot_at (spare_slot m)) 4096 place.least (omega (arith, place.most)) c.write_synced.ensures.wrote in
    record {
      wrote = wrote_err c.in_err-write_record.was c.from_residual-in_err-write_record.ensures.1 (omega arith) (omega arith)
          (wrote_then c.in_ok-write_synced.was closed (wrote_wider _ _ (omega (arith, start)) (omega (arith, start)) c.write_record.ensures.wrote));
      each = bytes_fail m c.closing_place.result (slot_at c.spare_slot-slot.result + 1) 460 _ _ _ c.requires.size c.requires.current place.value
          (ap (λ n. n + 1) start) refl c.in_ok-write_synced.ensures.written c.in_ok-write_synced.ensures.rests c.in_err-write_record.ensures.wrote.changes;
      written = search rules;
      ready = search rules;
      rests = search rules;
      state = search rules;
    }

pub returns : goal.returns
returns g c =
    let m = c.args.self.now in
    let next = c.args.next in
    let place = c.closing_place.ensures in
    let start = ap slot_at c.spare_slot-slot.ensures.value in
    let behind = ap (λ n. n + 1) start in
    let at = slot_at c.spare_slot-slot.result + 1 in
    let bytes = c.record_bytes.ensures in
    let zero = c.in_ok-write_synced.ensures in
    let last = c.in_ok-write_record.ensures in
    let closed = wrote_wider (slot_at (spare_slot m)) 4096 place.least (omega (arith, place.most)) c.write_synced.ensures.wrote in
    let limits : InLimits m.shape = subst (λ state. InLimits state.shape) c.self.view_is c.logs-known.ensures.limits in
    let fits : FitsSlot next = fits_slot m.shape (spare_slot m) next limits c.requires.next.sound in
    let long = ap length bytes.value ∙ length_record_bytes next c.args.digests fits bytes.fits in
    let ready = all_prepared m c.closing_place.result at c.record_bytes.result next c.args.digests _ _ _ c.requires.size c.requires.current place.value
    behind long bytes.value zero.written zero.rests last.written last.rests in
    record {
      wrote = wrote_ok c.in_ok-write_record.was (wrote_then c.in_ok-write_synced.was closed (wrote_wider _ _ (omega (arith, start)) (omega (arith, start)) c.write_record.ensures.wrote));
      each = bytes_fail m c.closing_place.result at 460 _ _ _ c.requires.size c.requires.current place.value behind refl zero.written zero.rests last.wrote.changes;
      written = next_written m c.closing_place.result at c.record_bytes.result next c.args.digests _ _ _ place.value behind bytes.value zero.written last.written;
      ready = record {
        next = next;
        digests = c.args.digests;
        prepared = prepared_state m c.self.inside.geometry c.self.inside.current next c.self.inside.digests c.args.digests _ (sym (ap (λ state. state.shape) c.self.view_is))
            (sym (ap (λ state. state.current) c.self.view_is)) (sym (ap (λ state. state.digests) c.self.view_is)) c.requires.next fits bytes.fits ready;
      };
      rests = search rules;
      state = search rules;
    }
