use Rattle.silt_log.proofs.Common.{rules, ◌≡◌, ◌+◌, ◌++◌, length, length-append, ap, ◌∙◌, arith, err_from_is_err_and, row_len, wrote_at, wrote_err, wrote_ok, LogState}
use Rattle.silt_log.proofs.Exits.{append_images, append_failed, append_done, appends_as}
use Rattle.silt_log.proofs.Named.{body_place}
use Rattle.silt_log.proofs.Splices.{within_at, writes_at, row_of_parts}
use Rattle.silt_log.proofs.log.Log.append.Goals as goal

pub returns-in_err-write_row : goal.returns-in_err-write_row
returns-in_err-write_row g c =
    let log : LogState = c.args.self.now in
    let at = body_place _ log _ c.self.view_is c.body_at-at.ensures.value in
    let count : length c.head_bytes.result + length c.args.value.now ≡ row_len log.shape = omega (arith, c.requires.value.long) in
    let same = c.write_row.ensures.wrote.size in
    let changes = within_at _ _ _ _ _ _ at count c.write_row.ensures.wrote.changes in
    let refused = err_from_is_err_and c.from_residual.result c.from_residual.ensures.1 in
    record {
      wrote = wrote_err c.in_err-write_row.was c.from_residual.ensures.1 (omega arith) (omega arith) (wrote_at at count c.write_row.ensures.wrote);
      written = search rules;
      images = append_images _ _ log c.requires.log c.requires.size same c.requires.room changes;
      log = rw refused.1 (append_failed _ _ log c.requires.log c.requires.size same c.requires.room changes);
    }

pub returns : goal.returns
returns g c =
    let log : LogState = c.args.self.now in
    let at = body_place _ log _ c.self.view_is c.body_at-at.ensures.value in
    let count : length c.head_bytes.result + length c.args.value.now ≡ row_len log.shape = omega (arith, c.requires.value.long) in
    let all : length (c.head_bytes.result ++ c.args.value.now) ≡ row_len log.shape = length-append c.head_bytes.result c.args.value.now ∙ count in
    let long : length c.head_bytes.result ≡ 21 = omega arith in
    let same = c.write_row.ensures.wrote.size in
    let changes = within_at _ _ _ _ _ _ at count c.write_row.ensures.wrote.changes in
    let written = writes_at _ _ _ _ _ at c.in_ok-write_row.ensures.written in
    let row = row_of_parts c.args.kind c.args.key.now c.head_bytes.result c.args.value.now c.head_bytes.ensures long in
    let more = ap (λ (l : LogState). let more : LogState = record l { used = l.used + 1 } in more) c.self.view_is in
    record {
      wrote = wrote_ok c.in_ok-write_row.was (wrote_at at count c.write_row.ensures.wrote);
      written = rw c.head_bytes.ensures at written;
      images = append_images _ _ log c.requires.log c.requires.size same c.requires.room changes;
      log = appends_as _ _ _ _ _ _ _ row more (append_done _ _ log c.requires.log c.requires.size same c.requires.room changes _ all written);
    }
