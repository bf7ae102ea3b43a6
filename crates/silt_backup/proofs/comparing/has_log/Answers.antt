use Rattle.silt_backup.proofs.Common.{◌≡◌, ◌+◌, ℕ, List, length, slice_range, ap, sym, ◌∙◌, slice_eq-Decides, Decides-eqb, log_size}
use Rattle.silt_backup.proofs.Reading.{whole_buffer}
use Rattle.silt_backup.proofs.comparing.has_log.Goals as goal

pub returns-in-Ok-read-clause-same : goal.returns-in-Ok-read-clause-same
returns-in-Ok-read-clause-same g c =
    λ same. record {
      holds = λ honest.
          let shown : List ℕ = (g.D.Disk.content c.args.disk.now).shown in
          let at : ℕ = c.commits_at-at.result in
          let whole : c.as_slice.result.now ≡ c.args.log.now = (slice_eq-Decides Decides-eqb c.as_slice.result.now c.args.log.now c.eq.result c.eq.ensures).0 same in
          let wide : length c.as_mut_slice.result.now ≡ log_size c.args.geometry.now = c.as_mut_slice.ensures.len ∙ c.in-Ok.ensures.len ∙ c.requires in
          let is_read : c.as_slice.result.now ≡ c.read.new.buf =
          c.as_slice.ensures.value
          ∙ whole_buffer c.in-Ok.bytes.len c.read.new.buf c.in-Ok.bytes.items (c.read.auto.buf ∙ ap length c.as_mut_slice.ensures.value)
          (sym c.as_mut_slice.ensures.len ∙ ap length c.as_mut_slice.ensures.value) in
          let bytes : c.read.new.buf ≡ slice_range shown at (at + length c.as_mut_slice.result.now) = c.in-Ok-read.ensures.bytes honest in
          sym whole ∙ is_read ∙ bytes ∙ ap (λ n. slice_range shown at (at + n)) wide ∙ ap (λ n. slice_range shown n (n + log_size c.args.geometry.now)) c.commits_at-at.ensures.value;
    }
