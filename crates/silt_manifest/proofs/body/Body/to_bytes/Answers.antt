use Rattle.silt_manifest.proofs.Common.{rules, ◌+◌, ◌++◌, take, ap, ◌∙◌, big_bytes, long_bit, ids_bytes}
use Rattle.silt_manifest.proofs.BodyBytes.{six_parts}
use Rattle.silt_manifest.proofs.body.Body.to_bytes.Goals as goal

pub returns : goal.returns
returns c =
    let b = c.args.self.now in
    six_parts c.put_long.new.bytes c.put_number.new.bytes c.put_ids.new.bytes c.put_ids-2.new.bytes c.put_number-2.new.bytes c.put_number-3.new.bytes (big_bytes 8 (b.generation + long_bit))
    (big_bytes 4 b.active) (ids_bytes 7 b.frozen) (ids_bytes 16 b.hashed) (big_bytes 4 b.sorted) (big_bytes 4 b.sorted_count) (search rules) c.put_long.ensures c.put_number.ensures
    (c.put_ids.ensures ∙ ap (λ ids. take 12 c.put_number.new.bytes ++ ids_bytes 7 ids) c.as_slice.ensures.value)
    (c.put_ids-2.ensures ∙ ap (λ ids. take 44 c.put_ids.new.bytes ++ ids_bytes 16 ids) c.as_slice-2.ensures.value) c.put_number-2.ensures c.put_number-3.ensures
