use Rattle.silt_wire.proofs.report.print_report.Goals as goal

pub returns : goal.returns
returns c =
    rw (
      c.in_ok-generation.ensures,
      c.in_ok-active.ensures,
      c.in_ok-frozen.ensures,
      c.in_ok-hashes.ensures,
      c.in_ok-entries.ensures,
      c.in_ok-charge.ensures,
      c.in_ok-layout.ensures,
      c.layout_number.ensures,
    ) at c.format.ensures.ok
