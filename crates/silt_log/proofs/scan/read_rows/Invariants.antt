use Rattle.silt_log.proofs.Common.{◌≡◌, ◌<◌, ℕ, true, map, vec_len, IsTrue, range_with_len, AreRows, body_row, has_known_kind}
use Rattle.silt_log.proofs.scan.read_rows.Given as goal

abbrev pub invariant-loop-place : goal.invariant-loop-place
invariant-loop-place g l = record {
  len : vec_len l.rows ≡ l.place;
  rows : IsTrue (g.D.Disk.content l.disk).honest → AreRows l.rows.items (map (body_row l.bodies l.row_len (g.D.Disk.content l.disk).shown) (range_with_len 0 l.place));
  known : IsTrue (g.D.Disk.content l.disk).honest → (earlier : ℕ) → earlier < l.place → has_known_kind (body_row l.bodies l.row_len (g.D.Disk.content l.disk).shown earlier) ≡ true;
}
