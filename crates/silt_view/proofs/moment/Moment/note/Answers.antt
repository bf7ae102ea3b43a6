use Rattle.std.proofs.Common.{◌∷◌, arith}
use Rattle.std.proofs.lemmas.List.{with_items_is}
use Rattle.std.proofs.lemmas.Result.{on_ok_weaker}
use Rattle.std.specs.Vec.{with_items}
use Rattle.silt_view.specs.Moments.{HoldLogs, IsMoment}
use Rattle.silt_view.proofs.moment.Moment.note.Goals as goal

pub returns-clause-moment : goal.returns-clause-moment
returns-clause-moment g c =
    let is = with_items_is c.args.self.now.logs c.read_logs.new.room (omega (arith, c.read_logs.auto.room, c.deref_mut-2.ensures.len)) in
    let noted : HoldLogs g.D.Disk c.args.core.now (c.named.result.0.active ∷ c.as_slice.result.now) c.read_logs.new.room → IsMoment g.D.Disk c.args.core.now _ = λ copied. record {
      shape = c.geometry-self.ensures;
      facts = c.facts-self.ensures;
      named = (c.named.ensures.body, c.named.ensures.digests);
      logs = rw (is, ← c.as_slice.ensures.value) copied;
      map = c.named.ensures.map;
    } in
    on_ok_weaker c.read_logs.result noted c.read_logs.ensures.copied
