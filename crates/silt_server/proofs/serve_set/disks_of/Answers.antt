use Rattle.silt_server.proofs.Names.{◌≡◌, ◌∙◌, ◌++◌, ◌∷◌, [], List, ap, append_assoc, arith, length, refl, rules, subst, sym, AllZip, All, vec_len, into_iter_items, append-nil, nil_from_length}
use Rattle.silt_server.proofs.Names.{All-nil, All-push, Shape, LeavesBegun, AnchoredState, DeskState, IsLedFrom}
use Rattle.silt_server.proofs.Sets.{zip_more}
use Rattle.silt_server.proofs.serve_set.disks_of.Goals as goal

pub loop-desk-init : goal.loop-desk-init
loop-desk-init g c =
    let given = c.into_iter-desk-iterator.ensures.into_iter_gives in
    let long : length c.args.desks.items ≡ vec_len c.args.desks = search rules in
    let room : length c.args.room.items ≡ vec_len c.args.room = search rules in
    let left = λ (disk : g.row.D.Denot). (shape : Shape) × LeavesBegun (g.D.Disk.content disk) shape in
    let by = λ (desk : DeskState g.row.D.Denot (AnchoredState g.row.T.Denot)) (disk : g.row.D.Denot). IsLedFrom g.D.Disk g.N.Anchor.first g.T.Trace.counts desk.core desk.trace disk in
    record {
      can = tt;
      finite = tt;
      closed = omega (arith, ap length c.requires.0, room);
      room = omega (arith, c.requires.1, ap length given.0, long);
      led = ([], refl, subst (AllZip by []) (sym c.requires.0) tt);
      left = subst (All left) (sym c.requires.0) (All-nil left);
    }

pub loop-desk-preserved : goal.loop-desk-preserved
loop-desk-preserved g c =
    let before = c.loop-desk.invariant in
    let items = c.in-Some.ensures.steps.0 in
    let left = λ (disk : g.row.D.Denot). (shape : Shape) × LeavesBegun (g.D.Disk.content disk) shape in
    let by = λ (desk : DeskState g.row.D.Denot (AnchoredState g.row.T.Denot)) (disk : g.row.D.Denot). IsLedFrom g.D.Disk g.N.Anchor.first g.T.Trace.counts desk.core desk.trace disk in
    let (done, whole, led) = before.led in
    let desk = c.in-Some.desk in
    record {
      can = tt;
      finite = tt;
      closed = omega (arith, before.closed, ap length items, c.push_reserved.ensures.len);
      room = omega (arith, before.room, c.push_reserved.ensures.capacity);
      led = (
        done ++ desk ∷ [],
        append_assoc done (desk ∷ []) (into_iter_items c.next.new.self) ∙ ap (λ (l : List (DeskState g.row.D.Denot (AnchoredState g.row.T.Denot))). done ++ l) (sym items) ∙ whole,
        subst (AllZip by (done ++ desk ∷ [])) (sym c.push_reserved.ensures.items)
            (zip_more by done c.loop-desk.disks.items desk c.close.result led (sym c.close.ensures.disk, c.trace-known.ensures.agrees.1)),
      );
      left = subst (All left) (sym c.push_reserved.ensures.items) (All-push left c.loop-desk.disks.items c.close.result before.left (_, c.close.ensures.left));
    }

pub returns-clause-led : goal.returns-clause-led
returns-clause-led g c =
    let by = λ (desk : DeskState g.row.D.Denot (AnchoredState g.row.T.Denot)) (disk : g.row.D.Denot). IsLedFrom g.D.Disk g.N.Anchor.first g.T.Trace.counts desk.core desk.trace disk in
    let (done, whole, led) = c.loop-desk.invariant.led in
    let left = c.loop-desk.desk-iterator in
    let ended = nil_from_length (into_iter_items left) (omega (arith, c.in-None.ensures.steps.0, left.rest.ok.0)) in
    subst (λ (l : List (DeskState g.row.D.Denot (AnchoredState g.row.T.Denot))). AllZip by l c.loop-desk.disks.items)
    (sym (append-nil done) ∙ ap (λ (l : List (DeskState g.row.D.Denot (AnchoredState g.row.T.Denot))). done ++ l) (sym ended) ∙ whole ∙ c.into_iter-desk-iterator.ensures.into_iter_gives.0) led
