use Rattle.std.proofs.Common.{◌≡◌, ◌-◌, ◌+◌, ◌++◌, length, take, arith, refl, subst, sym}
use Rattle.std.proofs.lemmas.Slice.{take-put_mid_below}
use Rattle.httparse.specs.Grammar.{HasNoRequest}
use Rattle.silt_wire.proofs.Streams.{Consumes-append, Consumes-keeps}
use Rattle.silt_metrics.specs.Requests.{AsksFor}
use Rattle.silt_metrics.proofs.Reading.{asked_taken, bytes_more, no_request, nothing_taken, piece_room, room_kept}
use Rattle.silt_metrics.proofs.exchange.read_wanted.Goals as goal
use Rattle.silt_metrics.proofs.exchange.read_wanted.Goals.{in-Ok+in_default, in-Err}
use borrow.Rule.Slice.PartMut.{put_mid}

pub loop-init : goal.loop-init
loop-init g c = record { fits = omega arith; room = refl; read = nothing_taken (g.R.Read.remaining c.args.reader.now); begun = no_request }

pub returns-in-Some : goal.returns-in-Some
returns-in-Some g c =
    let i = c.loop.invariant in
    let long : length c.read.new.buf ≡ 8192 - c.loop.len = omega (arith, piece_room c.loop.len c.loop.head i.fits i.room) in
    let piece = take c.in-Ok.count c.read.new.buf in
    let read = take c.loop.len c.loop.head ++ piece in
    let is : take (c.loop.len + c.in-Ok.count) (put_mid c.loop.len (8192 - c.loop.len) c.loop.head c.read.new.buf) ≡ read =
    bytes_more c.loop.len c.in-Ok.count c.loop.head c.read.new.buf i.fits i.room long c.in-Ok.ensures.bound.0 in (
      read,
      Consumes-append _ _ _ (take c.loop.len c.loop.head) piece i.read c.in-Ok.ensures.bytes.0,
      asked_taken read c.in-Some.wanted (subst (λ bytes. AsksFor bytes c.in-Some.wanted) is c.in-Some.ensures),
    )

pub loop-preserved : goal.loop-preserved
loop-preserved g c =
    let i = c.loop.invariant in
    let long : length c.read.new.buf ≡ 8192 - c.loop.len = omega (arith, piece_room c.loop.len c.loop.head i.fits i.room) in
    let room = room_kept c.loop.len c.loop.head c.read.new.buf i.fits i.room long in
    elim c.match-read.branch [
      | in-Ok+in_default w ↦
          let piece = take w.in-Ok.count c.read.new.buf in
          let is : take (c.loop.len + w.in-Ok.count) (put_mid c.loop.len (8192 - c.loop.len) c.loop.head c.read.new.buf) ≡ take c.loop.len c.loop.head ++ piece =
          bytes_more c.loop.len w.in-Ok.count c.loop.head c.read.new.buf i.fits i.room long w.in-Ok.ensures.bound.0 in
          rw w.len-is (record {
            fits = omega (arith, w.in-Ok.ensures.bound.0, long);
            room = room;
            read = rw is (Consumes-append _ _ _ (take c.loop.len c.loop.head) piece i.read w.in-Ok.ensures.bytes.0);
            begun = w.in_default.ensures;
          })
      | in-Err w ↦
          let same : take c.loop.len (put_mid c.loop.len (8192 - c.loop.len) c.loop.head c.read.new.buf) ≡ take c.loop.len c.loop.head =
          take-put_mid_below c.loop.len (8192 - c.loop.len) c.loop.head c.read.new.buf c.loop.len (omega arith) (omega (arith, i.fits, i.room)) in
          rw w.len-is (record {
            fits = i.fits;
            room = room;
            read = rw same (Consumes-keeps _ _ _ _ i.read w.in-Err.ensures.bytes);
            begun = subst HasNoRequest (sym same) i.begun;
          })
    ]
