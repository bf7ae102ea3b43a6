use Rattle.silt_manifest.proofs.Common.{rules, ◌≡◌, ◌++◌, length, take, arith, big_bytes}
use Rattle.silt_manifest.proofs.BodyBytes.{more_ids, all_ids}
use Rattle.silt_manifest.proofs.body.put_ids.Goals as goal

pub loop-k-preserved : goal.loop-k-preserved
loop-k-preserved c =
    more_ids c.loop-k.bytes c.put_number-in-loop-k.new.bytes (take c.args.at c.args.bytes.now ++ big_bytes 4 (length c.args.ids.now)) c.args.ids.now c.args.at c.loop-k.k _
    c.loop-k.invariant c.put_number-in-loop-k.ensures (search rules) (omega arith)

pub returns : goal.returns
returns c =
    let end : c.loop-k.k ≡ length c.args.ids.now = omega arith in
    all_ids c.loop-k.bytes c.put_zeros.new.bytes (take c.args.at c.args.bytes.now) c.args.ids.now c.args.at c.args.room c.requires.fits (rw end at c.loop-k.invariant) c.put_zeros.ensures
