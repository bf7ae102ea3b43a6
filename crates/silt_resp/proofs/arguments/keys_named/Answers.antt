use Rattle.silt_resp.proofs.Common.{◌≡◌, ◌<◌, Err, arith, length, rules, sym, keys_named}
use Rattle.silt_resp.proofs.Named.{keys_fault, keys_more}
use Rattle.silt_resp.proofs.arguments.keys_named.Goals as goal

pub returns-in_err-key : goal.returns-in_err-key
returns-in_err-key c =
    let within : c.loop-index.index < length c.args.args.now = omega arith in
    let told : keys_named c.args.args.now ≡ Err c.in_err-key.field-0.0 =
    keys_fault c.args.args.now c.loop-index.index c.in_err-key.field-0.0 c.loop-index.keys.items (sym c.in_err-key.ensures) within c.loop-index.invariant in
    search (rules, told)

pub loop-index-preserved : goal.loop-index-preserved
loop-index-preserved c = rw c.in_ok-push.ensures.items (keys_more c.args.args.now c.loop-index.index c.in_ok-key.key c.loop-index.keys.items (sym c.in_ok-key.ensures) c.loop-index.invariant)
