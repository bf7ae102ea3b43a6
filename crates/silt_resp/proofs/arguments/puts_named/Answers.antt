use Rattle.silt_resp.proofs.Common.{◌≡◌, ◌+◌, ◌<◌, Err, arith, inl, inr, length, rules, sym, All-push, Put, HasValueOf, puts_named}
use Rattle.silt_resp.proofs.Named.{puts_key_fault, puts_more, puts_value_fault, value_within}
use Rattle.silt_resp.proofs.arguments.puts_named.Goals as goal

pub returns-in_err-key-clause-puts : goal.returns-in_err-key-clause-puts
returns-in_err-key-clause-puts c =
    let len = c.args.settings.now.value_len in
    let within : c.loop-at.at < length c.args.args.now = omega arith in
    let told : puts_named len c.args.args.now ≡ Err c.in_err-key.field-0.0 =
    puts_key_fault len c.args.args.now c.loop-at.at c.in_err-key.field-0.0 c.loop-at.puts.items (sym c.in_err-key.ensures) within c.loop-at.invariant.puts in
    search (rules, told)

pub returns-in_err-value-clause-puts : goal.returns-in_err-value-clause-puts
returns-in_err-value-clause-puts c =
    let len = c.args.settings.now.value_len in
    elim c.in_err-value.ensures.value [
      | inl none ↦ search (rules, none)
      | inr bad ↦
          let told : puts_named len c.args.args.now ≡ Err c.in_err-value.field-0.0 =
          puts_value_fault len c.args.args.now c.loop-at.at c.in_ok-key.key c.in_err-value.field-0.0 c.loop-at.puts.items (sym c.in_ok-key.ensures) bad c.loop-at.invariant.puts in
          search (rules, told)
    ]

pub overflow_add-at-in-loop-at : goal.overflow_add-at-in-loop-at
overflow_add-at-in-loop-at c =
    let within = value_within c.args.settings.now.value_len c.args.args.now (c.loop-at.at + 1) c.in_ok-value.value c.in_ok-value.ensures.value in
    omega (arith, within)

pub loop-at-preserved : goal.loop-at-preserved
loop-at-preserved c =
    let len = c.args.settings.now.value_len in
    record {
      puts = rw c.in_ok-push.ensures.items (puts_more len c.args.args.now c.loop-at.at c.in_ok-key.key c.in_ok-value.value
          c.loop-at.puts.items (sym c.in_ok-key.ensures) c.in_ok-value.ensures.value c.loop-at.invariant.puts);
      fits = rw c.in_ok-push.ensures.items (All-push (HasValueOf len) c.loop-at.puts.items (Put c.in_ok-key.key c.in_ok-value.value) c.loop-at.invariant.fits c.in_ok-value.ensures.len);
    }
