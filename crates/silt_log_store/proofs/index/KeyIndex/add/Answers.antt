use Rattle.silt_log_store.proofs.Common.{◌≡◌, ◌+◌, length, ap, sym, ◌∙◌, bucket_count, slot_of_key}
use Rattle.silt_log_store.proofs.Exits.{under_buckets}
use Rattle.silt_log_store.proofs.Growth.{key_added, key_refused}
use Rattle.silt_log_store.proofs.index.KeyIndex.add.Goals as goal

pub returns-in_default : goal.returns-in_default
returns-in_default c =
    let old = c.args.self.now in
    let place = c.len-place.result in
    let at : place ≡ length old.keys.items = c.len-place.ensures ∙ old.keys.ok.0 in
    let none = c.in_default.ensures.rule place
    ∙ under_buckets (bucket_count old.table) c.key_buckets-buckets.result.0 c.key_buckets-buckets.result.1 place old.table
    c.args.key.now.0 c.slot_of-standing.result (slot_of_key old.keys.items old.table c.args.key.now.0)
    (rw c.bucket_count.ensures.count at c.key_buckets-buckets.ensures.first) (rw c.bucket_count.ensures.count at c.key_buckets-buckets.ensures.second) c.slot_of-standing.ensures.slot in
    key_refused c.args.key.now.0 old place c.requires.index at (sym none)

pub returns : goal.returns
returns c =
    let old = c.args.self.now in
    let place = c.len-place.result in
    let at : place ≡ length old.keys.items = c.len-place.ensures ∙ old.keys.ok.0 in
    let planned = c.in-Some.ensures.rule place
    ∙ under_buckets (bucket_count old.table) c.key_buckets-buckets.result.0 c.key_buckets-buckets.result.1 place old.table
    c.args.key.now.0 c.slot_of-standing.result (slot_of_key old.keys.items old.table c.args.key.now.0)
    (rw c.bucket_count.ensures.count at c.key_buckets-buckets.ensures.first) (rw c.bucket_count.ensures.count at c.key_buckets-buckets.ensures.second) c.slot_of-standing.ensures.slot in
    key_added c.args.kind c.args.key.now.0 old _ place c.requires.index at (sym planned ∙ c.enter.ensures.entered)
    c.enter.ensures.buckets c.in_ok-push.ensures.items (ap (λ n. old.puts + n) c.puts.ensures.value)
