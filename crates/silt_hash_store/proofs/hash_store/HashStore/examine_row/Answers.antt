use Rattle.silt_hash_store.proofs.Common.{Some, refl, ap, subst, Shape, TagsKey, HashState}
use Rattle.silt_hash_store.proofs.Growing.{adds_row, twice_unsound}
use Rattle.silt_hash_store.proofs.hash_store.HashStore.examine_row.Goals as goal

pub returns-in-Ok-None-clause-ok : goal.returns-in-Ok-None-clause-ok
returns-in-Ok-None-clause-ok g c = λ honest says is.
    let tag = subst (λ (s : Shape). TagsKey s c.args.slot c.args.key.now.0 (Some c.in-Some.tag)) (ap (λ (s : HashState). s.shape) c.self.view_is) c.in-Some.ensures.tag in
    adds_row c.args.self.now (g.D.Disk.content c.args.disk.now).shown c.args.slot is c.args.kind c.args.key.now.0 c.in-Some.tag says.0 says.1 tag
    (rw c.in-Ok-None.field-0-is at (c.in-Ok-None.ensures.finds honest c.args.slot is))

pub returns-in-Ok-Some-clause-err : goal.returns-in-Ok-Some-clause-err
returns-in-Ok-Some-clause-err g c = (
  refl,
  λ honest says is. twice_unsound c.args.self.now (g.D.Disk.content c.args.disk.now).shown c.args.slot is c.args.kind c.args.key.now.0 c.in-Ok-Some.field-0-0 says.0 says.1
      (rw c.in-Ok-Some.field-0-is at (c.in-Ok-Some.ensures.finds honest c.args.slot is)),
)
