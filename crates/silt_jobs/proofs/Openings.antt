-- Jobs on a disk that a source gave, or did not give, and why a header is not known.
use Rattle.silt_jobs.proofs.Common.{IfOk, Err, IsSomeAnd, ◌≡◌, ℕ, List, Option, Some, None, Result, Ok, inl, inr, refl, subst, Content, Ghosts, CoreState, Refuses, Ended, Why, IsTrue, GaveAny}
use Rattle.silt_jobs.proofs.Common.{size, OpenError, IfErr, IsOkAnd, Says, SaysSo, Unmarked, Opens, header_of, shape_found, IsRefusedLook}
use Rattle.silt_jobs.specs.Openings.{IsNotOpened, IsRefused, IsUnopened, OnDisk, RefusesDisk, RefusesFor}
use Rattle.silt_jobs.specs.Damage.{LacksShape}
use Rattle.silt_recovery.specs.declared.fault.OpenError.TheVariants.{NotFormatted, Damaged, Crowded, Device, NoMemory}
use Rattle.silt_event.specs.declared.damage.Finding.TheVariants as finding

-- a store of its own was opened on the disk that the source gave
pub opened_alone : {D E F : Type 0} (facts : Ghosts D F) (Given : D → Type 0) (result : Result D E) (core : CoreState D) → IfOk result Given
    → IsOkAnd result (λ disk. Opens facts (facts.content disk) core) → IsOkAnd result (λ disk. Says facts disk Unmarked)
    → (disk : D) × Given disk × Says facts disk Unmarked × Opens facts (facts.content disk) core
opened_alone facts Given (Ok disk) core given opens alone = (disk, given, alone, opens)
opened_alone facts Given (Err error) core given opens alone = absurd opens

module _ {D E F : Type 0} (facts : Ghosts D F) where
  -- no store was opened on a disk without a mark, so none of its own
  pub unopened_alone : (content : Content) (left : Option D) (why : Why E F) → SaysSo content Unmarked → IsSomeAnd left (λ new. IsUnopened facts content new why)
      → IsSomeAnd left (λ new. IsRefused facts content new why)
  unopened_alone content (Some new) why says unopened = inr (says, unopened)
  unopened_alone content None why says unopened = absurd unopened

  -- the job on a disk was refused for this kind of reason
  pub refused_for : (Is : Content → D → Why E F → Type 0) (old : D) (left : Option D) (why : Why E F) (ended : Ended E F) (before after : Option (List ℕ))
      → IsSomeAnd left (λ new. Is (facts.content old) new why) → Refuses why ended before after → RefusesFor facts Is old left ended before after
  refused_for Is old (Some new) why ended before after is refused = (why, is, refused)
  refused_for Is old None why ended before after is refused = absurd is

  -- the store on a disk with the same content was not opened, and the job was refused for that
  pub refused_disk : (old same : D) (left : Option D) (why : Why E F) (ended : Ended E F) (before after : Option (List ℕ)) → facts.content same ≡ facts.content old
      → IsNotOpened facts (Ok same) left why → Refuses why ended before after → RefusesDisk facts old left ended before after
  refused_disk old same left why ended before after is opening refused = refused_for (IsRefused facts) old left why ended before after (rw is at opening) refused

  -- no store of its own was opened, and the job was refused for that
  pub refused_opening : (Given : D → Type 0) (NotGiven : E → Type 0) (Done : D → Type 0) (result : Result D E) (left : Option D) (why : Why E F) (ended : Ended E F)
      (before after : Option (List ℕ)) → ((disk : D) → RefusesDisk facts disk left ended before after → Done disk)
      → IfOk result Given → IfErr result NotGiven → IsNotOpened facts result left why → Refuses why ended before after → OnDisk Given NotGiven Done left ended before after
  refused_opening Given NotGiven Done (Ok disk) left why ended before after into given none opening refused =
      inr (disk, given, into disk (refused_disk disk disk left why ended before after refl opening refused))
  refused_opening Given NotGiven Done (Err error) left why ended before after into given none opening refused =
      inl (error, none, opening.0, subst (λ (w : Why E F). Refuses w ended before after) opening.1 refused)

-- a look that was refused, and not for memory, says why
pub lacking : {D F : Type 0} (facts : Ghosts D F) (disk : D) (error : OpenError F)
    → IsRefusedLook (λ finding. IsTrue (facts.content disk).honest → shape_found (size (facts.content disk)) (header_of (facts.content disk).shown) ≡ Err finding) (GaveAny facts.gave disk) error
    → (error ≡ NoMemory → ⊥) → LacksShape facts disk
lacking facts disk NotFormatted says memory = inr (finding.NotFormatted, says)
lacking facts disk (Damaged place) says memory = inr (finding.Damaged place, says)
lacking facts disk Crowded says memory = inr (finding.Crowded, says)
lacking facts disk (Device fault) says memory = inl (fault, says)
lacking facts disk NoMemory says memory = absurd (memory refl)
