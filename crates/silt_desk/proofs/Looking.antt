-- A look at a store is a look at some store.
use Rattle.silt_desk.proofs.Common.{Ok, Err, OnOk, IfErr, Result, CoreState}
use Rattle.std.proofs.Common.{ℕ, List}
use Rattle.silt_desk.specs.Views.{GaveBytes, GaveFault}
use Rattle.silt_disk.specs.declared.disk.Disk.{Ghosts}
use Rattle.silt_view.specs.Views.{GivesBytes, GivesFault}
use Rattle.silt_view.specs.declared.viewed.ReadFault.{ReadFault}

module _ {D F : Type 0} (disk : Ghosts D F) (core : CoreState D) (at : ℕ) where
  pub gave_bytes : {T E : Type 0} (bytes : List ℕ) (result : Result T E) → OnOk result (GivesBytes disk core at bytes) → OnOk result (GaveBytes disk at bytes)
  gave_bytes bytes (Ok done) gives = (core, gives)
  gave_bytes bytes (Err fault) gives = gives

  pub gave_fault : {T : Type 0} (len : ℕ) (result : Result T (ReadFault F)) → IfErr result (λ fault. GivesFault disk core fault at len)
      → IfErr result (λ fault. GaveFault disk fault at len)
  gave_fault len (Ok done) gives = gives
  gave_fault len (Err fault) gives = (core, gives)
