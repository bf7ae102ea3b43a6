-- The data on a disk before a format, and whether it may be overwritten.
use Rattle.std.specs.Prelude.{◌≡◌, ℕ, ◌==◌, nat_le, Bool, true, false, ◌&&◌, ◌||◌, IsTrue, IfSome, if◌then◌else◌, List, Option, Some, None, Result, Ok, Err}
use Rattle.std.specs.Prelude.{slice_range}
use Rattle.silt_jobs.specs.Common.{bytes_eq, Content, GaveAny, size, header_of, Ghosts, Report, IsReported, IsFound, IsRefusedLook, OpenError, header_len, magic}
use Rattle.silt_jobs.specs.Common.{Device, Why, Holds, HeldStore, Holding, Urgent}
use Rattle.silt_jobs.specs.declared.people.ended.Why.TheVariants.{Refused}
use Rattle.silt_jobs.specs.declared.jobs.held_data.Holding.TheVariants.{Nothing, Store, Other}
use Rattle.silt_jobs.specs.declared.people.urgent.Urgent.TheVariants.{Overwrites}
use Rattle.silt_jobs.specs.Damage.{HasShape}

-- whether these bytes after a header's commit byte belong to a store of this program: whole, damaged, or formatted in part
abbrev pub has_magic : List ℕ → Bool
has_magic header = bytes_eq (slice_range header 1 9) magic

-- a disk has such a store
abbrev pub is_ours : Content → Bool
is_ours content = nat_le header_len (size content) && has_magic (header_of content.shown)

module _ {D F : Type 0} (facts : Ghosts D F) where
  -- the charge of the report of a disk, or there is none, and there is a cause: damage, a failed read, or no memory
  abbrev pub HasCharge : D → Option ℕ → Type 0
  HasCharge disk (Some charge) = (report : Report) × IsReported (facts.content disk).shown report × (charge ≡ report.charge)
  HasCharge disk None = (error : OpenError F) × IsRefusedLook (λ finding. IsFound (facts.content disk).shown finding) (GaveAny facts.gave disk) error

  -- the known facts of the store on a disk: its six numbers, and its charge
  pub record IsFoundStore (disk : D) (store : HeldStore) : Type 0 where
    pub geometry : IfSome store.geometry (HasShape (facts.content disk))
    pub charge : HasCharge disk store.charge

  -- the data on a disk
  abbrev pub HoldsData : D → Holding → Type 0
  HoldsData disk Nothing = size (facts.content disk) ≡ 0
  HoldsData disk (Store store) = (is_ours (facts.content disk) ≡ true) × IsFoundStore disk store
  HoldsData disk Other = ((size (facts.content disk) == 0) ≡ false) × (is_ours (facts.content disk) ≡ false)

  -- a disk was read: it has this data, or a read failed
  abbrev pub FindsData : D → Result Holding F → Type 0
  FindsData disk (Ok holding) = IsTrue (facts.content disk).honest → HoldsData disk holding
  FindsData disk (Err fault) = GaveAny facts.gave disk fault

-- the charge is known, and it is 0
abbrev pub is_zero : Option ℕ → Bool
is_zero (Some charge) = charge == 0
is_zero None = false

-- A store is known to have no keys. A damaged store may have some.
abbrev pub is_empty : HeldStore → Bool
is_empty store = is_zero store.charge

module _ {E F : Type 0} (force : Bool) where
  -- a store that may be overwritten, or it stays: without force only one without keys is overwritten
  abbrev pub store_overwritten : HeldStore → Result (Option HeldStore) (Why E F)
  store_overwritten store = if force || is_empty store then Ok (Some store) else Err (Holds (Store store))

  -- the store that is to be overwritten, if there is one, or why the data stays without force
  abbrev pub overwritten : Result Holding F → Result (Option HeldStore) (Why E F)
  overwritten (Ok Nothing) = Ok None
  overwritten (Ok (Store store)) = store_overwritten store
  overwritten (Ok Other) = if force then Ok None else Err (Holds Other)
  overwritten (Err fault) = if force then Ok None else Err (Refused (Device fault) None)

-- a store that is overwritten is told of, and nothing else is told
abbrev pub TellsStore : (Urgent → Type 0) → Type 0 → Option HeldStore → Type 0
TellsStore Told Quiet (Some store) = Told (Overwrites store)
TellsStore Told Quiet None = Quiet
