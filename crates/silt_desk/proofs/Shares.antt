-- A book and a share name no thread, so a reference to one may go to another thread, and one to a desk too.
use Rattle.silt_desk.proofs.Common.{arith}
use mathlib.Core.List.{List, [], ◌∷◌}
use Prim.Native.Nat.{ℕ, zero, suc}
use base.Shift.{Keyless}
use denote.RattleType.{RattleType}
use denote.Struct.Declared.{fields, shape}
use denote.Struct.Struct.{Struct}
use denote.Param.Send.{IsSend, IsSync, part_keyless, AllSync, sendable, view_sync, struct_sync, recorded_sync}
use Rattle.std.specs.Sync.Ledger.{chain, row, Rule, book_owns, share_owns}
use Rattle.std.specs.declared.sync.ledger.Ledger.{Ghosts}
use Rattle.silt_store_set.proofs.store_core.Core.TheSendSync.{the_sync as core_sync}
use Rattle.silt_desk.proofs.desk.Desk.TheSendSync.{the_send}
use Rattle.silt_disk.specs.declared.disk.Disk as Disk
use Rattle.silt_desk.specs.declared.trace.Trace as Trace
use Rattle.silt_desk.specs.declared.seat.DeskId as DeskId
use Rattle.silt_desk.specs.contracts.desk.Desk as Desk
use Rattle.silt_desk.specs.contracts.desk.Desk.TheInside as DeskInside
use Rattle.silt_desk.specs.contracts.seat.Books as Books
use Rattle.silt_desk.specs.contracts.seat.Books.TheInside as BooksInside
use Rattle.silt_desk.specs.contracts.seat.Ledgers as Ledgers
use Rattle.silt_desk.specs.contracts.seat.Ledgers.TheInside as LedgersInside
use Rattle.silt_desk.specs.contracts.seat.CallsOfLedger.TheImpl as calls
use Rattle.silt_desk.specs.contracts.seat.AcceptedOfLedger.TheImpl as accepted
use Rattle.std.specs.contracts.sync.ledger.Book as Book
use Rattle.std.specs.contracts.sync.ledger.Share as Share

chain-Keyless : (xs : List (ℕ × ℕ)) (γ : ℕ) → Keyless (chain xs γ)
chain-Keyless [] γ = (tt, tt)
chain-Keyless (x ∷ xs) γ = λ c. (tt, (tt, (tt, chain-Keyless xs c.1)))

row_Keyless : (i : ℕ) (x : ℕ × ℕ) (γ : ℕ) → Keyless (row i x γ)
row_Keyless zero x γ = λ c. (tt, tt)
row_Keyless (suc i) x γ = λ c. (tt, row_Keyless i x c.1)

kept_keyless : (γ parts : ℕ) → Keyless (Rule γ parts)
kept_keyless γ parts = λ s. (chain-Keyless ((0, s.0) ∷ s.1) γ, λ _. tt)

book_keyless : (γ parts total : ℕ) → Keyless (book_owns γ parts total)
unfolding book_owns
book_keyless γ parts total = (kept_keyless γ parts, row_Keyless 0 (0, total) γ)

share_keyless : (γ parts held amount : ℕ) → Keyless (share_owns γ parts held amount)
unfolding share_owns
share_keyless γ parts held amount = (kept_keyless γ parts, λ i. row_Keyless (suc i) (held, amount) γ)

module _ (T : RattleType) (g : Ghosts T.Denot) where
  book_send : IsSend (Book.the_row T g)
  book_send = record { owned = λ d vs. ((λ vss. (tt, ((λ uss. (tt, tt)), tt))), book_keyless g.name g.parts d.total); leaving = λ k f vs. tt }

  pub book_sync : IsSync (Book.the_row T g)
  book_sync = record { shared = λ d b o κ. λ q. part_keyless (Book.the_row T g) book_send q d b o }

  share_send : IsSend (Share.the_row T g)
  share_send = record { owned = λ d vs. ((λ vss. (tt, ((λ uss. (tt, tt)), tt))), share_keyless g.name g.parts d.parts d.amount); leaving = λ k f vs. tt }

  pub share_sync : IsSync (Share.the_row T g)
  share_sync = record { shared = λ d b o κ. λ q. part_keyless (Share.the_row T g) share_send q d b o }

books_inside_sync : (N : RattleType) (h : DeskId.Ghosts N.Denot) → IsSync (BooksInside.the_row N h)
books_inside_sync N h =
    let B = BooksInside.the_type N h in
    let k = calls.ghosts N h calls.no_dict in
    let a = accepted.ghosts N h accepted.no_dict in
    let all : AllSync (fields B) = search (arith, book_sync, share_sync) in
    recorded_sync (Struct (shape B)) B.D B.to B.to_one (struct_sync (shape B) all)

books_sync : (N : RattleType) (h : DeskId.Ghosts N.Denot) → IsSync (Books.the_row N h)
books_sync N h = view_sync _ _ _ _ _ (books_inside_sync N h)

ledgers_inside_sync : (N : RattleType) (h : DeskId.Ghosts N.Denot) → IsSync (LedgersInside.the_row N h)
ledgers_inside_sync N h =
    let L = LedgersInside.the_type N h in
    let all : AllSync (fields L) = (search sendable, (search (sendable, books_sync N h), tt)) in recorded_sync (Struct (shape L)) L.D L.to L.to_one (struct_sync (shape L) all)

pub ledgers_sync : (N : RattleType) (h : DeskId.Ghosts N.Denot) → IsSync (Ledgers.the_row N h)
ledgers_sync N h = view_sync _ _ _ _ _ (ledgers_inside_sync N h)

module _ (D T N F : RattleType) (d : Disk.Ghosts D.Denot F.Denot) (t : Trace.Ghosts T.Denot) (n : DeskId.Ghosts N.Denot) where
  inside_sync : IsSync D → IsSync T → IsSync (DeskInside.the_row D T N F d t n)
  inside_sync x y =
      let I = DeskInside.the_type D T N F d t n in
      let all : AllSync (fields I) = (core_sync D F d x, (y, (ledgers_sync N n, tt))) in recorded_sync (Struct (shape I)) I.D I.to I.to_one (struct_sync (shape I) all)

  pub desk_sync : IsSync D → IsSync T → IsSync (Desk.the_row D T N F d t n)
  desk_sync x y = view_sync _ _ _ _ _ (inside_sync x y)

  pub desk_send : IsSend D → IsSend T → IsSend (Desk.the_row D T N F d t n)
  desk_send = the_send D T N F d t n
