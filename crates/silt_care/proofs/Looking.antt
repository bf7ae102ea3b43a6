-- What is seen of one store by looks in some order was seen at some moments.
use Rattle.std.proofs.Common.{◌≡◌, ◌+◌, ℕ, Err, IfErr, List, Result, arith, inl, inr, length, refl, subst, ◌∙◌}
use Rattle.silt_care.specs.Orders.{Halts, Judges, Reads, ReadsSome, no_bytes, then_bytes}
use Rattle.silt_care.specs.Scrubs.{IsVerdict, Pieces, more, none}
use Rattle.silt_care.specs.declared.extent.Extent.{Extent}
use Rattle.silt_care.specs.declared.extent.Part.{Part}
use Rattle.silt_care.specs.declared.finds.Finds.{Ghosts as FindsOf}
use Rattle.silt_care.specs.declared.looks.Looks.{Ghosts as LooksOf}
use Rattle.silt_care.specs.declared.pass.Verdict.{Verdict}
use Rattle.silt_care.specs.declared.pass.Verdict.TheVariants.{Unnamed, Sound, Damaged, Unread, Moved, Ended}
use Rattle.silt_care.specs.declared.pieces.Halt.{Halt}
use Rattle.silt_care.specs.declared.pieces.Halt.TheVariants as halt
use Rattle.silt_disk.specs.Layout.{Shape}
use Rattle.silt_manifest.specs.declared.body.Body.{Body}
use Rattle.silt_manifest.specs.declared.digests.Digests.{Digests}
use Rattle.silt_view.specs.declared.view.View.{Ghosts as ViewOf}

-- all looks that begin at this view are looks at it
pub record LooksAt {V S G : Type 0} (view : ViewOf V G) (looks : LooksOf S G) (seen : V) (at_it : S → Type 0) : Type 0 where
  pub showed : (first last : S) (named : Body × Digests) → at_it first → looks.showed first named last → view.has_named seen named × at_it last
  pub gave : (first last : S) (at : ℕ) (bytes : List ℕ) → at_it first → looks.gave first at bytes last → view.gave seen at bytes × at_it last
  pub faulted : (first last : S) (fault : G) (at len : ℕ) → at_it first → looks.faulted first fault at len last → view.faulted seen fault at len × at_it last

module _ {V S G : Type 0} (view : ViewOf V G) (looks : LooksOf S G) (seen : V) (at_it : S → Type 0) (is : LooksAt view looks seen at_it) where
  pub pieces_of : (at : ℕ) (first : S) (bytes : List ℕ) (last : S) → at_it first → Reads looks at first bytes last → Pieces (view.gave seen) at bytes × at_it last
  pieces_of at first bytes last here no_bytes = (none, here)
  pieces_of at first bytes last here (then_bytes {bytes = begun} {piece} {mid} reads given) =
      let so_far = pieces_of at first begun mid here reads in
      let now = is.gave mid last (at + length begun) piece so_far.1 given in
      (more so_far.0 now.0, now.1)

  pub verdict_of : {F : Type 0} (finds : FindsOf F) (shape : Shape) (finder : F) (part : Part) (first : S) (verdict : Verdict) (last : S) → at_it first
      → Judges looks finds shape finder part first verdict last → IsVerdict view finds seen shape finder part verdict
  verdict_of finds shape finder part first Unnamed last here (named, showed, no_store) = (named, (is.showed first last named here showed).0, no_store)
  verdict_of finds shape finder part first (Sound len) last here (extent, bytes, begun, shows, reads, same, len_is) =
      let look = is.showed first begun shows.0 here shows.1 in
      (extent, bytes, (shows.0, look.0, shows.2), ((pieces_of extent.at begun bytes last look.1 reads.0).0, reads.1), same, len_is)
  verdict_of finds shape finder part first (Damaged len) last here (extent, bytes, begun, read, shows, reads, other, len_is, again) =
      let look = is.showed first begun shows.0 here shows.1 in
      (extent, bytes, (shows.0, look.0, shows.2), ((pieces_of extent.at begun bytes read look.1 reads.0).0, reads.1), other, len_is)
  verdict_of finds shape finder part first Unread last here (extent, begun, read, shows, (bytes, mid, fault, len, reads, faulted, fits), again) =
      let look = is.showed first begun shows.0 here shows.1 in
      let then = is.faulted mid read fault (extent.at + length bytes) len (pieces_of extent.at begun bytes mid look.1 reads).1 faulted in
      (extent, (shows.0, look.0, shows.2), (fault, extent.at + length bytes, len, then.0, omega arith, omega (arith, fits)))
  verdict_of finds shape finder part first Moved last here (extent, begun, read, shows, inl (bytes, reads), again) =
      let look = is.showed first begun shows.0 here shows.1 in
      let now = is.showed read last again.0 (pieces_of extent.at begun bytes read look.1 reads.0).1 again.1 in
      (extent, again.0, (shows.0, look.0, shows.2), now.0, again.2)
  verdict_of finds shape finder part first Moved last here (extent, begun, read, shows, inr (bytes, mid, fault, len, reads, faulted, fits), again) =
      let look = is.showed first begun shows.0 here shows.1 in
      let then = is.faulted mid read fault (extent.at + length bytes) len (pieces_of extent.at begun bytes mid look.1 reads).1 faulted in
      let now = is.showed read last again.0 then.1 again.1 in
      (extent, again.0, (shows.0, look.0, shows.2), now.0, again.2)
  verdict_of finds shape finder part first Ended last here stopped = stopped

-- the looks at one view, which stays as it is
abbrev pub live_looks : {V S G : Type 0} → ViewOf V G → (S → V) → LooksOf S G
live_looks view of = record {
  showed = λ old named new. view.has_named (of old) named × (new ≡ old);
  gave = λ old at bytes new. view.gave (of old) at bytes × (new ≡ old);
  faulted = λ old fault at len new. view.faulted (of old) fault at len × (new ≡ old);
}

pub live_at : {V S G : Type 0} (view : ViewOf V G) (of : S → V) (begun : S) → LooksAt view (live_looks view of) (of begun) (λ s. s ≡ begun)
live_at view of begun = record {
  showed = λ first last named here look. (rw here at look.0, look.1 ∙ here);
  gave = λ first last at bytes here look. (rw here at look.0, look.1 ∙ here);
  faulted = λ first last fault at len here look. (rw here at look.0, look.1 ∙ here);
}

pub live_verdict : {V S G F : Type 0} (view : ViewOf V G) (of : S → V) (begun : S) (finds : FindsOf F) (shape : Shape) (finder : F) (part : Part) (verdict : Verdict) (last : S)
    → Judges (live_looks view of) finds shape finder part begun verdict last → IsVerdict view finds (of begun) shape finder part verdict
live_verdict view of begun finds shape finder part verdict last judged =
    verdict_of view (live_looks view of) (of begun) (λ s. s ≡ begun) (live_at view of begun) finds shape finder part begun verdict last refl judged

pub unread_of : {S G F : Type 0} (looks : LooksOf S G) (finds : FindsOf F) (finder : F) (extent : Extent) (first last : S) (result : Result (List ℕ) Halt) (cause : Halt)
    → IfErr result (λ found. Halts looks finds finder extent first found last) → result ≡ Err cause → cause ≡ halt.Unread → ReadsSome looks extent first last
unread_of looks finds finder extent first last result cause said is unread = rw (is, unread) at said
