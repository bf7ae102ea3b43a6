use Rattle.silt_session.proofs.Common.{◌≡◌, ◌++◌, ◌∷◌, [], length, take, drop, AllZip}
use Rattle.silt_event.specs.declared.event.Event.TheVariants.{Flush}
use Rattle.silt_session.proofs.set.flush_all.Given as goal

-- the lists so far have a flush behind, and the others are as they were
abbrev pub invariant-loop-part : goal.invariant-loop-part
invariant-loop-part l = record {
  done : AllZip (λ old new. new.items ≡ old.items ++ Flush ∷ []) (take l.part-index l.initial.part-items) (take l.part-index l.part-items);
  rest : drop l.part-index l.part-items ≡ drop l.part-index l.initial.part-items;
  same_length : length l.part-items ≡ length l.initial.part-items;
}
