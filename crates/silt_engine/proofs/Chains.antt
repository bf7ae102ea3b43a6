-- One call after another.
use Rattle.std.proofs.Common.{rules}
use Rattle.silt_engine.proofs.Common.{arith, IsTrue, List, [], ◌++◌, sym, ◌∙◌, subst, append_assoc, Content, Shape, Command, Map, StandsFor, image_map, map_after-append, EngineState, Stands}
use Rattle.silt_engine.proofs.Common.{base_map, full_image, waiting_commands, Advances, Breaks, HoldsPrefix, Remaps, SameDisk}
use Rattle.std.proofs.lemmas.List.{append-nil}
use Rattle.silt_engine.proofs.Facts.{base_safe, full_map}

-- the disk after two calls
pub same_trans : (a b c : Content) → SameDisk a b → SameDisk b c → SameDisk a c
same_trans a b c first second = record { size = second.size ∙ first.size; honest = second.honest ∙ first.honest }

-- a disk that keeps whether it obeys the crash model obeys it if the earlier one did
pub honest_before : (a b : Content) → SameDisk a b → IsTrue b.honest → IsTrue a.honest
honest_before a b same h = subst IsTrue same.honest h

pub honest_after : (a b : Content) → SameDisk a b → IsTrue a.honest → IsTrue b.honest
honest_after a b same h = subst IsTrue (sym same.honest) h

-- two calls that advance
pub advances_trans : (one two : List Command) (a b c : Content) (first second third : EngineState) → SameDisk a b → Advances one a b first second
    → Advances two b c second third → Advances (one ++ two) a c first third
advances_trans one two a b c first second third same m n = record {
  stands = n.stands;
  shape = n.shape ∙ m.shape;
  moves = λ h.
      let f = m.moves h in
      let g = n.moves (honest_after a b same h) in
      record {
        moved = f.moved ++ g.moved;
        rest = cc (append_assoc f.moved g.moved (waiting_commands c third), g.rest, append_assoc f.moved (waiting_commands b second) two, f.rest, append_assoc (waiting_commands a first) one two);
        base = cc (g.base, f.base, map_after-append (base_map a first) f.moved g.moved);
      };
}

-- a call that advances, and one that breaks
pub breaks_after : (a b c : Content) (first second : EngineState) → SameDisk a b → SameDisk b c → Advances [] a b first second → Breaks b c second → Breaks a c first
breaks_after a b c first second same later m breaks = record {
  each = λ h image left.
      let moves = m.moves (honest_before a b same (honest_before b c later h)) in
      let begun : HoldsPrefix second.manifest.shape (base_map b second) (waiting_commands b second) image = breaks.each h image left in
      record {
        kept = moves.moved ++ begun.kept;
        begins = record {
          rest = begun.begins.rest;
          is = cc (append_assoc moves.moved begun.kept begun.begins.rest, begun.begins.is, moves.rest, append-nil (waiting_commands a first));
        };
        stands = search (arith, map_after-append);
      };
}

-- what two calls do to the map of the full image
pub remaps_trans : (one two : List Command) (a b c : Content) (first second third : EngineState) → SameDisk a b → Remaps one a b first second
    → Remaps two b c second third → Remaps (one ++ two) a c first third
remaps_trans one two a b c first second third same m n h = cc (n (honest_after a b same h), m h, map_after-append (image_map (full_image a first)) one two)

-- a call that advances changes the map by its commands
pub advances_remap : (adds : List Command) (a b : Content) (first second : EngineState) → SameDisk a b → Stands a first → Advances adds a b first second → Remaps adds a b first second
advances_remap adds a b first second same stands m h = search (rules, arith, full_map, honest_after, map_after-append)

-- and if it adds none, each possible crash image has a beginning of what waited
pub advances_break : (a b : Content) (first second : EngineState) → SameDisk a b → Advances [] a b first second → Breaks a b first
advances_break a b first second same m = record {
  each = λ h image left.
      let moves = m.moves (honest_before a b same h) in
      record {
        kept = moves.moved;
        begins = record { rest = waiting_commands b second; is = moves.rest ∙ append-nil (waiting_commands a first) };
        stands = subst (λ (m : Map). StandsFor first.manifest.shape m image) moves.base
            (subst (λ (s : Shape). StandsFor s (base_map b second) image) m.shape ((base_safe b second m.stands).each h image left));
      };
}

-- no call
pub stays_still : (content : Content) (s : EngineState) → Stands content s → Advances [] content content s s
stays_still content s stands = search (arith, append-nil)
