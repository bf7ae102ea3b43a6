-- A stream that is opened.
use Rattle.silt_dump.proofs.Common.{◌≡◌, IsTrue, Option, None, vec_len, ap, sym, subst, ◌∙◌, arith, get, Content, row_len, Map, map_of_rows, Key, current_map, Holds, held_map, IsAbove, IsPieceOf}
use Rattle.silt_dump.proofs.Common.{key_at, AreSpotsOf, Overlays, Leaves, Streams, sorted_of, stores_of, EntryStream}

-- its stores are held, its spots give the map, it has read no entry, and has passed no key
pub record IsOpened (content : Content) (stream : EntryStream) : Type 0 where
  pub holds : Holds content (stores_of stream)
  pub spots : AreSpotsOf (stores_of stream) stream.spots
  pub notes : IsTrue content.honest → Overlays content (stores_of stream) (current_map content (stores_of stream)) (map_of_rows (sorted_of content stream)) stream.spots
  pub fits : IsPieceOf (stores_of stream).sorted stream.piece
  pub first : stream.piece.first ≡ 0
  pub empty : stream.piece.count ≡ 0
  pub row : vec_len stream.row ≡ row_len (stores_of stream).manifest.shape
  pub place : stream.place ≡ 0
  pub last : stream.last ≡ None

module _ (content : Content) (stream : EntryStream) (opened : IsOpened content stream) where
  -- each key is above the last one
  all_above : (key : Key) → IsAbove stream.last key
  all_above key = subst (λ (last : Option Key). IsAbove last key) (sym opened.last) tt

  all_left : IsTrue content.honest → Leaves content stream
  all_left honest = record {
    piece = λ i below. absurd (omega (arith, below, opened.empty));
    values = λ key above. ap (λ (m : Map). get m key.0) (sym (held_map content (stores_of stream) opened.holds honest)) ∙ opened.notes honest key;
    passed = λ place before above. absurd (omega (arith, before, opened.place));
    left = λ place from inside. all_above (key_at (sorted_of content stream) place);
  }

  -- all keys are left
  pub streams_opened : Streams content stream
  streams_opened = record {
    holds = opened.holds;
    spots = opened.spots;
    above = λ key some. all_above key;
    row = opened.row;
    at = record { fits = opened.fits; from = omega (arith, opened.first, opened.place); to = omega (arith, opened.place) };
    leaves = all_left;
  }
