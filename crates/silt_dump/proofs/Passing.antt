-- A stream passes a key.
use Rattle.silt_dump.proofs.Common.{◌≡◌, ◌≢◌, ◌<◌, ◌≤◌, ◌+◌, ◌-◌, ◌⊎◌, ◌↔◌, ℕ, Bool, true, false, cond, IsTrue, IsSome, IfSome, List, drop, nat_lt, Option, Some, None, inl, inr, vec_len, refl, ap}
use Rattle.silt_dump.proofs.Common.{sym, ◌∙◌, subst, arith, is_eq, is_gt, nat_cmp, slice_cmp, BTreeMap, get, Ordering, Less, Equal, Greater, Content, entry_len, map_of_rows, key_cmp, Key}
use Rattle.silt_dump.proofs.Common.{image_map, HasEntry, SortedState, entries_of, AreAllAbove, HasNext, IsAbove, IsBelow, IsTakenOut, NoneBetween, TakesLowest, CanGoOn, EndsEarly, HoldsPiece}
use Rattle.silt_dump.proofs.Common.{IsAtPlace, bytes_at, key_at, AreSpotsOf, spot_value, value_over, GoesTo, Leaves, PassesTo, Streams, sorted_of, stores_of, Piece, Spot, EntryStream}
use Rattle.std.specs.Option.{is_some}
use Rattle.std.proofs.lemmas.Bool.{ltb-false, ltb-true}
use Rattle.silt_recovery.specs.declared.fault.OpenError.{OpenError}
use Rattle.silt_recovery.specs.declared.fault.OpenError.TheVariants.{NotFormatted, Damaged, Crowded, Device, NoMemory}
use Rattle.silt_dump.proofs.Keys.{above_same, above_trans, below_greater, below_trans, compared, not_both, not_itself}
use Rattle.silt_dump.proofs.Sorted.{its_value, no_value, rises}
use Rattle.std.specs.BTreeMap as tree

-- a key with no spot, or with one
no_spot : (found : Option Spot) → (IsSome found → ⊥) → found ≡ None
no_spot None none = refl
no_spot (Some spot) none = absurd (none refl)

-- what the next entry of a stream is: it has a key above the last one, which is the one at the stream's place; there is none behind the last place
pub record IsEntry (content : Content) (old : EntryStream) (piece : Piece) (entry : Option Key) : Type 0 where
  pub at : IsAtPlace (stores_of old).sorted piece old.place
  pub none : entry ≡ None → old.place ≡ (stores_of old).sorted.count
  pub there : IfSome entry (λ next. (old.place < piece.first + piece.count) × IsAbove old.last next)
  pub holds : IsTrue content.honest → HoldsPiece content (stores_of old).sorted piece
  pub key : IsTrue content.honest → IfSome entry (λ next. next ≡ key_at (sorted_of content old) old.place)

-- what `next_key` says of it
pub is_entry : (content : Content) (old : EntryStream) (entries : SortedState) (piece : Piece) (entry : Option Key) → entries ≡ (stores_of old).sorted → Streams content old
    → IsAtPlace entries piece old.place → (entry ≡ None → old.place ≡ entries.count) → IfSome entry (λ next. (old.place < piece.first + piece.count) × IsAbove old.last next)
    → (IsTrue content.honest → HoldsPiece content entries old.piece → HoldsPiece content entries piece)
    → (IsTrue content.honest → HoldsPiece content entries old.piece → IfSome entry (λ next. next ≡ key_at (entries_of content entries) old.place)) → IsEntry content old piece entry
is_entry content old entries piece entry same streams at none there holds key = record {
  at = subst (λ (e : SortedState). IsAtPlace e piece old.place) same at;
  none = λ is. none is ∙ ap (λ (e : SortedState). e.count) same;
  there = there;
  holds = λ honest. subst (λ (e : SortedState). HoldsPiece content e piece) same (holds honest (held honest));
  key = λ honest. subst (λ (e : SortedState). IfSome entry (λ next. next ≡ key_at (entries_of content e) old.place)) same (key honest (held honest));
}
  where
    held : IsTrue content.honest → HoldsPiece content entries old.piece
    held honest = subst (λ (e : SortedState). HoldsPiece content e old.piece) (sym same) (streams.leaves honest).piece

-- a stream on a disk that obeys the crash model can go on
pub can_go_on : (content : Content) (old : EntryStream) (entries : SortedState) → entries ≡ (stores_of old).sorted → Streams content old
    → IsTrue content.honest → CanGoOn content entries old.piece old.place old.last
can_go_on content old entries same streams honest =
    subst (λ (e : SortedState). CanGoOn content e old.piece old.place old.last) (sym same)
    (record { honest = honest; holds = (streams.leaves honest).piece; above = (streams.leaves honest).left old.place (omega arith) })

-- why it ends early, if it can go on whenever all is well
pub ends_early : {F : Type 0} (IsWell CanGo : Type 0) (WasGiven : F → Type 0) (error : OpenError F) → (IsWell → CanGo) → EndsEarly CanGo WasGiven error → EndsEarly IsWell WasGiven error
ends_early IsWell CanGo WasGiven NotFormatted can why = λ well. why (can well)
ends_early IsWell CanGo WasGiven (Damaged place) can why = λ well. why (can well)
ends_early IsWell CanGo WasGiven Crowded can why = λ well. why (can well)
ends_early IsWell CanGo WasGiven (Device fault) can why = why
ends_early IsWell CanGo WasGiven NoMemory can why = λ well. why (can well)

-- no key was taken out, since the next entry is below all of them
pub none_taken : (entry e : Option Key) (old new : BTreeMap Key Spot) (taken : Option (Key × Spot)) → TakesLowest entry old new taken → taken ≡ None → entry ≡ e → (new ≡ old) × AreAllAbove e old
none_taken entry e old new taken takes none is =
    let both : (new ≡ old) × AreAllAbove entry old = subst (TakesLowest entry old new) none takes in
    (both.0, subst (λ (o : Option Key). AreAllAbove o old) is both.1)

-- and both below another
below_same : (a b other : Key) → a.0 ≡ b.0 → IsBelow b other → IsBelow a other
below_same a b other same below = subst (λ (bytes : List ℕ). slice_cmp nat_cmp bytes other.0 ≡ Less) (sym same) below

module _ (content : Content) (old : EntryStream) (streams : Streams content old) (piece : Piece) where
  -- an entry at the stream's place or behind it has no key below the one at the place
  not_lower : IsTrue content.honest → (place : ℕ) → old.place ≤ place → place < (stores_of old).sorted.count
      → IsBelow (key_at (sorted_of content old) place) (key_at (sorted_of content old) old.place) → ⊥
  not_lower honest place from inside below = go (nat_lt old.place place) refl
    where
      go : (b : Bool) → nat_lt old.place place ≡ b → ⊥
      go true less = not_both (key_at (sorted_of content old) old.place) (key_at (sorted_of content old) place)
          (rises content (stores_of old) streams.holds honest old.place place (ltb-true old.place place less) inside) below
      go false same =
          let here : old.place ≡ place = omega (arith, ltb-false old.place place same, from) in
          not_itself (key_at (sorted_of content old) place) (subst (λ (n : ℕ). IsBelow (key_at (sorted_of content old) place) (key_at (sorted_of content old) n)) here below)

  -- one at a place before it has no key above the last one
  passed_key : IsTrue content.honest → (key : Key) → IsAbove old.last key → (place : ℕ) → place < old.place → (key_at (sorted_of content old) place).0 ≡ key.0 → ⊥
  passed_key honest key above place before same = (streams.leaves honest).passed place before (above_same old.last key (key_at (sorted_of content old) place) (sym same) above)

  -- a key above the last one and below the next entry's has no value in the sorted store
  no_base : IsTrue content.honest → (entry : Option Key) → IsEntry content old piece entry → (key : Key) → IsAbove old.last key → IfSome entry (λ next. IsBelow key next)
      → get (map_of_rows (sorted_of content old)) key.0 ≡ None
  no_base honest None is key above below =
      no_value content (stores_of old) streams.holds key.0 (λ place inside same. passed_key honest key above place (omega (arith, inside, is.none refl)) same)
  no_base honest (Some next) is key above below = no_value content (stores_of old) streams.holds key.0 none
    where
      none : (place : ℕ) → place < (stores_of old).sorted.count → (key_at (sorted_of content old) place).0 ≢ key.0
      none place inside same = go (nat_lt place old.place) refl
        where
          go : (b : Bool) → nat_lt place old.place ≡ b → ⊥
          go true before = passed_key honest key above place (ltb-true place old.place before) same
          go false behind =
              not_lower honest place (ltb-false place old.place behind) inside
              (subst (λ (k : Key). IsBelow (key_at (sorted_of content old) place) k) (is.key honest) (below_same (key_at (sorted_of content old) place) key next same below))

  -- and none in the map, if it has no spot
  none_at : IsTrue content.honest → (entry : Option Key) → IsEntry content old piece entry → (key : Key) → IsAbove old.last key → IfSome entry (λ next. IsBelow key next)
      → tree.get key_cmp old.spots key ≡ None → get (image_map content.shown) key.0 ≡ None
  none_at honest entry is key above below none =
      (streams.leaves honest).values key above
      ∙ ap (value_over content (stores_of old) (get (map_of_rows (sorted_of content old)) key.0)) none
      ∙ no_base honest entry is key above below

  -- the entry at the stream's place is read ahead
  is_there : (entry : Option Key) → IsEntry content old piece entry → (key : Key) → entry ≡ Some key → old.place < piece.first + piece.count
  is_there entry is key same = (subst (λ (e : Option Key). IfSome e (λ next. (old.place < piece.first + piece.count) × IsAbove old.last next)) same is.there).0

  -- and has the key at that place
  is_at_place : IsTrue content.honest → (entry : Option Key) → IsEntry content old piece entry → (key : Key) → entry ≡ Some key → key ≡ key_at (sorted_of content old) old.place
  is_at_place honest entry is key same = subst (λ (e : Option Key). IfSome e (λ next. next ≡ key_at (sorted_of content old) old.place)) same (is.key honest)

  -- ---- a key that has a spot

  module _ (entry : Option Key) (is : IsEntry content old piece entry) (spots : BTreeMap Key Spot) (key : Key) (spot : Spot) (out : IsTakenOut entry old.spots spots key spot) where
    -- it is above the last one
    spot_above : IsAbove old.last key
    spot_above = streams.above key (ap is_some out.there)

    -- the other spots stay
    other_spot : (q : Key) (o : Ordering) → key_cmp key q ≡ o → is_eq o ≡ false → tree.get key_cmp spots q ≡ tree.get key_cmp old.spots q
    other_spot q o compares other = out.out.0 q ∙ ap (λ (b : Bool). cond b None (tree.get key_cmp old.spots q)) (ap is_eq compares ∙ other)

    -- the spots that are left are above the key
    left_above : (q : Key) → IsSome (tree.get key_cmp spots q) → IsBelow key q
    left_above q some = go (key_cmp key q) refl
      where
        go : (o : Ordering) → key_cmp key q ≡ o → IsBelow key q
        go Less compares = compares
        go Equal compares =
            let none : tree.get key_cmp spots q ≡ None = out.out.0 q ∙ ap (λ (b : Bool). cond b None (tree.get key_cmp old.spots q)) (ap is_eq compares) in
            absurd (let no : false ≡ true = sym (ap is_some none) ∙ some in cc)
        go Greater compares =
            let had : IsSome (tree.get key_cmp old.spots q) = ap is_some (sym (other_spot q Greater compares refl)) ∙ some in
            absurd (let no : true ≡ false = sym (ap is_gt compares) ∙ out.lowest q had in cc)

    -- they have rows
    left_spots : AreSpotsOf (stores_of old) spots
    left_spots q its there = streams.spots q its (sym (other_spot q Less (left_above q (ap is_some there)) refl) ∙ there)

    -- a key below it has no spot
    lower_none : (q : Key) → IsBelow q key → tree.get key_cmp old.spots q ≡ None
    lower_none q below = no_spot (tree.get key_cmp old.spots q) (λ some. let no : true ≡ false = sym (ap is_gt (below_greater key q below)) ∙ out.lowest q some in cc)

    -- a key below it is below the next entry's
    below_next : (e : Option Key) → IfSome e (λ next. IsBelow next key → ⊥) → (q : Key) → IsBelow q key → IfSome e (λ next. IsBelow q next)
    below_next None not_first q below = tt
    below_next (Some next) not_first q below = go (compared next key)
      where
        go : IsBelow next key ⊎ ((next.0 ≡ key.0) ⊎ IsBelow key next) → IsBelow q next
        go (inl lower) = absurd (not_first lower)
        go (inr (inl same)) = subst (λ (bytes : List ℕ). slice_cmp nat_cmp q.0 bytes ≡ Less) (sym same) below
        go (inr (inr higher)) = below_trans q key next below higher

    -- no key between has a value
    row_between : IsTrue content.honest → NoneBetween (image_map content.shown) old.last key
    row_between honest q above below = none_at honest entry is q above (below_next entry out.first q below) (lower_none q below)

    -- it has what its spot gives it
    row_value : IsTrue content.honest → get (image_map content.shown) key.0 ≡ spot_value content (stores_of old) spot
    row_value honest = (streams.leaves honest).values key spot_above ∙ ap (value_over content (stores_of old) (get (map_of_rows (sorted_of content old)) key.0)) out.there

    pub row_next : IsTrue content.honest → (found : Bool) (value : List ℕ) → (found ≡ true → spot_value content (stores_of old) spot ≡ Some value)
        → (found ≡ false → spot_value content (stores_of old) spot ≡ None)
        → HasNext (image_map content.shown) old.last (Some (key, found)) value
    row_next honest true value has lacks = (row_between honest, row_value honest ∙ has refl)
    row_next honest false value has lacks = (row_between honest, row_value honest ∙ lacks refl)

    module _ (is_entry : Bool) (entry_is : (is_entry ≡ true) ↔ (entry ≡ Some key)) where
      -- where the stream goes on
      row_at : IsAtPlace (stores_of old).sorted piece (old.place + cond is_entry 1 0)
      row_at = record { fits = is.at.fits; from = omega (arith, is.at.from); to = go is_entry refl }
        where
          go : (b : Bool) → is_entry ≡ b → old.place + cond is_entry 1 0 ≤ piece.first + piece.count
          go true same = rw same (omega (arith, is_there entry is key (entry_is.0 same)))
          go false other = rw other (omega (arith, is.at.to))

      -- an entry before that place is not above the key
      row_passed : IsTrue content.honest → (place : ℕ) → place < old.place + cond is_entry 1 0 → IsBelow key (key_at (sorted_of content old) place) → ⊥
      row_passed honest place before above = go (nat_lt place old.place) refl
        where
          here : (b : Bool) → is_entry ≡ b → old.place ≤ place → ⊥
          here true its behind =
              let same : old.place ≡ place = let most : place < old.place + 1 = subst (λ (b : Bool). place < old.place + cond b 1 0) its before in omega (arith, most, behind) in
              not_itself key (subst (λ (k : Key). IsBelow key k) (ap (key_at (sorted_of content old)) (sym same) ∙ sym (is_at_place honest entry is key (entry_is.0 its))) above)
          here false other behind = let most : place < old.place + 0 = subst (λ (b : Bool). place < old.place + cond b 1 0) other before in omega (arith, most, behind)

          go : (b : Bool) → nat_lt place old.place ≡ b → ⊥
          go true less = (streams.leaves honest).passed place (ltb-true place old.place less) (above_trans old.last key (key_at (sorted_of content old) place) spot_above above)
          go false behind = here is_entry refl (ltb-false place old.place behind)

      -- an entry from that place on is above the key
      row_left : IsTrue content.honest → (place : ℕ) → old.place + cond is_entry 1 0 ≤ place → place < (stores_of old).sorted.count → IsBelow key (key_at (sorted_of content old) place)
      row_left honest place from inside = go (compared key (key_at (sorted_of content old) place))
        where
          from_here : old.place ≤ place
          from_here = omega (arith, from)

          -- the next entry's key is not below this one, and not the key itself if it lies behind
          lower : (e : Option Key) → entry ≡ e → IsBelow (key_at (sorted_of content old) place) key → IfSome e (λ next. IsBelow next key → ⊥) → ⊥
          lower None none below not_first = let end : old.place ≡ (stores_of old).sorted.count = is.none none in omega (arith, end, from_here, inside)
          lower (Some next) some below not_first =
              let next_is : next ≡ key_at (sorted_of content old) old.place = is_at_place honest entry is next some in
              let up : IsBelow (key_at (sorted_of content old) place) next = below_next (Some next) not_first (key_at (sorted_of content old) place) below in
              not_lower honest place from_here inside (subst (λ (k : Key). IsBelow (key_at (sorted_of content old) place) k) next_is up)

          equal : (e : Option Key) → entry ≡ e → key.0 ≡ (key_at (sorted_of content old) place).0 → IfSome e (λ next. IsBelow next key → ⊥) → ⊥
          equal None none same not_first = let end : old.place ≡ (stores_of old).sorted.count = is.none none in omega (arith, end, from_here, inside)
          equal (Some next) some same not_first =
              let next_is : next ≡ key_at (sorted_of content old) old.place = is_at_place honest entry is next some in
              past (nat_lt old.place place) refl next_is
            where
              past : (b : Bool) → nat_lt old.place place ≡ b → next ≡ key_at (sorted_of content old) old.place → ⊥
              past true less next_is =
                  not_first (subst (λ (k : Key). IsBelow k key) (sym next_is)
                  (subst (λ (bytes : List ℕ). slice_cmp nat_cmp (key_at (sorted_of content old) old.place).0 bytes ≡ Less) (sym same)
                  (rises content (stores_of old) streams.holds honest old.place place (ltb-true old.place place less) inside)))
              past false behind next_is =
                  let here : old.place ≡ place = omega (arith, ltb-false old.place place behind, from_here) in
                  let bytes : next.0 ≡ key.0 = ap (λ (k : Key). k.0) (next_is ∙ ap (key_at (sorted_of content old)) here) ∙ sym same in
                  let its : is_entry ≡ true = entry_is.1 (some ∙ ap (λ (b : List ℕ). Some (record { 0 = b })) bytes) in
                  let most : old.place + 1 ≤ place = subst (λ (b : Bool). old.place + cond b 1 0 ≤ place) its from in
                  omega (arith, most, here)

          go : IsBelow key (key_at (sorted_of content old) place)
              ⊎ ((key.0 ≡ (key_at (sorted_of content old) place).0) ⊎ IsBelow (key_at (sorted_of content old) place) key) → IsBelow key (key_at (sorted_of content old) place)
          go (inl below) = below
          go (inr (inl same)) = absurd (equal entry refl same out.first)
          go (inr (inr above)) = absurd (lower entry refl above out.first)

      -- the stream behind the key
      row_leaves : (new : EntryStream) → IsTrue content.honest → Leaves content (record old { spots = spots; piece = piece; place = old.place + cond is_entry 1 0; row = new.row; last = Some key })
      row_leaves new honest = record {
        piece = is.holds honest;
        values = λ q above.
            (streams.leaves honest).values q (above_trans old.last key q spot_above above)
            ∙ ap (value_over content (stores_of old) (get (map_of_rows (sorted_of content old)) q.0)) (sym (other_spot q Less above refl));
        passed = row_passed honest;
        left = row_left honest;
      }

      row_streams : (new : EntryStream) → vec_len new.row ≡ vec_len old.row
          → Streams content (record old { spots = spots; piece = piece; place = old.place + cond is_entry 1 0; row = new.row; last = Some key })
      row_streams new long = record {
        holds = streams.holds;
        spots = left_spots;
        above = left_above;
        row = long ∙ streams.row;
        at = row_at;
        leaves = row_leaves new;
      }

      pub row_passes : (new : EntryStream) → GoesTo (record old { spots = spots; piece = piece }) new (old.place + cond is_entry 1 0) key → PassesTo content old new key
      row_passes new goes =
          subst (λ (n : EntryStream). PassesTo content old n key) (sym goes.0) (record {
            streams = row_streams new goes.1;
            above = spot_above;
            last = refl;
            fewer = omega (arith, out.fewer);
            same = refl;
          })

  -- ---- the next entry, which is below all spots

  module _ (key : Key) (is : IsEntry content old piece (Some key)) (all : AreAllAbove (Some key) old.spots) where
    -- it has no spot, and no lower key has one
    entry_none : (q : Key) → (IsBelow key q → ⊥) → tree.get key_cmp old.spots q ≡ None
    entry_none q not_above = no_spot (tree.get key_cmp old.spots q) (λ some. not_above (all q some))

    entry_value : IsTrue content.honest → get (image_map content.shown) key.0 ≡ Some (drop 20 (bytes_at (entry_len (stores_of old).sorted.shape) piece old.place))
    entry_value honest =
        let within : old.place - piece.first < piece.count = omega (arith, is.there.0, is.at.from) in
        let here : piece.first + (old.place - piece.first) ≡ old.place = omega (arith, is.at.from) in
        (streams.leaves honest).values key is.there.1
        ∙ ap (value_over content (stores_of old) (get (map_of_rows (sorted_of content old)) key.0)) (entry_none key (not_itself key))
        ∙ ap (λ (k : Key). get (map_of_rows (sorted_of content old)) k.0) (is.key honest)
        ∙ its_value content (stores_of old) streams.holds honest old.place (bytes_at (entry_len (stores_of old).sorted.shape) piece old.place)
        (subst (λ (n : ℕ). HasEntry (sorted_of content old) n (bytes_at (entry_len (stores_of old).sorted.shape) piece old.place)) here (is.holds honest (old.place - piece.first) within))

    pub entry_next : IsTrue content.honest → (value : List ℕ) → value ≡ drop 20 (bytes_at (entry_len (stores_of old).sorted.shape) piece old.place)
        → HasNext (image_map content.shown) old.last (Some (key, true)) value
    entry_next honest value is_value = (
      λ q above below. none_at honest (Some key) is q above below (entry_none q (λ other. not_both q key below other)),
      entry_value honest ∙ ap Some (sym is_value),
    )

    entry_passed : IsTrue content.honest → (place : ℕ) → place < old.place + 1 → IsBelow key (key_at (sorted_of content old) place) → ⊥
    entry_passed honest place before above = go (nat_lt place old.place) refl
      where
        go : (b : Bool) → nat_lt place old.place ≡ b → ⊥
        go true less = (streams.leaves honest).passed place (ltb-true place old.place less) (above_trans old.last key (key_at (sorted_of content old) place) is.there.1 above)
        go false behind =
            let here : old.place ≡ place = omega (arith, ltb-false place old.place behind, before) in
            not_itself key (subst (λ (k : Key). IsBelow key k) (ap (key_at (sorted_of content old)) (sym here) ∙ sym (is.key honest)) above)

    entry_left : IsTrue content.honest → (place : ℕ) → old.place + 1 ≤ place → place < (stores_of old).sorted.count → IsBelow key (key_at (sorted_of content old) place)
    entry_left honest place from inside =
        subst (λ (k : Key). IsBelow k (key_at (sorted_of content old) place)) (sym (is.key honest)) (rises content (stores_of old) streams.holds honest old.place place (omega (arith, from)) inside)

    entry_streams : (new : EntryStream) → vec_len new.row ≡ vec_len old.row → Streams content (record old { piece = piece; place = old.place + 1; row = new.row; last = Some key })
    entry_streams new long = record {
      holds = streams.holds;
      spots = streams.spots;
      above = all;
      row = long ∙ streams.row;
      at = record { fits = is.at.fits; from = omega (arith, is.at.from); to = omega (arith, is.there.0) };
      leaves = λ honest. record {
        piece = is.holds honest;
        values = λ q above. (streams.leaves honest).values q (above_trans old.last key q is.there.1 above);
        passed = entry_passed honest;
        left = entry_left honest;
      };
    }

    pub entry_passes : (new : EntryStream) → GoesTo (record old { piece = piece }) new (old.place + 1) key → PassesTo content old new key
    entry_passes new goes =
        let inside : old.place < (stores_of old).sorted.count = omega (arith, is.there.0, is.at.fits.within) in
        subst (λ (n : EntryStream). PassesTo content old n key) (sym goes.0) (record {
          streams = entry_streams new goes.1;
          above = is.there.1;
          last = refl;
          fewer = omega (arith, inside);
          same = refl;
        })

  -- ---- no key is left

  pub none_next : IsEntry content old piece None → AreAllAbove None old.spots → IsTrue content.honest → (value : List ℕ) → HasNext (image_map content.shown) old.last None value
  none_next is all honest value q above = none_at honest None is q above tt (all q)
