-- The entries of the sorted store.
use Rattle.silt_dump.proofs.Common.{◌≡◌, ◌≢◌, ◌<◌, ℕ, IsTrue, List, [], length, drop, Some, None, option_and_then, refl, ap, sym, ◌∙◌, subst, arith, get, get_or-map, Content, Shape, map_of_rows}
use Rattle.silt_dump.proofs.Common.{value_given, newest_law, StoredRow, entry_row, HasEntry, entries_of, sorted_rows, entries_law, lower_below, one_place, shown_stores, EngineState, Holds}
use Rattle.silt_dump.proofs.Common.{newest_last, newest_none, IsBelow, key_at}
use Rattle.std.proofs.lemmas.Option.{get_or_from_slice_get, slice_get_within}
use Rattle.silt_image.specs.Stores.{stores_named}
use Rattle.silt_image.proofs.Sound.{finds_nothing}
use Rattle.silt_manifest.specs.declared.body.Body.{Body}
use Rattle.silt_sorted_store.specs.Findings.{sorted_findings}

-- the entries of stores that are named
named_entries : (shape : Shape) (body : Body) (image : List ℕ) → (stores_named shape body image).entries ≡ sorted_rows shape body.sorted body.sorted_count image
unfolding stores_named
named_entries shape body image = refl

module _ (content : Content) (s : EngineState) (holds : Holds content s) where
  -- there are as many as are counted
  pub count_is : length (entries_of content s.sorted) ≡ s.sorted.count
  count_is = (entries_law s.sorted.shape s.sorted.region s.sorted.count content.shown).counted

  -- nothing is found in them
  none_found : IsTrue content.honest → sorted_findings (entries_of content s.sorted) ≡ []
  none_found honest =
      subst (λ (rows : List StoredRow). sorted_findings rows ≡ []) (named_entries s.manifest.shape s.manifest.current content.shown ∙ ap (entries_of content) (sym holds.whole.sorted))
      (finds_nothing (shown_stores content s) (holds.sound honest)).entries

  -- so their keys rise
  pub rises : IsTrue content.honest → (low high : ℕ) → low < high → high < s.sorted.count → IsBelow (key_at (entries_of content s.sorted) low) (key_at (entries_of content s.sorted) high)
  rises honest low high lower inside = lower_below (entries_of content s.sorted) low high (none_found honest) lower (omega (arith, inside, count_is))

  -- a key that no entry has, has no value there
  pub no_value : (key : List ℕ) → ((place : ℕ) → place < s.sorted.count → (key_at (entries_of content s.sorted) place).0 ≢ key) → get (map_of_rows (entries_of content s.sorted)) key ≡ None
  no_value key none =
      newest_law (entries_of content s.sorted) key
      ∙ ap (option_and_then value_given) (newest_none (entries_of content s.sorted) key (λ place inside. none place (omega (arith, inside, count_is))))

  -- the key of an entry has its value
  pub its_value : IsTrue content.honest → (place : ℕ) (bytes : List ℕ) → HasEntry (entries_of content s.sorted) place bytes
      → get (map_of_rows (entries_of content s.sorted)) (key_at (entries_of content s.sorted) place).0 ≡ Some (drop 20 bytes)
  its_value honest place bytes there =
      let rows : List StoredRow = entries_of content s.sorted in
      let row : StoredRow = entry_row bytes in
      let inside : place < length rows = slice_get_within rows place row there in
      let key_is : row.key ≡ (key_at rows place).0 =
      ap (λ (r : StoredRow). r.key) (sym (get_or_from_slice_get rows place row row there)) ∙ sym (get_or-map (λ (r : StoredRow). r.key) rows place row [] inside) in
      newest_law rows (key_at rows place).0
      ∙ ap (option_and_then value_given) (newest_last rows (key_at rows place).0 place row (record {
        there = there;
        has_key = key_is;
        last = λ later past within same. absurd (let here = one_place rows later place (none_found honest) within inside same in omega (arith, past, here));
      }))
