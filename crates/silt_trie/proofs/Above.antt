-- Lemmas on keys in rising order.
use Rattle.silt_trie.proofs.Common.{◌≡◌, ℕ, ◌+◌, ◌-◌, ◌^◌, ◌<◌, ◌≤◌, true, List, [], ◌∷◌, ◌++◌, length, get_or, Option, Some, None, refl, sym, ap, ◌∙◌, subst, arith, Ordering, is_lt, Less}
use Rattle.silt_trie.proofs.Common.{get_or_push, length_push, slice_cmp, Key, Follows, IsCodable, bytes_of, cases_lt, nat_cmp, append_assoc, map-append, All-push}
use Rattle.silt_trie.specs.Building.{Building, HasGroups, IsBuildingOf, group_of, group_under_way, EndWith, IsHeldBuilding, MayFollow}
use Rattle.silt_trie.specs.declared.trie_builder.Groups.TheInside.{Inside}
use Rattle.silt_trie.proofs.Codes.{bytes_at, length-bytes_of}
use Rattle.silt_trie.proofs.Built.{ComesTo}
use Rattle.silt_trie.proofs.Gathered.{codable_none, codable_push}
use Rattle.silt_trie.proofs.Order.{below_at, group_law, order_law}

-- a key's group is its first byte
group_is : (key : List ℕ) → get_or key 0 0 < 256 → group_of key ≡ get_or key 0 0
group_is [] small = omega arith
group_is (byte ∷ rest) small = omega arith

-- what is lower is so
less_from : (o : Ordering) → is_lt o ≡ true → o ≡ Less
less_from Less is = refl
less_from o is = absurd (cc)

-- a key that is above another by its bytes
pub may_follow : (a b : List ℕ) → length a ≡ 20 → length b ≡ 20 → ((i : ℕ) → get_or a i 0 < 256) → ((i : ℕ) → get_or b i 0 < 256) → is_lt (slice_cmp nat_cmp a b) ≡ true → MayFollow a b
may_follow a b size_a size_b small_a small_b is =
    let less = less_from (slice_cmp nat_cmp a b) is in
    let below = order_law a b small_a small_b ∙ less in
    search (arith, below_at, group_is, group_law)

-- the bytes of keys with one more
bytes_push : (keys : List Key) (key : Key) → bytes_of (keys ++ key ∷ []) ≡ bytes_of keys ++ key.0 ∷ []
bytes_push keys key = map-append (λ (key : Key). key.0) keys (key ∷ [])

-- the key that keys end with
last_key : (keys : List (List ℕ)) (last : Key) → EndWith keys (Some last) → get_or keys (length keys - 1) [] ≡ last.0
last_key keys last end = rw end.1 (get_or_push end.0 last.0 [] (length (end.0 ++ last.0 ∷ []) - 1) (omega (arith, length_push end.0 last.0)))

-- keys with one more can be coded
pub codable_next : (keys : List (List ℕ)) (o : Option Key) (key : List ℕ) → IsCodable keys 0 → length keys + 2 < 2 ^ 32 → EndWith keys o
    → ((before : Key) → o ≡ Some before → MayFollow before.0 key) → IsCodable (keys ++ key ∷ []) 0
codable_next keys None key codable few end next = search (arith, codable_push)
codable_next keys (Some last) key codable few end next =
    codable_push 0 keys key codable few (λ some. subst (λ (before : List ℕ). Follows 0 before key) (sym (last_key keys last end)) (next last refl).above)

-- the group of a key that may come next is no earlier one
pub group_later : (o : Option Key) (key : List ℕ) → ((before : Key) → o ≡ Some before → MayFollow before.0 key) → group_under_way o ≤ group_of key
group_later None key next = omega arith
group_later (Some last) key next = (next last refl).later

-- the present group with one more key
pub group_push : (n : ℕ) (keys : List (List ℕ)) (key : Key) (old new : Building) → HasGroups n keys old → group_of key.0 ≡ n
    → new.code ≡ old.code → new.marks ≡ old.marks → new.levels ≡ old.levels → new.group ≡ old.group ++ key ∷ [] → new.count ≡ old.count + 1 → HasGroups n (keys ++ key.0 ∷ []) new
group_push n keys key old new has here code marks levels group count =
    let more : bytes_of new.group ≡ bytes_of old.group ++ key.0 ∷ [] = cc (bytes_push old.group key) in
    record {
      done = has.done;
      keys_are = cc (append_assoc has.done (bytes_of old.group) (key.0 ∷ []));
      count_is = omega (arith, has.count_is, length_push keys key.0);
      lower = has.lower;
      alike = rw more (All-push (λ key. group_of key ≡ n) (bytes_of old.group) key.0 has.alike here);
      code_is = code ∙ has.code_is;
      marks_are = cc;
    }

-- the builder of these fields
abbrev pub building_of : Inside → Building
building_of b = record { code = b.bits; marks = b.marks.items; group = b.group.items; count = b.count; last = b.last; levels = b.levels }

-- what holds of a builder stays true once groups are coded
held_next : (n : ℕ) (old now : Building) → IsHeldBuilding old → ComesTo n old now → IsHeldBuilding now
held_next n old now held comes = search (arith, cases_lt, codable_none, comes.same, comes.empty)

-- the keys of the present group with one more can be coded
pub waiting_push : (n : ℕ) (old now : Building) (key : Key) (new : List Key) → IsHeldBuilding now → ComesTo n old now → n ≡ group_of key.0 → now.count + 2 < 2 ^ 32
    → ((before : Key) → old.last ≡ Some before → MayFollow before.0 key.0) → new ≡ now.group ++ key ∷ [] → IsCodable (bytes_of new) 8
waiting_push n old now key new held comes group few next new_is =
    let size = length-bytes_of now.group in
    let before = get_or now.group (length now.group - 1) key in
    let first : 0 < length (bytes_of now.group) → Follows 8 (get_or (bytes_of now.group) (length (bytes_of now.group) - 1) []) key.0 = λ some.
    let is : old.last ≡ Some before = sym comes.stays.1 ∙ held.last_is key (omega arith) in
    let above = next before is in
    let way : group_under_way old.last ≡ group_of before.0 = ap group_under_way is in
    let here : group_of before.0 ≡ group_of key.0 = search (arith, cases_lt, comes.empty) in
    rw (size, bytes_at now.group (length now.group - 1) key (omega arith)) (above.grouped here) in
    rw (new_is, bytes_push) (codable_push 8 (bytes_of now.group) key.0 held.codable (omega arith) first)

-- what holds stays true with one more key
pub held_push : (n : ℕ) (old now new : Building) (key : Key) → IsHeldBuilding old → ComesTo n old now → n ≡ group_of key.0 → old.count + 2 < 2 ^ 32
    → ((before : Key) → old.last ≡ Some before → MayFollow before.0 key.0) → new.group ≡ now.group ++ key ∷ [] → new.count ≡ now.count + 1
    → new.last ≡ Some key → new.levels ≡ now.levels → IsHeldBuilding new
held_push n old now new key held comes group few next group_is count last levels = search (arith, group_is, held_next, length_push, waiting_push, get_or_push)

-- and the trie is built with it
pub built_push : (n : ℕ) (old now new : Building) (key : Key) (keys : List (List ℕ)) → IsBuildingOf keys old → ComesTo n old now → n ≡ group_of key.0 → old.count + 2 < 2 ^ 32
    → ((before : Key) → old.last ≡ Some before → MayFollow before.0 key.0) → new.group ≡ now.group ++ key ∷ [] → new.count ≡ now.count + 1
    → new.last ≡ Some key → new.levels ≡ now.levels → new.code ≡ now.code → new.marks ≡ now.marks → IsBuildingOf (keys ++ key.0 ∷ []) new
built_push n old now new key keys building comes group few next group_is count last levels code marks =
    let later = group_later old.last key.0 next in
    let has = comes.coded keys building.groups (omega arith) in
    let way : n ≡ group_under_way new.last = group ∙ sym (ap group_under_way last) in
    record {
      codable = codable_next keys old.last key.0 building.codable (omega arith) building.last_is next;
      last_is = rw last (keys, refl);
      groups = subst (λ (m : ℕ). HasGroups m (keys ++ key.0 ∷ []) new) way (group_push n keys key now new has (sym group) code marks levels group_is count);
    }
