-- A marked trie that is built from keys one after the other, in 256 groups by first byte.
use Rattle.std.specs.Prelude.{◌≡◌, ℕ, ◌+◌, ◌-◌, ◌*◌, ◌^◌, ◌<◌, ◌≤◌, Bool, true, All, List, [], ◌∷◌, ◌++◌, length, take, slice_index_or, Option, Some, None}
use Rattle.std.specs.Ordering.{nat_cmp, is_lt}
use Rattle.std.specs.Cmp.Lexicographic.{slice_cmp}
use Rattle.silt_frame.specs.declared.key.Key.{Key}
use Rattle.silt_trie.specs.Code.{Follows, IsCodable}
use Rattle.silt_trie.specs.Coded.{bytes_of}
use Rattle.silt_trie.specs.Marks.{IsMadeOf, MarkedCode, grouped_code, marks_of, number_of_bits, prefix_of}
use Rattle.silt_trie.specs.declared.marks.Mark.{Mark}
use Rattle.silt_trie.specs.declared.trie_builder.Cut.{Cut}

-- A trie that is being built: the code and the marks of the finished groups, the keys of the present group, the number of keys,
-- the last key, and by how many bits keys are marked.
pub record Building : Type 0 where
  pub code : List ℕ
  pub marks : List Mark
  pub group : List Key
  pub count : ℕ
  pub last : Option Key
  pub levels : ℕ

-- marks by this many bits leave at most 512 of so many keys a mark (16 for each of its 32 parts), if keys are spread evenly and 24 bits
-- are enough, and fewer bits would not
pub record SuitsKeys (count levels : ℕ) : Type 0 where
  pub enough : levels < 24 → count ≤ 512 * 2 ^ levels
  pub least : 8 < levels → 512 * 2 ^ (levels - 1) < count

-- a key is greater than the last one
abbrev pub is_above : Option Key → List ℕ → Bool
is_above None key = true
is_above (Some last) key = is_lt (slice_cmp nat_cmp last.0 key)

-- the group of a key: the number that its first 8 bits make
abbrev pub group_of : List ℕ → ℕ
group_of key = number_of_bits (prefix_of 8 0 key)

-- the present group is that of the last key
abbrev pub group_under_way : Option Key → ℕ
group_under_way None = 0
group_under_way (Some last) = group_of last.0

-- a key is greater than another, in its group or in a later one
pub record MayFollow (a b : List ℕ) : Type 0 where
  pub above : Follows 0 a b
  pub later : group_of a ≤ group_of b
  pub grouped : group_of a ≡ group_of b → Follows 8 a b

-- The first n groups of keys are finished: the code and the marks are theirs, and the keys of group n wait.
pub record HasGroups (n : ℕ) (keys : List (List ℕ)) (b : Building) : Type 0 where
  pub done : List (List ℕ)
  pub keys_are : keys ≡ done ++ bytes_of b.group
  pub count_is : b.count ≡ length keys
  pub lower : All (λ key. group_of key < n) done
  pub alike : All (λ key. group_of key ≡ n) (bytes_of b.group)
  pub code_is : b.code ≡ grouped_code 8 done 0
  pub marks_are : b.marks ≡ take (n * 2 ^ (b.levels - 8)) (marks_of b.levels 8 done 0 0 0)

-- this key is the last one, or there is none
abbrev pub EndWith : List (List ℕ) → Option Key → Type 0
EndWith keys None = keys ≡ []
EndWith keys (Some last) = (front : List (List ℕ)) × (keys ≡ front ++ last.0 ∷ [])

-- the trie is built of these keys
pub record IsBuildingOf (keys : List (List ℕ)) (b : Building) : Type 0 where
  pub codable : IsCodable keys 0
  pub last_is : EndWith keys b.last
  pub groups : HasGroups (group_under_way b.last) keys b

-- the present group can be coded, its last key is the last of all, and there are marks of 8 to 24 bits
pub record IsHeldBuilding (b : Building) : Type 0 where
  pub levels : (8 ≤ b.levels) × (b.levels ≤ 24)
  pub few : (length b.group ≤ b.count) × (b.count + 1 < 2 ^ 32)
  pub codable : IsCodable (bytes_of b.group) 8
  pub last_is : (key : Key) → 0 < length b.group → b.last ≡ Some (slice_index_or b.group (length b.group - 1) key)

-- ---- the trie that is made

-- what was built before the last group was coded, if that was done
abbrev pub opened : Option Cut → Building → Building
opened None b = b
opened (Some cut) b = record b { code = take cut.bits b.code; marks = take cut.marks b.marks }

-- code and marks of a building as a trie
abbrev pub trie_in : Building → MarkedCode
trie_in b = record { code = b.code; marks = b.marks; count = b.count; depth = 0; groups = 8; levels = b.levels }

-- the trie of the keys that are built
pub record IsTrieOf (b : Building) (made : MarkedCode) : Type 0 where
  pub keys : (keys : List (List ℕ)) → IsBuildingOf keys b → IsMadeOf keys made
  pub depth : made.depth ≡ 0
  pub groups : made.groups ≡ 8
  pub levels : made.levels ≡ b.levels

-- what was built, and the trie of it, once it is made
pub record BuilderState : Type 0 where
  pub building : Building
  pub sealed : Option MarkedCode
