-- Lemmas on a builder that makes its trie.
use Rattle.silt_trie.proofs.Common.{◌≡◌, ℕ, List, length, true, Option, None, Some, refl, subst, take_at, Grows, IsMadeOf, MarkedCode, Cut, IfSome, is_some, false, arith}
use Rattle.silt_trie.specs.Building.{Building, IsBuildingOf, trie_in, BuilderState, IsTrieOf, opened}
use Rattle.std.specs.Option.{option_map}

-- what was appended is cut off
pub opened_again : (old new : Building) (bits marks : ℕ) → new ≡ record old { code = new.code; marks = new.marks } → Grows old.code new.code × Grows old.marks new.marks
    → bits ≡ length old.code → marks ≡ length old.marks → opened (Some (record { bits = bits; marks = marks })) new ≡ old
opened_again old new bits marks rest grows bits_are marks_are = search (arith, take_at)

-- and the trie is that of what was built
pub trie_of_opened : (old new : Building) (bits marks : ℕ) → new ≡ record old { code = new.code; marks = new.marks } → Grows old.code new.code × Grows old.marks new.marks
    → ((keys : List (List ℕ)) → IsBuildingOf keys old → IsMadeOf keys (trie_in new)) → bits ≡ length old.code → marks ≡ length old.marks
    → IsTrieOf (opened (Some (record { bits = bits; marks = marks })) new) (trie_in new)
trie_of_opened old new bits marks rest grows made bits_are marks_are =
    let same = opened_again old new bits marks rest grows bits_are marks_are in
    record { keys = λ keys building. made keys (subst (IsBuildingOf keys) same building); depth = refl; groups = refl; levels = refl }

-- the builder, which had no trie, has this one
pub seals : (cut : Option Cut) (old new : Building) (bits marks : ℕ) → is_some cut ≡ false → new ≡ record old { code = new.code; marks = new.marks }
    → Grows old.code new.code × Grows old.marks new.marks
    → ((keys : List (List ℕ)) → IsBuildingOf keys old → IsMadeOf keys (trie_in new)) → bits ≡ length old.code → marks ≡ length old.marks
    → (made : MarkedCode) × (◌≡◌ {A = BuilderState} (record { building = opened (Some (record { bits = bits; marks = marks })) new; sealed = Some (trie_in new) })
    (record { building = opened cut old; sealed = Some made }))
    × IsTrieOf (opened cut old) made
seals None old new bits marks none rest grows made bits_are marks_are =
    let same = opened_again old new bits marks rest grows bits_are marks_are in
    (trie_in new, cc, rw same at (trie_of_opened old new bits marks rest grows made bits_are marks_are))
seals (Some k) old new bits marks none rest grows made bits_are marks_are = absurd (cc)

-- the builder has its trie already
pub has_sealed : (cut : Option Cut) (b : Building) → is_some cut ≡ true → IfSome cut (λ k. IsTrieOf (opened (Some k) b) (trie_in b))
    → (made : MarkedCode) × (◌≡◌ {A = BuilderState} (record { building = opened cut b; sealed = option_map (λ _. trie_in b) cut })
    (record { building = opened cut b; sealed = Some made })) × IsTrieOf (opened cut b) made
has_sealed (Some k) b is trie = (trie_in b, refl, trie)
has_sealed None b is trie = absurd (cc)
