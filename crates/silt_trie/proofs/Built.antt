-- Lemmas on a trie that is built from keys one after the other.
use Rattle.silt_trie.proofs.Common.{◌≡◌, ℕ, ◌+◌, ◌-◌, ◌*◌, ◌^◌, ◌<◌, ◌≤◌, List, [], ◌∷◌, ◌++◌, length, Option, None, refl, sym, ap, ◌∙◌, take, arith, All-append, Key, IsCodable, trie_code, Grows}
use Rattle.silt_trie.proofs.Common.{bytes_of, IsMadeOf, MarkedCode, grouped_code, mark_behind, marks_of, Mark, append-nil, length-append, take_all}
use Rattle.silt_trie.specs.Building.{Building, HasGroups, IsBuildingOf, group_of, group_under_way, trie_in}
use Rattle.silt_trie.proofs.Codes.{length-bytes_of}
use Rattle.silt_trie.proofs.Gathered.{codable_none}
use Rattle.silt_trie.proofs.Growing.{grows_more}
use Rattle.silt_trie.proofs.Groups.{code_grows, grouped_none, marks_grow, none_below, number_below, powers}
use Rattle.silt_trie.proofs.MarkedKeys.{length-marks_of}

-- at first it is built of no keys
pub built_none : (b : Building) → b.code ≡ [] → b.marks ≡ [] → b.group ≡ [] → b.count ≡ 0 → b.last ≡ None → IsBuildingOf [] b
built_none b code marks group count last =
    let none : group_under_way b.last * 2 ^ (b.levels - 8) ≡ 0 = rw last (omega arith) in
    record {
      codable = codable_none 0;
      last_is = rw last refl;
      groups = record {
        done = [];
        keys_are = sym (ap bytes_of group);
        count_is = count;
        lower = λ i other h. absurd (omega arith);
        alike = λ i other h. absurd (omega (arith, length-bytes_of b.group, ap length group));
        code_is = cc (grouped_none 8 0);
        marks_are = cc;
      };
    }

-- the present group is coded
pub coded_group : (n : ℕ) (keys : List (List ℕ)) (old new : Building) (place : ℕ) → n < 256 → HasGroups n keys old → 8 ≤ old.levels
    → old.levels ≡ new.levels → old.count ≡ new.count → new.group ≡ [] → place ≡ old.count - length old.group
    → new.code ≡ old.code ++ trie_code (bytes_of old.group) 8 → new.marks ≡ old.marks ++ marks_of (old.levels - 8) 0 (bytes_of old.group) 8 (length old.code) place → HasGroups (n + 1) keys new
coded_group n keys old new place small has most levels count none place_is code marks =
    let k = old.levels - 8 in
    let done = has.done in
    let waiting = bytes_of old.group in
    let both = ap length has.keys_are ∙ length-append done waiting in
    let size = length-bytes_of old.group in
    let empty = ap length none in
    let left = length-bytes_of new.group in
    let behind : place ≡ 0 + length done = omega arith in
    let start : length old.code ≡ 0 + length (grouped_code 8 done 0) = let same = ap length has.code_is in omega arith in
    let front = take (n * 2 ^ k) (marks_of old.levels 8 done 0 0 0) in
    record {
      done = done ++ waiting;
      keys_are = rw (none, append-nil) has.keys_are;
      count_is = sym count ∙ has.count_is;
      lower = All-append (λ key. group_of key < n + 1) done waiting (λ i other h. let lower = has.lower i other h in omega arith) (λ i other h. let alike = has.alike i other h in omega arith);
      alike = λ i other h. absurd (omega arith);
      code_is = cc (has.code_is, code_grows 8 n 0 8 done waiting refl has.lower has.alike small);
      marks_are = cc (has.marks_are, marks_grow 8 n old.levels k 0 8 0 0 done waiting refl (omega arith) has.lower has.alike small, levels);
    }

-- once all groups are coded, it is made of all keys
pub made_of : (keys : List (List ℕ)) (b : Building) (made : MarkedCode) → IsCodable keys 0 → HasGroups 256 keys b → 8 ≤ b.levels
    → made ≡ record { code = b.code; marks = b.marks ++ mark_behind b.code b.count ∷ []; count = b.count; depth = 0; groups = 8; levels = b.levels } → IsMadeOf keys made
made_of keys b made codable has most made_is =
    let done = has.done in
    let none : bytes_of b.group ≡ [] = none_below (λ key. group_of key ≡ 256) (bytes_of b.group) (λ key is. let small = number_below 8 0 key in omega arith) has.alike in
    let all : done ≡ keys = cc (append-nil done) in
    let size = length-marks_of b.levels 8 done 0 0 0 in
    let power = powers b.levels 8 (b.levels - 8) (omega arith) in
    let whole = take_all (256 * 2 ^ (b.levels - 8)) (marks_of b.levels 8 done 0 0 0) (omega arith) in
    rw made_is (record { codable = codable; code_is = cc; marks_are = cc; count_is = has.count_is })

-- Code and marks once groups from `first` up to `at` are coded, of which the first one has these keys and the others none; and the keys
-- that still wait.
pub record CodesGroups (first at count levels : ℕ) (keys waiting : List Key) (old code : List ℕ) (before marks : List Mark) : Type 0 where
  pub from : first ≤ at
  pub coded : (all : List (List ℕ)) (last : Option Key) → HasGroups first all (record { code = old; marks = before; group = keys; count = count; last = last; levels = levels })
      → HasGroups at all (record { code = code; marks = marks; group = waiting; count = count; last = last; levels = levels })
  pub empty : first < at → waiting ≡ []
  pub codable : IsCodable (bytes_of waiting) 8
  pub few : length waiting ≤ count
  pub grown : Grows old code × Grows before marks

-- one group more
pub codes_more : (first at count levels place : ℕ) (keys waiting : List Key) (old code new_code : List ℕ) (before marks new_marks : List Mark)
    → at < 256 → 8 ≤ levels → CodesGroups first at count levels keys waiting old code before marks
    → place ≡ count - length waiting → new_code ≡ code ++ trie_code (bytes_of waiting) 8 → new_marks ≡ marks ++ marks_of (levels - 8) 0 (bytes_of waiting) 8 (length code) place
    → CodesGroups first (at + 1) count levels keys [] old new_code before new_marks
codes_more first at count levels place keys waiting old code new_code before marks new_marks small most codes place_is code_is marks_is =
    record {
      from = omega arith;
      coded = λ all last has. coded_group at all (record { code = code; marks = marks; group = waiting; count = count; last = last; levels = levels })
          (record { code = new_code; marks = new_marks; group = []; count = count; last = last; levels = levels }) place small (codes.coded all last has) most refl
          refl refl place_is code_is marks_is;
      empty = λ h. refl;
      codable = codable_none 8;
      few = omega arith;
      grown = (grows_more old code _ new_code codes.grown.0 code_is, grows_more before marks _ new_marks codes.grown.1 marks_is);
    }

-- a builder once groups up to n are coded
pub record ComesTo (n : ℕ) (old now : Building) : Type 0 where
  pub coded : (keys : List (List ℕ)) → HasGroups (group_under_way old.last) keys old → group_under_way old.last ≤ n → HasGroups n keys now
  pub empty : group_under_way old.last < n → now.group ≡ []
  pub same : n ≤ group_under_way old.last → now ≡ old
  pub stays : (now.count ≡ old.count) × (now.last ≡ old.last)
  pub levels : now.levels ≡ old.levels

-- it is there already
pub comes_no_further : (n from : ℕ) (b now : Building) → from ≡ group_under_way b.last → n ≤ from → now ≡ b → ComesTo n b now
comes_no_further n from b now start upto is = rw is (record {
  coded = λ keys has later. let same : group_under_way b.last ≡ n = omega arith in rw same at has;
  empty = λ h. absurd (omega arith);
  same = λ h. refl;
  stays = (refl, refl);
  levels = refl;
})

-- the groups before are coded
pub comes_to : (n from : ℕ) (b now : Building) (code : List ℕ) (marks : List Mark) (keys none : List Key) → from ≡ group_under_way b.last
    → from < n → keys ≡ b.group → none ≡ [] → now ≡ record { code = code; marks = marks; group = none; count = b.count; last = b.last; levels = b.levels }
    → ((all : List (List ℕ)) (last : Option Key) → HasGroups from all (record { code = b.code; marks = b.marks; group = keys; count = b.count; last = last; levels = b.levels })
    → HasGroups n all (record { code = code; marks = marks; group = []; count = b.count; last = last; levels = b.levels })) → ComesTo n b now
comes_to n from b now code marks keys none start later keys_are none_is is coded =
    let now_is : now ≡ record { code = code; marks = marks; group = []; count = b.count; last = b.last; levels = b.levels } = cc in
    rw now_is (record {
      coded = λ all has upto. coded all b.last (rw (start, keys_are) has);
      empty = λ h. refl;
      same = λ h. absurd (omega arith);
      stays = (refl, refl);
      levels = refl;
    })

-- code and marks with the mark behind all keys are made of the keys that a builder is built of, if they are its own once all groups are coded
pub finished : (b : Building) (from : ℕ) (code : List ℕ) (marks all_marks : List Mark) (keys : List Key) → from ≡ group_under_way b.last → keys ≡ b.group → 8 ≤ b.levels
    → ((all : List (List ℕ)) (last : Option Key) → HasGroups from all (record { code = b.code; marks = b.marks; group = keys; count = b.count; last = last; levels = b.levels })
    → HasGroups 256 all (record { code = code; marks = marks; group = []; count = b.count; last = last; levels = b.levels }))
    → all_marks ≡ marks ++ mark_behind code b.count ∷ []
    → (all : List (List ℕ)) → IsBuildingOf all b → IsMadeOf all (trie_in (record b { code = code; marks = all_marks }))
finished b from code marks all_marks keys start keys_are most coded behind all building =
    let has : HasGroups from all (record { code = b.code; marks = b.marks; group = keys; count = b.count; last = b.last; levels = b.levels }) = rw (start, keys_are) building.groups in
    let done : Building = record { code = code; marks = marks; group = []; count = b.count; last = b.last; levels = b.levels } in
    made_of all done (trie_in (record b { code = code; marks = all_marks })) building.codable (coded all b.last has) most (search arith)
