-- The names of the crates below and of specs/ that several proofs cite, passed on from one place. Declares nothing.
pub use Rattle.std.proofs.Common.{All, Bool, Equal, Greater, IfSome, Less, List, None, Option, Ordering, Some, [], add-one, ap, append-nil, append_assoc, arith, bit_and, cond, drop, false}
pub use Rattle.std.proofs.Common.{flat_map, get_or, get_or-drop, get_or-set_other, get_or-set_same, get_or-take, inl, inr, is_lt, is_some, leb, length, length-append, length-drop, length-set}
pub use Rattle.std.proofs.Common.{length-take-le, ltb, max, min, nat_cmp, pow-add, pow_pos, refl, replicate, rules, subst, suc, sym, take, take_all, true, zero, ℕ, ◌%◌, ◌*◌, ◌++◌, ◌+◌, ◌-◌, ◌/◌}
pub use Rattle.std.proofs.Common.{◌<◌, ◌==◌, ◌^◌, ◌∙◌, ◌∷◌, ◌≡◌, ◌≤◌, ◌⊎◌}
pub use Rattle.silt_frame.specs.declared.key.Key.{Key}
pub use Rattle.silt_gamma.specs.Bits.{bits_of, low_bits}
pub use Rattle.silt_gamma.specs.Gamma.{BeginsWithCode, gamma_code}
pub use Rattle.silt_trie.specs.Code.{AgreeIn, Follows, GroupLaw, IsCodable, OrderLaw, StandsAt, bit_of, trie_code, with_bit}
pub use Rattle.silt_trie.specs.Coded.{Coded, Grows, bytes_of}
pub use Rattle.silt_trie.specs.Marks.{AreBits, AreSkipsInto, GroupsLaw, IsMadeOf, IsPlaceBetween, MarkLaw, MarkedCode, grouped_code, head_code, mark_behind, marks_of, number_of_bits, prefix_of}
pub use Rattle.silt_trie.specs.Marks.{prefixes, skip_levels, skip_over, skips_of, sub_keys}
pub use Rattle.silt_trie.specs.declared.marks.Mark.{Mark}
pub use Rattle.silt_trie.specs.declared.trie_builder.Cut.{Cut}
pub use Rattle.std.proofs.Math.ListN.{drop_of_length-le, set}
pub use Rattle.std.proofs.Math.Nat.{mod-eq_of_lt, mul-le-mul_right, pow-succ'}
pub use Rattle.std.proofs.lemmas.Bool.{cases_eq, cases_lt, cases_order, eq-eqb, eqb-true, false≢true, le-leb, le-ltb, lt-leb, lt-ltb, ltb-true, ne_eqb}
pub use Rattle.std.proofs.lemmas.List.{drop-map, drop-replicate, drop_at, ext_get_or, get_or-append-add, get_or-map, get_or_append_left, get_or_default, get_or_push, length-map, length-replicate}
pub use Rattle.std.proofs.lemmas.List.{length_push, map-append, replicate-append-replicate, take-append-le, take-map, take-replicate, take_at}
pub use Rattle.std.proofs.lemmas.List.Elements.{All-append, All-filter, All-head, All-push, All-tail, filter-append, filter_passes}
pub use Rattle.std.proofs.lemmas.Nat.{div-add-mod', div_below, mod_below}
pub use Rattle.std.proofs.lemmas.Result.{on_ok_weaker}
pub use Rattle.std.specs.Cmp.Lexicographic.{slice_cmp}
