use Rattle.silt_trie.proofs.Common.{◌≡◌, ℕ, suc, ◌+◌, ◌-◌, List, get_or, inl, replicate, refl, sym, ◌∙◌, subst, arith, length-set, set, BeginsWithCode}
use Rattle.silt_gamma.proofs.Reading.{fewer_left}
use Rattle.silt_trie.proofs.Codes.{after_none}
use Rattle.silt_trie.proofs.Pending.{Pending, push_one, turn, next_begins, few_pending}
use Rattle.silt_trie.proofs.key_place.skip_code.Goals as goal

pub returns-then-count-lt2 : goal.returns-then-count-lt2
returns-then-count-lt2 c = λ keys rest codable count is. after_none keys c.args.depth c.args.bits.now rest codable (inl (omega arith)) is

pub loop-top-init : goal.loop-top-init
loop-top-init c = (
  refl,
  λ keys rest codable count is.
      push_one c.args.depth 0 c.args.depth c.args.count 1 (replicate 161 0) c.args.bits.now rest rest keys codable (sym count)
      (omega arith) (omega arith) is (λ many. refl) (λ few. absurd (omega arith)) refl,
)

pub returns-in_default : goal.returns-in_default
returns-in_default c = λ keys rest codable count is.
    let one : suc (c.loop-top.top - 1) ≡ c.loop-top.top = omega arith in
    let family : ℕ → Type 0 = λ t. Pending c.args.depth c.loop-top.pending t c.loop-top.bits rest in
    let pending : family (suc (c.loop-top.top - 1)) = subst family (sym one) (c.loop-top.invariant.1 keys rest codable count is) in
    let next = next_begins c.args.depth (c.loop-top.top - 1) c.loop-top.pending c.loop-top.bits rest pending in
    absurd (c.in_default.not-Some _ (c.read_gamma.ensures.read _ _ next.2).0)

pub loop-top-smaller : goal.loop-top-smaller
loop-top-smaller c = fewer_left c.in-Some.next _ _ c.in-Some.ensures.found

pub loop-top-preserved : goal.loop-top-preserved
loop-top-preserved c =
    let t = c.loop-top.top - 1 in
    let left = c.min-left.result in
    let right = get_or c.loop-top.pending t 0 - left in
    let first = length-set c.loop-top.pending t right in
    let second = length-set (set c.loop-top.pending t right) (t + c.from-top.result) left in
    let size = c.loop-top.invariant.0 in (
      second ∙ first ∙ size,
      λ keys rest codable count is.
          let one : suc t ≡ c.loop-top.top = omega arith in
          let family : ℕ → Type 0 = λ n. Pending c.args.depth c.loop-top.pending n c.loop-top.bits rest in
          let pending : family (suc t) = subst family (sym one) (c.loop-top.invariant.1 keys rest codable count is) in
          let reads : (m : ℕ) (tail : List ℕ) → BeginsWithCode c.loop-top.bits m tail → (c.in-Some.next ≡ m) × (c.read_gamma.new.self ≡ tail) =
          λ m tail begins. let read = c.read_gamma.ensures.read m tail begins in let same = sym c.in-Some.is ∙ read.0 in (cc, read.1) in
          turn c.args.depth t c.in-Some.next left right c.from-top.result c.from-top-in-loop-top.result c.loop-top.pending c.loop-top.bits c.read_gamma.new.self rest pending size (omega arith) reads
          c.min-left.ensures refl c.from-top.ensures c.from-top-in-loop-top.ensures,
    )

pub returns-else-top-le-KEY_BITS : goal.returns-else-top-le-KEY_BITS
returns-else-top-le-KEY_BITS c = λ keys rest codable count is.
    let few = few_pending c.args.depth c.loop-top.top c.loop-top.pending c.loop-top.bits rest (c.loop-top.invariant.1 keys rest codable count is) in
    absurd (omega arith)
