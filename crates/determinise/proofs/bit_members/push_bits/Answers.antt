use Rattle.std.proofs.Common.{◌≡◌, ℕ, ◌-◌, ◌<◌, ◌^◌, bit_and, sym, subst, arith}
use Rattle.std.specs.Int.{bit_at, trailing_zeros}
use Rattle.std.proofs.lemmas.Nat.Bits.{bit_at-trailing_zeros}
use mir.Syntax.{w32}
use Rattle.determinise.proofs.BitMemberLemmas.{IsAdding, IsAdding-none, IsAdding-more, AddsMembers-all}
use Rattle.determinise.proofs.BitRowLemmas.{without_bit, without_bit-below, without_bit-lowest}
use Rattle.determinise.proofs.bit_members.push_bits.Goals as goal

lowest : (n : ℕ) → (n ≡ 0 → ⊥) → n < 2 ^ 32 → (trailing_zeros w32 n < 32) × (bit_at n (trailing_zeros w32 n) ≡ 1) × ((i : ℕ) → i < trailing_zeros w32 n → bit_at n i ≡ 0) × (bit_and n (n - 1) ≡ without_bit n (trailing_zeros w32 n))
lowest n some small = let low = bit_at-trailing_zeros w32 n (omega (arith, some)) small in (low.0, low.1, low.2, without_bit-lowest n (trailing_zeros w32 n) small low.0 low.1 low.2)

pub loop-rest-init : goal.loop-rest-init
loop-rest-init c = IsAdding-none c.args.members.now.items c.args.first c.args.word c.requires.below c.requires.ascending

pub overflow_add-first : goal.overflow_add-first
overflow_add-first c =
    let low = lowest c.loop-rest.rest c.loop-rest-test.true (omega arith) in
    omega (arith, low.0, c.requires.fits)

pub loop-rest-smaller : goal.loop-rest-smaller
loop-rest-smaller c =
    let low = lowest c.loop-rest.rest c.loop-rest-test.true (omega arith) in
    subst (λ left. left < c.loop-rest.rest) (sym low.3) (without_bit-below c.loop-rest.rest (trailing_zeros w32 c.loop-rest.rest) low.0 low.1)

pub loop-rest-preserved : goal.loop-rest-preserved
loop-rest-preserved c =
    let low = lowest c.loop-rest.rest c.loop-rest-test.true (omega arith) in
    let rest = c.loop-rest.rest in
    subst (λ left. IsAdding c.args.members.now.items c.args.first c.args.word left c.push.new.self.items) (sym low.3)
    (subst (IsAdding c.args.members.now.items c.args.first c.args.word (without_bit rest (trailing_zeros w32 rest))) (sym c.in_ok-push.ensures.items)
    (IsAdding-more c.args.members.now.items c.args.first c.args.word rest (trailing_zeros w32 rest) c.loop-rest.members.items (omega arith) low.0 low.1 low.2 c.loop-rest.invariant))

pub returns : goal.returns
returns c = AddsMembers-all c.args.members.now.items c.args.first c.args.word c.loop-rest.rest c.loop-rest.members.items c.loop-rest-test.false c.loop-rest.invariant
