use Rattle.std.proofs.Common.{◌≡◌, ◌<◌, ◌+◌, ◌++◌, ◌∷◌, [], List, ℕ, length, get_or, sym, ap, ◌∙◌, subst, arith}
use Rattle.digit_tuple.specs.PartIndex.{letters_with}
use Rattle.digit_tuple.specs.PartChains.{IsChain, AreChains}
use Rattle.digit_tuple.proofs.PartIndexLemmas.{AreBlocksTo, AreBlocksTo-more}
use Rattle.digit_tuple.proofs.part_index.PartIndex.new.Goals as goal

-- the chain of a part in the code
chain_at : (parts : List ℕ) (count : ℕ) (first next heads nexts : List ℕ) (part : ℕ) → heads ≡ first → nexts ≡ next → part < length heads → AreChains parts count first next 0 → IsChain nexts (get_or heads part 0) (letters_with parts part)
chain_at parts count first next heads nexts part firsts same less are =
    let inside : part < count = omega (arith, less, ap length firsts, are.count_is) in
    subst (λ hs. IsChain nexts (get_or hs part 0) (letters_with parts part)) (sym firsts) (subst (λ ns. IsChain ns (get_or first part 0) (letters_with parts part)) (sym same) (are.chains part inside))

pub add_chain-requires : goal.add_chain-requires
add_chain-requires c =
    let chains = c.in_ok-chains.chains in
    let part = c.loop-first.first-index in (
      letters_with c.deref.result.now part,
      chain_at c.deref.result.now c.args.count chains.first.items chains.next.items c.deref-first-items.result.now c.deref-in-loop-first.result.now part c.deref-first-items.ensures.value c.deref-in-loop-first.ensures.value c.loop-first-test.true c.in_ok-chains.ensures,
    )

pub loop-first-preserved : goal.loop-first-preserved
loop-first-preserved c =
    let chains = c.in_ok-chains.chains in
    let parts = c.args.parts.items in
    let part = c.loop-first.first-index in
    let letters = c.loop-first.letters.items in
    let starts = c.loop-first.starts.items in
    let are = subst (λ ps. AreChains ps c.args.count chains.first.items chains.next.items 0) c.deref.ensures.value c.in_ok-chains.ensures in
    let added : c.add_chain.new.letters.items ≡ letters ++ letters_with parts part =
    c.in_ok-add_chain.ensures (letters_with parts part)
    (chain_at parts c.args.count chains.first.items chains.next.items c.deref-first-items.result.now c.deref-in-loop-first.result.now part c.deref-first-items.ensures.value c.deref-in-loop-first.ensures.value c.loop-first-test.true are) in
    let pushed : c.push.new.self.items ≡ starts ++ length c.add_chain.new.letters.items ∷ [] =
    let count : c.len-in-loop-first.result ≡ length c.add_chain.new.letters.items = omega (arith, c.len-in-loop-first.ensures, c.add_chain.new.letters.ok) in
    c.in_ok-push.ensures.items ∙ ap (λ n. starts ++ n ∷ []) count in
    subst (λ ss. AreBlocksTo parts c.add_chain.new.letters.items ss (part + 1)) (sym pushed)
    (subst (λ ls. AreBlocksTo parts ls (starts ++ length ls ∷ []) (part + 1)) (sym added) (AreBlocksTo-more parts letters starts part c.loop-first.invariant))
