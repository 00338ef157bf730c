use Rattle.std.proofs.Common.{◌≡◌, ◌+◌, ◌<◌, ◌≤◌, ℕ, List, [], ◌∷◌, ◌++◌, length, get_or, ◌⊎◌, inl, inr, sym, ap, ◌∙◌, subst, arith}
use Rattle.std.proofs.lemmas.Bool.{cases_lt}
use Rattle.std.proofs.lemmas.List.{get_or_append_left, get_or_push, length_push}
use Rattle.digit_tuple.specs.Explored.{key_at}
use Rattle.word_transduce.specs.BlockLengths.{IsBlockLength}
use Rattle.word_transduce.specs.declared.block_lengths.BlockLength.{BlockLength}
use Rattle.word_transduce.proofs.block_lengths.list_lengths.Goals as goal

pub loop-number-preserved : goal.loop-number-preserved
loop-number-preserved c = record {
  count = ap length pushed ∙ omega (arith, length_push lengths made, c.loop-number.invariant.count);
  lengths_are = λ n d within. by n d within (cases_lt n k);
}
  where
    k : ℕ
    k = c.loop-number.number

    lengths : List BlockLength
    lengths = c.loop-number.lengths.items

    made : BlockLength
    made = c.in_ok-length.length

    pushed : c.push.new.self.items ≡ lengths ++ made ∷ []
    pushed = c.in_ok-push.ensures.items

    is : IsBlockLength c.args.maps.now.transducer.now c.args.maps.now.function.now c.args.list.now (key_at c.args.list.now k) made
    is = subst (λ (ends : List ℕ). IsBlockLength c.args.maps.now.transducer.now c.args.maps.now.function.now c.args.list.now ends made) c.key.ensures c.in_ok-length.ensures

    by : (n : ℕ) (d : BlockLength) → n < k + 1 → (n < k) ⊎ (k ≤ n) → IsBlockLength c.args.maps.now.transducer.now c.args.maps.now.function.now c.args.list.now (key_at c.args.list.now n) (get_or c.push.new.self.items n d)
    by n d within (inl before) =
        subst (IsBlockLength c.args.maps.now.transducer.now c.args.maps.now.function.now c.args.list.now (key_at c.args.list.now n))
        (sym (ap (λ (ls : List BlockLength). get_or ls n d) pushed ∙ get_or_append_left lengths (made ∷ []) d n (omega (arith, before, c.loop-number.invariant.count)))) (c.loop-number.invariant.lengths_are n d before)
    by n d within (inr last) =
        let same : k ≡ n = omega (arith, last, within) in
        subst (IsBlockLength c.args.maps.now.transducer.now c.args.maps.now.function.now c.args.list.now (key_at c.args.list.now n))
        (sym (ap (λ (ls : List BlockLength). get_or ls n d) pushed ∙ get_or_push lengths made d n (c.loop-number.invariant.count ∙ same)))
        (subst (λ m. IsBlockLength c.args.maps.now.transducer.now c.args.maps.now.function.now c.args.list.now (key_at c.args.list.now m) made) same is)
