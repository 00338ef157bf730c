use Rattle.std.proofs.Common.{◌≡◌, ◌+◌, ◌<◌, ◌≤◌, ℕ, List, [], ◌∷◌, ◌++◌, length, ◌⊎◌, inl, inr, suc, sym, ap, ◌∙◌, subst, arith}
use Rattle.std.proofs.lemmas.Bool.{cases_lt}
use Rattle.std.proofs.lemmas.List.{get_or_append_left, get_or_push, length_push}
use Rattle.digit_tuple.specs.Explored.{IsNumbered, key_at}
use Rattle.transducer_reading.specs.Transducers.{Transducer}
use Rattle.word_output.specs.LetterFunctions.{LetterFunctionValue}
use Rattle.word_transduce.specs.BlockLengths.{AreFirstEnds, ends_after, ends_of_length}
use Rattle.word_transduce.proofs.listed_ends.list_ends.Goals as goal

module _ (t : Transducer) (f : LetterFunctionValue) (old new : List (List ℕ)) (key : List ℕ) (number : ℕ) (numbered : IsNumbered old new key number) where
  -- the ends of the next length come last, unless they are listed
  first_ends_more : AreFirstEnds t f old → key ≡ ends_of_length t f (length old) → AreFirstEnds t f new
  first_ends_more listed is = by numbered.old_or_new
    where
      by : ((new ≡ old) × (number < length old)) ⊎ ((number ≡ length old) × (new ≡ old ++ key ∷ [])) → AreFirstEnds t f new
      by (inl same) = subst (AreFirstEnds t f) (sym same.0) listed
      by (inr more) = subst (AreFirstEnds t f) (sym more.1) (λ n within. at n within (cases_lt n (length old)))
        where
          at : (n : ℕ) → n < length (old ++ key ∷ []) → (n < length old) ⊎ (length old ≤ n) → key_at (old ++ key ∷ []) n ≡ ends_of_length t f n
          at n within (inl before) = get_or_append_left old (key ∷ []) [] n before ∙ listed n before
          at n within (inr last) =
              let same : length old ≡ n = omega (arith, last, within, length_push old key) in
              get_or_push old key [] n same ∙ is ∙ ap (ends_of_length t f) same

  length_more : (length new ≡ length old → ⊥) → length new ≡ length old + 1
  length_more other = by numbered.old_or_new
    where
      by : ((new ≡ old) × (number < length old)) ⊎ ((number ≡ length old) × (new ≡ old ++ key ∷ [])) → length new ≡ length old + 1
      by (inl same) = absurd (other (ap length same.0))
      by (inr more) = ap length more.1 ∙ omega (arith, length_push old key)

pub loop-digits-init : goal.loop-digits-init
loop-digits-init c = record { count = ap length c.new-list.ensures; ends = c.in_ok-ends.ensures; listed = λ n within. absurd (omega (arith, within, ap length c.new-list.ensures)) }

pub loop-digits-preserved : goal.loop-digits-preserved
loop-digits-preserved c =
    let t = c.args.maps.now.transducer.now in
    let f = c.args.maps.now.function.now in
    let old = c.loop-digits.list in
    let new = c.number_of.new.self in
    let key : c.deref.result.now ≡ ends_of_length t f (length old) = c.deref.ensures.value ∙ c.loop-digits.invariant.ends ∙ ap (ends_of_length t f) (sym c.loop-digits.invariant.count) in
    let next : suc c.loop-digits.digits ≡ c.loop-digits.digits + 1 = omega arith in
    record {
      count = length_more t f old new _ _ c.in_ok-number_of.ensures.number (λ same. c.if-len-digits.false (omega (arith, same))) ∙ ap (λ n. n + 1) c.loop-digits.invariant.count;
      ends = c.in_ok-ends-2.ensures ∙ ap (ends_after t f) (c.deref-in-loop-digits.ensures.value ∙ c.loop-digits.invariant.ends) ∙ ap (ends_of_length t f) next;
      listed = first_ends_more t f old new _ _ c.in_ok-number_of.ensures.number c.loop-digits.invariant.listed key;
    }

pub returns-then-len-digits-clause-ends : goal.returns-then-len-digits-clause-ends
returns-then-len-digits-clause-ends c =
    let t = c.args.maps.now.transducer.now in
    let f = c.args.maps.now.function.now in
    let old = c.loop-digits.list in
    first_ends_more t f old c.number_of.new.self _ _ c.in_ok-number_of.ensures.number c.loop-digits.invariant.listed
    (c.deref.ensures.value ∙ c.loop-digits.invariant.ends ∙ ap (ends_of_length t f) (sym c.loop-digits.invariant.count))
