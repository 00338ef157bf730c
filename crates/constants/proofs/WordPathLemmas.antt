-- How the automaton of one word comes about, state by state.
use Rattle.std.proofs.Common.{◌≡◌, ℕ, zero, suc, ◌+◌, ◌-◌, ◌<◌, ◌≤◌, Bool, nat_eq, List, [], ◌∷◌, length, get_or, Some, ap, sym, ◌∙◌, subst, arith, ◌⊎◌, inl, inr, IsTrue}
use Rattle.std.proofs.lemmas.Bool.{false≢true, cases_lt}
use Rattle.digit_tuple.specs.Paddings.{in_order}
use Rattle.digit_tuple.specs.Deterministic.{Automaton, IsSet, with_state, states_of, accepting_of, step_of}
use Rattle.digit_tuple.specs.declared.direction.Direction.{Direction}
use Rattle.digit_tuple.specs.declared.direction.Direction.TheVariants.{Msd, Lsd}
use Rattle.digit_tuple.proofs.PaddingLemmas.{length-in_order}
use Rattle.numeration.specs.Words.{is_plain}
use Rattle.constants.specs.WordPaths.{IsPathTo, IsPaddingZero, IsPaddingPath, padding_prefix}
use Rattle.digit_tuple.proofs.AddedStates.{states_of-added, accepting_of-kept, accepting_of-new, step_of-added}

-- a state more, to which the word's next letter leads
path_more : (word : List ℕ) (i : ℕ) (b d : Automaton) → IsPathTo word i b → IsSet (with_state b (nat_eq (suc i) (length word))) d i (get_or word i 0) (suc i) → IsPathTo word (suc i) d
path_more word i b d path set = record {
  states = set.states ∙ states_of-added b flag ∙ ap suc path.states;
  accepting = λ q few. set.accepting q ∙ accepts q few (cases_lt q (suc i));
  along = λ q few. along q few (cases_lt q i);
  stops = λ q letter other. set.elsewhere q letter (λ here. other (omega (arith, here.0), here.1 ∙ ap (λ p. get_or word p 0) (sym here.0)))
      ∙ step_of-added b flag q letter ∙ path.stops q letter (λ next. other (omega (arith, next.0), next.1));
}
  where
    flag : Bool
    flag = nat_eq (suc i) (length word)

    more : Automaton
    more = with_state b flag

    accepts : (q : ℕ) → q ≤ suc i → (q < suc i) ⊎ (suc i ≤ q) → accepting_of more q ≡ nat_eq q (length word)
    accepts q few (inl less) = accepting_of-kept b flag q (omega (arith, less, path.states)) ∙ path.accepting q (omega (arith, less))
    accepts q few (inr last) = subst (λ p. accepting_of more p ≡ nat_eq p (length word)) (let e : suc i ≡ q = omega (arith, last, few) in e)
        (subst (λ p. accepting_of more p ≡ flag) path.states (accepting_of-new b flag))

    along : (q : ℕ) → q < suc i → (q < i) ⊎ (i ≤ q) → step_of d q (get_or word q 0) ≡ Some (suc q)
    along q few (inl less) = set.elsewhere q (get_or word q 0) (λ here. absurd (omega (arith, less, here.0))) ∙ step_of-added b flag q (get_or word q 0) ∙ path.along q less
    along q few (inr last) = subst (λ p. step_of d p (get_or word p 0) ≡ Some (suc p)) (let e : i ≡ q = omega (arith, last, few) in e) set.there

-- the same, by the numbers of the states
pub path_next : (word : List ℕ) (i q : ℕ) (b e d : Automaton) → IsPathTo word i b → e ≡ with_state b (nat_eq (i + 1) (length word)) → q ≡ states_of b → IsSet e d (q - 1) (get_or word i 0) q → IsPathTo word (i + 1) d
path_next word i q b e d path is at set =
    let one : i + 1 ≡ suc i = omega arith in
    let last : q ≡ suc i = at ∙ path.states in
    let before : q - 1 ≡ i = omega (arith, last) in
    let here : IsSet e d i (get_or word i 0) (suc i) = subst (λ n. IsSet e d i (get_or word i 0) n) last (subst (λ n. IsSet e d n (get_or word i 0) q) before set) in
    subst (λ n. IsPathTo word n d) (sym one)
    (path_more word i b d path (subst (λ (a : Automaton). IsSet a d i (get_or word i 0) (suc i)) (is ∙ ap (λ n. with_state b (nat_eq n (length word))) one) here))

-- the first letter that is read is no padding zero
other_letter : (direction : Direction) (r : List ℕ) (q : ℕ) → IsTrue (is_plain r) → q < length r → ¬ IsPaddingZero direction r q (get_or (in_order direction r) q 0)
other_letter Msd [] q plain few padding = absurd (omega (arith, few))
other_letter Msd (zero ∷ r) q plain few padding = absurd (false≢true plain)
other_letter Msd (suc a ∷ r) q plain few padding = absurd (let e : get_or (suc a ∷ r) 0 0 ≡ 0 = subst (λ p. get_or (suc a ∷ r) p 0 ≡ 0) padding.0 padding.1 in omega (arith, e))
other_letter Lsd r q plain few padding = absurd (omega (arith, few, padding.0))

-- the whole path, with padding zeros
pub padding_path : (direction : Direction) (r v : List ℕ) (q long : ℕ) (b d : Automaton) → IsTrue (is_plain r) → v ≡ in_order direction r → long ≡ length v
    → IsPathTo v (length v) b → q ≡ padding_prefix direction long → IsSet b d q 0 q → IsPaddingPath direction r d
padding_path direction r v q long b d plain is count path at set =
    whole (subst (λ u. IsPathTo u (length u) b) is path) (at ∙ ap (padding_prefix direction) (count ∙ ap length is ∙ same))
  where
    same : length (in_order direction r) ≡ length r
    same = length-in_order direction r

    whole : IsPathTo (in_order direction r) (length (in_order direction r)) b → q ≡ padding_prefix direction (length r) → IsPaddingPath direction r d
    whole prefixes here = record {
      accepting = λ p few. set.accepting p ∙ prefixes.accepting p (omega (arith, few, same)) ∙ ap (nat_eq p) same;
      along = λ p few. set.elsewhere p (get_or (in_order direction r) p 0) (λ there. other_letter direction r p plain few (there.0 ∙ here, there.1)) ∙ prefixes.along p (omega (arith, few, same));
      stays = subst (λ p. step_of d p 0 ≡ Some p) here set.there;
      stops = λ p letter next padding. set.elsewhere p letter (λ there. padding (there.0 ∙ here, there.1)) ∙ prefixes.stops p letter (λ goes. next (omega (arith, goes.0, same), goes.1));
    }
