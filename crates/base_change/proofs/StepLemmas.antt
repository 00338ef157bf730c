-- One more digit, or one more letter.
use Rattle.std.proofs.Common.{◌≡◌, ℕ, ◌+◌, ◌-◌, ◌*◌, ◌^◌, ◌<◌, ◌≤◌, List, [], ◌∷◌, ◌++◌, length, get_or, take, drop, slice_index, Some, refl, sym, ap, ◌∙◌, subst, arith}
use Rattle.std.proofs.lemmas.List.{drop_more, length-take}
use Rattle.digit_tuple.specs.Deterministic.{Automaton}
use Rattle.digit_tuple.specs.Keys.{AreKeyTransitions, KeyTransition}
use Rattle.digit_tuple.specs.Letters.{IsWord}
use Rattle.digit_tuple.proofs.LetterKeyTransitions.{AreKeyTransitions-more}
use Rattle.minimise.proofs.LeadLemmas.{lead}
use Rattle.base_change.specs.Digits.{lowest_digits, value_lsd}
use Rattle.base_change.specs.GroupKeys.{IsGroupKey, join_next}
use Rattle.base_change.proofs.DigitLemmas.{value-drop, value-small}
use Rattle.base_change.proofs.RootLemmas.{pow-up}

-- the value of the last digits, and of one more before them
pub value-more : (r : ℕ) (ds : List ℕ) (place : ℕ) → place < length ds → value_lsd r (drop place ds) ≡ get_or ds place 0 + r * value_lsd r (drop (place + 1) ds)
value-more r ds place inside = ap (value_lsd r) (drop_more ds place 0 inside)

-- is below each number that the power of their number is not above
pub value-fits : (r most place : ℕ) (ds : List ℕ) → IsWord r ds → r ^ length ds ≤ most → value_lsd r (drop place ds) < most
value-fits r most place ds over few = omega (arith, value-drop r place ds over, value-small r ds over, few)

-- the transition by one more letter
pub one_transition_more : (next : ℕ → List ℕ) (letter : ℕ) (old new : List KeyTransition) (key : List ℕ) → AreKeyTransitions letter (λ a. Some (next a)) old → key ≡ next letter
    → new ≡ old ++ (let transition : KeyTransition = record { letter = letter; key = key } in transition) ∷ [] → AreKeyTransitions (letter + 1) (λ a. Some (next a)) new
one_transition_more next letter old new key are is pushed =
    subst (AreKeyTransitions (letter + 1) (λ a. Some (next a)))
    (sym (pushed ∙ ap (λ (k : List ℕ). old ++ (let transition : KeyTransition = record { letter = letter; key = k } in transition) ∷ []) is))
    (AreKeyTransitions-more letter (λ a. Some (next a)) old are)

-- one digit more denotes a number within the bound
pub step-fits : (r place number : ℕ) (ds : List ℕ) → IsWord r ds → r ^ length ds ≤ 65536 → 0 < place → place ≤ length ds → number ≡ value_lsd r (drop place ds) → number * r + get_or ds (place - 1) 0 < 65536
step-fits r place number ds over few some inside is =
    let more = value-more r ds (place - 1) (omega (arith, some, inside)) in
    let rest : r * value_lsd r (drop (place - 1 + 1) ds) ≡ r * number = ap (λ n. r * n) (ap (λ k. value_lsd r (drop k ds)) (let at : place - 1 + 1 ≡ place = omega (arith, some) in at) ∙ sym is) in
    omega (arith, more, rest, value-fits r 65536 (place - 1) ds over few)

-- the digits of a key denote a number within the bound
pub digits-few : (d : Automaton) (r b : ℕ) (key : List ℕ) → IsGroupKey d r b key → 1 ≤ r → r ^ b ≤ 65536 → r ^ length (take (length key - 1) (drop 1 key)) ≤ 65536
digits-few d r b [] is some few = absurd is
digits-few d r b (q ∷ ds) is some few =
    omega (arith, few, pow-up r (length (take (length (q ∷ ds) - 1) ds)) b some (omega (arith, is.1, length-take (length (q ∷ ds) - 1) ds)))

-- the digits of a letter lead from the state of a key
pub join-next-is : (d : Automaton) (r a : ℕ) (key : List ℕ) (letter : ℕ) → IsGroupKey d r 1 key → (lead d (slice_index key 0) (lowest_digits r a letter) ∷ []) ≡ join_next d r a key letter
join-next-is d r a [] letter is = absurd is
join-next-is d r a (q ∷ ds) letter is = refl
