-- Key transitions and the transitions that they become.
use Rattle.std.proofs.Common.{◌≡◌, ℕ, suc, ◌+◌, ◌<◌, ◌≤◌, Bool, List, [], ◌∷◌, ◌++◌, take, drop, length, get_or, Option, ◌⊎◌, inl, inr, refl, sym, ap, ◌∙◌, subst, arith}
use Rattle.std.specs.List.{All}
use Rattle.std.proofs.lemmas.List.{length_push, take-append-drop, take_more}
use Rattle.digit_tuple.specs.declared.transitions.Transition.{Transition}
use Rattle.digit_tuple.specs.Deterministic.{State}
use Rattle.digit_tuple.specs.Keys.{KeyTransition, AreKeyTransitions}
use Rattle.digit_tuple.specs.Explored.{IsNumbered, AreNumbered, NumbersSome}
use Rattle.std.proofs.lemmas.List.Elements.{All-push}

-- the state is that of a key, from which letters lead as the function says
pub record IsStateFrom (letters : ℕ) (after : ℕ → Option (List ℕ)) (accepting : Bool) (old new : List (List ℕ)) (state : State) : Type 0 where
  pub key_transitions : List KeyTransition
  pub are : AreKeyTransitions letters after key_transitions
  pub numbered : AreNumbered key_transitions state.transitions old new
  pub accepting_is : state.accepting ≡ accepting

-- numbering the keys that the first transitions from a key lead to takes the old keys to so many new ones
pub record Overflows (letters : ℕ) (after : ℕ → Option (List ℕ)) (old new : List (List ℕ)) (count : ℕ) : Type 0 where
  pub key_transitions : List KeyTransition
  pub are : AreKeyTransitions letters after key_transitions
  pub some : NumbersSome key_transitions old new count

-- the state of a key, as it is written
pub IsStateFrom-written : (letters : ℕ) (after : List ℕ → ℕ → Option (List ℕ)) (accepts : List ℕ → Bool) (old new : List (List ℕ)) (at key : List ℕ) (key_transitions : List KeyTransition) (accepting : Bool) (transitions : List Transition) → key ≡ at
    → AreKeyTransitions letters (after key) key_transitions → AreNumbered key_transitions transitions old new → accepting ≡ accepts key → IsStateFrom letters (after at) (accepts at) old new (record { accepting = accepting; transitions = transitions })
IsStateFrom-written letters after accepts old new at key key_transitions accepting transitions same are numbered is =
    record { key_transitions = key_transitions; are = subst (λ k. AreKeyTransitions letters (after k) key_transitions) same are; numbered = numbered; accepting_is = is ∙ ap accepts same }

pub Overflows-written : (letters : ℕ) (after : List ℕ → ℕ → Option (List ℕ)) (old new : List (List ℕ)) (at key : List ℕ) (key_transitions : List KeyTransition) (count : ℕ) → key ≡ at
    → AreKeyTransitions letters (after key) key_transitions → NumbersSome key_transitions old new count → Overflows letters (after at) old new count
Overflows-written letters after old new at key key_transitions count same are some =
    record { key_transitions = key_transitions; are = subst (λ k. AreKeyTransitions letters (after k) key_transitions) same are; some = some }

-- one more transition
pub AreNumbered-push : (key_transitions : List KeyTransition) (transitions : List Transition) (old mid new : List (List ℕ)) (from : KeyTransition) (transition : Transition) → AreNumbered key_transitions transitions old mid → transition.letter ≡ from.letter → IsNumbered mid new from.key transition.target
    → AreNumbered (key_transitions ++ from ∷ []) (transitions ++ transition ∷ []) old new
AreNumbered-push [] [] old mid new from transition done letter numbered = (letter, (new, subst (λ keys. IsNumbered keys new from.key transition.target) (sym done) numbered, refl))
AreNumbered-push [] (e ∷ es) old mid new from transition done letter numbered = absurd done
AreNumbered-push (s ∷ ss) [] old mid new from transition done letter numbered = absurd done
AreNumbered-push (s ∷ ss) (e ∷ es) old mid new from transition done letter numbered = (done.0, (done.1.0, done.1.1, AreNumbered-push ss es done.1.0 mid new from transition done.1.2 letter numbered))

-- the next transition of a list
pub AreNumbered-next : (key_transitions : List KeyTransition) (n : ℕ) (transitions : List Transition) (old mid new : List (List ℕ)) (d : KeyTransition) (transition : Transition) → n < length key_transitions → AreNumbered (take n key_transitions) transitions old mid
    → transition.letter ≡ (get_or key_transitions n d).letter → IsNumbered mid new (get_or key_transitions n d).key transition.target → AreNumbered (take (n + 1) key_transitions) (transitions ++ transition ∷ []) old new
AreNumbered-next key_transitions n transitions old mid new d transition within numbered letter next =
    subst (λ prefix. AreNumbered prefix (transitions ++ transition ∷ []) old new) (sym (take_more key_transitions n d within))
    (AreNumbered-push (take n key_transitions) transitions old mid new (get_or key_transitions n d) transition numbered letter next)

-- at most one more key
pub length-numbered : (old new : List (List ℕ)) (key : List ℕ) (number : ℕ) → IsNumbered old new key number → (length new ≤ length old + 1) × (length old ≤ length new)
length-numbered old new key number numbered = by numbered.old_or_new
  where
    by : ((new ≡ old) × (number < length old)) ⊎ ((number ≡ length old) × (new ≡ old ++ key ∷ [])) → (length new ≤ length old + 1) × (length old ≤ length new)
    by (inl kept) = (omega (arith, ap length kept.0), omega (arith, ap length kept.0))
    by (inr pushed) = (omega (arith, ap length pushed.1, length_push old key), omega (arith, ap length pushed.1, length_push old key))

-- a number is below how many there are
pub number-within : (old new : List (List ℕ)) (key : List ℕ) (number : ℕ) → IsNumbered old new key number → number < length new
number-within old new key number numbered = by numbered.old_or_new
  where
    by : ((new ≡ old) × (number < length old)) ⊎ ((number ≡ length old) × (new ≡ old ++ key ∷ [])) → number < length new
    by (inl kept) = omega (arith, ap length kept.0, kept.1)
    by (inr pushed) = omega (arith, ap length pushed.1, length_push old key, pushed.0)

-- the keys of the first transitions were numbered
pub NumbersSome-at : (key_transitions : List KeyTransition) (n : ℕ) (transitions : List Transition) (old mid new : List (List ℕ)) (d : KeyTransition) (target count : ℕ) → n < length key_transitions → AreNumbered (take n key_transitions) transitions old mid
    → IsNumbered mid new (get_or key_transitions n d).key target → length new ≡ count → NumbersSome key_transitions old new count
NumbersSome-at key_transitions n transitions old mid new d target count within numbered next full = record {
  prefix = take (n + 1) key_transitions;
  rest = drop (n + 1) key_transitions;
  transitions = transitions ++ last ∷ [];
  transitions_are = sym (take-append-drop (n + 1) key_transitions);
  numbered = AreNumbered-next key_transitions n transitions old mid new d last within numbered refl next;
  count_is = full;
}
  where
    last : Transition
    last = record { letter = (get_or key_transitions n d).letter; target = target }

-- the first key alone
pub first_numbered : (old new : List (List ℕ)) (key start : List ℕ) (number : ℕ) → old ≡ [] → key ≡ start → IsNumbered old new key number → start ∷ [] ≡ new
first_numbered old new key start number none same numbered = by numbered.old_or_new
  where
    by : ((new ≡ old) × (number < length old)) ⊎ ((number ≡ length old) × (new ≡ old ++ key ∷ [])) → start ∷ [] ≡ new
    by (inl kept) = absurd (omega (arith, kept.1, ap length none))
    by (inr pushed) = ap (λ k. k ∷ []) (sym same) ∙ ap (λ ks. ks ++ key ∷ []) (sym none) ∙ sym pushed.1

module _ (P : List ℕ → Type 0) where
  -- what holds of the keys, and of a numbered one, holds of all after it
  pub All-numbered : (old new : List (List ℕ)) (key : List ℕ) (number : ℕ) → IsNumbered old new key number → P key → All P old → All P new
  All-numbered old new key number numbered holds all = by numbered.old_or_new
    where
      by : ((new ≡ old) × (number < length old)) ⊎ ((number ≡ length old) × (new ≡ old ++ key ∷ [])) → All P new
      by (inl kept) = subst (All P) (sym kept.0) all
      by (inr pushed) = subst (All P) (sym pushed.1) (All-push P old key all holds)

  pub All-are_numbered : (ss : List KeyTransition) (es : List Transition) (old new : List (List ℕ)) → AreNumbered ss es old new → All (λ s. P s.key) ss → All P old → All P new
  All-are_numbered [] [] old new numbered each all = subst (All P) numbered all
  All-are_numbered [] (e ∷ es) old new numbered each all = absurd numbered
  All-are_numbered (s ∷ ss) [] old new numbered each all = absurd numbered
  All-are_numbered (s ∷ ss) (e ∷ es) old new numbered each all =
      All-are_numbered ss es numbered.1.0 new numbered.1.2 (λ k d within. each (suc k) d (omega arith)) (All-numbered old numbered.1.0 s.key e.target numbered.1.1 (each 0 s (omega arith)) all)

-- keys are never taken away
pub length-are_numbered : (ss : List KeyTransition) (es : List Transition) (old new : List (List ℕ)) → AreNumbered ss es old new → length old ≤ length new
length-are_numbered [] [] old new numbered = omega (arith, ap length numbered)
length-are_numbered [] (e ∷ es) old new numbered = absurd numbered
length-are_numbered (s ∷ ss) [] old new numbered = absurd numbered
length-are_numbered (s ∷ ss) (e ∷ es) old new numbered =
    let rest = length-are_numbered ss es numbered.1.0 new numbered.1.2 in
    let one = length-numbered old numbered.1.0 s.key e.target numbered.1.1 in
    omega (arith, rest, one.1)
