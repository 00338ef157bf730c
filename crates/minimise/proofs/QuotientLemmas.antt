-- The automaton whose states are classes is canonical.
use Rattle.std.proofs.Common.{◌≡◌, ◌≢◌, ◌↔◌, ◌==◌, IsTrue, not, true≢false, ℕ, ◌+◌, ◌<◌, ◌≤◌, Bool, true, false, List, [], ◌∷◌, ◌++◌, map, take, length, get_or, Option, None, Some, MatchOption, if◌then◌else◌, refl, sym, ap, ◌∙◌, subst, append_assoc, arith}
use Rattle.std.specs.List.{All}
use Rattle.std.specs.Option.{option_map, option_map_or, option_and_then}
use Rattle.std.proofs.lemmas.Bool.{eqb-true, eqb-false}
use Rattle.std.proofs.lemmas.List.{get_or-map, length-map, map-append}
use Rattle.std.proofs.lemmas.Option.{none-some, same_Some}
use Rattle.digit_tuple.specs.declared.transitions.Transition.{Transition}
use Rattle.digit_tuple.specs.Deterministic.{Automaton, IsTable, letters_of, states_of, accepting_of, step_of, transitions_of, target_by, run_of}
use Rattle.digit_tuple.specs.FirstWords.{IsNumberedByFirsts}
use Rattle.digit_tuple.specs.Letters.{product, IsWord}
use Rattle.digit_tuple.specs.Keys.{KeyTransition, AreKeyTransitions, key_by}
use Rattle.digit_tuple.specs.Explored.{IsExplored, key_at}
use Rattle.residual_classes.specs.ClassFunctions.{class_from, SameClassFunction}
use Rattle.residual_classes.specs.Outputs.{SameOutputs}
use Rattle.residual_classes.specs.Classes.{class_of, next_of, dead_class}
use Rattle.residual_classes.specs.CoarseClasses.{AreResidualClasses}
use Rattle.residual_classes.specs.Leaders.{AreLeaders}
use Rattle.residual_classes.specs.ClassTransitions.{class_transitions}
use Rattle.residual_classes.proofs.SinkLemmas.{row_of, next_within}
use Rattle.residual_classes.proofs.ClassFromLemmas.{class_from-sink, class_from-next}
use Rattle.residual_classes.proofs.ClassTransitionLemmas.{class_transition, class_transitions-dead, class_transitions-live, class_transitions-all, class_transitions-pairs, class_transitions-lead}
use Rattle.minimise.specs.Canonical.{IsCanonicalWithClasses}
use Rattle.minimise.specs.Quotient.{IsQuotient, IsClass, leader_of, next_class, key_output, class_accepts, key_transition}

-- key transitions lead where the transitions do
pub key_by-transitions : (es : List Transition) (a : ℕ) → key_by (map key_transition es) a ≡ option_map (λ class. class ∷ []) (target_by es a)
key_by-transitions [] a = refl
key_by-transitions (e ∷ es) a = by (e.letter == a) (key_by-transitions es a)
  where
    by : (b : Bool) → key_by (map key_transition es) a ≡ option_map (λ class. class ∷ []) (target_by es a)
        → (if b then Some (e.target ∷ []) else key_by (map key_transition es) a) ≡ option_map (λ class. class ∷ []) (if b then Some e.target else target_by es a)
    by true rest = refl
    by false rest = rest

-- the key transitions from a class
pub AreKeyTransitions-class : (d : Automaton) (classes leaders key : List ℕ) → IsTable (letters_of d) d.states
    → AreKeyTransitions (letters_of d) (next_class d classes leaders key) (map key_transition (class_transitions classes (dead_class d classes) (transitions_of d (leader_of leaders key))))
AreKeyTransitions-class d classes leaders key table = record {
  in_range = λ k z within.
      let inside : k < length es = omega (arith, within, length-map es key_transition) in
      let low : (get_or es k first).letter < letters_of d = class_transitions-all classes (dead_class d classes) (λ a. a < letters_of d) (transitions_of d q) (λ i y there. ((row_of d table q).in_range i y there).0) k first inside in
      omega (arith, low, ap (λ (k : KeyTransition). k.letter) (get_or-map key_transition es k first z inside));
  ascending = λ i j z before within.
      let inside : j < length es = omega (arith, within, length-map es key_transition) in
      let less : (get_or es i first).letter < (get_or es j first).letter = class_transitions-pairs classes (dead_class d classes) (transitions_of d q) (row_of d table q).ascending i j first before inside in
      omega (arith, less, ap (λ (k : KeyTransition). k.letter) (get_or-map key_transition es i first z (omega arith)), ap (λ (k : KeyTransition). k.letter) (get_or-map key_transition es j first z inside));
  lead = λ a small. key_by-transitions es a ∙ ap (option_map (λ class. class ∷ [])) (class_transitions-lead d classes (transitions_of d q) a (row_of d table q).ascending);
}
  where
    q : ℕ
    q = leader_of leaders key

    es : List Transition
    es = class_transitions classes (dead_class d classes) (transitions_of d q)

    first : Transition
    first = record { letter = 0; target = 0 }

module _ (d : Automaton) (classes leaders key : List ℕ) (a : ℕ) where
  abbrev n : ℕ
  n = next_of d (leader_of leaders key) a

  -- where a letter leads to no class
  next_class-none : next_class d classes leaders key a ≡ None → class_of classes n ≡ dead_class d classes
  next_class-none = by (class_of classes n == dead_class d classes) refl
    where
      by : (b : Bool) → (class_of classes n == dead_class d classes) ≡ b → option_map (λ class. class ∷ []) (if b then None else Some (class_of classes n)) ≡ None → class_of classes n ≡ dead_class d classes
      by true is none = eqb-true (class_of classes n) (dead_class d classes) is
      by false is none = absurd (none-some (class_of classes n ∷ []) (sym none))

  -- where it leads to one
  next_class-some : (next : List ℕ) → next_class d classes leaders key a ≡ Some next → (class_of classes n ≢ dead_class d classes) × (class_of classes n ∷ [] ≡ next)
  next_class-some next = by (class_of classes n == dead_class d classes) refl
    where
      by : (b : Bool) → (class_of classes n == dead_class d classes) ≡ b → option_map (λ class. class ∷ []) (if b then None else Some (class_of classes n)) ≡ Some next → (class_of classes n ≢ dead_class d classes) × (class_of classes n ∷ [] ≡ next)
      by true is some = absurd (none-some next some)
      by false is some = (eqb-false (class_of classes n) (dead_class d classes) is, same_Some (class_of classes n ∷ []) next some)

-- a list of one number
one_number : (key : List ℕ) → length key ≡ 1 → key ≡ class_of key 0 ∷ []
one_number [] one = absurd (omega arith)
one_number (k ∷ []) one = refl
one_number (k ∷ l ∷ ls) one = absurd (omega arith)

module _ (d minimal : Automaton) (outputs classes leaders : List ℕ) (quotient : IsQuotient d outputs classes leaders) (keys : List (List ℕ))
    (explored : IsExplored (letters_of d) (class_of classes 0 ∷ []) (next_class d classes leaders) (class_accepts outputs leaders) keys minimal) (valid : All (IsClass d classes leaders) keys) where
  -- the state of d whose residual a state of the minimal automaton has
  abbrev state : ℕ → ℕ
  state q = leader_of leaders (key_at keys q)

  -- the outputs of the minimal automaton's states
  abbrev made : List ℕ
  made = map (key_output outputs leaders) keys

  made_at : (q : ℕ) → q < states_of minimal → class_of made q ≡ class_of outputs (state q)
  made_at q within = get_or-map (key_output outputs leaders) keys q [] 0 (omega (arith, within, explored.count))

  class_at : (q : ℕ) → q < states_of minimal → IsClass d classes leaders (key_at keys q)
  class_at q within = valid q [] (omega (arith, within, explored.count))

  -- what the class of a letter's target says of residuals
  same_next : (t n : ℕ) → t < states_of minimal → n ≤ states_of d → class_of classes n ∷ [] ≡ key_at keys t → SameOutputs d outputs (state t) n
  same_next t n within inside is =
      let at = class_at t within in
      (quotient.residuals (state t) n (omega (arith, at.leader)) inside).0 (at.itself ∙ ap (λ key. class_of key 0) (sym is))

  residual : (w : List ℕ) (q : ℕ) → IsWord (letters_of d) w → q < states_of minimal → class_from minimal made q w ≡ class_from d outputs (state q) w
  residual [] q over within = made_at q within
  residual (a ∷ w) q over within = by (step_of minimal q a) (explored.transitions q a within over.0) (λ t inside. residual w t over.1 inside) ∙ sym (class_from-next d outputs quotient.outputs_are (state q) a w)
    where
      by : (o : Option ℕ) → MatchOption o (next_class d classes leaders (key_at keys q) a ≡ None) (λ t. (t < states_of minimal) × (next_class d classes leaders (key_at keys q) a ≡ Some (key_at keys t)))
          → ((t : ℕ) → t < states_of minimal → class_from minimal made t w ≡ class_from d outputs (state t) w)
          → option_map_or (λ p. class_of made p) (option_and_then (λ p. run_of minimal p w) o) 0 ≡ class_from d outputs (next_of d (state q) a) w
      by None none rest =
          let dead = next_class-none d classes leaders (key_at keys q) a none in
          sym ((quotient.residuals (next_of d (state q) a) (states_of d) (next_within d quotient.table (state q) a) (omega arith)).0 dead w over.1 ∙ class_from-sink d outputs quotient.outputs_are w)
      by (Some t) some rest =
          let live = next_class-some d classes leaders (key_at keys q) a (key_at keys t) some.1 in
          rest t some.0 ∙ same_next t (next_of d (state q) a) some.0 (next_within d quotient.table (state q) a) live.1 w over.1

  pub SameClassFunction-explored : 0 < states_of minimal → SameClassFunction d outputs minimal made
  SameClassFunction-explored some w over = sym (residual w 0 over some ∙ same_next 0 0 some (omega arith) (sym explored.start_is) w over)

  pub IsCanonical-explored : IsTable (letters_of minimal) minimal.states → (firsts : List (List ℕ)) → IsNumberedByFirsts minimal firsts → minimal.sizes ≡ d.sizes → IsCanonicalWithClasses minimal made
  IsCanonical-explored table firsts numbered sizes = record {
    table = table;
    count = length-map keys (key_output outputs leaders) ∙ explored.count;
    accepting = λ q within. accepts (class_of outputs (state q)) (class_of made q) (accepting_of minimal q) (made_at q within) (explored.accepting q within);
    firsts = firsts;
    numbered = numbered;
    distinct = λ p q less within same.
        let one = class_at p (omega arith) in
        let two = class_at q within in
        let residuals : SameOutputs d outputs (state p) (state q) = λ w over. sym (residual w p over (omega arith)) ∙ same w (word w over) ∙ residual w q over within in
        let class : class_of (key_at keys p) 0 ≡ class_of (key_at keys q) 0 = sym one.itself ∙ (quotient.residuals (state p) (state q) (omega (arith, one.leader)) (omega (arith, two.leader))).1 residuals ∙ two.itself in
        explored.apart p q [] less (omega (arith, within, explored.count)) (one_number (key_at keys p) one.one ∙ ap (λ c. c ∷ []) class ∙ sym (one_number (key_at keys q) two.one));
    live = λ p a q within small leads none.
        let step = subst (λ (o : Option ℕ). MatchOption o (next_class d classes leaders (key_at keys p) a ≡ None) (λ t. (t < states_of minimal) × (next_class d classes leaders (key_at keys p) a ≡ Some (key_at keys t)))) leads (explored.transitions p a within (letter a small)) in
        let some = next_class-some d classes leaders (key_at keys p) a (key_at keys q) step.1 in
        let at = class_at q step.0 in
        some.0 (ap (λ key. class_of key 0) some.1 ∙ sym at.itself
        ∙ (quotient.residuals (state q) (states_of d) (omega (arith, at.leader)) (omega arith)).1 (λ w over. sym (residual w q over step.0) ∙ none w (word w over) ∙ sym (class_from-sink d outputs quotient.outputs_are w)));
  }
    where
      letters : letters_of d ≡ letters_of minimal
      letters = ap product (sym sizes)

      word : (w : List ℕ) → IsWord (letters_of d) w → IsWord (letters_of minimal) w
      word w over = subst (λ n. IsWord n w) letters over

      letter : (a : ℕ) → a < letters_of minimal → a < letters_of d
      letter a small = omega (arith, small, letters)

      accepts : (output class : ℕ) (b : Bool) → class ≡ output → b ≡ not (output == 0) → IsTrue b ↔ (class ≢ 0)
      accepts output class b is flag = by (output == 0) refl
        where
          by : (z : Bool) → (output == 0) ≡ z → IsTrue b ↔ (class ≢ 0)
          by true none = ((λ yes. let no : b ≡ false = flag ∙ ap not none in absurd (true≢false (sym yes ∙ no))), (λ some. absurd (some (is ∙ eqb-true output 0 none))))
          by false some = ((λ yes none. eqb-false output 0 some (sym is ∙ none)), (λ other. flag ∙ ap not some))

-- the classes and their leaders, read through a slice
pub IsQuotient-read : (d : Automaton) (outputs classes leaders read : List ℕ) (count : ℕ) → length outputs ≡ states_of d → read ≡ leaders → count ≡ states_of d → IsTable (letters_of d) d.states → AreResidualClasses d outputs classes → AreLeaders classes leaders count
    → IsQuotient d outputs classes read
IsQuotient-read d outputs classes leaders read count given is all table are led = subst (λ (ls : List ℕ). IsQuotient d outputs classes ls) (sym is) (record {
  table = table;
  outputs_are = given;
  width = are.width;
  below = λ q within. are.below q 0 (omega (arith, within, are.width));
  residuals = are.residuals;
  leaders_are = subst (AreLeaders classes leaders) all led;
})

-- the key transition of the next transition, if it leads to a class
module _ (classes : List ℕ) (dead : ℕ) (es : List Transition) (k : ℕ) (z : Transition) (within : k < length es) (old now : List KeyTransition) (so_far : now ≡ old ++ map key_transition (class_transitions classes dead (take k es))) where
  pub key_transitions-dead : class_of classes (get_or es k z).target ≡ dead → now ≡ old ++ map key_transition (class_transitions classes dead (take (k + 1) es))
  key_transitions-dead is = so_far ∙ ap (λ (fs : List Transition). old ++ map key_transition fs) (class_transitions-dead classes dead es k z within is)

  pub key_transitions-live : (new : List KeyTransition) → new ≡ now ++ key_transition (class_transition classes (get_or es k z)) ∷ [] → class_of classes (get_or es k z).target ≢ dead → new ≡ old ++ map key_transition (class_transitions classes dead (take (k + 1) es))
  key_transitions-live new pushed other =
      pushed ∙ ap (λ (ks : List KeyTransition). ks ++ key_transition (class_transition classes (get_or es k z)) ∷ []) so_far
      ∙ append_assoc old (map key_transition (class_transitions classes dead (take k es))) (key_transition (class_transition classes (get_or es k z)) ∷ [])
      ∙ ap (λ (ks : List KeyTransition). old ++ ks) (sym (map-append key_transition (class_transitions classes dead (take k es)) (class_transition classes (get_or es k z) ∷ []))
      ∙ ap (map key_transition) (class_transitions-live classes dead es k z within other))
