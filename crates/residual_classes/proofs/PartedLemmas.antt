-- Classes while they are parted by sets of states.
use Rattle.std.proofs.Common.{◌≡◌, ◌≢◌, ◌↔◌, ℕ, ◌+◌, ◌-◌, ◌<◌, ◌≤◌, List, [], ◌∷◌, ◌++◌, length, get_or, ◌⊎◌, inl, inr, refl, sym, ap, ◌∙◌, subst, arith}
use Rattle.std.specs.List.{All, Contains, flat_map}
use Rattle.std.proofs.lemmas.Bool.{cases_lt, cases_eq}
use Rattle.std.proofs.lemmas.List.Elements.{Contains-push_cases}
use Rattle.digit_tuple.specs.Deterministic.{Automaton, IsTable, letters_of, states_of}
use Rattle.digit_tuple.specs.Keys.{KeyTransition, transition_at, no_transition}
use Rattle.digit_tuple.specs.Reversed.{transition_to}
use Rattle.digit_tuple.proofs.MemberLemmas.{Contains-map}
use Rattle.residual_classes.specs.declared.partition.Partition.{Partition}
use Rattle.residual_classes.specs.Classes.{class_of, dead_class, next_of}
use Rattle.residual_classes.specs.CoarseClasses.{AreCoarseClasses, IsCoarse}
use Rattle.residual_classes.specs.Gathering.{HaveLetters, IsGathered, transitions_by_class}
use Rattle.residual_classes.specs.Partition.{HasGrown, IsSplit, IsUnion}
use Rattle.residual_classes.specs.Settled.{AreApart, AreLiveParts, AreSettled, IsSettled}
use Rattle.residual_classes.specs.ReversedTransitions.{AreReversed, TransitionLists, transitions_into}
use Rattle.residual_classes.proofs.PartitionLemmas.{cases_contains, transition_there, in_class, leading, led, next_is, of_class}

-- a set stays apart
pub AreApart-grown : (old new : Partition) (set : List ℕ) → HasGrown old new → AreApart old.classes.items set → AreApart new.classes.items set
AreApart-grown old new set grown apart p q same there = apart p q (grown.parted p q same) there

pub HasGrown-none : (old : Partition) → HasGrown old old
HasGrown-none old = record { classes = omega arith; pending = omega arith; parted = λ p q same. same; settled = λ p q settled. settled }

pub HasGrown-more : (old mid new : Partition) → HasGrown old mid → HasGrown mid new → HasGrown old new
HasGrown-more old mid new one two = record {
  classes = omega (arith, one.classes, two.classes);
  pending = omega (arith, one.pending, two.pending);
  parted = λ p q same. one.parted p q (two.parted p q same);
  settled = λ p q settled. two.settled p q (one.settled p q settled);
}

-- one of the first parts has the letter
abbrev pub HasCome : List KeyTransition → ℕ → ℕ → Type 0
HasCome parts count letter = (place : ℕ) × (place < count) × ((transition_at parts place).letter ≡ letter)

-- the classes for which a part has come are parted by the set, and the others are as they were
pub record ArePartedTo (old new set : List ℕ) (parts : List KeyTransition) (count : ℕ) : Type 0 where
  pub rest : (q : ℕ) → HasCome parts count (class_of old q) ⊎ (class_of new q ≡ class_of old q)
  pub apart : (p q : ℕ) → class_of new p ≡ class_of new q → HasCome parts count (class_of old p) → Contains set p → Contains set q

pub ArePartedTo-none : (old set : List ℕ) (parts : List KeyTransition) → ArePartedTo old old set parts 0
ArePartedTo-none old set parts = record { rest = λ q. inr refl; apart = λ p q same come there. absurd (omega (arith, come.1)) }

-- a set of states by their classes
module _ (d : Automaton) (outputs old : List ℕ) (coarse : IsCoarse d outputs old) (set : List ℕ) (union : IsUnion d outputs set) (parts : List KeyTransition) where
  -- one more part
  pub ArePartedTo-more : (mid new : Partition) (count : ℕ) → IsGathered (transitions_by_class old set) (transition_at parts count).letter (transition_at parts count).key → HasGrown mid new → IsSplit mid new (transition_at parts count).letter (transition_at parts count).key
      → ArePartedTo old mid.classes.items set parts count → ArePartedTo old new.classes.items set parts (count + 1)
  ArePartedTo-more mid new count gathered grown split so_far = record {
    rest = λ q. rest q (so_far.rest q);
    apart = λ p q same come there. apart p q same come there (cases_lt come.0 count) (so_far.rest p);
  }
    where
      letter : ℕ
      letter = (transition_at parts count).letter

      key : List ℕ
      key = (transition_at parts count).key

      later : (c : ℕ) → HasCome parts count c → HasCome parts (count + 1) c
      later c come = (come.0, omega (arith, come.1), come.2)

      rest : (q : ℕ) → HasCome parts count (class_of old q) ⊎ (class_of mid.classes.items q ≡ class_of old q) → HasCome parts (count + 1) (class_of old q) ⊎ (class_of new.classes.items q ≡ class_of old q)
      rest q (inl come) = inl (later (class_of old q) come)
      rest q (inr stays) = by (cases_eq (class_of mid.classes.items q) letter)
        where
          by : (class_of mid.classes.items q ≡ letter) ⊎ (class_of mid.classes.items q ≡ letter → ⊥) → HasCome parts (count + 1) (class_of old q) ⊎ (class_of new.classes.items q ≡ class_of old q)
          by (inl is) = inl (count, omega arith, sym is ∙ stays)
          by (inr other) = inr (split.others q other ∙ stays)

      apart : (p q : ℕ) → class_of new.classes.items p ≡ class_of new.classes.items q → (come : HasCome parts (count + 1) (class_of old p)) → Contains set p → (come.0 < count) ⊎ (count ≤ come.0)
          → HasCome parts count (class_of old p) ⊎ (class_of mid.classes.items p ≡ class_of old p) → Contains set q
      apart p q same come there cases (inl before) = so_far.apart p q (grown.parted p q same) before there
      apart p q same come there (inl less) (inr stays) = so_far.apart p q (grown.parted p q same) (come.0, less, come.2) there
      apart p q same come there (inr last) (inr stays) =
          let here : come.0 ≡ count = omega (arith, come.1, last) in
          let is : letter ≡ class_of old p = ap (λ (k : ℕ). (transition_at parts k).letter) (sym here) ∙ come.2 in
          let inside : Contains key p = of_class d outputs old coarse set union letter key gathered p there (sym is) in
          (in_class d outputs old coarse set union letter key gathered q ((gathered.targets q).0 (split.apart p q (stays ∙ sym is) same inside))).0

  -- all parts
  pub AreApart-parts : (new : List ℕ) (count : ℕ) → length parts ≤ count → HaveLetters parts (transitions_by_class old set) → ArePartedTo old new set parts count → AreApart new set
  AreApart-parts new count all letters done p q same there =
      let found = letters (class_of old p) p (Contains-map (λ (x : ℕ). transition_to (class_of old x) x) set p there) in
      done.apart p q same (found.0, omega (arith, found.1, all), found.2) there

-- a pending class is taken, and classes are parted by the sets from which letters lead into it
module _ (d : Automaton) (outputs : List ℕ) (given : length outputs ≡ states_of d) (table : IsTable (letters_of d) d.states) (transitions : TransitionLists) (reversed : AreReversed d transitions)
    (into : List ℕ) (union : IsUnion d outputs into) (class : ℕ) (old new : Partition) (of : (q : ℕ) → Contains into q ↔ (class_of old.classes.items q ≡ class))
    (sources : List KeyTransition) (gathered : All (λ part. IsGathered (flat_map (transitions_into transitions) into) part.letter part.key) sources) (letters : HaveLetters sources (flat_map (transitions_into transitions) into))
    (grown : HasGrown old new) (apart : (place : ℕ) → place < length sources → AreApart new.classes.items (transition_at sources place).key) where
  -- where one of two states of a class leads into it, so does the other
  also_leads : (p q a : ℕ) → class_of new.classes.items p ≡ class_of new.classes.items q → class_of old.classes.items (next_of d p a) ≡ class → class_of old.classes.items (next_of d q a) ≡ class
  also_leads p q a same leads =
      let inside : Contains into (next_of d p a) = (of (next_of d p a)).1 leads in
      let found = letters a p (transition_there d outputs given table transitions reversed into union a p inside) in
      let part = transition_at sources found.0 in
      let gathers = gathered found.0 no_transition found.1 in
      let there : Contains part.key p = leading d outputs given table transitions reversed into union part.letter part.key gathers p (subst (λ (b : ℕ). Contains into (next_of d p b)) (sym found.2) inside) in
      let other = led d outputs given table transitions reversed into union part.letter part.key gathers q (apart found.0 found.1 p q same there) in
      (of (next_of d q a)).0 (subst (λ (b : ℕ). Contains into (next_of d q b)) found.2 (subst (Contains into) (sym (next_is d outputs given table q part.letter other.0 other.3)) other.1))

  pub IsSettled-parted : (pending : List ℕ) → pending ≡ old.pending ++ class ∷ [] → IsSettled d outputs old.classes.items pending → IsSettled d outputs new.classes.items new.pending
  IsSettled-parted pending is settled = record {
    one_output = λ p q small low same. settled.one_output p q small low (grown.parted p q same);
    led = λ p q a small low inside same. by p q a same (settled.led p q a small low inside (grown.parted p q same));
  }
    where
      cases : (c : ℕ) → Contains pending c → Contains old.pending c ⊎ (class ≡ c)
      cases c there = Contains-push_cases old.pending class c (subst (λ (xs : List ℕ). Contains xs c) is there)

      by : (p q a : ℕ) → class_of new.classes.items p ≡ class_of new.classes.items q → AreSettled old.classes.items pending (next_of d p a) (next_of d q a) → AreSettled new.classes.items new.pending (next_of d p a) (next_of d q a)
      by p q a same (inl alike) = grown.settled (next_of d p a) (next_of d q a) (inl alike)
      by p q a same (inr (inl there)) = one (cases (class_of old.classes.items (next_of d p a)) there)
        where
          one : Contains old.pending (class_of old.classes.items (next_of d p a)) ⊎ (class ≡ class_of old.classes.items (next_of d p a)) → AreSettled new.classes.items new.pending (next_of d p a) (next_of d q a)
          one (inl before) = grown.settled (next_of d p a) (next_of d q a) (inr (inl before))
          one (inr taken) = grown.settled (next_of d p a) (next_of d q a) (inl (sym taken ∙ sym (also_leads p q a same (sym taken))))
      by p q a same (inr (inr there)) = one (cases (class_of old.classes.items (next_of d q a)) there)
        where
          one : Contains old.pending (class_of old.classes.items (next_of d q a)) ⊎ (class ≡ class_of old.classes.items (next_of d q a)) → AreSettled new.classes.items new.pending (next_of d p a) (next_of d q a)
          one (inl before) = grown.settled (next_of d p a) (next_of d q a) (inr (inr before))
          one (inr taken) = grown.settled (next_of d p a) (next_of d q a) (inl (also_leads q p a (sym same) (sym taken) ∙ taken))

-- the states of the classes that are given are taken out of the sink's class
pub record AreTakenOut (d : Automaton) (new : List ℕ) (parts : List KeyTransition) (count : ℕ) : Type 0 where
  pub rest : (q : ℕ) → (class_of new q ≡ 0) ⊎ ((place : ℕ) × (place < count) × Contains (transition_at parts place).key q)
  pub apart : (classes : List ℕ) → AreLiveParts d classes parts → (place : ℕ) → place < count → AreApart new (transition_at parts place).key

pub AreTakenOut-none : (d : Automaton) (new : List ℕ) (parts : List KeyTransition) → ((q : ℕ) → class_of new q < 1) → AreTakenOut d new parts 0
AreTakenOut-none d new parts one = record { rest = λ q. inl (omega (arith, one q)); apart = λ classes are place less. absurd (omega arith) }

module _ (d : Automaton) (parts : List KeyTransition) where
  -- what a part has
  part_of : (classes : List ℕ) → AreLiveParts d classes parts → (place : ℕ) → place < length parts → (q : ℕ) → Contains (transition_at parts place).key q ↔ ((q < states_of d) × (class_of classes q ≢ dead_class d classes) × (class_of classes q ≡ (transition_at parts place).letter))
  part_of classes are place within = are.of place no_transition within

  -- one more part
  pub AreTakenOut-more : (mid new : Partition) (count : ℕ) → count < length parts → HasGrown mid new → IsSplit mid new 0 (transition_at parts count).key → AreTakenOut d mid.classes.items parts count → AreTakenOut d new.classes.items parts (count + 1)
  AreTakenOut-more mid new count within grown split so_far = record {
    rest = λ q. rest q (cases_contains key q) (so_far.rest q);
    apart = λ classes are place less. apart classes are place less (cases_lt place count);
  }
    where
      key : List ℕ
      key = (transition_at parts count).key

      rest : (q : ℕ) → Contains key q ⊎ (Contains key q → ⊥) → (class_of mid.classes.items q ≡ 0) ⊎ ((place : ℕ) × (place < count) × Contains (transition_at parts place).key q)
          → (class_of new.classes.items q ≡ 0) ⊎ ((place : ℕ) × (place < count + 1) × Contains (transition_at parts place).key q)
      rest q (inl there) cases = inr (count, omega arith, there)
      rest q (inr out) (inl zero) = inl (split.outside q out ∙ zero)
      rest q (inr out) (inr before) = inr (before.0, omega (arith, before.1), before.2)

      last : (classes : List ℕ) → AreLiveParts d classes parts → (p q : ℕ) → class_of new.classes.items p ≡ class_of new.classes.items q → Contains key p
          → (class_of mid.classes.items p ≡ 0) ⊎ ((place : ℕ) × (place < count) × Contains (transition_at parts place).key p) → Contains key q
      last classes are p q same there (inl zero) = split.apart p q zero same there
      last classes are p q same there (inr before) =
          let small : before.0 < length parts = omega (arith, before.1, within) in
          let one = (part_of classes are count within p).0 there in
          let other = (part_of classes are before.0 small p).0 before.2 in
          let of = (part_of classes are before.0 small q).0 (so_far.apart classes are before.0 before.1 p q (grown.parted p q same) before.2) in
          (part_of classes are count within q).1 (of.0, of.1, of.2 ∙ sym other.2 ∙ one.2)

      apart : (classes : List ℕ) → AreLiveParts d classes parts → (place : ℕ) → place < count + 1 → (place < count) ⊎ (count ≤ place) → AreApart new.classes.items (transition_at parts place).key
      apart classes are place less (inl before) = AreApart-grown mid new (transition_at parts place).key grown (so_far.apart classes are place before)
      apart classes are place less (inr past) =
          let is : count ≡ place = omega arith in
          subst (λ (k : ℕ). AreApart new.classes.items (transition_at parts k).key) is (λ p q same there. last classes are p q same there (so_far.rest p))

  -- all parts: states of one class had one class
  pub parted_before : (new : List ℕ) (count : ℕ) → length parts ≤ count → AreTakenOut d new parts count → (classes : List ℕ) → AreLiveParts d classes parts
      → (p q : ℕ) → p ≤ states_of d → q ≤ states_of d → class_of new p ≡ class_of new q → class_of classes p ≡ class_of classes q
  parted_before new count all done classes are p q small low same = by (cases_eq (class_of classes p) (dead_class d classes)) (cases_eq (class_of classes q) (dead_class d classes))
    where
      live : (x : ℕ) → x ≤ states_of d → class_of classes x ≢ dead_class d classes → x < states_of d
      live x inside other = state (cases_eq x (states_of d))
        where
          state : (x ≡ states_of d) ⊎ (x ≡ states_of d → ⊥) → x < states_of d
          state (inl is) = absurd (other (ap (class_of classes) is))
          state (inr differs) = omega arith

      one : (x y : ℕ) → x ≤ states_of d → class_of new x ≡ class_of new y → class_of classes x ≢ dead_class d classes → class_of classes x ≡ class_of classes y
      one x y inside alike other =
          let found = are.all x (live x inside other) other in
          let there = (part_of classes are found.0 found.1 x).1 (live x inside other, other, sym found.2) in
          let of = (part_of classes are found.0 found.1 y).0 (done.apart classes are found.0 (omega (arith, found.1, all)) x y alike there) in
          sym (of.2 ∙ found.2)

      by : (class_of classes p ≡ dead_class d classes) ⊎ (class_of classes p ≡ dead_class d classes → ⊥) → (class_of classes q ≡ dead_class d classes) ⊎ (class_of classes q ≡ dead_class d classes → ⊥) → class_of classes p ≡ class_of classes q
      by (inr other) cases = one p q small same other
      by (inl dead) (inr other) = sym (one q p low (sym same) other)
      by (inl dead) (inl also) = dead ∙ sym also

-- the states of each class but the sink's, by class
pub AreLiveParts-gathered : (d : Automaton) (outputs classes states : List ℕ) (parts : List KeyTransition) → AreCoarseClasses d outputs classes → IsUnion d outputs states
    → ((q : ℕ) → Contains states q ↔ ((q < length classes) × (class_of classes q ≢ class_of classes (length classes - 1)))) → All (λ part. IsGathered (transitions_by_class classes states) part.letter part.key) parts
    → HaveLetters parts (transitions_by_class classes states) → AreLiveParts d classes parts
AreLiveParts-gathered d outputs classes states parts coarse union are gathered letters = record {
  of = λ k z within q.
      let part = get_or parts k z in
      let gathers = gathered k z within in (
        (λ there.
            let of = in_class d outputs classes coarse.coarse states union part.letter part.key gathers q ((gathers.targets q).0 there) in
            let other = ((are q).0 of.0).1 in
            (live q ((are q).0 of.0).0 (λ dead. other (dead ∙ ap (class_of classes) sink)), (λ dead. other (dead ∙ ap (class_of classes) sink)), of.1)),
        (λ has. of_class d outputs classes coarse.coarse states union part.letter part.key gathers q ((are q).1 (omega (arith, has.0, coarse.width), λ dead. has.1 (dead ∙ ap (class_of classes) (sym sink)))) has.2),
      );
  all = λ q small other. letters (class_of classes q) q (Contains-map (λ (x : ℕ). transition_to (class_of classes x) x) states q ((are q).1 (omega (arith, small, coarse.width), λ dead. other (dead ∙ ap (class_of classes) (sym sink)))));
}
  where
    sink : states_of d ≡ length classes - 1
    sink = omega (arith, coarse.width)

    live : (q : ℕ) → q < length classes → (class_of classes q ≡ dead_class d classes → ⊥) → q < states_of d
    live q inside other = state (cases_eq q (states_of d))
      where
        state : (q ≡ states_of d) ⊎ (q ≡ states_of d → ⊥) → q < states_of d
        state (inl is) = absurd (other (ap (class_of classes) is))
        state (inr differs) = omega (arith, inside, coarse.width)
