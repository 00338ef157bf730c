-- The checks of listed automata, one automaton after another.
use Rattle.std.proofs.Common.{◌≡◌, ◌≢◌, ℕ, zero, suc, ◌+◌, ◌<◌, Bool, true, false, if◌then◌else◌, List, [], ◌∷◌, ◌++◌, length, take, get_or, None, Some, inl, inr, refl, sym, ap, ◌∙◌, subst, arith}
use Rattle.std.specs.List.{AllByRecursion}
use Rattle.combinations.specs.Parts.{PartValue}
use Rattle.command_head.specs.Values.{value_at}
use Rattle.command_head.specs.declared.head.ValuedName as valued
use Rattle.plan_relations.specs.Libraries.{NamedRelation, relation_named}
use Rattle.formula_resolve.specs.Headers.{Headers, automaton_tracks, is_plain}
use Rattle.word_commands.specs.CombineMakes.{HasRelations, automata_in}
use Rattle.word_commands.specs.CombineOutcomes.{first_plain, listed_names, IsFirstOver}
use Rattle.word_commands.specs.CombineSteps.{ArePartsFrom}

-- none of these automata is over sets
abbrev pub AreNotPlain : Headers → List valued.ValuedName → Type 0
AreNotPlain h automata = AllByRecursion (λ (v : valued.ValuedName). is_plain h v.name ≡ false) automata

-- all have these systems
abbrev pub AreOver : Headers → List (List ℕ) → List valued.ValuedName → Type 0
AreOver h tracks automata = AllByRecursion (λ (v : valued.ValuedName). automaton_tracks h v.name ≡ tracks) automata

module _ (h : Headers) where
  skipped : (v : valued.ValuedName) (automata : List valued.ValuedName) → is_plain h v.name ≡ false → first_plain h (listed_names (automata_in (v ∷ automata))) ≡ first_plain h (listed_names (automata_in automata))
  skipped v automata not = ap (λ (b : Bool). if b then Some v.name else first_plain h (listed_names (automata_in automata))) not

  pub none_first : (automata : List valued.ValuedName) → AreNotPlain h automata → first_plain h (listed_names (automata_in automata)) ≡ None
  none_first [] all = refl
  none_first (v ∷ automata) all = skipped v automata all.0 ∙ none_first automata all.1

  -- the first that is
  pub first_at : (automata : List valued.ValuedName) (i : ℕ) (d : valued.ValuedName) → i < length automata → AreNotPlain h (take i automata) → is_plain h (get_or automata i d).name ≡ true → first_plain h (listed_names (automata_in automata)) ≡ Some (get_or automata i d).name
  first_at [] i d within before plain = absurd (omega (arith, within))
  first_at (v ∷ automata) zero d within before plain = ap (λ (b : Bool). if b then Some v.name else first_plain h (listed_names (automata_in automata))) plain
  first_at (v ∷ automata) (suc i) d within before plain = skipped v automata before.0 ∙ first_at automata i d (omega (arith, within)) before.1 plain

  -- the first that has other systems
  pub first_over_at : (tracks : List (List ℕ)) (automata : List valued.ValuedName) (i : ℕ) (d : valued.ValuedName) → i < length automata → AreOver h tracks (take i automata) → automaton_tracks h (get_or automata i d).name ≢ tracks
      → IsFirstOver h tracks (listed_names (automata_in automata)) (get_or automata i d).name
  first_over_at tracks [] i d within before other = absurd (omega (arith, within))
  first_over_at tracks (v ∷ automata) zero d within before other = inl (other, refl)
  first_over_at tracks (v ∷ automata) (suc i) d within before other = inr (before.0, first_over_at tracks automata i d (omega (arith, within)) before.1 other)

  -- what holds of the automata by their names holds of the names
  pub all_names : (P : List ℕ → Type 0) (automata : List valued.ValuedName) → AllByRecursion (λ (v : valued.ValuedName). P v.name) automata → AllByRecursion P (listed_names (automata_in automata))
  all_names P [] all = tt
  all_names P (v ∷ automata) all = (all.0, all_names P automata all.1)

-- there is a relation under the name at each place
pub relation_at : (relations : List NamedRelation) (automata : List valued.ValuedName) (i : ℕ) (d : valued.ValuedName) → i < length automata → HasRelations relations (automata_in automata) → relation_named relations (get_or automata i d).name ≢ None
relation_at relations [] i d within all = absurd (omega (arith, within))
relation_at relations (v ∷ automata) zero d within all = λ none. let both : None ≡ Some all.0.0 = sym none ∙ all.0.1 in cc
relation_at relations (v ∷ automata) (suc i) d within all = relation_at relations automata i d (omega (arith, within)) all.1

-- one more relation after those of the automata before it
parts_taken : (relations : List NamedRelation) (place : ℕ) (automata : List valued.ValuedName) (i : ℕ) (d : valued.ValuedName) (parts : List PartValue) (p : PartValue) → i < length automata → ArePartsFrom relations place (automata_in (take i automata)) parts
    → relation_named relations (get_or automata i d).name ≡ Some p.relation → p.value ≡ value_at (place + i) (get_or automata i d).value → ArePartsFrom relations place (automata_in (take (suc i) automata)) (parts ++ p ∷ [])
parts_taken relations place [] i d parts p within are is value = absurd (omega (arith, within))
parts_taken relations place (v ∷ automata) zero d [] p within are is value = (is, value ∙ ap (λ (n : ℕ). value_at n v.value) (omega arith), tt)
parts_taken relations place (v ∷ automata) zero d (q ∷ parts) p within are is value = absurd are
parts_taken relations place (v ∷ automata) (suc i) d [] p within are is value = absurd are
parts_taken relations place (v ∷ automata) (suc i) d (q ∷ parts) p within (same, letter, rest) is value =
    (same, letter, parts_taken relations (suc place) automata i d parts p (omega (arith, within)) rest is (value ∙ ap (λ (n : ℕ). value_at n (get_or automata i d).value) (omega arith)))

pub parts_more : (relations : List NamedRelation) (automata : List valued.ValuedName) (i : ℕ) (d : valued.ValuedName) (parts : List PartValue) (p : PartValue) → i < length automata → ArePartsFrom relations 0 (automata_in (take i automata)) parts
    → relation_named relations (get_or automata i d).name ≡ Some p.relation → p.value ≡ value_at i (get_or automata i d).value → ArePartsFrom relations 0 (automata_in (take (i + 1) automata)) (parts ++ p ∷ [])
parts_more relations automata i d parts p within are is value =
    let more : suc i ≡ i + 1 = omega arith in
    let none : i ≡ 0 + i = omega arith in
    subst (λ (n : ℕ). ArePartsFrom relations 0 (automata_in (take n automata)) (parts ++ p ∷ [])) more
    (parts_taken relations 0 automata i d parts p within are is (value ∙ ap (λ (n : ℕ). value_at n (get_or automata i d).value) none))
