-- Relations all of whose tracks are over one system.
use Rattle.std.proofs.Common.{◌≡◌, ℕ, List, [], ◌∷◌, map, sym, ap, ◌∙◌, subst, refl}
use Rattle.std.specs.List.{AllByRecursion, Contains}
use Rattle.std.proofs.lemmas.List.Elements.{All-contains, All-from_recursion}
use Rattle.num_system.specs.Sealed.{SystemValue}
use Rattle.number_relations.specs.Relations.{RelationValue, IsRelation}
use Rattle.number_relations.specs.Placed.{each_once}
use Rattle.number_relations.specs.Comparisons.{IsOverOne}
use Rattle.number_relations.specs.Joins.{AgreeOnSystems, HaveOneDirection}
use Rattle.num_system.proofs.UnderNames.{under_each}
use Rattle.number_relations.proofs.OnceLemmas.{once_contains, once_others}

module _ (system : SystemValue) where
  abbrev pub AreIt : List SystemValue → Type 0
  AreIt systems = AllByRecursion (λ (s : SystemValue). s ≡ system) systems

  it_at : (systems : List SystemValue) (s : SystemValue) → AreIt systems → Contains systems s → s ≡ system
  it_at systems s all found = All-contains (λ (t : SystemValue). t ≡ system) systems s (All-from_recursion (λ (t : SystemValue). t ≡ system) systems all) found

  -- two such relations agree, and have one direction
  pub agree_over : (a b : RelationValue) → IsRelation a → IsRelation b → AreIt a.systems → AreIt b.systems → AgreeOnSystems a b
  agree_over a b is_a is_b first second name here there =
      under_each (λ (s : SystemValue). s ≡ system) a.names a.systems name is_a.count first here
      ∙ sym (under_each (λ (s : SystemValue). s ≡ system) b.names b.systems name is_b.count second there)

  pub direction_over : (a b : RelationValue) → AreIt a.systems → AreIt b.systems → HaveOneDirection a b
  direction_over a b first second s t here there = ap (λ (v : SystemValue). v.direction) (it_at a.systems s first here ∙ sym (it_at b.systems t second there))

  it_repeated : (names : List (List ℕ)) → AreIt (map (λ name. system) names)
  it_repeated [] = tt
  it_repeated (n ∷ names) = (refl, it_repeated names)

  module _ (names : List (List ℕ)) (P : (List ℕ → ℕ) → Type 0) (r : RelationValue) (is : IsOverOne system names P r) where
    pub over_systems : AreIt r.systems
    over_systems = subst AreIt (sym is.systems_are) (it_repeated (each_once names))

    pub over_named : (name : List ℕ) → Contains names name → Contains r.names name
    over_named name found = subst (λ (ns : List (List ℕ)). Contains ns name) (sym is.names_are) (once_contains names name found)

    pub over_among : (name : List ℕ) → Contains r.names name → Contains names name
    over_among name found = All-contains (Contains names) (each_once names) name (once_others names) (subst (λ (ns : List (List ℕ)). Contains ns name) is.names_are found)
