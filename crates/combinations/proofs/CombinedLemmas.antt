-- The combined letter of numbers.
use Rattle.std.proofs.Common.{ℤ, [], ◌∷◌, ◌⊎◌, inl, inr, Some, refl, sym, ◌∙◌}
use Rattle.std.proofs.lemmas.List.Elements.{All-head, All-tail}
use Rattle.std.proofs.lemmas.Option.{same_Some}
use Rattle.number_relations.specs.Relations.{IsRelation, RelationHolds}
use Rattle.number_relations.proofs.RelationLemmas.{relations_decided}
use Rattle.combinations.specs.Parts.{PartValue}
use Rattle.combinations.specs.Combined.{IsCombined}
use Rattle.combinations.specs.Laws.{TuplesHaveCombinedLetters, TuplesHaveOneCombinedLetter}

pub one_combined : TuplesHaveOneCombinedLetter
one_combined rest [] ns b c first second = same_Some b c (sym first ∙ second)
one_combined rest (part ∷ parts) ns b c (inl first) (inl second) = first.1 ∙ sym second.1
one_combined rest (part ∷ parts) ns b c (inl first) (inr second) = absurd (second.0 first.0)
one_combined rest (part ∷ parts) ns b c (inr first) (inl second) = absurd (first.0 second.0)
one_combined rest (part ∷ parts) ns b c (inr first) (inr second) = one_combined rest parts ns b c first.1 second.1

pub some_combined : TuplesHaveCombinedLetters
some_combined rest [] ns are = (rest, refl)
some_combined rest (part ∷ parts) ns are =
    by (relations_decided part.relation ns (All-head (λ (p : PartValue). IsRelation p.relation) part parts are)) (some_combined rest parts ns (All-tail (λ (p : PartValue). IsRelation p.relation) part parts are))
  where
    by : RelationHolds part.relation ns ⊎ (RelationHolds part.relation ns → ⊥) → (letter : ℤ) × IsCombined (Some rest) parts ns letter → (letter : ℤ) × IsCombined (Some rest) (part ∷ parts) ns letter
    by (inl holds) found = (part.value, inl (holds, refl))
    by (inr not) found = (found.0, inr (not, found.1))
