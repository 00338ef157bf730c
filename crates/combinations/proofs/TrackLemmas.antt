-- Tracks of sealed systems with the same digits, direction and language.
use Rattle.std.proofs.Common.{◌≡◌, ℕ, ◌<◌, List, [], ◌∷◌, length, get_or, refl, sym, ap, ◌∙◌, arith}
use Rattle.std.specs.List.{AllByRecursion}
use Rattle.std.proofs.lemmas.List.{ext_get_or, get_or-map, length-map}
use Rattle.std.proofs.lemmas.List.Elements.{All-from_recursion, All-get_or}
use Rattle.digit_tuple.specs.Deterministic.{accepts_of}
use Rattle.digit_tuple.specs.Paddings.{in_order}
use Rattle.minimise.proofs.CanonicalLemmas.{canonical_forms}
use Rattle.num_system.specs.Sealed.{IsSealed, SystemValue, system_of}
use Rattle.num_system.specs.Tracks.{absent_system, systems_of, direction_of}
use Rattle.combinations.specs.Parts.{PartValue, systems_at}
use Rattle.combinations.specs.Shapes.{AreSameSystem, HaveSameTracks}

-- their automata of the language are equal
same_language : (s t : SystemValue) → IsSealed s → IsSealed t → AreSameSystem s t → s.language ≡ t.language
same_language s t is also same =
    canonical_forms s.language t.language is.language_canonical also.language_canonical (is.language.sizes ∙ ap (λ (d : ℕ). d ∷ []) same.digits ∙ sym also.language.sizes) same.language

-- and their words and numbers
same_system : (s t : SystemValue) → IsSealed s → IsSealed t → AreSameSystem s t → system_of s ≡ system_of t
same_system s t is also same =
    let language = same_language s t is also same in
    λ i. record { digits = same.digits i; test = λ w. accepts_of (language i) (in_order (same.direction i) w) }

sealed_at : (systems : List SystemValue) → AllByRecursion IsSealed systems → (track : ℕ) → track < length systems → IsSealed (get_or systems track absent_system)
sealed_at systems sealed track inside = All-get_or IsSealed systems track absent_system inside (All-from_recursion IsSealed systems sealed)

pub systems_same : (ss ts : List SystemValue) → AllByRecursion IsSealed ss → AllByRecursion IsSealed ts → HaveSameTracks ss ts → systems_of ss ≡ systems_of ts
systems_same ss ts sealed also same =
    ext_get_or (system_of absent_system) (systems_of ss) (systems_of ts) (length-map ss system_of ∙ same.count ∙ sym (length-map ts system_of))
    (λ track inside.
    let here : track < length ss = omega (arith, inside, length-map ss system_of) in
    let there : track < length ts = omega (arith, here, same.count) in
    get_or-map system_of ss track absent_system (system_of absent_system) here
    ∙ same_system (get_or ss track absent_system) (get_or ts track absent_system) (sealed_at ss sealed track here) (sealed_at ts also track there) (same.each track here)
    ∙ sym (get_or-map system_of ts track absent_system (system_of absent_system) there))

pub direction_same : (ss ts : List SystemValue) → HaveSameTracks ss ts → direction_of ss ≡ direction_of ts
direction_same [] [] same = refl
direction_same [] (t ∷ ts) same = absurd (omega (arith, same.count))
direction_same (s ∷ ss) [] same = absurd (omega (arith, same.count))
direction_same (s ∷ ss) (t ∷ ts) same = (same.each 0 (omega arith)).direction

-- the systems of a relation in the list
pub systems_at-is : (parts : List PartValue) (place : ℕ) (default : PartValue) → place < length parts → systems_at parts place ≡ (get_or parts place default).relation.systems
systems_at-is parts place default inside = get_or-map (λ (part : PartValue). part.relation.systems) parts place default [] inside
