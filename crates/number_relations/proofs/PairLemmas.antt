-- Relations of which all tracks are over one system.
use Rattle.std.proofs.Common.{◌≡◌, ℕ, zero, suc, ◌+◌, ◌<◌, List, [], ◌∷◌, map, length, get_or, refl, sym, ap, ◌∙◌, subst, ◌↔◌, IsTrue, arith}
use Rattle.std.specs.Bool.{⊤}
use Rattle.std.specs.List.{All, Contains}
use Rattle.std.proofs.lemmas.List.{get_or-map}
use Rattle.std.proofs.lemmas.List.Elements.{All-head, All-map, All-tail, recursion_from_All}
use Rattle.digit_tuple.specs.Deterministic.{Automaton, accepts_of}
use Rattle.digit_tuple.specs.Names.{place_of}
use Rattle.digit_tuple.specs.Paddings.{in_order}
use Rattle.digit_tuple.proofs.NameLemmas.{place_of-contained}
use Rattle.minimise.specs.Canonical.{IsCanonical}
use Rattle.numeration.specs.Words.{rank}
use Rattle.numeration.specs.Systems.{System, IsRepresentation}
use Rattle.numeration.specs.Representation.{Represents}
use Rattle.numeration.specs.Relations.{HoldsOf, IsLanguageOf, IsPairOf, IsSum}
use Rattle.numeration.proofs.ConstantLemmas.{one_track}
use Rattle.product_op.specs.Validity.{AreLanguages, no_language}
use Rattle.numeration.specs.SomeTracks.{no_system}
use Rattle.num_system.specs.Joined.{AreLanguagesOf}
use Rattle.num_system.specs.Sealed.{SystemValue, system_of, IsSealed}
use Rattle.num_system.specs.Tracks.{ShareDirection, absent_system, systems_under}
use Rattle.number_relations.specs.Relations.{RelationValue, HoldsOver}
use Rattle.number_relations.specs.Placed.{IsPlaced, each_once}
use Rattle.number_relations.specs.Comparisons.{IsOverOne}
use Rattle.num_system.proofs.HoldLemmas.{holds_representation, representation_holds}
use Rattle.number_relations.proofs.OnceLemmas.{once_others}

-- one system for each name
abbrev pub repeated : SystemValue → List (List ℕ) → List SystemValue
repeated s names = map (λ name. s) names

module _ (s : SystemValue) (under : List (List ℕ)) where
  repeated_at : (i : ℕ) → i < length under → get_or (repeated s under) i absent_system ≡ s
  repeated_at i within = get_or-map (λ name. s) under i [] absent_system within

  -- each name's system is that one
  pub repeated_under : (names : List (List ℕ)) → All (Contains under) names → systems_under under (repeated s under) names ≡ repeated s names
  repeated_under [] there = refl
  repeated_under (n ∷ names) there =
      ap (λ (t : SystemValue). t ∷ systems_under under (repeated s under) names) (repeated_at (place_of under n) (place_of-contained under n (All-head (Contains under) n names there)).0)
      ∙ ap (λ (ts : List SystemValue). s ∷ ts) (repeated_under names (All-tail (Contains under) n names there))

pub repeated_shared_direction : (s : SystemValue) (under : List (List ℕ)) → ShareDirection (repeated s under)
repeated_shared_direction s [] = tt
repeated_shared_direction s (n ∷ under) =
    recursion_from_All (λ (t : SystemValue). t.direction ≡ s.direction) (repeated s (n ∷ under)) (All-map (λ (t : SystemValue). t.direction ≡ s.direction) (λ name. s) (n ∷ under) (λ i d within. refl))

-- for two names
pub repeated_two : (s : SystemValue) (under : List (List ℕ)) → length under ≡ 2 → repeated s under ≡ s ∷ s ∷ []
repeated_two s [] two = absurd (omega (arith, two))
repeated_two s (x ∷ []) two = absurd (omega (arith, two))
repeated_two s (x ∷ y ∷ []) two = refl
repeated_two s (x ∷ y ∷ z ∷ under) two = absurd (omega (arith, two))

-- an automaton that is placed over one system
pub over_one_placed : (s : SystemValue) (under : List (List ℕ)) (d : Automaton) (r : RelationValue) → IsPlaced d (repeated s under) under r
    → IsOverOne s under (λ number_of. HoldsOver (repeated s under) d (map number_of under)) r
over_one_placed s under d r is = record {
  relation = is.relation;
  names_are = is.names_are;
  systems_are = is.systems_are ∙ repeated_under s under (each_once under) (once_others under);
  holds_of = is.holds_of;
}

-- over some tracks of one system
module _ (s : SystemValue) (sealed : IsSealed s) where
  abbrev one : System
  one = system_of s

  abbrev two : List SystemValue
  two = s ∷ s ∷ []

  abbrev three : List SystemValue
  three = s ∷ s ∷ s ∷ []

  -- pairs of related numbers
  pub pairs_hold : (R : ℕ → ℕ → Type 0) (d : Automaton) → HoldsOf s.direction (one ∷ one ∷ []) (IsPairOf R) d → (a b : ℕ) → HoldsOver two d (a ∷ b ∷ []) ↔ R a b
  pairs_hold R d holds a b = (there, back)
    where
      there : HoldsOver two d (a ∷ b ∷ []) → R a b
      there some =
          let found = representation_holds s.direction (one ∷ one ∷ []) (IsPairOf R) d holds (a ∷ b ∷ []) some in
          let first : found.0 ≡ a = ap (λ (ns : List ℕ). get_or ns 0 0) (sym found.2) in
          let second : found.1 ≡ b = ap (λ (ns : List ℕ). get_or ns 1 0) (sym found.2) in
          subst (R a) second (subst (λ n. R n found.1) first found.3)

      back : R a b → HoldsOver two d (a ∷ b ∷ [])
      back related = holds_representation s.direction (one ∷ one ∷ []) (IsPairOf R) d holds (sealed.laws, (sealed.laws, tt)) (a ∷ b ∷ []) refl (a, b, refl, related)

  -- sums
  pub sums_are : (d : Automaton) → HoldsOf s.direction (one ∷ one ∷ one ∷ []) IsSum d → (a b c : ℕ) → HoldsOver three d (a ∷ b ∷ c ∷ []) ↔ (a + b ≡ c)
  sums_are d holds a b c = (there, back)
    where
      there : HoldsOver three d (a ∷ b ∷ c ∷ []) → a + b ≡ c
      there some =
          let found = representation_holds s.direction (one ∷ one ∷ one ∷ []) IsSum d holds (a ∷ b ∷ c ∷ []) some in
          let first : found.0 ≡ a = ap (λ (ns : List ℕ). get_or ns 0 0) (sym found.2) in
          let second : found.1 ≡ b = ap (λ (ns : List ℕ). get_or ns 1 0) (sym found.2) in
          let third : found.0 + found.1 ≡ c = ap (λ (ns : List ℕ). get_or ns 2 0) (sym found.2) in
          omega (arith, first, second, third)

      back : a + b ≡ c → HoldsOver three d (a ∷ b ∷ c ∷ [])
      back sum =
          holds_representation s.direction (one ∷ one ∷ one ∷ []) IsSum d holds (sealed.laws, (sealed.laws, (sealed.laws, tt))) (a ∷ b ∷ c ∷ []) refl (a, b, ap (λ n. a ∷ b ∷ n ∷ []) (sym sum))

  -- a language holds of any number
  pub language_holds : (d : Automaton) → IsLanguageOf s.direction one d → HoldsOf s.direction (one ∷ []) (λ ns. ⊤) d
  language_holds d is = record { sizes = is.sizes; accepts = λ w over. (there w, back w) }
    where
      there : (w : List ℕ) → IsTrue (accepts_of d w) → (ns : List ℕ) × Represents (one ∷ []) (in_order s.direction w) ns × ⊤
      there w accepted =
          let v : List ℕ = in_order s.direction w in (
            rank one.digits one.test v ∷ [],
            (subst (λ (u : List ℕ). IsRepresentation one u (rank one.digits one.test v)) (sym (one_track v)) (sym (is.accepts w) ∙ accepted, refl), tt),
            tt,
          )

      back : (w : List ℕ) → (ns : List ℕ) × Represents (one ∷ []) (in_order s.direction w) ns × ⊤ → IsTrue (accepts_of d w)
      back w ([], represented, _) = absurd represented
      back w (n ∷ ns, represented, _) = is.accepts w ∙ subst (λ (u : List ℕ). IsTrue (one.test u)) (one_track (in_order s.direction w)) represented.0.0

  pub numbers_are : (d : Automaton) → IsLanguageOf s.direction one d → (n : ℕ) → HoldsOver (s ∷ []) d (n ∷ [])
  numbers_are d is n = holds_representation s.direction (one ∷ []) (λ ns. ⊤) d (language_holds d is) (sealed.laws, tt) (n ∷ []) refl tt

  -- its language on both tracks
  pub two_languages : (sizes : List ℕ) → sizes ≡ s.digits ∷ s.digits ∷ [] → AreLanguages sizes (s.language ∷ s.language ∷ [])
  two_languages sizes same = subst (λ (ns : List ℕ). AreLanguages ns (s.language ∷ s.language ∷ [])) (sym same) (record { count = refl; each = each })
    where
      each : (track : ℕ) → track < 2 → IsCanonical (get_or (s.language ∷ s.language ∷ []) track no_language) × ((get_or (s.language ∷ s.language ∷ []) track no_language).sizes ≡ get_or (s.digits ∷ s.digits ∷ []) track 0 ∷ [])
      each zero within = (sealed.language_canonical, sealed.language.sizes)
      each (suc zero) within = (sealed.language_canonical, sealed.language.sizes)
      each (suc (suc track)) within = absurd (omega (arith, within))

  pub two_languages_of : AreLanguagesOf s.direction (one ∷ one ∷ []) (s.language ∷ s.language ∷ [])
  two_languages_of = record { count = refl; each = each }
    where
      each : (i : ℕ) → i < 2 → IsLanguageOf s.direction (get_or (one ∷ one ∷ []) i no_system) (get_or (s.language ∷ s.language ∷ []) i no_language)
      each zero within = sealed.language
      each (suc zero) within = sealed.language
      each (suc (suc i)) within = absurd (omega (arith, within))
