-- Relations whose tracks are in byte order of their names.
use Rattle.std.specs.List.{AllPairs, Contains}
use Rattle.std.specs.Cmp.Lexicographic.{nat_list_cmp_total}
use Rattle.std.proofs.Common.{◌≡◌, ℕ, ◌+◌, ◌-◌, ◌<◌, ◌≤◌, List, [], map, get_or, ◌⊎◌, inl, inr, sym, ap, ◌∙◌, subst, arith}
use Rattle.std.proofs.lemmas.Bool.{cases_lt}
use Rattle.std.proofs.lemmas.List.Elements.{All-contains}
use Rattle.digit_tuple.specs.Names.{AreJoint, IsBytesBefore, joint_names}
use Rattle.digit_tuple.proofs.JointNames.{AreJoint-joint_names}
use Rattle.digit_tuple.proofs.MemberLemmas.{Contains-none}
use Rattle.num_system.specs.Tracks.{systems_under}
use Rattle.num_system.proofs.UnderNames.{under_own}
use Rattle.number_relations.specs.Relations.{IsRelation, RelationHolds, RelationValue}
use Rattle.number_relations.specs.Placed.{IsOrdered}
use Rattle.formula_build.proofs.NameOrderLemmas.{same_names}

-- the first names are in byte order
abbrev pub AscendTo : List (List ℕ) → ℕ → Type 0
AscendTo names count = (i j : ℕ) → i < j → j < count → IsBytesBefore (get_or names i []) (get_or names j [])

-- and so are more of them, where the last two are
pub ascend_more : (names : List (List ℕ)) (place : ℕ) → 0 < place → AscendTo names place → IsBytesBefore (get_or names (place - 1) []) (get_or names place []) → AscendTo names (place + 1)
ascend_more names place some before last i j less low = by (cases_lt j place)
  where
    step : j ≡ place → (i < place - 1) ⊎ (place - 1 ≤ i) → IsBytesBefore (get_or names i []) (get_or names j [])
    step same (inl early) =
        subst (λ k. IsBytesBefore (get_or names i []) (get_or names k [])) (sym same)
        (nat_list_cmp_total.trans (get_or names i []) (get_or names (place - 1) []) (get_or names place []) (before i (place - 1) early (omega arith)) last)
    step same (inr late) =
        let at : i ≡ place - 1 = omega (arith, late, less, same) in
        subst (λ k. IsBytesBefore (get_or names k []) (get_or names j [])) (sym at) (subst (λ k. IsBytesBefore (get_or names (place - 1) []) (get_or names k [])) (sym same) last)

    by : (j < place) ⊎ (place ≤ j) → IsBytesBefore (get_or names i []) (get_or names j [])
    by (inl early) = before i j less early
    by (inr late) = step (omega arith) (cases_lt i (place - 1))

-- names in byte order are in their order already
joint_same : (names : List (List ℕ)) → AllPairs IsBytesBefore names → joint_names names [] ≡ names
joint_same names ascending = same_names (joint_names names []) names joint.ordered ascending over (λ n there. All-contains (Contains (joint_names names [])) names n joint.all_first there)
  where
    joint : AreJoint names [] (joint_names names [])
    joint = AreJoint-joint_names names []

    over : (n : List ℕ) → Contains (joint_names names []) n → Contains names n
    over n there = elim (All-contains (λ m. Contains names m ⊎ Contains [] m) (joint_names names []) n joint.no_others there) [
      | inl here ↦ here
      | inr never ↦ absurd (Contains-none n never)
    ]

-- a relation whose names are in byte order is its own form with tracks in order
pub IsOrdered-itself : (r : RelationValue) → IsRelation r → AllPairs IsBytesBefore r.names → IsOrdered r r
IsOrdered-itself r is ascending =
    let same = joint_same r.names ascending in
    record {
      relation = is;
      names_are = sym same;
      systems_are = sym (ap (systems_under r.names r.systems) same ∙ under_own r.names r.systems is.tracked.distinct is.count);
      holds_of = λ number_of. (
        (λ holds. subst (λ (ns : List (List ℕ)). RelationHolds r (map number_of ns)) same holds),
        (λ holds. subst (λ (ns : List (List ℕ)). RelationHolds r (map number_of ns)) (sym same) holds),
      );
    }
