-- Numbers that are assigned to variables whose names differ are found again under their names.
use Rattle.std.proofs.Common.{◌≡◌, ◌≢◌, ℕ, suc, ◌<◌, Bool, true, false, List, [], ◌∷◌, length, map, get_or, if◌then◌else◌, refl, ◌∙◌, arith}
use Rattle.std.specs.Str.{bytes_eq}
use Rattle.std.proofs.lemmas.Slice.Eq.{bytes_eq-Decides}
use Rattle.digit_tuple.specs.Names.{AreDistinct}
use Rattle.formula_truth.specs.Assignments.{Assignment, with_value}
use Rattle.formula_truth.proofs.TrialLemmas.{value_here}
use Rattle.definitions.specs.Trees.{Variable}
use Rattle.definitions.specs.TreeMeanings.{assigned}

-- under another name nothing changes
other_kept : (x y : List ℕ) (n : ℕ) (a : Assignment) → x ≢ y → with_value x n a y ≡ a y
other_kept x y n a apart = by (bytes_eq x y) (λ same. (bytes_eq-Decides x y).0 same)
  where
    by : (b : Bool) → (b ≡ true → x ≡ y) → (if b then n else a y) ≡ a y
    by true same = absurd (apart (same refl))
    by false same = refl

others_kept : (x : List ℕ) (n : ℕ) (a : Assignment) (names : List (List ℕ)) → ((j : ℕ) → j < length names → x ≢ get_or names j []) → map (with_value x n a) names ≡ map a names
others_kept x n a [] apart = refl
others_kept x n a (y ∷ names) apart =
    let first : with_value x n a y ≡ a y = other_kept x y n a (apart 0 (omega arith)) in
    let rest : map (with_value x n a) names ≡ map a names = others_kept x n a names (λ j within. apart (suc j) (omega (arith, within))) in
    λ i. first i ∷ rest i

abbrev pub names_of_variables : List Variable → List (List ℕ)
names_of_variables variables = map (λ (v : Variable). v.name) variables

pub assigned_numbers : (variables : List Variable) (ns : List ℕ) → AreDistinct (names_of_variables variables) → length ns ≡ length variables → map (assigned variables ns) (names_of_variables variables) ≡ ns
assigned_numbers [] [] distinct count = refl
assigned_numbers [] (n ∷ ns) distinct count = absurd (omega (arith, count))
assigned_numbers (v ∷ variables) [] distinct count = absurd (omega (arith, count))
assigned_numbers (v ∷ variables) (n ∷ ns) distinct count =
    let a : Assignment = assigned variables ns in
    let first : with_value v.name n a v.name ≡ n = value_here v.name n a in
    let others : map (with_value v.name n a) (names_of_variables variables) ≡ map a (names_of_variables variables) =
    others_kept v.name n a (names_of_variables variables) (λ j within. distinct 0 (suc j) [] (omega arith) (omega (arith, within))) in
    let rest : map a (names_of_variables variables) ≡ ns = assigned_numbers variables ns (λ i j d before within. distinct (suc i) (suc j) d (omega (arith, before)) (omega (arith, within))) (omega (arith, count)) in
    let tail : map (with_value v.name n a) (names_of_variables variables) ≡ ns = others ∙ rest in
    λ i. first i ∷ tail i
