-- Names of tracks in byte order.
use Rattle.std.proofs.Common.{◌≡◌, ℕ, inl, inr, List, [], length, get_or, sym, ap, ◌∙◌, arith}
use Rattle.std.specs.List.{AllPairs}
use Rattle.std.specs.Ordering.{nat_cmp}
use Rattle.std.specs.Cmp.Lexicographic.{slice_cmp}
use Rattle.std.specs.declared.cmp.Ordering.TheVariants.{Less, Equal}
use Rattle.std.proofs.lemmas.Cmp.{nat_list_cmp_total, tied_itself}
use Rattle.digit_tuple.specs.Names.{AreDistinct, IsBytesBefore, AreJoint}
use Rattle.pad_rename.specs.Substitution.{IsSubstitution}
use Rattle.pad_rename.proofs.SubstitutionLemmas.{IsSubstitution-distinct}

-- in byte order no two names are the same
AreDistinct-ordered : (names : List (List ℕ)) → AllPairs IsBytesBefore names → AreDistinct names
AreDistinct-ordered names up i j d before within same =
    let less : slice_cmp nat_cmp (get_or names i d) (get_or names j d) ≡ Less = up i j d before within in
    let tied : slice_cmp nat_cmp (get_or names i d) (get_or names i d) ≡ Equal = tied_itself nat_list_cmp_total (get_or names i d) in
    let both : Less ≡ Equal = sym less ∙ ap (λ n. slice_cmp nat_cmp (get_or names i d) n) (sym same) ∙ tied in
    cc

-- the tracks may be under new names in byte order
pub IsSubstitution-renaming : (sizes : List ℕ) (names ordered : List (List ℕ)) → length names ≡ length sizes → AreDistinct names → AreJoint names [] ordered → IsSubstitution sizes names ordered
IsSubstitution-renaming sizes names ordered count distinct joint =
    IsSubstitution-distinct sizes names ordered count distinct (AreDistinct-ordered ordered joint.ordered) joint.all_first
    (λ i d within. elim (joint.no_others i d within) [
      | inl there ↦ there
      | inr none ↦ absurd (omega (arith, none.1))
    ])
