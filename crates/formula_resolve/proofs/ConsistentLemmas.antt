-- Without a clash each binding has one system.
use Rattle.std.proofs.Common.{◌≡◌, refl, sym, ap, subst, ◌∙◌, true, false, cond, List, [], ◌∷◌, ◌++◌, Option, None, Some, bytes_eq, append_assoc, inl, inr}
use Rattle.std.proofs.lemmas.Slice.Eq.{bytes_eq-Decides}
use Rattle.std.specs.List.{Contains}
use Rattle.std.specs.Option.{option_or}
use Rattle.std.specs.FinMap.{get}
use Rattle.digit_tuple.proofs.MemberLemmas.{Contains-none, Contains-cases}
use Rattle.formula_parse.specs.Tokens.{Name}
use Rattle.formula_resolve.specs.Clashes.{is_same_binding, first_system, clash_with, clash_after}
use Rattle.formula_resolve.specs.Firsts.{binding, firsts_of}
use Rattle.formula_resolve.specs.Laws.{NoClashIsConsistent}
use Rattle.formula_resolve.specs.declared.occurrence.Occurrence.{Occurrence}
use Rattle.formula_resolve.specs.declared.fault.ResolveFault.{ResolveFault}
use Rattle.formula_resolve.specs.declared.fault.ResolveFault.TheVariants.{Clash}
use Rattle.formula_resolve.proofs.AnswerLemmas.{none_of_both}
use Rattle.formula_resolve.proofs.ClashLemmas.{firsts_are_first}

first_system-append : (prefix rest : List Occurrence) (p : Occurrence) → first_system (prefix ++ rest) p ≡ option_or (first_system prefix p) (first_system rest p)
first_system-append [] rest p = refl
first_system-append (o ∷ os) rest p =
    elim (is_same_binding o p) as (λ t. cond t (Some o.system) (first_system (os ++ rest) p) ≡ option_or (cond t (Some o.system) (first_system os p)) (first_system rest p)) [ true ↦ refl | false ↦ first_system-append os rest p ]

same_itself : (o : Occurrence) → is_same_binding o o ≡ true
same_itself o = (bytes_eq-Decides (binding o) (binding o)).1 refl

not_clash : (f : ResolveFault) → Some f ≡ None → ⊥
not_clash f none = cc

-- an occurrence that clashes with none before it has the system of the first one
at_first : (s : Option Name) (o : Occurrence) (rest : List Occurrence) → clash_with s o ≡ None → option_or s (first_system (o ∷ rest) o) ≡ Some o.system
at_first None o rest none = ap (λ t. cond t (Some o.system) (first_system rest o)) (same_itself o)
at_first (Some s) o rest none =
    elim (bytes_eq s o.system) as (λ t. bytes_eq s o.system ≡ t → cond t None (Some (Clash o.name s o.system)) ≡ None → Some s ≡ Some o.system) [
      | true ↦ λ same h. ap (λ n. Some n) ((bytes_eq-Decides s o.system).0 same)
      | false ↦ λ apart h. absurd (not_clash (Clash o.name s o.system) h)
    ] refl none

system_in : (prefix rest : List Occurrence) → clash_after prefix rest ≡ None → (p : Occurrence) → Contains rest p → first_system (prefix ++ rest) p ≡ Some p.system
system_in prefix [] none p there = absurd (Contains-none p there)
system_in prefix (o ∷ os) none p there =
    elim (Contains-cases o os p there) [
      | inl same ↦ subst (λ (q : Occurrence). first_system (prefix ++ o ∷ os) q ≡ Some q.system) same
          (first_system-append prefix (o ∷ os) o ∙ at_first (first_system prefix o) o os (none_of_both (clash_with (first_system prefix o) o) (clash_after (prefix ++ o ∷ []) os) none).0)
      | inr later ↦ ap (λ qs. first_system qs p) (sym (append_assoc prefix (o ∷ []) os))
          ∙ system_in (prefix ++ o ∷ []) os (none_of_both (clash_with (first_system prefix o) o) (clash_after (prefix ++ o ∷ []) os) none).1 p later
    ]

same_some : (s t : Name) → Some s ≡ Some t → s ≡ t
same_some s t same = cc

pub no_clash_is_consistent : NoClashIsConsistent
no_clash_is_consistent os none o p o_there p_there same =
    same_some o.system p.system (sym (system_in [] os none o o_there) ∙ first_same ∙ system_in [] os none p p_there)
  where
    first_same : first_system os o ≡ first_system os p
    first_same = sym (firsts_are_first os o) ∙ ap (get (firsts_of os)) (sym ((bytes_eq-Decides (binding p) (binding o)).0 same)) ∙ firsts_are_first os p
