-- What it says that no variable has two systems, and that no two directions meet.
use Rattle.std.specs.List.{AllByRecursion, filter, fold}
use Rattle.std.specs.Option.{option_map}
use Rattle.std.specs.Ordering.{nat_cmp, is_lt}
use Rattle.std.specs.Cmp.Lexicographic.{slice_cmp}
use Rattle.std.specs.Str.{bytes_eq}
use Rattle.std.proofs.lemmas.Bool.{eq-eqb, false≢true}
use Rattle.std.proofs.lemmas.Option.{none-some}
use Rattle.std.proofs.lemmas.Slice.Eq.{bytes_eq-Decides}
use Rattle.std.proofs.Common.{◌≡◌, ℕ, ◌==◌, Bool, true, false, ◌&&◌, cond, if◌then◌else◌, List, [], ◌∷◌, ◌++◌, append_assoc, map, Option, None, Some, refl, sym, ap, ◌∙◌, subst}
use Rattle.digit_tuple.specs.declared.direction.Direction.{Direction}
use Rattle.formula_parse.specs.Tokens.{Name}
use Rattle.formula_resolve.specs.Occurrences.{Binders}
use Rattle.formula_resolve.specs.Clashes.{is_same_binding, first_system, clash_with, clash_after, first_clash}
use Rattle.formula_resolve.specs.Directions.{is_lsd, is_other_direction, lesser, least, first_met, opposed, other_met, conflict_between, conflict_among_parts}
use Rattle.formula_resolve.specs.declared.fault.ResolveFault.{ResolveFault}
use Rattle.formula_resolve.specs.declared.fault.ResolveFault.TheVariants.{Clash}
use Rattle.formula_resolve.specs.declared.occurrence.Occurrence.{Occurrence}
use Rattle.formula_resolve.specs.declared.direction.Conflict.{Conflict}
use Rattle.formula_build.specs.Resolved.{or_none, system_under}
use Rattle.formula_build.proofs.FactOverLemmas.{neither, not_other_direction}

-- an occurrence over the system of the first one under its binding
abbrev pub Agrees : List Occurrence → Occurrence → Type 0
Agrees all o = first_system all o ≡ Some o.system

same_binding : (o : Occurrence) → is_same_binding o o ≡ true
same_binding o = both (o.binder == o.binder) (bytes_eq o.name o.name) (eq-eqb o.binder o.binder refl) ((bytes_eq-Decides o.name o.name).1 refl)
  where
    both : (p q : Bool) → p ≡ true → q ≡ true → (p && q) ≡ true
    both true q first second = second
    both false q first second = absurd (false≢true first)

-- the first among some stays first where others come after them
first_stays : (prefix rest : List Occurrence) (o : Occurrence) (s : Name) → first_system prefix o ≡ Some s → first_system (prefix ++ rest) o ≡ Some s
first_stays [] rest o s is = absurd (none-some s is)
first_stays (p ∷ prefix) rest o s is = by (is_same_binding p o) is (first_stays prefix rest o s)
  where
    by : (b : Bool) → (if b then Some p.system else first_system prefix o) ≡ Some s → (first_system prefix o ≡ Some s → first_system (prefix ++ rest) o ≡ Some s)
        → (if b then Some p.system else first_system (prefix ++ rest) o) ≡ Some s
    by true is later = is
    by false is later = later is

-- an occurrence after none under its binding is the first
first_new : (prefix rest : List Occurrence) (o : Occurrence) → first_system prefix o ≡ None → first_system (prefix ++ o ∷ rest) o ≡ Some o.system
first_new [] rest o none = ap (λ (b : Bool). if b then Some o.system else first_system rest o) (same_binding o)
first_new (p ∷ prefix) rest o none = by (is_same_binding p o) none (first_new prefix rest o)
  where
    by : (b : Bool) → (if b then Some p.system else first_system prefix o) ≡ None → (first_system prefix o ≡ None → first_system (prefix ++ o ∷ rest) o ≡ Some o.system)
        → (if b then Some p.system else first_system (prefix ++ o ∷ rest) o) ≡ Some o.system
    by true none later = absurd (none-some p.system (sym none))
    by false none later = later none

no_clash : (s : Name) (o : Occurrence) → clash_with (Some s) o ≡ None → s ≡ o.system
no_clash s o = by (bytes_eq s o.system) refl
  where
    clash : ResolveFault
    clash = Clash o.name s o.system

    by : (b : Bool) → bytes_eq s o.system ≡ b → (if b then None else Some clash) ≡ None → s ≡ o.system
    by true same none = (bytes_eq-Decides s o.system).0 same
    by false apart none = absurd (none-some clash (sym none))

here_agrees : (prefix rest : List Occurrence) (o : Occurrence) (x : Option Name) → first_system prefix o ≡ x → clash_with x o ≡ None → Agrees (prefix ++ o ∷ rest) o
here_agrees prefix rest o None is none = first_new prefix rest o is
here_agrees prefix rest o (Some s) is none = first_stays prefix (o ∷ rest) o s is ∙ ap Some (no_clash s o none)

agree_after : (all prefix os : List Occurrence) → all ≡ prefix ++ os → clash_after prefix os ≡ None → AllByRecursion (Agrees all) os
agree_after all prefix [] same none = tt
agree_after all prefix (o ∷ os) same none =
    let parts = neither (clash_with (first_system prefix o) o) (clash_after (prefix ++ o ∷ []) os) none in (
      subst (λ (ps : List Occurrence). Agrees ps o) (sym same) (here_agrees prefix os o (first_system prefix o) refl parts.0),
      agree_after all (prefix ++ o ∷ []) os (same ∙ sym (append_assoc prefix (o ∷ []) os)) parts.1,
    )

-- where none clashes, all agree
pub all_agree : (all : List Occurrence) → first_clash all ≡ None → AllByRecursion (Agrees all) all
all_agree all none = agree_after all [] all refl none

-- the first system under a binding does not hang on the system at the place
first_same : (all : List Occurrence) (n : Name) (i : ℕ) (s t : Name) → first_system all (record { name = n; binder = i; system = s }) ≡ first_system all (record { name = n; binder = i; system = t })
first_same [] n i s t = refl
first_same (o ∷ all) n i s t = ap (λ (x : Option Name). if is_same_binding o (record { name = n; binder = i; system = s }) then Some o.system else x) (first_same all n i s t)

-- a variable is over the system of each occurrence that agrees
pub agreed_system : (all : List Occurrence) (b : Binders) (s n : Name) → Agrees all (record { name = n; binder = b n; system = s }) → system_under all b n ≡ s
agreed_system all b s n agrees = ap or_none (first_same all n (b n) [] s ∙ agrees)

-- of some that are kept by a test
pub all_kept : (P : Occurrence → Type 0) (test : Occurrence → Bool) (os : List Occurrence) → AllByRecursion P (filter test os) → AllByRecursion (λ o. test o ≡ true → P o) os
all_kept P test [] all = tt
all_kept P test (o ∷ os) all = by (test o) all (all_kept P test os)
  where
    by : (b : Bool) → AllByRecursion P (cond b (o ∷ filter test os) (filter test os)) → (AllByRecursion P (filter test os) → AllByRecursion (λ o. test o ≡ true → P o) os)
        → (b ≡ true → P o) × AllByRecursion (λ o. test o ≡ true → P o) os
    by true all rest = (λ is. all.0, rest all.1)
    by false all rest = (λ is. absurd (false≢true is), rest all)

none_kept : (test : Occurrence → Bool) (os : List Occurrence) → filter test os ≡ [] → AllByRecursion (λ o. test o ≡ false) os
none_kept test [] none = tt
none_kept test (o ∷ os) none = by (test o) refl none (none_kept test os)
  where
    IsEmpty : List Occurrence → Type 0
    IsEmpty [] = Unit {0}
    IsEmpty (p ∷ ps) = ⊥

    by : (b : Bool) → test o ≡ b → cond b (o ∷ filter test os) (filter test os) ≡ [] → (filter test os ≡ [] → AllByRecursion (λ o. test o ≡ false) os)
        → (test o ≡ false) × AllByRecursion (λ o. test o ≡ false) os
    by true is none rest = absurd (subst IsEmpty (sym none) tt)
    by false is none rest = (is, rest none)

-- where there is an occurrence, one is the least
some_least : (o : Occurrence) (os : List Occurrence) → fold lesser (Some o) os ≡ None → ⊥
some_least o [] none = none-some o (sym none)
some_least o (p ∷ os) none = by (is_lt (slice_cmp nat_cmp p.name o.name)) (some_least p os) (some_least o os) none
  where
    by : (b : Bool) → (fold lesser (Some p) os ≡ None → ⊥) → (fold lesser (Some o) os ≡ None → ⊥) → fold lesser (if b then Some p else Some o) os ≡ None → ⊥
    by true first second = first
    by false first second = second

no_least : (os : List Occurrence) → least os ≡ None → os ≡ []
no_least [] none = refl
no_least (o ∷ os) none = absurd (some_least o os none)

none_mapped : (x : Option Occurrence) → option_map (λ o. o.system) x ≡ None → x ≡ None
none_mapped None none = refl
none_mapped (Some o) none = absurd (none-some o.system (sym none))

none_met : (parts : List (List Occurrence)) → first_met parts ≡ None → AllByRecursion (λ (os : List Occurrence). os ≡ []) parts
none_met [] none = tt
none_met (os ∷ parts) none =
    let each = neither (option_map (λ (o : Occurrence). o.system) (least os)) (first_met parts) none in
    (no_least os (none_mapped (least os) each.0), none_met parts each.1)

module _ (direction : Name → Direction) (by_name : (s t : Name) → is_lsd s ≡ is_lsd t → direction s ≡ direction t) where
  abbrev pub FaceAll : Direction → List Occurrence → Type 0
  FaceAll d os = AllByRecursion (λ (o : Occurrence). direction o.system ≡ d) os

  not_opposed : (s : Name) (os : List Occurrence) → AllByRecursion (λ (o : Occurrence). is_other_direction s o.system ≡ false) os → FaceAll (direction s) os
  not_opposed s [] all = tt
  not_opposed s (o ∷ os) all = (sym (by_name s o.system (not_other_direction s o.system all.0)), not_opposed s os all.1)

  none_opposed : (s : Name) (parts : List (List Occurrence)) → AllByRecursion (λ (os : List Occurrence). os ≡ []) (map (opposed s) parts) → AllByRecursion (FaceAll (direction s)) parts
  none_opposed s [] all = tt
  none_opposed s (os ∷ parts) all = (not_opposed s os (none_kept (λ o. is_other_direction s o.system) os all.0), none_opposed s parts all.1)

  none_faces : (d : Direction) (parts : List (List Occurrence)) → AllByRecursion (λ (os : List Occurrence). os ≡ []) parts → AllByRecursion (FaceAll d) parts
  none_faces d [] all = tt
  none_faces d (os ∷ parts) all = (subst (FaceAll d) (sym all.0) tt, none_faces d parts all.1)

  no_other : (s : Name) (x : Option Name) → conflict_between (Some s) x ≡ None → x ≡ None
  no_other s None none = refl
  no_other s (Some t) none = absurd (some_conflict s t none)
    where
      some_conflict : (s t : Name) → conflict_between (Some s) (Some t) ≡ None → ⊥
      some_conflict s t none = let conflict : Conflict = record { first = s; other = t } in none-some conflict (sym none)

  by_first : (parts : List (List Occurrence)) (x : Option Name) → first_met parts ≡ x → conflict_between x (other_met x parts) ≡ None → (d : Direction) × AllByRecursion (FaceAll d) parts
  by_first parts None is none = (direction [], none_faces (direction []) parts (none_met parts is))
  by_first parts (Some s) is none = (direction s, none_opposed s parts (none_met (map (opposed s) parts) (no_other s (other_met (Some s) parts) none)))

  -- where no two directions meet, all occurrences have one direction
  pub no_conflict : (parts : List (List Occurrence)) → conflict_among_parts parts ≡ None → (d : Direction) × AllByRecursion (FaceAll d) parts
  no_conflict parts none = by_first parts (first_met parts) refl none
