-- What is made of the plan of a resolved formula has the free variables as its tracks.
use Rattle.std.specs.Prelude.{nat_lt}
use Rattle.std.specs.FinMap.{entries}
use Rattle.std.specs.List.{AllByRecursion, Contains}
use Rattle.std.proofs.Common.{◌≡◌, ◌⊎◌, inl, inr, ℕ, ◌≤◌, ◌<◌, ◌^◌, Bool, true, List, [], ◌∷◌, map, Some, refl, sym, ap, ◌∙◌, subst, arith}
use Rattle.std.proofs.lemmas.Bool.{ltb-true}
use Rattle.std.proofs.lemmas.List.Elements.{All-contains}
use Rattle.digit_tuple.specs.Names.{AreJoint, joint_names}
use Rattle.digit_tuple.proofs.JointNames.{AreJoint-joint_names}
use Rattle.digit_tuple.proofs.MemberLemmas.{Contains-from_map, Contains-map, Contains-none}
use Rattle.formula_parse.specs.Tokens.{Name}
use Rattle.formula_parse.specs.Trees.{Formula}
use Rattle.formula_plan.specs.OwnNames.{has_name, own_of}
use Rattle.term_plans.specs.Plans.{Plan, tracks}
use Rattle.term_plans.specs.Tracks.{Track, own, fresh, has_track}
use Rattle.formula_plan.proofs.OwnFormulas.{formula_own}
use Rattle.formula_resolve.specs.Clashes.{first_system}
use Rattle.formula_resolve.specs.FreeOccurrences.{named}
use Rattle.formula_resolve.specs.FreeVariables.{free_variables, variable_of}
use Rattle.formula_resolve.specs.FreeVariables as found
use Rattle.formula_resolve.specs.Headers.{Headers}
use Rattle.formula_resolve.specs.Occurrences.{all_occurrences, free_of, unbound}
use Rattle.formula_resolve.specs.declared.occurrence.Occurrence.{Occurrence}
use Rattle.formula_resolve.specs.declared.variable.Variable.{Variable}
use Rattle.formula_resolve.proofs.FreeLemmas.{free_is_unbound}
use Rattle.num_system.specs.Sealed.{SystemValue}
use Rattle.num_system.specs.Tracks.{systems_under}
use Rattle.number_relations.specs.Placed.{IsOrdered}
use Rattle.number_relations.specs.Relations.{RelationValue, system_named}
use Rattle.formula_build.specs.KnownNames.{AreKnownIn}
use Rattle.plan_relations.specs.Libraries.{LibraryValue, IsLibrary, IsSystemIn}
use Rattle.plan_relations.specs.Makings.{Makes}
use Rattle.formula_build.specs.Resolved.{AreDirections, plan_headers, system_under, systems_of}
use Rattle.formula_build.specs.Solutions.{IsFormed, IsResolved, formula_plan, direction_named}
use Rattle.plan_relations.specs.TrackNames.{track_name}
use Rattle.formula_build.specs.TrackSystems.{Fits}
use Rattle.formula_build.specs.VariableTracks.{AreSystemsOf, IsOverVariables}
use Rattle.plan_relations.proofs.AllLemmas.{all_contains, all_filter, all_map, all_more, all_of, all_two}
use Rattle.formula_build.proofs.FormulaOverLemmas.{plan_only}
use Rattle.formula_build.proofs.NameOrderLemmas.{entries_all, entries_have, names_ordered, same_names}
use Rattle.formula_build.proofs.OccurringLemmas.{free_own}
use Rattle.formula_build.proofs.PlaceOverLemmas.{OccursAnywhere}
use Rattle.formula_build.proofs.ResolvedLemmas.{Agrees, all_agree, agreed_system, all_kept}
use Rattle.formula_build.proofs.SolutionLemmas as solutions
use Rattle.formula_build.proofs.TermOverLemmas.{IsOwn}
use Rattle.formula_build.proofs.TrackSystemLemmas.{over_tracks}
use Rattle.formula_build.proofs.UnderTracks.{HasTracks}

-- the names of variables are those that a map has
variable_names : (es : List (Name × Name)) → map (λ (v : Variable). v.name) (map variable_of es) ≡ map (λ e. e.0) es
variable_names [] = refl
variable_names (e ∷ es) = ap (λ (ns : List Name). e.0 ∷ ns) (variable_names es)

variable_systems : (l : LibraryValue) (system : Name → SystemValue) (es : List (Name × Name)) → AllByRecursion (λ (e : Name × Name). IsSystemIn l e.1 (system e.0)) es
    → AreSystemsOf l (map variable_of es) (map system (map (λ e. e.0) es))
variable_systems l system [] all = tt
variable_systems l system (e ∷ es) all = (all.0, variable_systems l system es all.1)

is_zero : (n : ℕ) → nat_lt n 1 ≡ true → n ≡ 0
is_zero n below = let low : n < 1 = ltb-true n 1 below in omega (arith, low)

module _ (l : LibraryValue) (h : Headers) (f : Formula) (library : IsLibrary l) (formed : IsFormed f) (directions : AreDirections h direction_named) (resolved : IsResolved h f) (few : (formula_plan h f).next ≤ 2 ^ 64)
    (fits : Fits l (plan_headers h) direction_named) (known : AreKnownIn l f) where
  abbrev all : List Occurrence
  all = all_occurrences h f

  abbrev plan : Plan
  plan = (formula_plan h f).last

  -- the free variables, each with its system
  abbrev variables : List (Name × Name)
  variables = entries (found.systems_of (free_of 1 all))

  abbrev names : List Name
  names = map (λ e. e.0) variables

  -- they are own tracks of the plan, over their systems
  abbrev IsTrack : Name × Name → Type 0
  IsTrack e = (has_name (own_of f) e.0 ≡ true) × (system_under all unbound e.0 ≡ e.1)

  at_system : (o : Occurrence) → Agrees all o × (nat_lt o.binder 1 ≡ true) → system_under all unbound o.name ≡ o.system
  at_system o (agrees, free) =
      agreed_system all unbound o.system o.name
      (subst (λ (k : ℕ). first_system all (record { name = o.name; binder = k; system = o.system }) ≡ Some o.system) (is_zero o.binder free) agrees)

  free_tracks : AllByRecursion IsTrack (map named (free_of 1 all))
  free_tracks =
      let test : Name → Bool = λ n. nat_lt (unbound n) 1 in
      let owned = subst (AllByRecursion (λ (e : Name × Name). (test e.0 ≡ true) × (has_name (own_of f) e.0 ≡ true))) (sym (free_is_unbound h unbound 1 f)) (free_own h test f formed.0) in
      let agreed = all_filter (Agrees all) (λ (o : Occurrence). nat_lt o.binder 1) all (all_agree all resolved.clash) in
      all_two (λ (e : Name × Name). has_name (own_of f) e.0 ≡ true) (λ (e : Name × Name). system_under all unbound e.0 ≡ e.1) (map named (free_of 1 all))
      (all_more (λ (e : Name × Name). (test e.0 ≡ true) × (has_name (own_of f) e.0 ≡ true)) (λ (e : Name × Name). has_name (own_of f) e.0 ≡ true) (λ e is. is.1) (map named (free_of 1 all)) owned)
      (all_map (λ (e : Name × Name). system_under all unbound e.0 ≡ e.1) named (free_of 1 all)
      (all_more (λ (o : Occurrence). Agrees all o × (nat_lt o.binder 1 ≡ true)) (λ (o : Occurrence). system_under all unbound o.name ≡ o.system) at_system (free_of 1 all) agreed))

  are_tracks : AllByRecursion IsTrack variables
  are_tracks = entries_all IsTrack (map named (free_of 1 all)) free_tracks

  -- each occurrence that is free is of one of them
  abbrev IsFound : Occurrence → Type 0
  IsFound o = nat_lt o.binder 1 ≡ true → Contains names o.name

  all_found : AllByRecursion IsFound all
  all_found =
      all_kept (λ (o : Occurrence). Contains names o.name) (λ (o : Occurrence). nat_lt o.binder 1) all
      (all_of (λ (o : Occurrence). Contains names o.name) (free_of 1 all) (λ o there.
      entries_have (map named (free_of 1 all)) o.name (Contains-map (λ (e : Name × Name). e.0) (map named (free_of 1 all)) (named o) (Contains-map named (free_of 1 all) o there))))

  named_found : (t : Track) → IsOwn (OccursAnywhere IsFound unbound) t → Contains names (track_name t)
  named_found (own n) (s, is) = is refl
  named_found (fresh k) is = absurd is

  module _ (c r : RelationValue) (makes : Makes l plan c) (is : IsOrdered c r) where
    has : HasTracks l (systems_of all) (tracks plan) c
    has =
        over_tracks l (plan_headers h) direction_named fits library plan (systems_of all) c (solutions.named l h f library formed directions resolved few fits known)
        (solutions.known_plan l h f library formed directions resolved few fits known) (solutions.over l h f library formed directions resolved few fits known) makes

    joint : AreJoint c.names [] (joint_names c.names [])
    joint = AreJoint-joint_names c.names []

    has_own : (n : Name) → has_name (own_of f) n ≡ true → has_track (tracks plan) (own n) ≡ true
    has_own n there = (formula_own (plan_headers h) f 0).agree n ∙ there

    over_names : (n : Name) → Contains (joint_names c.names []) n → Contains names n
    over_names n there =
        elim (All-contains (λ m. Contains c.names m ⊎ Contains [] m) (joint_names c.names []) n joint.no_others there) [
          | inl here ↦ (
              let track_named = has.only n here in
              subst (Contains names) track_named.2 (named_found track_named.0 (plan_only h IsFound f unbound 1 0 resolved.arity all_found track_named.0 track_named.1)))
          | inr never ↦ absurd (Contains-none n never)
        ]

    back_names : (n : Name) → Contains names n → Contains (joint_names c.names []) n
    back_names n there =
        let entry = Contains-from_map (λ (e : Name × Name). e.0) variables n there in
        let track = all_contains IsTrack variables entry.0 are_tracks entry.1 in
        All-contains (Contains (joint_names c.names [])) c.names n joint.all_first (subst (Contains c.names) entry.2 (has.there (own entry.0.0) (has_own entry.0.0 track.0)))

    same : joint_names c.names [] ≡ names
    same = same_names (joint_names c.names []) names joint.ordered (names_ordered (found.systems_of (free_of 1 all))) over_names back_names

    -- each is over its system
    at_track : (e : Name × Name) → IsTrack e → IsSystemIn l e.1 (system_named c e.0)
    at_track e (there, system) = subst (λ (y : Name). IsSystemIn l y (system_named c e.0)) system (has.over (own e.0) (has_own e.0 there))

    pub made_tracks : IsOverVariables l (free_variables all) r
    made_tracks = record {
      names_are = is.names_are ∙ same ∙ sym (variable_names variables);
      systems_are = subst (AreSystemsOf l (free_variables all)) (sym (is.systems_are ∙ ap (systems_under c.names c.systems) same))
          (variable_systems l (system_named c) variables (all_more IsTrack (λ (e : Name × Name). IsSystemIn l e.1 (system_named c e.0)) at_track variables are_tracks));
    }
