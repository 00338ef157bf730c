-- The plan of a resolved formula is over systems: a variable over that of its first occurrence.
use Rattle.std.specs.Prelude.{nat_lt}
use Rattle.std.specs.List.{AllByRecursion, filter}
use Rattle.std.specs.Option.{option_or}
use Rattle.std.specs.Str.{bytes_eq}
use Rattle.std.proofs.lemmas.Bool.{lt-ltb, false≢true}
use Rattle.std.proofs.lemmas.Slice.Eq.{bytes_eq-Decides}
use Rattle.std.proofs.Common.{◌≡◌, ℕ, ◌+◌, ◌<◌, Bool, true, false, ◌||◌, if◌then◌else◌, List, [], ◌∷◌, ◌++◌, map, None, Some, inl, inr, refl, sym, ap, ◌∙◌, subst, arith}
use Rattle.digit_tuple.specs.declared.direction.Direction.{Direction}
use Rattle.formula_parse.specs.Tokens.{Name, Quantifier, some, every, infinite, less}
use Rattle.formula_parse.specs.Trees.{Names, no_names, names, and, Formula, atom, negated, chain, quantified, marked, Operands, no_operands, operands}
use Rattle.term_plans.specs.Tracks.{Track, own, fresh, same_track, has_track, without}
use Rattle.term_plans.specs.Plans.{Plan, compared, joined, complement, projected, tracks, Made}
use Rattle.formula_plan.specs.FactPlans as plans
use Rattle.formula_plan.specs.FormulaPlans.{chained, kept, projected_all, for_every, for_infinitely, for_infinitely_many, quantified_made, plan_of, operand_plans}
use Rattle.formula_resolve.specs.Headers.{Headers}
use Rattle.formula_resolve.specs.Mentions.{marks, mentions, mentions_among}
use Rattle.formula_resolve.specs.Arity.{misuse, first_misuse}
use Rattle.formula_resolve.specs.Occurrences.{Binders, unbound, is_listed, bound_by, occurrences, occurrences_among, all_occurrences}
use Rattle.formula_resolve.specs.FreeOccurrences.{named, system_among, free_system}
use Rattle.formula_resolve.specs.Clashes.{first_system, first_clash}
use Rattle.formula_resolve.specs.Directions.{conflict_in, conflict_in_operands, conflict_among_parts, part_of, parts_among, first_conflict}
use Rattle.formula_resolve.specs.declared.mention.Mention.{Mention}
use Rattle.formula_resolve.specs.declared.occurrence.Occurrence.{Occurrence}
use Rattle.formula_build.specs.TrackSystems.{TrackSystems, with_system, HaveOneDirection, IsOver}
use Rattle.formula_build.specs.Resolved.{plan_headers, ShareDirection, AreDirections, or_none, system_under, systems_of}
use Rattle.term_plans.proofs.TrackLemmas.{same_self, first_is}
use Rattle.term_plans.proofs.AgreementLemmas.{has_first, has_second}
use Rattle.plan_relations.proofs.AllLemmas.{all_first, all_second, all_two, all_filter, all_of}
use Rattle.formula_build.proofs.HasLemmas.{has_cases, has_either, stays_apart, other_track_stays}
use Rattle.formula_build.proofs.VariableSystemLemmas.{IsOutside, outside, member_found, found_member, free_system_is, among_up}
use Rattle.formula_build.proofs.DirectionLemmas.{tracks_share}
use Rattle.formula_build.proofs.OverLemmas.{each_among, over_depends, over_projected, Only, only_more, only_joined, Faces, over_joined}
use Rattle.formula_build.proofs.TermOverLemmas.{IsOwn}
use Rattle.formula_build.proofs.PlaceOverLemmas.{on_by, OccursAnywhere}
use Rattle.formula_build.proofs.FactOverLemmas.{neither, fact_only, fact_over}
use Rattle.formula_build.proofs.ResolvedLemmas.{Agrees, all_agree, agreed_system, all_kept, FaceAll, no_conflict}

-- what is right of two parts is right of each
pub right_both : (h : Headers) (ms ns : List Mention) → first_misuse h (ms ++ ns) ≡ None → (first_misuse h ms ≡ None) × (first_misuse h ns ≡ None)
right_both h [] ns right = (refl, right)
right_both h (m ∷ ms) ns right =
    let first = neither (misuse h m) (first_misuse h (ms ++ ns)) right in
    let rest = right_both h ms ns first.1 in
    (ap (λ x. option_or x (first_misuse h ms)) first.0 ∙ rest.0, rest.1)

-- whether a track is that of a listed variable
abbrev in_names : Names → Track → Bool
in_names ns (own n) = is_listed n ns
in_names ns (fresh i) = false

not_both : (p q : Bool) → p ≡ false → q ≡ false → (p || q) ≡ false
not_both p q first second = ap (λ b. b || q) first ∙ second

other_name : (m n : Name) → bytes_eq m n ≡ false → bytes_eq n m ≡ false
other_name m n apart = by (bytes_eq n m) refl
  where
    by : (b : Bool) → bytes_eq n m ≡ b → b ≡ false
    by true same = absurd (false≢true (sym apart ∙ (bytes_eq-Decides m n).1 (sym ((bytes_eq-Decides n m).0 same))))
    by false is = refl

-- a track that is another than the last variable of a list is in the list, if in the others
listed_more : (ns : Names) (n : Name) (u : Track) → in_names ns u ≡ false → same_track (own n) u ≡ false → in_names (names ns n) u ≡ false
listed_more ns n (own m) none apart = not_both (is_listed m ns) (bytes_eq m n) none (other_name n m apart)
listed_more ns n (fresh i) none apart = refl

-- a track that is not there is not this one
not_there : (p : Plan) (n : Name) (u : Track) → has_track (tracks p) (own n) ≡ false → has_track (tracks p) u ≡ true → same_track (own n) u ≡ false
not_there p n (own m) none is = by (bytes_eq n m) refl
  where
    by : (b : Bool) → bytes_eq n m ≡ b → b ≡ false
    by true same = absurd (false≢true (sym none ∙ subst (λ (x : Name). has_track (tracks p) (own x) ≡ true) (sym ((bytes_eq-Decides n m).0 same)) is))
    by false apart = refl
not_there p n (fresh i) none is = refl

in_none : (u : Track) → in_names no_names u ≡ false
in_none (own n) = refl
in_none (fresh i) = refl

-- the tracks after the projections of listed variables are those that are not listed
kept_tracks : (ns : Names) (p : Plan) (u : Track) → has_track (tracks (projected_all (kept ns (tracks p)) p)) u ≡ true → (has_track (tracks p) u ≡ true) × (in_names ns u ≡ false)
kept_tracks no_names p u = λ is. (is, in_none u)
kept_tracks (names ns n) p u = by (has_track (tracks p) (own n)) refl (kept_tracks ns (projected (own n) p) u) (kept_tracks ns p u)
  where
    by : (b : Bool) → has_track (tracks p) (own n) ≡ b
        → (has_track (tracks (projected_all (kept ns (without (own n) (tracks p))) (projected (own n) p))) u ≡ true → (has_track (without (own n) (tracks p)) u ≡ true) × (in_names ns u ≡ false))
        → (has_track (tracks (projected_all (kept ns (tracks p)) p)) u ≡ true → (has_track (tracks p) u ≡ true) × (in_names ns u ≡ false))
        → has_track (tracks (projected_all (if b then n ∷ kept ns (without (own n) (tracks p)) else kept ns (tracks p)) p)) u ≡ true
        → (has_track (tracks p) u ≡ true) × (in_names (names ns n) u ≡ false)
    by true there first second is =
        let known = first is in
        let apart = stays_apart (own n) (tracks p) u known.0 in
        (apart.0, listed_more ns n u known.1 apart.1)
    by false none first second is = let known = second is in (known.0, listed_more ns n u known.1 (not_there p n u none known.0))

same_projections : (ks : List Name) (p q : Plan) → tracks p ≡ tracks q → tracks (projected_all ks p) ≡ tracks (projected_all ks q)
same_projections [] p q same = same
same_projections (k ∷ ks) p q same = same_projections ks (projected (own k) p) (projected (own k) q) (ap (without (own k)) same)

every_tracks : (ks : List Name) (m : Made) → tracks (for_every ks m).last ≡ tracks (projected_all ks m.last)
every_tracks [] m = refl
every_tracks (k ∷ ks) m = same_projections (k ∷ ks) (complement m.last) m.last refl

-- `I` drops its variable, and its fresh bound
pub infinitely_has : (s n : Name) (m : Made) (u : Track) → has_track (tracks (for_infinitely s n m).last) u ≡ true → (has_track (tracks m.last) u ≡ true) × (same_track (own n) u ≡ false)
infinitely_has s n m u is =
    let unbound_track = stays_apart (fresh m.next) (without (own n) (tracks m.last ++ (fresh m.next ∷ own n ∷ []))) u is in
    let apart = stays_apart (own n) (tracks m.last ++ (fresh m.next ∷ own n ∷ [])) u unbound_track.0 in (
      elim (has_either (tracks m.last) (fresh m.next ∷ own n ∷ []) u apart.0) [
        | inl there ↦ there
        | inr added_here ↦ absurd (elim (has_cases (fresh m.next) (own n ∷ []) u added_here) [
          | inl same ↦ other (fresh m.next) unbound_track.1 same
          | inr later ↦ elim (has_cases (own n) [] u later) [ inl same ↦ other (own n) apart.1 same | inr none ↦ false≢true none ]
        ])
      ],
      apart.1,
    )
  where
    other : (t : Track) → same_track t u ≡ false → t ≡ u → ⊥
    other t none same = false≢true (sym none ∙ ap (same_track t) (sym same) ∙ same_self t)

many_has : (on : Name → Name) (ns : Names) (m : Made) (u : Track) → has_track (tracks (for_infinitely_many on ns m).last) u ≡ true → (has_track (tracks m.last) u ≡ true) × (in_names ns u ≡ false)
many_has on no_names m u is = (is, in_none u)
many_has on (names ns n) m u is = by (has_track (tracks m.last) (own n)) refl (many_has on ns (for_infinitely (on n) n m) u) (many_has on ns m u) is
  where
    by : (b : Bool) → has_track (tracks m.last) (own n) ≡ b
        → (has_track (tracks (for_infinitely_many on ns (for_infinitely (on n) n m)).last) u ≡ true → (has_track (tracks (for_infinitely (on n) n m).last) u ≡ true) × (in_names ns u ≡ false))
        → (has_track (tracks (for_infinitely_many on ns m).last) u ≡ true → (has_track (tracks m.last) u ≡ true) × (in_names ns u ≡ false))
        → has_track (tracks (for_infinitely_many on ns (if b then for_infinitely (on n) n m else m)).last) u ≡ true
        → (has_track (tracks m.last) u ≡ true) × (in_names (names ns n) u ≡ false)
    by true there first second now =
        let known = first now in
        let apart = infinitely_has (on n) n m u known.0 in
        (apart.0, listed_more ns n u known.1 apart.1)
    by false none first second now = let known = second now in (known.0, listed_more ns n u known.1 (not_there m.last n u none known.0))

pub quantified_has : (q : Quantifier) (on : Name → Name) (ns : Names) (m : Made) (u : Track) → has_track (tracks (quantified_made q on ns m).last) u ≡ true
    → (has_track (tracks m.last) u ≡ true) × (in_names ns u ≡ false)
quantified_has some on ns m u is = kept_tracks ns m.last u is
quantified_has every on ns m u is = kept_tracks ns m.last u (subst (λ (ts : List Track). has_track ts u ≡ true) (every_tracks (kept ns (tracks m.last)) m) is)
quantified_has infinite on ns m u is = many_has on ns m u is

-- a variable that is not listed has the binding that it had
other_binder : (i : ℕ) (ns : Names) (b : Binders) (n : Name) → is_listed n ns ≡ false → bound_by i ns b n ≡ b n
other_binder i ns b n none = ap (λ (c : Bool). if c then i else b n) none

quantified_only : (Q : Occurrence → Type 0) (q : Quantifier) (on : Name → Name) (ns : Names) (b : Binders) (i : ℕ) (m : Made) → Only (IsOwn (OccursAnywhere Q (bound_by i ns b))) m.last
    → Only (IsOwn (OccursAnywhere Q b)) (quantified_made q on ns m).last
quantified_only Q q on ns b i m only = λ u is. let known = quantified_has q on ns m u is in outside u known.1 (only u known.0)
  where
    outside : (u : Track) → in_names ns u ≡ false → IsOwn (OccursAnywhere Q (bound_by i ns b)) u → IsOwn (OccursAnywhere Q b) u
    outside (own n) none occurs = (occurs.0, subst (λ (k : ℕ). Q (record { name = n; binder = k; system = occurs.0 })) (other_binder i ns b n none) occurs.1)
    outside (fresh k) none occurs = absurd occurs

-- the tracks of a formula's plan are those of variables that occur in it, free
mutual
  pub plan_only : (h : Headers) (Q : Occurrence → Type 0) (f : Formula) (b : Binders) (i k : ℕ) → first_misuse h (mentions f) ≡ None → AllByRecursion Q (occurrences h b i f).list
      → Only (IsOwn (OccursAnywhere Q b)) (plan_of (plan_headers h) f k).last
  plan_only h Q (atom x) b i k right all = fact_only h b Q x.system x.fact k right all
  plan_only h Q (negated f) b i k right all = plan_only h Q f b i k right all
  plan_only h Q (chain os f) b i k right all =
      let next = (operand_plans (plan_headers h) os k).next in
      let prefix = occurrences_among h b i os in
      let last = occurrences h b prefix.next f in
      let rights = right_both h (mentions_among os) (mentions f) right in
      operands_only h Q os b i k rights.0 (all_first Q prefix.list last.list all) (plan_of (plan_headers h) f next).last
      (plan_only h Q f b prefix.next next rights.1 (all_second Q prefix.list last.list all))
  plan_only h Q (quantified q ns f) b i k right all =
      quantified_only Q q ((plan_headers h).of_variable f) ns b i (plan_of (plan_headers h) f k) (plan_only h Q f (bound_by i ns b) (i + 1) k right all)
  plan_only h Q (marked ms f) b i k right all = plan_only h Q f b i k (right_both h (marks ms) (mentions f) right).1 all

  operands_only : (h : Headers) (Q : Occurrence → Type 0) (os : Operands) (b : Binders) (i k : ℕ) → first_misuse h (mentions_among os) ≡ None → AllByRecursion Q (occurrences_among h b i os).list
      → (q : Plan) → Only (IsOwn (OccursAnywhere Q b)) q → Only (IsOwn (OccursAnywhere Q b)) (chained (operand_plans (plan_headers h) os k).operands q)
  operands_only h Q no_operands b i k right all q only = only
  operands_only h Q (operands os f j) b i k right all q only =
      let ps = operand_plans (plan_headers h) os k in
      let p = (plan_of (plan_headers h) f ps.next).last in
      let prefix = occurrences_among h b i os in
      let last = occurrences h b prefix.next f in
      let rights = right_both h (mentions_among os) (mentions f) right in
      only_joined (IsOwn (OccursAnywhere Q b)) j (chained ps.operands p) q
      (operands_only h Q os b i k rights.0 (all_first Q prefix.list last.list all) p (plan_only h Q f b prefix.next ps.next rights.1 (all_second Q prefix.list last.list all)))
      only

-- all binders are below the number of the next quantifier
abbrev AreBelow : Binders → ℕ → Type 0
AreBelow b i = (n : Name) → b n < i

-- a variable that is a track is over the system of one of its occurrences, that which is first and free
pub variable_found : (h : Headers) (P : Occurrence → Type 0) (f : Formula) (b : Binders) (i k : ℕ) → AreBelow b i → first_misuse h (mentions f) ≡ None → AllByRecursion P (occurrences h b i f).list
    → (n : Name) → has_track (tracks (plan_of (plan_headers h) f k).last) (own n) ≡ true
    → (o : Occurrence) × ((plan_headers h).of_variable f n ≡ o.system) × (o.name ≡ n) × (o.binder ≡ b n) × P o
variable_found h P f b i k below right all n there =
    (found.0, ap or_none (system_is ∙ ap Some (sym found.1)), sym found.2, bound ∙ ap b (sym found.2), found.3.0.0)
  where
    os : List Occurrence
    os = (occurrences h b i f).list

    free : List Occurrence
    free = filter (λ o. nat_lt o.binder i) os

    Found : Name → Type 0
    Found m = (s : Name) × (system_among (map named free) m ≡ Some s)

    Q : Occurrence → Type 0
    Q o = nat_lt o.binder i ≡ true → Found o.name

    here : OccursAnywhere Q b n
    here = plan_only h Q f b i k right (all_kept (λ o. Found o.name) (λ o. nat_lt o.binder i) os (all_of (λ o. Found o.name) free (λ o member. member_found free o member))) (own n) there

    system : Found n
    system = here.1 (lt-ltb (b n) i (below n))

    system_is : free_system h f n ≡ Some system.0
    system_is = free_system_is h b i f n below ∙ system.1

    kept : AllByRecursion (λ o. (P o × IsOutside b i o) × (nat_lt o.binder i ≡ true)) free
    kept = all_filter (λ o. P o × IsOutside b i o) (λ o. nat_lt o.binder i) os (all_two P (IsOutside b i) os all (outside h i f b i (omega arith)))

    found : (o : Occurrence) × (o.system ≡ system.0) × (n ≡ o.name) × ((P o × IsOutside b i o) × (nat_lt o.binder i ≡ true))
    found = found_member (λ o. (P o × IsOutside b i o) × (nat_lt o.binder i ≡ true)) free n system.0 kept system.1

    bound : found.0.binder ≡ b found.0.name
    bound = found.3.0.1 found.3.1

bound_below : (i : ℕ) (ns : Names) (b : Binders) → AreBelow b i → AreBelow (bound_by i ns b) (i + 1)
bound_below i ns b below n = by (is_listed n ns) (below n)
  where
    by : (c : Bool) → b n < i → (if c then i else b n) < i + 1
    by true low = omega arith
    by false low = omega (arith, low)

module _ (h : plans.Headers) (direction : Name → Direction) (of_automata : (n : Name) → ShareDirection direction (h.of_automaton n)) (of_words : (n : Name) → ShareDirection direction (h.of_word n)) where
  -- a quantifier drops its variables over the systems inside
  kept_over : (ns : Names) (p : Plan) (inside outside : TrackSystems) → ((u : Track) → has_track (tracks p) u ≡ true → in_names ns u ≡ false → inside u ≡ outside u) → IsOver h direction inside p
      → IsOver h direction outside (projected_all (kept ns (tracks p)) p)
  kept_over no_names p inside outside same over = over_depends h direction p inside outside (λ u is. same u is (in_none u)) over
  kept_over (names ns n) p inside outside same over =
      by (has_track (tracks p) (own n)) refl (λ other. kept_over ns (projected (own n) p) inside outside other) (λ other. kept_over ns p inside outside other over)
    where
      by : (b : Bool) → has_track (tracks p) (own n) ≡ b
          → (((u : Track) → has_track (without (own n) (tracks p)) u ≡ true → in_names ns u ≡ false → inside u ≡ outside u) → IsOver h direction inside (projected (own n) p)
          → IsOver h direction outside (projected_all (kept ns (without (own n) (tracks p))) (projected (own n) p)))
          → (((u : Track) → has_track (tracks p) u ≡ true → in_names ns u ≡ false → inside u ≡ outside u) → IsOver h direction outside (projected_all (kept ns (tracks p)) p))
          → IsOver h direction outside (projected_all (if b then n ∷ kept ns (without (own n) (tracks p)) else kept ns (tracks p)) p)
      by true there first second =
          first (λ u is none. let apart = stays_apart (own n) (tracks p) u is in same u apart.0 (listed_more ns n u none apart.1)) (over_projected h direction inside (own n) p there over)
      by false absent first second = second (λ u is none. same u is (listed_more ns n u none (not_there p n u absent is)))

  every_over : (ks : List Name) (m : Made) (on : TrackSystems) → IsOver h direction on (projected_all ks m.last) → IsOver h direction on (projected_all ks (complement m.last)) → IsOver h direction on (for_every ks m).last
  every_over [] m on first second = first
  every_over (k ∷ ks) m on first second = second

  -- no track is fresh
  abbrev HasNoFresh : Plan → Type 0
  HasNoFresh p = (i : ℕ) → has_track (tracks p) (fresh i) ≡ true → ⊥

  -- the variables that are tracks are in these systems
  abbrev AreVariablesOn : (Name → Name) → TrackSystems → Plan → Type 0
  AreVariablesOn systems on p = (n : Name) → has_track (tracks p) (own n) ≡ true → systems n ≡ on (own n)

  infinitely_over : (s n : Name) (m : Made) (on : TrackSystems) → s ≡ on (own n) → HasNoFresh m.last → has_track (tracks m.last) (own n) ≡ true → IsOver h direction on m.last → IsOver h direction on (for_infinitely s n m).last
  infinitely_over s n m on same none there over = (
    other_track_stays (own n) (tracks m.last ++ (fresh m.next ∷ own n ∷ [])) (fresh m.next) (has_second (tracks m.last) (fresh m.next ∷ own n ∷ []) (fresh m.next) (first_is (fresh m.next) (own n ∷ []))) refl,
    (
      s,
      over_projected h direction inside (own n) (joined and m.last less_than) (has_first (tracks m.last) (fresh m.next ∷ own n ∷ []) (own n) there) (over_inside, (bound_on, variable_on), one),
    ),
  )
    where
      inside : TrackSystems
      inside = with_system (fresh m.next) s on

      less_than : Plan
      less_than = compared s less (fresh m.next) (own n)

      stays : (u : Track) → has_track (tracks m.last) u ≡ true → on u ≡ inside u
      stays (own v) is = refl
      stays (fresh j) is = absurd (none j is)

      over_inside : IsOver h direction inside m.last
      over_inside = over_depends h direction m.last on inside stays over

      bound_on : inside (fresh m.next) ≡ s
      bound_on = ap (λ (b : Bool). if b then s else on (fresh m.next)) (same_self (fresh m.next))

      variable_on : inside (own n) ≡ s
      variable_on = sym same

      one : HaveOneDirection direction inside m.last less_than
      one u v in_m in_less =
          tracks_share h direction of_automata of_words m.last inside over_inside u (own n) in_m there ∙ ap direction variable_on
          ∙ sym (each_among (λ w. direction (inside w) ≡ direction s) (fresh m.next ∷ own n ∷ []) (ap direction bound_on, (ap direction variable_on, tt)) v in_less)

  many_over : (systems : Name → Name) (ns : Names) (m : Made) (on : TrackSystems) → AreVariablesOn systems on m.last → HasNoFresh m.last → IsOver h direction on m.last → IsOver h direction on (for_infinitely_many systems ns m).last
  many_over systems no_names m on variables none over = over
  many_over systems (names ns n) m on variables none over = by (has_track (tracks m.last) (own n)) refl (many_over systems ns (for_infinitely (systems n) n m) on) (many_over systems ns m on variables none over)
    where
      after : Made
      after = for_infinitely (systems n) n m

      by : (b : Bool) → has_track (tracks m.last) (own n) ≡ b
          → (AreVariablesOn systems on after.last → HasNoFresh after.last → IsOver h direction on after.last → IsOver h direction on (for_infinitely_many systems ns after).last)
          → IsOver h direction on (for_infinitely_many systems ns m).last → IsOver h direction on (for_infinitely_many systems ns (if b then after else m)).last
      by true there first second =
          first (λ v is. variables v (infinitely_has (systems n) n m (own v) is).0) (λ j is. none j (infinitely_has (systems n) n m (fresh j) is).0)
          (infinitely_over (systems n) n m on (variables n there) none there over)
      by false apart first second = second

  quantified_over : (q : Quantifier) (systems : Name → Name) (ns : Names) (m : Made) (inside outside : TrackSystems) → ((u : Track) → has_track (tracks m.last) u ≡ true → in_names ns u ≡ false → inside u ≡ outside u)
      → AreVariablesOn systems inside m.last → HasNoFresh m.last → IsOver h direction inside m.last → IsOver h direction outside (quantified_made q systems ns m).last
  quantified_over some systems ns m inside outside same variables none over = kept_over ns m.last inside outside same over
  quantified_over every systems ns m inside outside same variables none over =
      every_over (kept ns (tracks m.last)) m outside (kept_over ns m.last inside outside same over) (kept_over ns (complement m.last) inside outside same over)
  quantified_over infinite systems ns m inside outside same variables none over =
      over_depends h direction (for_infinitely_many systems ns m).last inside outside (λ u is. let known = many_has systems ns m u is in same u known.0 known.1)
      (many_over systems ns m inside variables none over)

-- in a scope the variables are over the systems of their first occurrences
abbrev pub scope_on : List Occurrence → Binders → TrackSystems
scope_on all b = on_by (system_under all b) (λ i. [])

module _ (h : Headers) (direction : Name → Direction) (directions : AreDirections h direction) (all : List Occurrence) where
  abbrev ph : plans.Headers
  ph = plan_headers h

  -- what an operand's plan has of one direction
  part_faces : (f : Formula) (b : Binders) (i k : ℕ) (d : Direction) → AreBelow b i → first_misuse h (mentions f) ≡ None → AllByRecursion (Agrees all) (occurrences h b i f).list
      → FaceAll direction directions.by_name d (part_of h b i f) → Only (Faces direction (scope_on all b) d) (plan_of ph f k).last
  part_faces f b i k d below right agree faces =
      only_more (IsOwn (OccursAnywhere Q b)) (Faces direction (scope_on all b) d) (plan_of ph f k).last each
      (plan_only h Q f b i k right (both (occurrences h b i f).list agree (all_kept (λ o. direction o.system ≡ d) (λ o. nat_lt o.binder i) (occurrences h b i f).list faces)))
    where
      Q : Occurrence → Type 0
      Q o = Agrees all o × (nat_lt o.binder i ≡ true → direction o.system ≡ d)

      both : (os : List Occurrence) → AllByRecursion (Agrees all) os → AllByRecursion (λ (o : Occurrence). nat_lt o.binder i ≡ true → direction o.system ≡ d) os → AllByRecursion Q os
      both [] first second = tt
      both (o ∷ os) first second = ((first.0, second.0), both os first.1 second.1)

      each : (u : Track) → IsOwn (OccursAnywhere Q b) u → Faces direction (scope_on all b) d u
      each (own n) occurs = ap direction (agreed_system all b occurs.0 n occurs.1.0) ∙ occurs.1.1 (lt-ltb (b n) i (below n))
      each (fresh j) occurs = absurd occurs

  unbound_same : (i : ℕ) (ns : Names) (b : Binders) (u : Track) → in_names ns u ≡ false → scope_on all (bound_by i ns b) u ≡ scope_on all b u
  unbound_same i ns b (own n) none = ap (λ (k : ℕ). or_none (first_system all (record { name = n; binder = k; system = [] }))) (other_binder i ns b n none)
  unbound_same i ns b (fresh j) none = refl

  -- a variable is over the system at its first free occurrence
  variable_on : (f : Formula) (b : Binders) (i k : ℕ) → AreBelow b i → first_misuse h (mentions f) ≡ None → AllByRecursion (Agrees all) (occurrences h b i f).list
      → (n : Name) → has_track (tracks (plan_of ph f k).last) (own n) ≡ true → ph.of_variable f n ≡ scope_on all b (own n)
  variable_on f b i k below right agree n there =
      let found = variable_found h (Agrees all) f b i k below right agree n there in
      let is : found.0 ≡ record { name = n; binder = b n; system = found.0.system } = λ j. record { name = found.2 j; binder = found.3 j; system = found.0.system } in
      found.1 ∙ sym (agreed_system all b found.0.system n (subst (Agrees all) is found.4))

  mutual
    pub plan_over : (f : Formula) (b : Binders) (i k : ℕ) → AreBelow b i → first_misuse h (mentions f) ≡ None → conflict_in h b i f ≡ None → AllByRecursion (Agrees all) (occurrences h b i f).list
        → IsOver ph direction (scope_on all b) (plan_of ph f k).last
    plan_over (atom x) b i k below right straight agree =
        fact_over h direction directions (system_under all b) b (Agrees all) (λ s n. agreed_system all b s n) x.system x.fact k right straight agree (λ j. [])
    plan_over (negated f) b i k below right straight agree = plan_over f b i k below right straight agree
    plan_over (chain os f) b i k below right straight agree =
        let prefix = occurrences_among h b i os in
        let last = occurrences h b prefix.next f in
        let rights = right_both h (mentions_among os) (mentions f) right in
        let parts = parts_among h b i os in
        let part = part_of h b prefix.next f in
        let whole = neither (option_or (conflict_in_operands h b i os) (conflict_in h b prefix.next f)) (conflict_among_parts (parts ++ part ∷ [])) straight in
        let inner = neither (conflict_in_operands h b i os) (conflict_in h b prefix.next f) whole.0 in
        let facing = no_conflict direction directions.by_name (parts ++ part ∷ []) whole.1 in
        let d = facing.0 in
        let Faced = FaceAll direction directions.by_name d in
        let first = all_first (Agrees all) prefix.list last.list agree in
        let second = all_second (Agrees all) prefix.list last.list agree in
        let up = among_up h b i os in
        let later : AreBelow b prefix.next = λ n. let low = below n in omega (arith, low, up) in
        let next = (operand_plans ph os k).next in
        (operands_over os b i k d below rights.0 inner.0 first (all_first Faced parts (part ∷ []) facing.1) (plan_of ph f next).last
        (plan_over f b prefix.next next later rights.1 inner.1 second)
        (part_faces f b prefix.next next d later rights.1 second (all_second Faced parts (part ∷ []) facing.1).0)).0
    plan_over (quantified q ns f) b i k below right straight agree =
        let inner = bound_by i ns b in
        let low = bound_below i ns b below in
        quantified_over ph direction directions.of_automaton directions.of_word q (ph.of_variable f) ns (plan_of ph f k) (scope_on all inner) (scope_on all b) (λ u is none. unbound_same i ns b u none)
        (λ n there. variable_on f inner (i + 1) k low right agree n there)
        (λ j is. plan_only h (Agrees all) f inner (i + 1) k right agree (fresh j) is)
        (plan_over f inner (i + 1) k low right straight agree)
    plan_over (marked ms f) b i k below right straight agree = plan_over f b i k below (right_both h (marks ms) (mentions f) right).1 straight agree

    operands_over : (os : Operands) (b : Binders) (i k : ℕ) (d : Direction) → AreBelow b i → first_misuse h (mentions_among os) ≡ None → conflict_in_operands h b i os ≡ None
        → AllByRecursion (Agrees all) (occurrences_among h b i os).list → AllByRecursion (FaceAll direction directions.by_name d) (parts_among h b i os)
        → (q : Plan) → IsOver ph direction (scope_on all b) q → Only (Faces direction (scope_on all b) d) q
        → IsOver ph direction (scope_on all b) (chained (operand_plans ph os k).operands q) × Only (Faces direction (scope_on all b) d) (chained (operand_plans ph os k).operands q)
    operands_over no_operands b i k d below right straight agree faces q over facing = (over, facing)
    operands_over (operands os f j) b i k d below right straight agree faces q over facing =
        let prefix = occurrences_among h b i os in
        let last = occurrences h b prefix.next f in
        let rights = right_both h (mentions_among os) (mentions f) right in
        let inner = neither (conflict_in_operands h b i os) (conflict_in h b prefix.next f) straight in
        let parts = parts_among h b i os in
        let part = part_of h b prefix.next f in
        let Faced = FaceAll direction directions.by_name d in
        let first = all_first (Agrees all) prefix.list last.list agree in
        let second = all_second (Agrees all) prefix.list last.list agree in
        let up = among_up h b i os in
        let later : AreBelow b prefix.next = λ n. let low = below n in omega (arith, low, up) in
        let ps = operand_plans ph os k in
        let p = (plan_of ph f ps.next).last in
        let former = operands_over os b i k d below rights.0 inner.0 first (all_first Faced parts (part ∷ []) faces) p
        (plan_over f b prefix.next ps.next later rights.1 inner.1 second)
        (part_faces f b prefix.next ps.next d later rights.1 second (all_second Faced parts (part ∷ []) faces).0) in (
          over_joined ph direction (scope_on all b) d j (chained ps.operands p) q former.0 former.1 over facing,
          only_joined (Faces direction (scope_on all b) d) j (chained ps.operands p) q former.1 facing,
        )

-- The plan of a formula with no misuse, no clash and no conflict is over the systems of its free variables.
pub over_plans : (h : Headers) (direction : Name → Direction) → AreDirections h direction → (f : Formula) (k : ℕ) → first_misuse h (mentions f) ≡ None → first_clash (all_occurrences h f) ≡ None → first_conflict h f ≡ None
    → IsOver (plan_headers h) direction (systems_of (all_occurrences h f)) (plan_of (plan_headers h) f k).last
over_plans h direction directions f k right agree straight =
    over_depends (plan_headers h) direction (plan_of (plan_headers h) f k).last (scope_on all unbound) (systems_of all) (λ u is. same u)
    (plan_over h direction directions all f unbound 1 k (λ n. omega arith) right straight (all_agree all agree))
  where
    all : List Occurrence
    all = all_occurrences h f

    same : (u : Track) → scope_on all unbound u ≡ systems_of all u
    same (own n) = refl
    same (fresh i) = refl
