-- What the plan of a formula makes holds of the numbers for which the formula is true.
use Rattle.std.proofs.Common.{◌≡◌, inl, inr, ℕ, Bool, true, false, List, [], ◌∷◌, map, refl, sym, ap, ◌∙◌, if◌then◌else◌, ◌||◌}
use Rattle.std.specs.Str.{bytes_eq}
use Rattle.std.proofs.lemmas.Bool.{false≢true}
use Rattle.std.proofs.lemmas.Slice.Eq.{bytes_eq-Decides}
use Rattle.formula_truth.specs.Truth.{Meanings}
use Rattle.term_plans.specs.Tracks.{Track, own, same_track, has_track}
use Rattle.term_plans.specs.Plans.{Plan, compared, added, number, called, lettered, renamed, constant, joined, paired, complement, projected, tracks}
use Rattle.formula_plan.specs.FormulaPlans.{plan_of}
use Rattle.term_plans.specs.Means.{IsDecided, AreDecided}
use Rattle.term_plans.proofs.AgreementLemmas.{Agree, agrees, agree_back}
use Rattle.formula_plan.proofs.FormulaLemmas.{formula_says}
use Rattle.term_plans.proofs.TrackLemmas.{same_is, first_is, later_is}
use Rattle.number_relations.specs.Relations.{RelationValue}
use Rattle.number_relations.proofs.RelationLemmas.{relations_decided}
use Rattle.plan_relations.specs.TrackNames.{track_name, numbers_by, AreNamed}
use Rattle.plan_relations.specs.Libraries.{LibraryValue, IsLibrary, meanings_of}
use Rattle.plan_relations.specs.Makings.{Makes, IsReady}
use Rattle.formula_build.specs.Laws.{FormulasHold}
use Rattle.plan_relations.proofs.TrackNameLemmas.{named_track, names_determine}
use Rattle.plan_relations.proofs.HoldLemmas.{plan_says}

-- the first of some tracks that has a name
abbrev track_under : List Track → List ℕ → Track
track_under [] name = own name
track_under (t ∷ ts) name = if bytes_eq (track_name t) name then t else track_under ts name

under_is : (ts : List Track) (u : Track) → has_track ts u ≡ true → ((t : Track) → has_track ts t ≡ true → track_name t ≡ track_name u → t ≡ u) → track_under ts (track_name u) ≡ u
under_is [] u there same_named = absurd (false≢true there)
under_is (t ∷ ts) u there same_named = by (bytes_eq (track_name t) (track_name u)) refl (λ found. under_is ts u found (λ v is same. same_named v (later_is t ts v is) same))
  where
    rest : (b : Bool) → same_track t u ≡ b → bytes_eq (track_name t) (track_name u) ≡ false → has_track ts u ≡ true
    rest true same apart = absurd (false≢true (sym apart ∙ (bytes_eq-Decides (track_name t) (track_name u)).1 (ap track_name (same_is t u same))))
    rest false other apart = sym (ap (λ b. b || has_track ts u) other) ∙ there

    by : (b : Bool) → bytes_eq (track_name t) (track_name u) ≡ b → (has_track ts u ≡ true → track_under ts (track_name u) ≡ u) → (if b then t else track_under ts (track_name u)) ≡ u
    by true is inner = same_named t (first_is t ts) ((bytes_eq-Decides (track_name t) (track_name u)).0 is)
    by false is inner = inner (rest (same_track t u) refl is)

module _ (l : LibraryValue) (library : IsLibrary l) where
  abbrev m : Meanings
  m = meanings_of l

  -- what a made relation holds of is decided, and so is what its plan says
  decided : (p : Plan) (c : RelationValue) → AreNamed p → IsReady l p → Makes l p c → IsDecided m p
  decided p c named ready made a =
      let says = plan_says l library p c named ready made in
      elim (relations_decided c (map f c.names) says.0) [
        | inl holds ↦ inl (agrees p m (numbers_by f) a agree ((says.1 f).0 holds))
        | inr fails ↦ inr (λ h. fails ((says.1 f).1 (agrees p m a (numbers_by f) (agree_back (tracks p) (numbers_by f) a agree) h)))
      ]
    where
      f : List ℕ → ℕ
      f name = a (track_under (tracks p) name)

      agree : Agree (tracks p) (numbers_by f) a
      agree u there = ap a (under_is (tracks p) u there (λ t found same. names_determine t u (named_track p t named found) (named_track p u named there) same))

  pub all_decided : (p : Plan) (c : RelationValue) → AreNamed p → IsReady l p → Makes l p c → AreDecided m p
  all_decided (compared y r s t) c named ready made = decided (compared y r s t) c named ready made
  all_decided (added y s t u) c named ready made = decided (added y s t u) c named ready made
  all_decided (number y t) c named ready made = decided (number y t) c named ready made
  all_decided (called n ts) c named ready made = decided (called n ts) c named ready made
  all_decided (lettered n ts r b) c named ready made = decided (lettered n ts r b) c named ready made
  all_decided (renamed s t p) c named ready made = (decided (renamed s t p) c named ready made, all_decided p made.0 named.2 ready.0 made.1)
  all_decided (constant y k t) c named ready made = decided (constant y k t) c named ready made
  all_decided (joined j p q) c named ready made =
      (decided (joined j p q) c named ready made, all_decided p made.0 named.0 ready.0 made.2, all_decided q made.1 named.1 ready.1 made.3)
  all_decided (paired n ts r w us) c named ready made = decided (paired n ts r w us) c named ready made
  all_decided (complement p) c named ready made = (decided (complement p) c named ready made, all_decided p made.0 named ready made.1)
  all_decided (projected t p) c named ready made = (decided (projected t p) c named ready made, all_decided p made.0 named.1 ready.0 made.1)

pub formulas_hold : FormulasHold
formulas_hold l h f k c library linear named ready made number_of =
    let p = (plan_of h f k).last in
    let held = (plan_says l library p c named ready made).1 number_of in
    let means = formula_says f (meanings_of l) h k linear (all_decided l library p c named ready made) (numbers_by number_of) in
    (λ x. means.0 (held.0 x), λ x. held.1 (means.1 x))
