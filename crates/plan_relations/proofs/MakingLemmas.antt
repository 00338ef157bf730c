-- One relation is made of earlier ones as its plan says it.
use Rattle.std.proofs.Common.{◌≡◌, ℕ, Bool, true, false, List, map, length, Result, Ok, Err, MatchResult, sym, ◌∙◌, subst}
use Rattle.std.specs.Prelude.{⊤}
use Rattle.std.proofs.lemmas.Bool.{false≢true}
use Rattle.std.proofs.lemmas.List.{length-map}
use Rattle.std.proofs.lemmas.Simd.{map-map}
use Rattle.digit_tuple.specs.Steps.{StepLog}
use Rattle.digit_tuple.specs.declared.step_fault.StepFault.{StepFault}
use Rattle.digit_tuple.specs.declared.step_fault.StepFault.TheVariants as faults
use Rattle.automaton_steps.specs.Makings.{DoesStep}
use Rattle.formula_parse.specs.Views.{relation_view}
use Rattle.term_plans.specs.Plans.{Plan, is_step}
use Rattle.term_plans.specs.Makings.{track_view, plan_at, plan_by, IsOf, IsMakingAt}
use Rattle.term_plans.specs.declared.track.Track.{Track}
use Rattle.term_plans.specs.declared.making.Making.{Making}
use Rattle.term_plans.specs.declared.making.Making.TheVariants.{Compared, Added, Number, Called, Lettered, Renamed, Constant, Joined, Paired, Complement, Projected}
use Rattle.number_relations.specs.Relations.{RelationValue}
use Rattle.num_system.specs.Tracks.{AgreeUnder}
use Rattle.number_relations.specs.Placed.{IsPlaced}
use Rattle.word_output.specs.Words.{WordValue}
use Rattle.plan_relations.specs.TrackNames.{track_name}
use Rattle.plan_relations.specs.Libraries.{LibraryValue}
use Rattle.plan_relations.specs.PlacedWords.{PlacedWord}
use Rattle.plan_relations.specs.LetterRelations.{IsLetterRelation}
use Rattle.plan_relations.specs.PairRelations.{MayPairWords, IsRelationPair, relation_pair_step}
use Rattle.plan_relations.specs.Makings.{Makes, IsReady, comparison_of, placed_on}
use Rattle.plan_relations.specs.Building.{DoesLastStep}
use Rattle.plan_relations.specs.MadeOf.{name_of, placed_at, relation_at, AreMade, MayMake, DoesMaking, AreMarked}

names_are : (ts : List Track) → map track_name (map track_view ts) ≡ map name_of ts
names_are ts = map-map track_name track_view ts

placed_are : (w : WordValue) (ts : List Track) → placed_on w (map track_view ts) ≡ placed_at w ts
placed_are w ts = λ i. record { word = w; under = names_are ts i }

-- what is true of two words with their tracks
module _ (P : PlacedWord → PlacedWord → Type 0) (v w : WordValue) (ts us : List Track) where
  at_tracks : P (placed_on v (map track_view ts)) (placed_on w (map track_view us)) → P (placed_at v ts) (placed_at w us)
  at_tracks p = subst (λ (x : PlacedWord). P x (placed_at w us)) (placed_are v ts) (subst (P (placed_on v (map track_view ts))) (placed_are w us) p)

  on_tracks : P (placed_at v ts) (placed_at w us) → P (placed_on v (map track_view ts)) (placed_on w (map track_view us))
  on_tracks p = subst (λ (x : PlacedWord). P x (placed_on w (map track_view us))) (sym (placed_are v ts)) (subst (P (placed_at v ts)) (sym (placed_are w us)) p)

may_by : (l : LibraryValue) (plans : List Plan) (marks : List Bool) (rs : List RelationValue) (m : Making) → AreMade l plans marks rs → AreMarked marks m → IsOf (length rs) m → IsReady l (plan_by plans m) → MayMake l rs m
may_by l plans marks rs (Compared y r s t) made are below ready = ready
may_by l plans marks rs (Added y s t u) made are below ready = ready
may_by l plans marks rs (Number y t) made are below ready = ready
may_by l plans marks rs (Called n ts) made are below (r, is, count, agree) =
    (r, is, sym (length-map ts.items track_view) ∙ count, subst (λ (under : List (List ℕ)). AgreeUnder under r.systems) (names_are ts.items) agree)
may_by l plans marks rs (Lettered n ts r b) made are below (w, is, count, agree) =
    (w, is, sym (length-map ts.items track_view) ∙ count, subst (λ (under : List (List ℕ)). AgreeUnder under w.systems) (names_are ts.items) agree)
may_by l plans marks rs (Renamed s t p) made are below ready = (below, ready.1 (relation_at rs p) (made p below are))
may_by l plans marks rs (Constant y c t) made are below ready = ready
may_by l plans marks rs (Joined j p q) made are below ready = (below.0, below.1, ready.2 (relation_at rs p) (relation_at rs q) (made p below.0 are.0) (made q below.1 are.1))
may_by l plans marks rs (Paired n ts r m us) made are below (v, w, is, also, may) = (v, w, is, also, at_tracks MayPairWords v w ts.items us.items may)
may_by l plans marks rs (Complement p) made are below ready = below
may_by l plans marks rs (Projected t p) made are below ready = (below, ready.1 (relation_at rs p) (made p below are))

-- what the next plan is made of is there
pub may_make : (l : LibraryValue) (plans : List Plan) (marks : List Bool) (rs : List RelationValue) (m : Making) → AreMade l plans marks rs → AreMarked marks m → IsMakingAt plans (length rs) m → IsReady l (plan_at plans (length rs)) → MayMake l rs m
may_make l plans marks rs m made are is ready = may_by l plans marks rs m made are is.of_earlier (subst (IsReady l) (sym is.makes) ready)

module _ (old new : StepLog) (l : LibraryValue) (plans : List Plan) (marks : List Bool) (rs : List RelationValue) (made : AreMade l plans marks rs) where
  -- the relation is that of the plan
  pub made_by : (m : Making) (c : RelationValue) → AreMarked marks m → IsOf (length rs) m → DoesMaking old l rs m (Ok c) new → Makes l (plan_by plans m) c
  made_by (Compared y r s t) c are below does = does.1
  made_by (Added y s t u) c are below does = does.1
  made_by (Number y t) c are below does = does.1
  made_by (Called n ts) c are below (same, (r, is, placed)) = (r, is, subst (λ (under : List (List ℕ)). IsPlaced r.automaton r.systems under c) (sym (names_are ts.items)) placed)
  made_by (Lettered n ts r b) c are below (same, (w, is, lettered)) =
      (w, is, subst (λ (p : PlacedWord). IsLetterRelation (comparison_of (relation_view r)) b p c) (sym (placed_are w ts.items)) lettered)
  made_by (Renamed s t p) c are below does = (relation_at rs p, made p below are, does.1)
  made_by (Constant y k t) c are below (system, is, done) = (system, is, done.step.made_is)
  made_by (Joined j p q) c are below done = (relation_at rs p, relation_at rs q, made p below.0 are.0, made q below.1 are.1, done.step.made_is)
  made_by (Paired n ts r m us) c are below (v, w, is, also, done) =
      (v, w, is, also, on_tracks (λ a b. IsRelationPair (comparison_of (relation_view r)) a b c) v w ts.items us.items done.step.made_is)
  made_by (Complement p) c are below done = (relation_at rs p, made p below are, done.step.made_is)
  made_by (Projected t p) c are below done = (relation_at rs p, made p below are, done.step.made_is)

  -- what is no step leaves the steps as they are
  pub bare_by : (m : Making) (result : Result RelationValue StepFault) → DoesMaking old l rs m result new → is_step (plan_by plans m) ≡ false
      → (new ≡ old) × MatchResult result (λ c. ⊤) (λ fault. fault ≡ faults.Memory)
  bare_by (Compared y r s t) (Ok c) does is = (does.0, tt)
  bare_by (Added y s t u) (Ok c) does is = (does.0, tt)
  bare_by (Number y t) (Ok c) does is = (does.0, tt)
  bare_by (Called n ts) (Ok c) does is = (does.0, tt)
  bare_by (Lettered n ts r b) (Ok c) does is = (does.0, tt)
  bare_by (Renamed s t p) (Ok c) does is = (does.0, tt)
  bare_by (Compared y r s t) (Err fault) does is = does
  bare_by (Added y s t u) (Err fault) does is = does
  bare_by (Number y t) (Err fault) does is = does
  bare_by (Called n ts) (Err fault) does is = does
  bare_by (Lettered n ts r b) (Err fault) does is = does
  bare_by (Renamed s t p) (Err fault) does is = does
  bare_by (Constant y k t) result does is = absurd (false≢true (sym is))
  bare_by (Joined j p q) result does is = absurd (false≢true (sym is))
  bare_by (Paired n ts r m us) result does is = absurd (false≢true (sym is))
  bare_by (Complement p) result does is = absurd (false≢true (sym is))
  bare_by (Projected t p) result does is = absurd (false≢true (sym is))

  -- a step is the last of its plan
  pub step_by : (m : Making) (result : Result RelationValue StepFault) → AreMarked marks m → IsOf (length rs) m → DoesMaking old l rs m result new → is_step (plan_by plans m) ≡ true
      → DoesLastStep l (plan_by plans m) old result new
  step_by (Constant y k t) result are below does is = does
  step_by (Joined j p q) result are below does is = (relation_at rs p, relation_at rs q, made p below.0 are.0, made q below.1 are.1, does)
  step_by (Paired n ts r m us) result are below (v, w, is_v, is_w, does) is =
      (v, w, is_v, is_w, on_tracks (λ a b. DoesStep (relation_pair_step (comparison_of (relation_view r)) a b) old result new) v w ts.items us.items does)
  step_by (Complement p) result are below does is = (relation_at rs p, made p below are, does)
  step_by (Projected t p) result are below does is = (relation_at rs p, made p below are, does)
  step_by (Compared y r s t) result are below does is = absurd (false≢true is)
  step_by (Added y s t u) result are below does is = absurd (false≢true is)
  step_by (Number y t) result are below does is = absurd (false≢true is)
  step_by (Called n ts) result are below does is = absurd (false≢true is)
  step_by (Lettered n ts r b) result are below does is = absurd (false≢true is)
  step_by (Renamed s t p) result are below does is = absurd (false≢true is)
