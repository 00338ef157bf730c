-- Plans of several terms, made part by part.
use Rattle.std.specs.List.{fold}
use Rattle.std.proofs.Common.{◌≡◌, ℕ, suc, ◌+◌, ◌<◌, ◌≤◌, List, [], ◌∷◌, ◌++◌, map, length, get_or, take, refl, sym, ◌∙◌, ap, subst, arith, append-nil, append_assoc, length-append, below_more}
use Rattle.std.proofs.lemmas.List.{take_more, take_all, map-append, get_or_append_left}
use Rattle.std.proofs.Math.Seq.{get_or-append_seam}
use Rattle.std.proofs.lemmas.List.Sums.{fold-append}
use Rattle.formula_parse.specs.Tokens.{Name}
use Rattle.formula_parse.specs.Trees.{Term, Terms, no_terms, terms}
use Rattle.formula_parse.specs.Views.{term_view, terms_view}
use Rattle.formula_parse.specs.declared.tree.Term as parsed
use Rattle.term_plans.specs.Plans.{Plan}
use Rattle.term_plans.specs.TermPlans.{TermPlan, term_plan}
use Rattle.term_plans.specs.ArgumentPlans.{Places, no_places, places, tracks_of, TermPlans, and_term, count, argument_plans}
use Rattle.term_plans.specs.Makings.{track_view}
use Rattle.term_plans.specs.Planning.{Adds, DoesTerm, DoesTerms, placed_at, places_at, IsWithin, AreWithin, tracks_in}
use Rattle.term_plans.specs.declared.planner.Planner.{Planner}
use Rattle.term_plans.specs.declared.planner.Placed as found
use Rattle.term_plans.proofs.PlanningLemmas.{adds_none, adds_then, within_later, placed_later}

-- terms, one more at a time
count_all : (prefix : Terms) (ts : List Term) → count (fold terms prefix ts) ≡ count prefix + length ts
count_all prefix [] = omega arith
count_all prefix (t ∷ ts) = let rest = count_all (terms prefix t) ts in omega (arith, rest)

length_map : (ts : List parsed.Term) → length (map term_view ts) ≡ length ts
length_map [] = refl
length_map (t ∷ ts) = ap suc (length_map ts)

count_prefix : (ts : List parsed.Term) (i : ℕ) → length (take i ts) ≡ i → count (terms_view (take i ts)) ≡ i
count_prefix ts i far = let all = count_all no_terms (map term_view (take i ts)) in let same = length_map (take i ts) in omega (arith, all, same, far)

pub terms_more : (ts : List parsed.Term) (i : ℕ) (d : parsed.Term) → i < length ts → terms_view (take (i + 1) ts) ≡ terms (terms_view (take i ts)) (term_view (get_or ts i d))
terms_more ts i d within =
    ap terms_view (take_more ts i d within)
    ∙ ap (fold terms no_terms) (map-append term_view (take i ts) (get_or ts i d ∷ []))
    ∙ fold-append terms no_terms (map term_view (take i ts)) (term_view (get_or ts i d) ∷ [])

-- places in a list with more plans
pub places_later : (xs ys ss : List Plan) (ps : List found.Placed) → Adds xs ys ss → AreWithin xs ps → places_at ys ps ≡ places_at xs ps
places_later xs ys ss ps adds are = ap (fold places no_places) (same ps are)
  where
    same : (qs : List found.Placed) → AreWithin xs qs → map (placed_at ys) qs ≡ map (placed_at xs) qs
    same [] inside = refl
    same (q ∷ qs) inside = ap (λ p. p ∷ map (placed_at ys) qs) (placed_later xs ys ss q adds (inside 0 q (omega arith))) ∙ ap (λ l. placed_at xs q ∷ l) (same qs (λ i d below. inside (suc i) d (omega (arith, below))))

pub are_within_later : (xs ys ss : List Plan) (ps : List found.Placed) → Adds xs ys ss → AreWithin xs ps → AreWithin ys ps
are_within_later xs ys ss ps adds are = λ i d below. within_later xs ys ss (get_or ps i d).relation adds (are i d below)

are_within_more : (plans : List Plan) (ps : List found.Placed) (p : found.Placed) → AreWithin plans ps → IsWithin plans p.relation → AreWithin plans (ps ++ p ∷ [])
are_within_more plans ps p are here i d below =
    below_more (λ j. (e : found.Placed) → IsWithin plans (get_or (ps ++ p ∷ []) j e).relation) (length ps)
    (λ j inside e. subst (λ (q : found.Placed). IsWithin plans q.relation) (sym (get_or_append_left ps (p ∷ []) e j inside)) (are j e inside))
    (λ e. subst (λ (q : found.Placed). IsWithin plans q.relation) (sym (get_or-append_seam ps p [] e)) here)
    i (omega (arith, length-append ps (p ∷ []), below)) d

places_end : (plans : List Plan) (ps : List found.Placed) (p : found.Placed) → places_at plans (ps ++ p ∷ []) ≡ places (places_at plans ps) (placed_at plans p)
places_end plans ps p = ap (fold places no_places) (map-append (placed_at plans) ps (p ∷ [])) ∙ fold-append places no_places (map (placed_at plans) ps) (placed_at plans p ∷ [])

-- one argument more
pub arguments_more : (ss : List Name) (ts : List parsed.Term) (i : ℕ) (t : parsed.Term) (old mid new : Planner) (ps qs : List found.Placed) (v : found.Placed) → i < length ts → t ≡ get_or ts i t → length (take i ts) ≡ i
    → DoesTerms old mid ps (argument_plans ss (terms_view (take i ts)) old.next) → DoesTerm mid new v (term_plan (get_or ss i []) (term_view t) mid.next) → qs ≡ ps ++ v ∷ []
    → DoesTerms old new qs (argument_plans ss (terms_view (take (i + 1) ts)) old.next)
arguments_more ss ts i t old mid new ps qs v within at far first second more =
    let prefix : TermPlans = argument_plans ss (terms_view (take i ts)) old.next in
    let one : TermPlan = term_plan (get_or ss i []) (term_view t) prefix.next in
    let here : DoesTerm mid new v one = subst (λ k. DoesTerm mid new v (term_plan (get_or ss i []) (term_view t) k)) first.next second in
    let whole : DoesTerms old new (ps ++ v ∷ []) (and_term prefix one) = record {
      adds = adds_then old.plans mid.plans new.plans prefix.steps one.steps first.adds here.adds;
      within = are_within_more new.plans ps v (are_within_later mid.plans new.plans one.steps ps here.adds first.within) here.within;
      places_are = places_end new.plans ps v ∙ ap (λ q. places q (placed_at new.plans v)) (places_later mid.plans new.plans one.steps ps here.adds first.within ∙ first.places_are)
          ∙ ap (λ q. places prefix.placed q) here.placed_is;
      next = here.next;
    } in
    subst (λ l. DoesTerms old new l (argument_plans ss (terms_view (take (i + 1) ts)) old.next)) (sym more)
    (subst (λ x. DoesTerms old new (ps ++ v ∷ []) (argument_plans ss x old.next)) (sym (terms_more ts i t within ∙ ap (λ x. terms (terms_view (take i ts)) (term_view x)) (sym at)))
    (subst (λ n. DoesTerms old new (ps ++ v ∷ []) (and_term prefix (term_plan (get_or ss n []) (term_view t) prefix.next))) (sym (count_prefix ts i far)) whole))

pub arguments_none : (ss : List Name) (old : Planner) (ps : List found.Placed) → ps ≡ [] → DoesTerms old old ps (argument_plans ss no_terms old.next)
arguments_none ss old ps none = subst (λ l. DoesTerms old old l (argument_plans ss no_terms old.next)) (sym none) (record {
  adds = adds_none old.plans;
  within = λ i d below. absurd (omega (arith, below));
  places_are = refl;
  next = refl;
})

pub arguments_all : (ss : List Name) (ts : List parsed.Term) (i : ℕ) (old new : Planner) (ps : List found.Placed) → length ts ≤ i
    → DoesTerms old new ps (argument_plans ss (terms_view (take i ts)) old.next) → DoesTerms old new ps (argument_plans ss (terms_view ts) old.next)
arguments_all ss ts i old new ps far does = subst (λ l. DoesTerms old new ps (argument_plans ss (terms_view l) old.next)) (take_all i ts far) does

-- the tracks of places
tracks_after : (plans : List Plan) (prefix : Places) (ps : List found.Placed) → tracks_of (fold places prefix (map (placed_at plans) ps)) ≡ tracks_of prefix ++ tracks_in ps
tracks_after plans prefix [] = sym (append-nil (tracks_of prefix))
tracks_after plans prefix (p ∷ ps) = tracks_after plans (places prefix (placed_at plans p)) ps ∙ append_assoc (tracks_of prefix) (track_view p.track ∷ []) (tracks_in ps)

pub tracks_there : (plans : List Plan) (ps : List found.Placed) → tracks_of (places_at plans ps) ≡ tracks_in ps
tracks_there plans ps = tracks_after plans no_places ps
