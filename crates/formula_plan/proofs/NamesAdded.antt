-- Free variables, added part by part.
use Rattle.std.specs.List.{fold}
use Rattle.std.proofs.Common.{◌≡◌, ℕ, ◌+◌, ◌<◌, ◌≤◌, Bool, true, false, ◌||◌, List, [], ◌∷◌, ◌++◌, length, get_or, take, drop, None, Some, Result, Ok, Err, IfOk, refl, sym, ◌∙◌, ap, subst}
use Rattle.std.proofs.lemmas.List.{take_more, take_all, take-append-drop}
use Rattle.std.proofs.lemmas.List.Sums.{fold-append}
use Rattle.formula_parse.specs.Tokens.{Name}
use Rattle.formula_parse.specs.Trees.{Names, no_names, names, Term, variable, numeral, product, sum, Factors, no_factors, factors, times, divided, Factor, terms}
use Rattle.formula_parse.specs.Views.{names_view, term_view, terms_view, addend_view, addends_view, with_addend}
use Rattle.formula_parse.specs.declared.tree.Addend as parsed_addend
use Rattle.formula_parse.specs.declared.tree.Term as parsed
use Rattle.formula_truth.proofs.ViewLemmas.{addends_more}
use Rattle.term_plans.specs.TermPlanning.{other_of, term_of}
use Rattle.formula_plan.specs.OwnNames.{own_names, own_multiplied, own_before, own_among, has_name, has_any, HaveSame}
use Rattle.term_plans.proofs.ArgumentsMade.{terms_more}
use Rattle.formula_plan.proofs.SameNames.{added_none, added_then}

names_more : (vs : List Name) (i : ℕ) (d : Name) → i < length vs → names_view (take (i + 1) vs) ≡ names (names_view (take i vs)) (get_or vs i d)
names_more vs i d within = ap names_view (take_more vs i d within) ∙ fold-append names no_names (take i vs) (get_or vs i d ∷ [])

any_kept : (prefix : Names) (vs ms : List Name) → has_any prefix ms ≡ true → has_any (fold names prefix vs) ms ≡ true
any_kept prefix [] ms some = some
any_kept prefix (v ∷ vs) ms some = any_kept (names prefix v) vs ms (ap (λ b. b || has_name ms v) some)

or_true : (a : Bool) → (a || true) ≡ true
or_true true = refl
or_true false = refl

pub any_found : (vs ms : List Name) (i : ℕ) (v : Name) → i < length vs → v ≡ get_or vs i v → has_name ms v ≡ true → has_any (names_view vs) ms ≡ true
any_found vs ms i v within at has =
    ap (λ l. has_any (names_view l) ms) (sym (take-append-drop (i + 1) vs)) ∙ ap (λ n. has_any n ms) (fold-append names no_names (take (i + 1) vs) (drop (i + 1) vs))
    ∙ any_kept (names_view (take (i + 1) vs)) (drop (i + 1) vs) ms
    (ap (λ n. has_any n ms) (names_more vs i v within) ∙ ap (λ n. has_any (names_view (take i vs)) ms || has_name ms n) (sym at)
    ∙ ap (λ b. has_any (names_view (take i vs)) ms || b) has ∙ or_true (has_any (names_view (take i vs)) ms))

pub seen_added : {E X : Type 0} (r : Result X E) (whole seen : Term) (old new : List Name) → whole ≡ seen → IfOk r (λ _. HaveSame new (old ++ own_names seen)) → IfOk r (λ _. HaveSame new (old ++ own_names whole))
seen_added r whole seen old new same is = subst (λ t. IfOk r (λ _. HaveSame new (old ++ own_names t))) (sym same) is

pub term_none_added : (whole seen : Term) (old : List Name) → whole ≡ seen → own_names seen ≡ [] → HaveSame old (old ++ own_names whole)
term_none_added whole seen old same none n = added_none old n ∙ ap (λ l. has_name (old ++ l) n) (sym none) ∙ ap (λ t. has_name (old ++ own_names t) n) (sym same)

-- a divisor has no variables
pub divisor_none_added : (f : Factor) (c : ℕ) (old : List Name) → f ≡ divided c → HaveSame old (old ++ own_names (term_of f))
divisor_none_added f c old same n = added_none old n ∙ ap (λ g. has_name (old ++ own_names (term_of g)) n) (sym same)

other_some : (fs : Factors) (t : Term) → other_of fs ≡ Some t → own_multiplied fs ≡ own_names t
other_some no_factors t is = cc
other_some (factors fs (times (numeral c))) t is = other_some fs t is
other_some (factors fs (divided c)) t is = other_some fs t is
other_some (factors fs (times (variable n))) t is = let same : variable n ≡ t = cc in ap own_names same
other_some (factors fs (times (product gs))) t is = let same : product gs ≡ t = cc in ap own_names same
other_some (factors fs (times (sum ss u))) t is = let same : sum ss u ≡ t = cc in ap own_names same

pub other_none : (fs : Factors) → other_of fs ≡ None → own_multiplied fs ≡ []
other_none no_factors is = refl
other_none (factors fs (times (numeral c))) is = other_none fs is
other_none (factors fs (divided c)) is = other_none fs is
other_none (factors fs (times (variable n))) is = cc
other_none (factors fs (times (product gs))) is = cc
other_none (factors fs (times (sum ss u))) is = cc

pub product_added : {E X : Type 0} (r : Result X E) (whole t : Term) (fs : Factors) (old new : List Name) → whole ≡ product fs → other_of fs ≡ Some t
    → IfOk r (λ _. HaveSame new (old ++ own_names t)) → IfOk r (λ _. HaveSame new (old ++ own_names whole))
product_added r whole t fs old new seen other is = subst (λ l. IfOk r (λ _. HaveSame new (old ++ l))) (sym (other_some fs t other) ∙ ap own_names (sym seen)) is

pub sum_added : {E X : Type 0} (r : Result X E) (whole t : Term) (ss ts : List parsed_addend.Addend) (i : ℕ) (old mid new : List Name) → whole ≡ sum (addends_view ts) t → ss ≡ ts → length ss ≤ i
    → HaveSame mid (old ++ own_before (addends_view (take i ss))) → IfOk r (λ _. HaveSame new (mid ++ own_names t)) → IfOk r (λ _. HaveSame new (old ++ own_names whole))
sum_added (Ok x) whole t ss ts i old mid new seen same far so_far is = λ n.
    added_then old mid new (own_before (addends_view (take i ss))) (own_names t) so_far is n
    ∙ ap (λ l. has_name (old ++ (own_before (addends_view l) ++ own_names t)) n) (take_all i ss far ∙ same) ∙ ap (λ u. has_name (old ++ own_names u) n) (sym seen)
sum_added (Err e) whole t ss ts i old mid new seen same far so_far is = is

pub addend_added : (ss : List parsed_addend.Addend) (i : ℕ) (a : parsed_addend.Addend) (old mid new : List Name) → i < length ss → a ≡ get_or ss i a → HaveSame mid (old ++ own_before (addends_view (take i ss)))
    → HaveSame new (mid ++ own_names (term_view a.term)) → HaveSame new (old ++ own_before (addends_view (take (i + 1) ss)))
addend_added ss i a old mid new within at so_far is n =
    added_then old mid new (own_before (addends_view (take i ss))) (own_names (term_view a.term)) so_far is n
    ∙ ap (λ x. has_name (old ++ own_before x) n) (sym (addends_more ss i a within ∙ ap (λ b. with_addend (addends_view (take i ss)) (addend_view b)) (sym at)))

pub term_added : (ts : List parsed.Term) (i : ℕ) (t : parsed.Term) (old mid new : List Name) → i < length ts → t ≡ get_or ts i t → HaveSame mid (old ++ own_among (terms_view (take i ts)))
    → HaveSame new (mid ++ own_names (term_view t)) → HaveSame new (old ++ own_among (terms_view (take (i + 1) ts)))
term_added ts i t old mid new within at so_far is n =
    added_then old mid new (own_among (terms_view (take i ts))) (own_names (term_view t)) so_far is n
    ∙ ap (λ x. has_name (old ++ own_among x) n) (sym (terms_more ts i t within ∙ ap (λ u. terms (terms_view (take i ts)) (term_view u)) (sym at)))

pub both_added : {E X : Type 0} (r : Result X E) (old mid new first second whole : List Name) → whole ≡ first ++ second → HaveSame mid (old ++ first) → IfOk r (λ _. HaveSame new (mid ++ second)) → IfOk r (λ _. HaveSame new (old ++ whole))
both_added (Ok x) old mid new first second whole seen before is = λ n. added_then old mid new first second before is n ∙ ap (λ l. has_name (old ++ l) n) (sym seen)
both_added (Err e) old mid new first second whole seen before is = is
