-- Lists that grow at their ends, and counts of terms.
use Rattle.std.proofs.Common.{◌≡◌, sym, ap, ◌∙◌, ℕ, ◌+◌, ◌<◌, ◌≤◌, List, [], ◌∷◌, ◌++◌, map, length, take, get_or, Result, Ok, Err, OnOk, fold, append_assoc, length-append, arith}
use Rattle.std.proofs.lemmas.List.{length-map}
use Rattle.std.proofs.Common.{Vec, vec_len, Global}
use Rattle.std.proofs.lemmas.List.{take_more, map_more, map-append}
use Rattle.std.proofs.lemmas.List.Sums.{fold-append}
use Rattle.formula_parse.specs.Tokens.{Name}
use Rattle.formula_parse.specs.Trees as trees
use Rattle.formula_parse.specs.Views.{term_view, terms_view, factor_view, factors_view, addend_view, addends_view, with_addend, names_view}
use Rattle.formula_parse.specs.declared.tree.Term.{Term}
use Rattle.formula_parse.specs.declared.tree.Factor.{Factor}
use Rattle.formula_parse.specs.declared.tree.Addend.{Addend}
use Rattle.formula_resolve.specs.Mentions.{count}

-- what is added in two steps
pub added_twice : {X E : Type 0} {A : Type 0} (r : Result X E) (old mid new xs ys : List A) → mid ≡ old ++ xs → OnOk r (new ≡ mid ++ ys) → OnOk r (new ≡ old ++ (xs ++ ys))
added_twice (Ok x) old mid new xs ys first second = second ∙ ap (λ m. m ++ ys) first ∙ append_assoc old xs ys
added_twice (Err e) old mid new xs ys first second = second

-- the same, where it is known that it is added
pub added_then : {A : Type 0} (old mid new xs ys : List A) → mid ≡ old ++ xs → new ≡ mid ++ ys → new ≡ old ++ (xs ++ ys)
added_then old mid new xs ys first second = second ∙ ap (λ m. m ++ ys) first ∙ append_assoc old xs ys

-- one byte more of a text, after a prefix
pub taken_then : (new old prefix bytes : List ℕ) (i b : ℕ) → new ≡ old ++ b ∷ [] → old ≡ prefix ++ take i bytes → b ≡ get_or bytes i 0 → i < length bytes → new ≡ prefix ++ take (i + 1) bytes
taken_then new old prefix bytes i b pushed so_far is within =
    added_then prefix old new (take i bytes) (b ∷ []) so_far pushed ∙ ap (λ c. prefix ++ (take i bytes ++ c ∷ [])) is ∙ ap (λ bs. prefix ++ bs) (sym (take_more bytes i 0 within))

-- a copy of one item more
pub copied_then : {X : Type 0} (new old xs : List X) (i : ℕ) (y x : X) → new ≡ old ++ y ∷ [] → old ≡ take i xs → y ≡ x → x ≡ get_or xs i x → i < length xs → new ≡ take (i + 1) xs
copied_then new old xs i y x pushed so_far is at within = pushed ∙ ap (λ ys. ys ++ y ∷ []) so_far ∙ ap (λ z. take i xs ++ z ∷ []) (is ∙ at) ∙ sym (take_more xs i x within)

-- what grows at its end is no shorter
pub longer : {X : Type 0} (new old xs : List X) → new ≡ old ++ xs → length old ≤ length new
longer new old xs is = omega (arith, ap length is, length-append old xs)

-- what is found for one item more
pub mapped_then : {X : Type 0} (f : X → ℕ) (new old : List ℕ) (xs : List X) (i k : ℕ) (x : X) → new ≡ old ++ k ∷ [] → old ≡ map f (take i xs) → k ≡ f x → x ≡ get_or xs i x → i < length xs → new ≡ map f (take (i + 1) xs)
mapped_then f new old xs i k x pushed so_far is at within =
    pushed ∙ ap (λ ks. ks ++ k ∷ []) so_far ∙ ap (λ n. map f (take i xs) ++ n ∷ []) (is ∙ ap f at) ∙ sym (map_more f xs i x within)

count_after : (ts : trees.Terms) (more : List trees.Term) → count (fold trees.terms ts more) ≡ count ts + length more
count_after ts [] = omega arith
count_after ts (t ∷ more) = count_after (trees.terms ts t) more ∙ (omega arith)

-- as many terms as there are in the list
pub count_view : (ts : List Term) → count (terms_view ts) ≡ length ts
count_view ts = count_after trees.no_terms (map term_view ts) ∙ (simp length-map (omega arith))

pub terms_more : (ts : List Term) (i : ℕ) (d : Term) → i < length ts → terms_view (take (i + 1) ts) ≡ trees.terms (terms_view (take i ts)) (term_view (get_or ts i d))
terms_more ts i d within =
    ap terms_view (take_more ts i d within)
    ∙ ap (fold trees.terms trees.no_terms) (map-append term_view (take i ts) (get_or ts i d ∷ []))
    ∙ fold-append trees.terms trees.no_terms (map term_view (take i ts)) (term_view (get_or ts i d) ∷ [])

-- one factor more, and one addend more
pub factors_then : (fs : List Factor) (i : ℕ) (f : Factor) → i < length fs → f ≡ get_or fs i f → factors_view (take (i + 1) fs) ≡ trees.factors (factors_view (take i fs)) (factor_view f)
factors_then fs i f within at =
    ap factors_view (take_more fs i f within)
    ∙ ap (fold trees.factors trees.no_factors) (map-append factor_view (take i fs) (get_or fs i f ∷ []))
    ∙ fold-append trees.factors trees.no_factors (map factor_view (take i fs)) (factor_view (get_or fs i f) ∷ [])
    ∙ ap (λ g. trees.factors (factors_view (take i fs)) (factor_view g)) (sym at)

pub addends_then : (ss : List Addend) (i : ℕ) (a : Addend) → i < length ss → a ≡ get_or ss i a → addends_view (take (i + 1) ss) ≡ with_addend (addends_view (take i ss)) (addend_view a)
addends_then ss i a within at =
    ap addends_view (take_more ss i a within)
    ∙ ap (fold with_addend trees.no_addends) (map-append addend_view (take i ss) (get_or ss i a ∷ []))
    ∙ fold-append with_addend trees.no_addends (map addend_view (take i ss)) (addend_view (get_or ss i a) ∷ [])
    ∙ ap (λ b. with_addend (addends_view (take i ss)) (addend_view b)) (sym at)

pub names_more : (ns : List Name) (i : ℕ) (n : Name) → i < length ns → n ≡ get_or ns i n → names_view (take (i + 1) ns) ≡ trees.names (names_view (take i ns)) n
names_more ns i n within at =
    ap names_view (take_more ns i n within)
    ∙ fold-append trees.names trees.no_names (take i ns) (get_or ns i n ∷ [])
    ∙ ap (λ m. trees.names (names_view (take i ns)) m) (sym at)

pub count_vec : (ts : Vec Term Global) → count (terms_view ts.items) ≡ vec_len ts
count_vec ts = count_view ts.items ∙ (omega (arith, ts.ok))
