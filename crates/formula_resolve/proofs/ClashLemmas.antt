-- First occurrences under bindings.
use Rattle.std.proofs.Common.{◌≡◌, refl, sym, ap, ◌∙◌, ℕ, ◌+◌, ◌<◌, true, false, cond, List, [], ◌∷◌, ◌++◌, map, length, take, drop, get_or, Option, None, Some}
use Rattle.std.proofs.lemmas.List.{map-append, take_more, drop_more}
use Rattle.std.specs.Option.{option_or, option_map}
use Rattle.std.specs.Ordering.{nat_cmp, eq_by_cmp}
use Rattle.std.specs.Cmp.Lexicographic.{slice_cmp, nat_list_cmp_total}
use Rattle.std.specs.FinMap.{find, get, from_entries, get-from_entries, same_map, from_entries_push, slice_cmp-IsAntisymmetric, nat_cmp-IsAntisymmetric}
use Rattle.std.proofs.lemmas.Map.Text.{is_eq-slice_cmp}
use Rattle.std.proofs.lemmas.Slice.Eq.{bytes_eq-Decides}
use Rattle.formula_parse.specs.Tokens.{Name}
use Rattle.formula_resolve.specs.Headers.{Named}
use Rattle.formula_resolve.specs.Clashes.{first_system, clash_with, clash_after, first_clash}
use Rattle.formula_resolve.specs.Firsts.{binding, firsts_of, with_absent}
use Rattle.formula_resolve.specs.declared.occurrence.Occurrence.{Occurrence}

abbrev Entries : Type 0
Entries = List (List ℕ × Name)

-- what is found in the prefix
find_prefix : (es more : Entries) (q : List ℕ) (t : Name) → find (slice_cmp nat_cmp) q es ≡ Some t → find (slice_cmp nat_cmp) q (es ++ more) ≡ Some t
find_prefix [] more q t there = cc
find_prefix (e ∷ es) more q t there =
    elim (eq_by_cmp (slice_cmp nat_cmp) q e.0) as (λ b. cond b (Some e.1) (find (slice_cmp nat_cmp) q es) ≡ Some t → cond b (Some e.1) (find (slice_cmp nat_cmp) q (es ++ more)) ≡ Some t) [
      | true ↦ λ found. found
      | false ↦ λ found. find_prefix es more q t found
    ] there

-- another key than the last one
find_apart : (es : Entries) (key : List ℕ) (s : Name) (q : List ℕ) → eq_by_cmp (slice_cmp nat_cmp) q key ≡ false → find (slice_cmp nat_cmp) q (es ++ (key, s) ∷ []) ≡ find (slice_cmp nat_cmp) q es
find_apart [] key s q apart = ap (λ b. cond b (Some s) None) apart
find_apart (e ∷ es) key s q apart = ap (λ found. cond (eq_by_cmp (slice_cmp nat_cmp) q e.0) (Some e.1) found) (find_apart es key s q apart)

-- a key that is there is not found anew
find_there : (es : Entries) (key : List ℕ) (s t : Name) (q : List ℕ) → find (slice_cmp nat_cmp) key es ≡ Some t → find (slice_cmp nat_cmp) q (es ++ (key, s) ∷ []) ≡ find (slice_cmp nat_cmp) q es
find_there es key s t q there =
    elim (eq_by_cmp (slice_cmp nat_cmp) q key) as (λ b. eq_by_cmp (slice_cmp nat_cmp) q key ≡ b → find (slice_cmp nat_cmp) q (es ++ (key, s) ∷ []) ≡ find (slice_cmp nat_cmp) q es) [
      | true ↦ λ same.
          let key_is : q ≡ key = (bytes_eq-Decides q key).0 (sym (is_eq-slice_cmp q key) ∙ same) in
          let here : find (slice_cmp nat_cmp) q es ≡ Some t = ap (λ k. find (slice_cmp nat_cmp) k es) key_is ∙ there in
          find_prefix es ((key, s) ∷ []) q t here ∙ sym here
      | false ↦ λ apart. find_apart es key s q apart
    ] refl

-- one entry more
pub entries_more : (es : Entries) (key : List ℕ) (s : Name) (x : Option Name) → get (from_entries {R = slice_cmp nat_cmp} es) key ≡ x → from_entries {R = slice_cmp nat_cmp} (es ++ (key, s) ∷ []) ≡ with_absent x (from_entries es) key s
entries_more es key s None is = from_entries_push nat_list_cmp_total (slice_cmp-IsAntisymmetric nat_cmp-IsAntisymmetric) es key s (sym (get-from_entries nat_list_cmp_total es key) ∙ is)
entries_more es key s (Some t) is = same_map nat_list_cmp_total (slice_cmp-IsAntisymmetric nat_cmp-IsAntisymmetric) _ _ (λ q.
    get-from_entries nat_list_cmp_total (es ++ (key, s) ∷ []) q
    ∙ find_there es key s t q (sym (get-from_entries nat_list_cmp_total es key) ∙ is)
    ∙ sym (get-from_entries nat_list_cmp_total es q))

-- one occurrence more
pub firsts_more : (os : List Occurrence) (i : ℕ) (o : Occurrence) (m new : Named Name) → i < length os → o ≡ get_or os i o → m ≡ firsts_of (take i os) → new ≡ with_absent (get m (binding o)) m (binding o) o.system → new ≡ firsts_of (take (i + 1) os)
firsts_more os i o m new within at before is =
    is ∙ (λ k. with_absent (get (before k) (binding o)) (before k) (binding o) o.system)
    ∙ sym (entries_more (map (λ p. (binding p, p.system)) (take i os)) (binding o) o.system (get (firsts_of (take i os)) (binding o)) refl)
    ∙ ap from_entries (sym (map-append (λ p. (binding p, p.system)) (take i os) (o ∷ [])))
    ∙ ap (λ p. firsts_of (take i os ++ p ∷ [])) at
    ∙ ap firsts_of (sym (take_more os i o within))

-- the map determines the first system
pub firsts_are_first : (os : List Occurrence) (p : Occurrence) → get (firsts_of os) (binding p) ≡ first_system os p
firsts_are_first os p = get-from_entries nat_list_cmp_total (map (λ o. (binding o, o.system)) os) (binding p) ∙ found os
  where
    found : (qs : List Occurrence) → find (slice_cmp nat_cmp) (binding p) (map (λ o. (binding o, o.system)) qs) ≡ first_system qs p
    found [] = refl
    found (q ∷ qs) = (λ i. cond (is_eq-slice_cmp (binding p) (binding q) i) (Some q.system) (found qs i))

pub option_map_same : {X : Type 0} (o : Option X) → option_map (λ x. x) o ≡ o
option_map_same None = refl
option_map_same (Some x) = refl

-- at an occurrence: its clash, else one of those after it
pub clash_step : (os : List Occurrence) (i : ℕ) (o : Occurrence) (m : Named Name) → i < length os → o ≡ get_or os i o → m ≡ firsts_of (take i os) → first_clash os ≡ clash_after (take i os) (drop i os)
    → first_clash os ≡ option_or (clash_with (get m (binding o)) o) (clash_after (take (i + 1) os) (drop (i + 1) os))
clash_step os i o m within at firsts before =
    before
    ∙ ap (clash_after (take i os)) (drop_more os i o within ∙ ap (λ p. p ∷ drop (i + 1) os) (sym at))
    ∙ (λ k. option_or (clash_with (known k) o) (clash_after (prefix k) (drop (i + 1) os)))
  where
    known : first_system (take i os) o ≡ get m (binding o)
    known = sym (firsts_are_first (take i os) o) ∙ ap (λ n. get n (binding o)) (sym firsts)

    prefix : take i os ++ o ∷ [] ≡ take (i + 1) os
    prefix = ap (λ p. take i os ++ p ∷ []) at ∙ sym (take_more os i o within)
