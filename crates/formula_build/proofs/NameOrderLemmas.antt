-- Names in byte order, and the entries of a map from names.
use Rattle.std.specs.Prelude.{T}
use Rattle.std.specs.List.{All, AllByRecursion, AllPairs, Contains}
use Rattle.std.specs.Ordering.{nat_cmp, eq_by_cmp, is_lt, ordering_reverse}
use Rattle.std.specs.Cmp.Lexicographic.{slice_cmp, nat_list_cmp_total}
use Rattle.std.specs.FinMap.{FinMap, entries, from_entries, contains_key-keys, entries_sorted, entries-insert, get-from_entries, len-entries, len-empty, empty}
use Rattle.std.specs.FinMap.Entries.{by_order, put, is_sorted, below_all, is_some-find}
use Rattle.std.specs.declared.cmp.Ordering.{Ordering}
use Rattle.std.specs.declared.cmp.Ordering.TheVariants.{Less, Equal, Greater}
use Rattle.std.proofs.Common.{◌≡◌, ◌⊎◌, inl, inr, Bool, true, false, ◌&&◌, List, [], ◌∷◌, map, is_some, refl, sym, ap, ◌∙◌, subst, true≢false, arith}
use Rattle.std.proofs.lemmas.List.{nil_from_length}
use Rattle.std.proofs.lemmas.List.Elements.{All-nil, All-cons}
use Rattle.std.proofs.lemmas.List.Kept.{AllPairs-cons}
use Rattle.std.proofs.lemmas.Map.Lookups.{exact_bytes}
use Rattle.std.proofs.lemmas.Map.Text.{is_eq-slice_cmp}
use Rattle.std.proofs.lemmas.Slice.Eq.{bytes_eq-Decides}
use Rattle.digit_tuple.specs.Names.{IsBytesBefore}
use Rattle.digit_tuple.proofs.MemberLemmas.{Contains-cases, Contains-head, Contains-none, Contains-tail, AllPairs-head, AllPairs-tail, contains_from_list_any, list_any-contains}
use Rattle.formula_parse.specs.Tokens.{Name}

-- no name is before itself
not_before : (x : Name) → IsBytesBefore x x → ⊥
not_before x before = true≢false (ap is_lt (sym before ∙ nat_list_cmp_total.antisymm x x ∙ ap ordering_reverse before))

-- two lists of names in byte order that have the same names are the same
pub same_names : (xs ys : List Name) → AllPairs IsBytesBefore xs → AllPairs IsBytesBefore ys → ((x : Name) → Contains xs x → Contains ys x) → ((x : Name) → Contains ys x → Contains xs x) → xs ≡ ys
same_names [] [] up vp over back = refl
same_names [] (y ∷ ys) up vp over back = absurd (Contains-none y (back y (Contains-head y ys)))
same_names (x ∷ xs) [] up vp over back = absurd (Contains-none x (over x (Contains-head x xs)))
same_names (x ∷ xs) (y ∷ ys) up vp over back =
    let same : x ≡ y = first (Contains-cases y ys x (over x (Contains-head x xs))) (Contains-cases x xs y (back y (Contains-head y ys))) in
    let rest : xs ≡ ys = same_names xs ys (AllPairs-tail IsBytesBefore x xs up) (AllPairs-tail IsBytesBefore y ys vp)
    (λ n there. later x y ys n (AllPairs-head IsBytesBefore x xs n up there) same (Contains-cases y ys n (over n (Contains-tail x xs n there))))
    (λ n there. later y x xs n (AllPairs-head IsBytesBefore y ys n vp there) (sym same) (Contains-cases x xs n (back n (Contains-tail y ys n there)))) in
    ap (λ z. z ∷ xs) same ∙ ap (λ zs. y ∷ zs) rest
  where
    first : (y ≡ x) ⊎ Contains ys x → (x ≡ y) ⊎ Contains xs y → x ≡ y
    first (inl same) other = sym same
    first (inr there) (inl same) = same
    first (inr there) (inr here) =
        absurd (not_before x (nat_list_cmp_total.trans x y x (AllPairs-head IsBytesBefore x xs y up here) (AllPairs-head IsBytesBefore y ys x vp there)))

    later : (w z : Name) (zs : List Name) (n : Name) → IsBytesBefore w n → w ≡ z → (z ≡ n) ⊎ Contains zs n → Contains zs n
    later w z zs n before same (inl is) = absurd (not_before n (subst (λ m. IsBytesBefore m n) (same ∙ is) before))
    later w z zs n before same (inr there) = there

both_parts : (a b : Bool) → T (a && b) → T a × T b
both_parts true b both = (tt, both)
both_parts false b both = absurd both

is_less : (o : Ordering) → T (is_lt o) → o ≡ Less
is_less Less less = refl
is_less Equal less = absurd less
is_less Greater less = absurd less

module _ {X : Type 0} where
  abbrev keys_of : List (Name × X) → List Name
  keys_of es = map (λ e. e.0) es

  below_keys : (n : Name) (es : List (Name × X)) → T (below_all (slice_cmp nat_cmp) n es) → All (IsBytesBefore n) (keys_of es)
  below_keys n [] below = All-nil (IsBytesBefore n)
  below_keys n (e ∷ es) below =
      let parts = both_parts (is_lt (slice_cmp nat_cmp n e.0)) (below_all (slice_cmp nat_cmp) n es) below in
      All-cons (IsBytesBefore n) e.0 (keys_of es) (is_less (slice_cmp nat_cmp n e.0) parts.0) (below_keys n es parts.1)

  keys_rise : (es : List (Name × X)) → T (is_sorted (slice_cmp nat_cmp) es) → AllPairs IsBytesBefore (keys_of es)
  keys_rise [] sorted = λ i j d before within. absurd (omega (arith, within))
  keys_rise (e ∷ es) sorted =
      let parts = both_parts (below_all (slice_cmp nat_cmp) e.0 es) (is_sorted (slice_cmp nat_cmp) es) sorted in
      AllPairs-cons IsBytesBefore e.0 (keys_of es) (below_keys e.0 es parts.0) (keys_rise es parts.1)

  -- the names of a map are in byte order
  pub names_ordered : (m : FinMap (slice_cmp nat_cmp) X) → AllPairs IsBytesBefore (map (λ e. e.0) (entries m))
  names_ordered m = keys_rise (entries m) (entries_sorted m)

  all_put : (P : Name × X → Type 0) (n : Name) (x : X) (es : List (Name × X)) → P (n, x) → AllByRecursion P es → AllByRecursion P (put (slice_cmp nat_cmp) n x es)
  all_put P n x [] new all = (new, tt)
  all_put P n x (e ∷ es) new all = by (slice_cmp nat_cmp n e.0) refl (all_put P n x es new all.1)
    where
      by : (o : Ordering) → slice_cmp nat_cmp n e.0 ≡ o → AllByRecursion P (put (slice_cmp nat_cmp) n x es)
          → AllByRecursion P (by_order o ((n, x) ∷ e ∷ es) ((e.0, x) ∷ es) (e ∷ put (slice_cmp nat_cmp) n x es))
      by Less is rest = (new, all)
      by Equal is rest = (subst (λ (m : Name). P (m, x)) (exact_bytes n e.0 is) new, all.1)
      by Greater is rest = (all.0, rest)

  no_entries : entries (empty {X = X} {R = slice_cmp nat_cmp}) ≡ []
  no_entries = nil_from_length (entries empty) (sym (len-entries empty) ∙ len-empty (slice_cmp nat_cmp) X)

  -- each entry of the map of a list is one of the list
  pub entries_all : (P : Name × X → Type 0) (es : List (Name × X)) → AllByRecursion P es → AllByRecursion P (entries (from_entries {R = slice_cmp nat_cmp} es))
  entries_all P [] all = subst (AllByRecursion P) (sym no_entries) tt
  entries_all P (e ∷ es) all =
      subst (AllByRecursion P) (sym (entries-insert nat_list_cmp_total (from_entries es) e.0 e.1)) (all_put P e.0 e.1 (entries (from_entries es)) all.0 (entries_all P es all.1))

  -- and each name of the list is one of the map
  pub entries_have : (es : List (Name × X)) (n : Name) → Contains (map (λ e. e.0) es) n → Contains (map (λ e. e.0) (entries (from_entries {R = slice_cmp nat_cmp} es))) n
  entries_have es n there =
      let m : FinMap (slice_cmp nat_cmp) X = from_entries es in
      let is_it : eq_by_cmp (slice_cmp nat_cmp) n n ≡ true = is_eq-slice_cmp n n ∙ (bytes_eq-Decides n n).1 refl in
      let found = sym (contains_key-keys m n) ∙ ap is_some (get-from_entries nat_list_cmp_total es n) ∙ is_some-find (slice_cmp nat_cmp) n es
      ∙ list_any-contains (eq_by_cmp (slice_cmp nat_cmp) n) (keys_of es) n there is_it in
      let key = contains_from_list_any (eq_by_cmp (slice_cmp nat_cmp) n) (keys_of (entries m)) found in
      subst (Contains (keys_of (entries m))) (sym ((bytes_eq-Decides n key.0).0 (sym (is_eq-slice_cmp n key.0) ∙ key.2))) key.1
