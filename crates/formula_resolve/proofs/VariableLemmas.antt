-- The variables that a map keeps.
use Rattle.std.proofs.Common.{◌≡◌, refl, sym, ap, ◌∙◌, ℕ, true, false, cond, List, [], ◌∷◌, ◌++◌, map, Option, None, Some, is_some, Vec, Global}
use Rattle.std.proofs.lemmas.Bool.{false≢true}
use Rattle.std.proofs.lemmas.List.{map-append, nil_from_length}
use Rattle.std.specs.Option.{option_map}
use Rattle.std.specs.Ordering.{nat_cmp, eq_by_cmp}
use Rattle.std.specs.declared.cmp.Ordering.TheVariants.{Less, Equal, Greater}
use Rattle.std.specs.Cmp.Lexicographic.{slice_cmp, nat_list_cmp_total}
use Rattle.std.specs.BTreeMap.{insert_entry, is_at}
use Rattle.std.specs.Map.{lookup}
use Rattle.std.specs.FinMap.{find, put, get, insert, entries, from_entries, get-entries, entries-insert, len-entries, len-empty, slice_cmp-IsAntisymmetric, nat_cmp-IsAntisymmetric}
use Rattle.std.specs.FinMap.Entries.{by_order}
use Rattle.formula_parse.specs.Tokens.{Name}
use Rattle.formula_resolve.specs.Headers.{Named}
use Rattle.formula_resolve.specs.Firsts.{with_absent}
use Rattle.formula_resolve.specs.FreeVariables.{systems_of, variable_of, with_variable, kept_entries, IsKept}
use Rattle.formula_resolve.specs.declared.occurrence.Occurrence.{Occurrence}
use Rattle.formula_resolve.specs.declared.variable.Variable.{Variable}
use Rattle.formula_resolve.proofs.MapLemmas.{lookup_seen, put_seen}
use Rattle.formula_resolve.proofs.ClashLemmas.{entries_more}

-- a key of a map
abbrev Key : Type 0
Key = Vec ℕ Global

-- a variable more is kept as its system is
put_variable : (es : List (Name × Name)) (n s : Name) → put (slice_cmp nat_cmp) n (variable_of (n, s)) (map with_variable es) ≡ map with_variable (put (slice_cmp nat_cmp) n s es)
put_variable [] n s = refl
put_variable (e ∷ es) n s =
    elim (slice_cmp nat_cmp n e.0) as (λ o. slice_cmp nat_cmp n e.0 ≡ o → by_order o ((n, variable_of (n, s)) ∷ with_variable e ∷ map with_variable es) ((e.0, variable_of (n, s)) ∷ map with_variable es) (with_variable e ∷ put (slice_cmp nat_cmp) n (variable_of (n, s)) (map with_variable es))
    ≡ map with_variable (by_order o ((n, s) ∷ e ∷ es) ((e.0, s) ∷ es) (e ∷ put (slice_cmp nat_cmp) n s es))) [
      | Less ↦ λ is. refl
      | Equal ↦ λ is. ap (λ m. (e.0, variable_of (m, s)) ∷ map with_variable es) (slice_cmp-IsAntisymmetric nat_cmp-IsAntisymmetric n e.0 is)
      | Greater ↦ λ is. ap (λ more. with_variable e ∷ more) (put_variable es n s)
    ] refl

-- whether a variable is there is whether its system is
there_same : (es : List (Name × Name)) (n : Name) → is_some (find (slice_cmp nat_cmp) n (map with_variable es)) ≡ is_some (find (slice_cmp nat_cmp) n es)
there_same [] n = refl
there_same (e ∷ es) n =
    elim (eq_by_cmp (slice_cmp nat_cmp) n e.0) as (λ t. is_some (cond t (Some (variable_of e)) (find (slice_cmp nat_cmp) n (map with_variable es))) ≡ is_some (cond t (Some e.1) (find (slice_cmp nat_cmp) n es))) [ true ↦ refl | false ↦ there_same es n ]

same_some : {X : Type 0} (o : Option X) → is_some (option_map (λ x. x) o) ≡ is_some o
same_some None = refl
same_some (Some x) = refl

pub kept_there : (os : List Occurrence) (es : List (Key × Variable)) (n : Name) → IsKept os es → is_some (lookup (is_at (λ (k : Key). slice_cmp nat_cmp n k.items)) es) ≡ is_some (get (systems_of os) n)
kept_there os es n kept =
    sym (same_some (lookup (is_at (λ (k : Key). slice_cmp nat_cmp n k.items)) es))
    ∙ ap is_some (lookup_seen (λ v. v) n es ∙ ap (find (slice_cmp nat_cmp) n) kept)
    ∙ there_same (entries (systems_of os)) n
    ∙ ap is_some (sym (get-entries (systems_of os) n))

systems_more : (os : List Occurrence) (o : Occurrence) → systems_of (os ++ o ∷ []) ≡ with_absent (get (systems_of os) o.name) (systems_of os) o.name o.system
systems_more os o = ap from_entries (map-append (λ p. (p.name, p.system)) os (o ∷ [])) ∙ entries_more (map (λ p. (p.name, p.system)) os) o.name o.system (get (systems_of os) o.name) refl

with_absent_some : (x : Option Name) (m : Named Name) (key : List ℕ) (s : Name) → is_some x ≡ true → with_absent x m key s ≡ m
with_absent_some None m key s some = absurd (false≢true some)
with_absent_some (Some t) m key s some = refl

with_absent_none : (x : Option Name) (m : Named Name) (key : List ℕ) (s : Name) → is_some x ≡ false → with_absent x m key s ≡ insert m key s
with_absent_none None m key s none = refl
with_absent_none (Some t) m key s none = absurd (false≢true (sym none))

-- an occurrence more of a variable that is kept
pub kept_again : (os : List Occurrence) (o : Occurrence) (es : List (Key × Variable)) → is_some (lookup (is_at (λ (k : Key). slice_cmp nat_cmp o.name k.items)) es) ≡ true → IsKept os es → IsKept (os ++ o ∷ []) es
kept_again os o es there kept =
    kept ∙ ap (λ m. map with_variable (entries m)) (sym (systems_more os o ∙ with_absent_some (get (systems_of os) o.name) (systems_of os) o.name o.system (sym (kept_there os es o.name kept) ∙ there)))

-- and of one that is not
pub kept_more : (os : List Occurrence) (o : Occurrence) (es new : List (Key × Variable)) (key : Key) (v : Variable) → is_some (lookup (is_at (λ (k : Key). slice_cmp nat_cmp o.name k.items)) es) ≡ false
    → key.items ≡ o.name → v ≡ variable_of (o.name, o.system) → new ≡ insert_entry (λ (x y : Key). slice_cmp nat_cmp x.items y.items) es key v → IsKept os es → IsKept (os ++ o ∷ []) new
kept_more os o es new key v absent key_is v_is is kept =
    ap kept_entries is ∙ put_seen (λ w. w) es key v
    ∙ (λ i. put (slice_cmp nat_cmp) (key_is i) (v_is i) (kept i))
    ∙ put_variable (entries (systems_of os)) o.name o.system
    ∙ ap (map with_variable) (sym (entries-insert nat_list_cmp_total (systems_of os) o.name o.system))
    ∙ ap (λ m. map with_variable (entries m)) (sym (systems_more os o ∙ with_absent_none (get (systems_of os) o.name) (systems_of os) o.name o.system (sym (kept_there os es o.name kept) ∙ absent)))

-- nothing is kept of no occurrences
pub kept_none : (es : List (Key × Variable)) → es ≡ [] → IsKept [] es
kept_none es none = ap kept_entries none ∙ ap (map with_variable) (sym (nil_from_length (entries (systems_of [])) (sym (len-entries (systems_of [])) ∙ len-empty (slice_cmp nat_cmp) Name)))

-- the variables that are kept
kept_values : (es : List (Key × Variable)) → map (λ e. e.1) es ≡ map (λ e. e.1) (kept_entries es)
kept_values [] = refl
kept_values (e ∷ es) = ap (λ vs. e.1 ∷ vs) (kept_values es)

variable_values : (es : List (Name × Name)) → map (λ e. e.1) (map with_variable es) ≡ map variable_of es
variable_values [] = refl
variable_values (e ∷ es) = ap (λ vs. variable_of e ∷ vs) (variable_values es)

pub kept_all : (os : List Occurrence) (es : List (Key × Variable)) → IsKept os es → map (λ e. e.1) es ≡ map variable_of (entries (systems_of os))
kept_all os es kept = kept_values es ∙ ap (map (λ e. e.1)) kept ∙ variable_values (entries (systems_of os))
