-- What a map from bytes keeps, as a finite map.
use Rattle.std.proofs.Common.{◌≡◌, refl, sym, ap, ◌∙◌, ℕ, List, [], ◌∷◌, map, cond, true, false, Option, Some, Vec}
use Rattle.std.specs.Option.{option_map, option_copied}
use Rattle.std.specs.Borrow.{Bor}
use Rattle.std.specs.Ordering.{nat_cmp, is_eq, match_ordering}
use Rattle.std.specs.declared.cmp.Ordering.TheVariants.{Less, Equal, Greater}
use Rattle.std.specs.declared.alloc.Global.{Global}
use Rattle.std.specs.Cmp.Lexicographic.{slice_cmp, nat_list_cmp_total}
use Rattle.std.specs.BTreeMap.{insert_entry, is_at}
use Rattle.std.specs.Map.{lookup}
use Rattle.std.specs.FinMap.{find, put, get, insert, get-from_entries, get-insert, same_map, slice_cmp-IsAntisymmetric, nat_cmp-IsAntisymmetric}
use Rattle.std.specs.FinMap.Entries.{by_order, find-put}
use Rattle.formula_parse.specs.Tokens.{Name}
use Rattle.formula_resolve.specs.Headers.{Named}
use Rattle.formula_resolve.specs.HeaderViews.{named_view}

-- a key of a map
abbrev Key : Type 0
Key = Vec ℕ Global

-- entries as lists
abbrev pub seen : {X Y : Type 0} → (X → Y) → List (Key × X) → List (Name × Y)
seen see es = map (λ e. (e.0.items, see e.1)) es

-- what is looked up is what is found among the lists
pub lookup_seen : {X Y : Type 0} (see : X → Y) (name : Name) (es : List (Key × X)) → option_map see (lookup (is_at (λ (k : Key). slice_cmp nat_cmp name k.items)) es) ≡ find (slice_cmp nat_cmp) name (seen see es)
lookup_seen see name [] = refl
lookup_seen see name (e ∷ es) =
    elim (is_eq (slice_cmp nat_cmp name e.0.items)) as (λ t. option_map see (cond t (Some e.1) (lookup (is_at (λ (k : Key). slice_cmp nat_cmp name k.items)) es)) ≡ cond t (Some (see e.1)) (find (slice_cmp nat_cmp) name (seen see es))) [ true ↦ refl | false ↦ lookup_seen see name es ]

-- a thing that is put into the map is put among the lists
pub put_seen : {X Y : Type 0} (see : X → Y) (es : List (Key × X)) (name : Key) (x : X) → seen see (insert_entry (λ (x y : Key). slice_cmp nat_cmp x.items y.items) es name x) ≡ put (slice_cmp nat_cmp) name.items (see x) (seen see es)
put_seen see [] name x = refl
put_seen see (e ∷ es) name x =
    elim (slice_cmp nat_cmp name.items e.0.items) as (λ o. seen see (match_ordering o ((name, x) ∷ e ∷ es) ((e.0, x) ∷ es) (e ∷ insert_entry (λ (x y : Key). slice_cmp nat_cmp x.items y.items) es name x))
    ≡ by_order o ((name.items, see x) ∷ (e.0.items, see e.1) ∷ seen see es) ((e.0.items, see x) ∷ seen see es) ((e.0.items, see e.1) ∷ put (slice_cmp nat_cmp) name.items (see x) (seen see es))) [
      | Less ↦ refl
      | Equal ↦ refl
      | Greater ↦ ap (λ more. (e.0.items, see e.1) ∷ more) (put_seen see es name x)
    ]

-- a thing more
pub view_inserted : {X Y : Type 0} (see : X → Y) (es new : List (Key × X)) (name : Key) (x : X) → new ≡ insert_entry (λ (x y : Key). slice_cmp nat_cmp x.items y.items) es name x → named_view see new ≡ insert (named_view see es) name.items (see x)
view_inserted see es new name x is = same_map nat_list_cmp_total (slice_cmp-IsAntisymmetric nat_cmp-IsAntisymmetric) _ _ (λ q.
    get-from_entries nat_list_cmp_total (seen see new) q
    ∙ (ap (λ all. find (slice_cmp nat_cmp) q (seen see all)) is
    ∙ (ap (find (slice_cmp nat_cmp) q) (put_seen see es name x)
    ∙ (find-put (slice_cmp nat_cmp) nat_list_cmp_total q name.items (see x) (seen see es)
    ∙ (ap (cond (is_eq (slice_cmp nat_cmp q name.items)) (Some (see x))) (sym (get-from_entries nat_list_cmp_total (seen see es) q))
    ∙ sym (get-insert nat_list_cmp_total (named_view see es) name.items (see x) q))))))

-- what is there for a name
pub view_looked : {X Y : Type 0} (see : X → Y) (es : List (Key × X)) (m : Named Y) (name : Name) (o : Option (Bor X)) → named_view see es ≡ m → option_copied o ≡ lookup (is_at (λ (k : Key). slice_cmp nat_cmp name k.items)) es → option_map see (option_copied o) ≡ get m name
view_looked see es m name o same looked = ap (option_map see) looked ∙ (lookup_seen see name es ∙ sym (get-from_entries nat_list_cmp_total (seen see es) name) ∙ ap (λ all. get all name) same)

-- the same, by bytes that are the name
pub bytes_looked : {X Y : Type 0} (see : X → Y) (es : List (Key × X)) (m : Named Y) (bytes name : Name) (o : Option (Bor X)) → named_view see es ≡ m → option_copied o ≡ lookup (is_at (λ (k : Key). slice_cmp nat_cmp bytes k.items)) es → bytes ≡ name → option_map see (option_copied o) ≡ get m name
bytes_looked see es m bytes name o same looked is = view_looked see es m bytes o same looked ∙ ap (get m) is
