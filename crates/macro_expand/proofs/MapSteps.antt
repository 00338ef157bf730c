-- The texts that a map keeps.
use Rattle.std.proofs.Common.{◌≡◌, refl, sym, ap, ◌∙◌, ℕ, List, [], ◌∷◌, map, cond, true, false, Option, None, Some, Vec}
use Rattle.std.specs.Option.{option_map, option_copied}
use Rattle.std.specs.Borrow.{Bor}
use Rattle.std.specs.Ordering.{nat_cmp, is_eq, match_ordering}
use Rattle.std.specs.declared.cmp.Ordering.TheVariants.{Less, Equal, Greater}
use Rattle.std.specs.declared.alloc.Global.{Global}
use Rattle.std.specs.Cmp.Lexicographic.{slice_cmp, nat_list_cmp_total}
use Rattle.std.specs.BTreeMap.{insert_entry, is_at}
use Rattle.std.specs.Map.{lookup}
use Rattle.std.specs.FinMap.{find, put, get, insert, get-from_entries, get-insert, same_map, slice_cmp-IsAntisymmetric, nat_cmp-IsAntisymmetric}
use Rattle.std.specs.FinMap.Entries.{by_order, find-put}
use Rattle.macro_expand.specs.Texts.{Texts, texts_view}

-- bytes that a map keeps
abbrev Bytes : Type 0
Bytes = Vec ℕ Global

-- entries as lists
abbrev pairs : List (Bytes × Bytes) → List (List ℕ × List ℕ)
pairs es = map (λ e. (e.0.items, e.1.items)) es

found : (name : List ℕ) (es : List (Bytes × Bytes)) → option_map (λ text. text.items) (lookup (is_at (λ (k : Bytes). slice_cmp nat_cmp name k.items)) es) ≡ find (slice_cmp nat_cmp) name (pairs es)
found name [] = refl
found name (e ∷ es) =
    elim (is_eq (slice_cmp nat_cmp name e.0.items)) as (λ t. option_map (λ text. text.items) (cond t (Some e.1) (lookup (is_at (λ (k : Bytes). slice_cmp nat_cmp name k.items)) es)) ≡ cond t (Some e.1.items) (find (slice_cmp nat_cmp) name (pairs es))) [ true ↦ refl | false ↦ found name es ]

-- the text of a name
pub text_found : (name : List ℕ) (es : List (Bytes × Bytes)) → option_map (λ text. text.items) (lookup (is_at (λ (k : Bytes). slice_cmp nat_cmp name k.items)) es) ≡ get (texts_view es) name
text_found name es = found name es ∙ sym (get-from_entries nat_list_cmp_total (pairs es) name)

put_pairs : (es : List (Bytes × Bytes)) (name text : Bytes) → pairs (insert_entry (λ (x y : Bytes). slice_cmp nat_cmp x.items y.items) es name text) ≡ put (slice_cmp nat_cmp) name.items text.items (pairs es)
put_pairs [] name text = refl
put_pairs (e ∷ es) name text =
    elim (slice_cmp nat_cmp name.items e.0.items) as (λ o. pairs (match_ordering o ((name, text) ∷ e ∷ es) ((e.0, text) ∷ es) (e ∷ insert_entry (λ (x y : Bytes). slice_cmp nat_cmp x.items y.items) es name text))
    ≡ by_order o ((name.items, text.items) ∷ (e.0.items, e.1.items) ∷ pairs es) ((e.0.items, text.items) ∷ pairs es) ((e.0.items, e.1.items) ∷ put (slice_cmp nat_cmp) name.items text.items (pairs es))) [
      | Less ↦ refl
      | Equal ↦ refl
      | Greater ↦ ap (λ more. (e.0.items, e.1.items) ∷ more) (put_pairs es name text)
    ]

-- a text more
pub text_added : (es new : List (Bytes × Bytes)) (name text : Bytes) → new ≡ insert_entry (λ (x y : Bytes). slice_cmp nat_cmp x.items y.items) es name text → texts_view new ≡ insert (texts_view es) name.items text.items
text_added es new name text is = same_map nat_list_cmp_total (slice_cmp-IsAntisymmetric nat_cmp-IsAntisymmetric) _ _ (λ q.
    get-from_entries nat_list_cmp_total (pairs new) q
    ∙ (ap (λ all. find (slice_cmp nat_cmp) q (pairs all)) is
    ∙ (ap (find (slice_cmp nat_cmp) q) (put_pairs es name text)
    ∙ (find-put (slice_cmp nat_cmp) nat_list_cmp_total q name.items text.items (pairs es)
    ∙ (ap (cond (is_eq (slice_cmp nat_cmp q name.items)) (Some text.items)) (sym (get-from_entries nat_list_cmp_total (pairs es) q))
    ∙ sym (get-insert nat_list_cmp_total (texts_view es) name.items text.items q))))))

module _ (es : List (Bytes × Bytes)) (m : Texts) (name : List ℕ) (o : Option (Bor Bytes)) (seen : texts_view es ≡ m) (looked : option_copied o ≡ lookup (is_at (λ (k : Bytes). slice_cmp nat_cmp name k.items)) es) where
  text_is : option_map (λ text. text.items) (option_copied o) ≡ get m name
  text_is = ap (option_map (λ text. text.items)) looked ∙ (text_found name es ∙ ap (λ all. get all name) seen)

  -- the text that was found
  pub text_there : (text : Bor Bytes) (bytes : List ℕ) → o ≡ Some text → bytes ≡ text.now.items → Some bytes ≡ get m name
  text_there text bytes is same = ap (λ bs. Some bs) same ∙ (ap (λ (p : Option (Bor Bytes)). option_map (λ t. t.items) (option_copied p)) (sym is) ∙ text_is)

  -- none was found
  pub text_absent : (result : Option (Bor (List ℕ))) → o ≡ None → result ≡ None → option_copied result ≡ get m name
  text_absent result is none = ap option_copied none ∙ (ap (λ (p : Option (Bor Bytes)). option_map (λ t. t.items) (option_copied p)) (sym is) ∙ text_is)
