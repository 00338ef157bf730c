-- The names that an ordered set of texts keeps.
use Rattle.std.specs.Str.{bytes_eq}
use Rattle.std.specs.List.{list_any}
use Rattle.std.specs.Ordering.{nat_cmp, is_eq}
use Rattle.std.specs.Cmp.Lexicographic.{slice_cmp, nat_list_eq_equiv}
use Rattle.std.specs.String.{string_cmp}
use Rattle.std.specs.BTreeMap.{is_at}
use Rattle.std.specs.BTreeSet.{BTreeSet, contains_text, Updates, UpdatesBy}
use Rattle.std.specs.declared.string.String.{String}
use Rattle.std.specs.declared.alloc.Global.{Global}
use Rattle.std.proofs.Common.{◌≡◌, Bool, true, false, ◌||◌, ◌&&◌, not, cond, List, [], ◌∷◌, ◌++◌, map, string_bytes, refl, sym, ◌∙◌, ap}
use Rattle.std.proofs.lemmas.Map.Text.{is_eq-slice_cmp, btree_set_updates_text}
use Rattle.formula_parse.specs.Tokens.{Name}
use Rattle.formula_plan.specs.OwnNames.{without_name, has_name, HaveSame}
use Rattle.formula_plan.proofs.OwnTracks.{named_both, without_named}

-- texts as names
abbrev pub names_in : List (String Global) → List Name
names_in = map string_bytes

has_text : (ks : List (String Global)) (n : Name) → has_name (names_in ks) n ≡ list_any (is_at (λ (k : String Global). slice_cmp nat_cmp n (string_bytes k))) ks
has_text [] n = refl
has_text (k ∷ ks) n =
    ap (λ b. b || has_name (names_in ks) n) (nat_list_eq_equiv.symm (string_bytes k) n ∙ sym (is_eq-slice_cmp n (string_bytes k)))
    ∙ ap (λ b. is_eq (slice_cmp nat_cmp n (string_bytes k)) || b) (has_text ks n)

-- what the set has
pub has_free : (s : BTreeSet (String Global)) (free : List Name) (bytes n : Name) → names_in s.keys ≡ free → bytes ≡ n → contains_text s bytes ≡ has_name free n
has_free s free bytes n seen is = sym (has_text s.keys bytes) ∙ ap (λ l. has_name l bytes) seen ∙ ap (has_name free) is

cond_or : (b h : Bool) → cond b true h ≡ (h || (b || false))
cond_or true true = refl
cond_or true false = refl
cond_or false true = refl
cond_or false false = refl

cond_and : (b h : Bool) → cond b false h ≡ (not b && h)
cond_and true h = refl
cond_and false h = refl

-- the set after a text is added, and after a name is taken out
pub text_added : (s t : BTreeSet (String Global)) (text : String Global) (free : List Name) → names_in s.keys ≡ free → Updates string_cmp s t text true → HaveSame (names_in t.keys) (free ++ string_bytes text ∷ [])
text_added s t text free seen updates n =
    has_text t.keys n ∙ btree_set_updates_text (string_bytes text) s t true updates n
    ∙ ap (cond (bytes_eq (string_bytes text) n) true) (has_free s free n n seen refl)
    ∙ cond_or (bytes_eq (string_bytes text) n) (has_name free n) ∙ sym (named_both free (string_bytes text ∷ []) n)

pub name_removed : (s t : BTreeSet (String Global)) (bytes m : Name) (free : List Name) → names_in s.keys ≡ free → bytes ≡ m → UpdatesBy string_cmp (λ (k : String Global). slice_cmp nat_cmp bytes (string_bytes k)) s t false
    → HaveSame (names_in t.keys) (without_name m free)
name_removed s t bytes m free seen is updates n =
    has_text t.keys n ∙ btree_set_updates_text bytes s t false updates n
    ∙ ap (cond (bytes_eq bytes n) false) (has_free s free n n seen refl)
    ∙ ap (λ l. cond (bytes_eq l n) false (has_name free n)) is
    ∙ cond_and (bytes_eq m n) (has_name free n) ∙ sym (without_named m free n)
