-- The quantifiers that bind variables, as they change.
use Rattle.std.proofs.Common.{◌≡◌, refl, sym, ap, ◌∙◌, ℕ, ◌<◌, Bool, true, false, ◌||◌, cond, if◌then◌else◌, List, map, length, get_or, Option, Some, bytes_eq}
use Rattle.std.specs.Option.{unwrap_or}
use Rattle.std.specs.Cmp.Lexicographic.{nat_list_cmp_total}
use Rattle.std.specs.FinMap.{get, insert, get-insert}
use Rattle.std.proofs.lemmas.Map.Text.{is_eq-slice_cmp}
use Rattle.std.proofs.lemmas.Slice.Eq.{bytes_eq-Decides}
use Rattle.std.proofs.lemmas.List.{get_or-map}
use Rattle.formula_parse.specs.Tokens.{Name}
use Rattle.formula_parse.specs.Trees as trees
use Rattle.formula_resolve.specs.Headers.{Named}
use Rattle.formula_resolve.specs.Occurrences.{Binders, is_listed, bound_by}
use Rattle.formula_resolve.specs.Scopes.{binders_of}

chosen : (t : Bool) (k : ℕ) (o : Option ℕ) → unwrap_or (cond t (Some k) o) 0 ≡ (if t then k else unwrap_or o 0)
chosen true k o = refl
chosen false k o = refl

-- one variable bound anew
pub one_bound : (m : Named ℕ) (n : Name) (k : ℕ) → binders_of (insert m n k) ≡ (λ q. if bytes_eq q n then k else binders_of m q)
one_bound m n k i q =
    (ap (λ o. unwrap_or o 0) (get-insert nat_list_cmp_total m n k q)
    ∙ ap (λ t. unwrap_or (cond t (Some k) (get m q)) 0) (is_eq-slice_cmp q n)
    ∙ chosen (bytes_eq q n) k (get m q)) i

in_turn : (x y : Bool) (k z : ℕ) → (if y then k else (if x then k else z)) ≡ (if x || y then k else z)
in_turn true true k z = refl
in_turn true false k z = refl
in_turn false true k z = refl
in_turn false false k z = refl

-- one more of the variables that a quantifier binds
pub bound_more : (m new : Named ℕ) (ns : trees.Names) (n : Name) (k : ℕ) (b : Binders) → new ≡ insert m n k → binders_of m ≡ bound_by k ns b → binders_of new ≡ bound_by k (trees.names ns n) b
bound_more m new ns n k b is before =
    ap binders_of is ∙ one_bound m n k ∙ (λ i q. if bytes_eq q n then k else before i q)
    ∙ (λ i q. in_turn (is_listed q ns) (bytes_eq q n) k (b q) i)

-- the variables of a list bound as before, and the others as they are
abbrev pub restored : trees.Names → Binders → Binders → Binders
restored ns b c = λ m. if is_listed m ns then b m else c m

named_conflict : (x y : Bool) (k z w : ℕ) → (y ≡ true → k ≡ z) → (if y then k else (if x then z else w)) ≡ (if x || y then z else w)
named_conflict true true k z w same = same refl
named_conflict true false k z w same = refl
named_conflict false true k z w same = same refl
named_conflict false false k z w same = refl

pub restored_more : (m new : Named ℕ) (ns : trees.Names) (n : Name) (b c : Binders) → new ≡ insert m n (b n) → binders_of m ≡ restored ns b c → binders_of new ≡ restored (trees.names ns n) b c
restored_more m new ns n b c is before =
    ap binders_of is ∙ one_bound m n (b n) ∙ (λ i q. if bytes_eq q n then b n else before i q)
    ∙ (λ i q. named_conflict (is_listed q ns) (bytes_eq q n) (b n) (b q) (c q) (λ same. ap b (sym ((bytes_eq-Decides q n).0 same))) i)

-- the number that was kept for a variable of the list
pub binder_at : (ns : List Name) (ks : List ℕ) (i : ℕ) (n : Name) (b : Binders) → ks ≡ map b ns → i < length ns → n ≡ get_or ns i n → get_or ks i 0 ≡ b n
binder_at ns ks i n b same within at = ap (λ js. get_or js i 0) same ∙ get_or-map b ns i n 0 within ∙ ap b (sym at)
