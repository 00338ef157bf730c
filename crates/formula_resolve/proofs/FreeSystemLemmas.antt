-- The system at the first free occurrence of a variable.
use Rattle.std.specs.Str.{bytes_eq}
use Rattle.std.proofs.Common.{◌≡◌, ◌≢◌, refl, sym, ap, ◌∙◌, ℕ, ◌+◌, ◌<◌, ◌≤◌, ◌==◌, nat_lt, Bool, true, false, ◌&&◌, cond, if◌then◌else◌, List, [], ◌∷◌, ◌++◌, map, length, take, drop, get_or, Option, None, Some, arith}
use Rattle.std.proofs.lemmas.Bool.{false≢true, eqb-true, eqb-false, le-ltb}
use Rattle.std.proofs.lemmas.Option.{none-some}
use Rattle.std.proofs.lemmas.List.{take_more, take_all, take-append-drop, append_assoc}
use Rattle.formula_parse.specs.Tokens.{Name}
use Rattle.formula_parse.specs.Trees.{Formula}
use Rattle.formula_resolve.specs.Headers.{Headers}
use Rattle.formula_resolve.specs.Occurrences.{unbound, all_occurrences, free_of}
use Rattle.formula_resolve.specs.FreeOccurrences.{named, system_among, free_system}
use Rattle.formula_resolve.specs.declared.occurrence.Occurrence.{Occurrence}
use Rattle.formula_resolve.proofs.FreeLemmas.{passing-append, free_is_unbound}

-- whether the occurrence is one of the variable, and unbound
abbrev pub is_here : Name → Occurrence → Bool
is_here n o = (o.binder == 0) && bytes_eq n o.name

-- the system of the variable among the unbound occurrences
abbrev pub system_in : List Occurrence → Name → Option Name
system_in os n = system_among (map named (free_of 1 os)) n

among_after : (xs ys : List (Name × Name)) (n : Name) → system_among xs n ≡ None → system_among (xs ++ ys) n ≡ system_among ys n
among_after [] ys n none = refl
among_after (x ∷ xs) ys n none = by (bytes_eq n x.0) none (among_after xs ys n)
  where
    by : (b : Bool) → (if b then Some x.1 else system_among xs n) ≡ None → (system_among xs n ≡ None → system_among (xs ++ ys) n ≡ system_among ys n)
        → (if b then Some x.1 else system_among (xs ++ ys) n) ≡ system_among ys n
    by true some rest = absurd (none-some x.1 (sym some))
    by false none rest = rest none

in_after : (os ps : List Occurrence) (n : Name) → system_in os n ≡ None → system_in (os ++ ps) n ≡ system_in ps n
in_after os ps n none =
    ap (λ l. system_among l n) (passing-append (λ o. nat_lt o.binder 1) os ps)
    ∙ among_after (map named (free_of 1 os)) (map named (free_of 1 ps)) n none

below_one : (k : ℕ) → nat_lt k 1 ≡ (k == 0)
below_one k = by (k == 0) refl
  where
    by : (b : Bool) → (k == 0) ≡ b → nat_lt k 1 ≡ b
    by true is = ap (λ (l : ℕ). nat_lt l 1) (eqb-true k 0 is)
    by false is = let some : k ≢ 0 = eqb-false k 0 is in le-ltb k 1 (omega (arith, some))

-- an unbound occurrence, and one that is bound or of another variable
here_system : (o : Occurrence) (ps : List Occurrence) (n : Name) → is_here n o ≡ true → system_in (o ∷ ps) n ≡ Some o.system
here_system o ps n is = ap (λ (t : Bool). system_among (map named (cond t (o ∷ free_of 1 ps) (free_of 1 ps))) n) (below_one o.binder) ∙ by (o.binder == 0) is
  where
    named_here : (b : Bool) (l : List (Name × Name)) → b ≡ true → (if b then Some o.system else system_among l n) ≡ Some o.system
    named_here true l is = refl
    named_here false l is = absurd (false≢true is)

    by : (t : Bool) → (t && bytes_eq n o.name) ≡ true → system_among (map named (cond t (o ∷ free_of 1 ps) (free_of 1 ps))) n ≡ Some o.system
    by true here = named_here (bytes_eq n o.name) (map named (free_of 1 ps)) here
    by false here = absurd (false≢true here)

other_system : (o : Occurrence) (n : Name) → is_here n o ≡ false → system_in (o ∷ []) n ≡ None
other_system o n is = ap (λ (t : Bool). system_among (map named (cond t (o ∷ []) [])) n) (below_one o.binder) ∙ by (o.binder == 0) is
  where
    not_named : (b : Bool) → b ≡ false → (if b then Some o.system else None) ≡ None
    not_named true named_so = absurd (false≢true (sym named_so))
    not_named false named_so = refl

    by : (t : Bool) → (t && bytes_eq n o.name) ≡ false → system_among (map named (cond t (o ∷ []) [])) n ≡ None
    by true apart = not_named (bytes_eq n o.name) apart
    by false apart = refl

pub none_more : (os : List Occurrence) (i : ℕ) (o : Occurrence) (n : Name) → i < length os → o ≡ get_or os i o → system_in (take i os) n ≡ None → is_here n o ≡ false → system_in (take (i + 1) os) n ≡ None
none_more os i o n within at none apart =
    ap (λ l. system_in l n) (take_more os i o within ∙ ap (λ p. take i os ++ p ∷ []) (sym at))
    ∙ in_after (take i os) (o ∷ []) n none ∙ other_system o n apart

pub found : (os : List Occurrence) (i : ℕ) (o : Occurrence) (n : Name) → i < length os → o ≡ get_or os i o → system_in (take i os) n ≡ None → is_here n o ≡ true → system_in os n ≡ Some o.system
found os i o n within at none here =
    ap (λ l. system_in l n) (sym (take-append-drop (i + 1) os) ∙ ap (λ l. l ++ drop (i + 1) os) (take_more os i o within ∙ ap (λ p. take i os ++ p ∷ []) (sym at)) ∙ append_assoc (take i os) (o ∷ []) (drop (i + 1) os))
    ∙ in_after (take i os) (o ∷ drop (i + 1) os) n none ∙ here_system o (drop (i + 1) os) n here

pub none_at_all : (os : List Occurrence) (i : ℕ) (n : Name) → length os ≤ i → system_in (take i os) n ≡ None → None ≡ system_in os n
none_at_all os i n long none = sym none ∙ ap (λ l. system_in l n) (take_all i os long)

-- the unbound occurrences are the free ones
pub system_is : (h : Headers) (f : Formula) (os : List Occurrence) (n : Name) (r : Option Name) → os ≡ all_occurrences h f → r ≡ system_in os n → r ≡ free_system h f n
system_is h f os n r all is = is ∙ ap (λ l. system_in l n) all ∙ ap (λ l. system_among l n) (free_is_unbound h unbound 1 f)
