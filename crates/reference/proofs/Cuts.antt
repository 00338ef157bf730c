-- A word matches where a cut of it does.
use Rattle.std.proofs.Common.{◌≡◌, ◌≢◌, nat_eq, ℕ, ◌+◌, ◌<◌, ◌≤◌, List, [], ◌∷◌, length, take, drop, refl, sym, ap, ◌∙◌, get_or, arith, length-append, subst, inl, inr, Bool, true, false, IsTrue, ◌↔◌, Decides}
use Rattle.std.proofs.lemmas.Bool.{cases_lt, eqb-true}
use Rattle.std.proofs.lemmas.List.{take-append-drop}
use Rattle.std.proofs.Math.Seq.{take-append_seam, drop-append_seam}
use Rattle.std.specs.List.{AllByRecursion}
use Rattle.regex_build.specs.Expression.{Expression, any, follow, star, plus}
use Rattle.regex_build.specs.Matches.{Matches, joined}

-- at no cut from this one to before that one the one expression matches what comes before it, and the other what follows it
abbrev pub NoCut : {L : Type 0} → Expression L → Expression L → List L → ℕ → ℕ → Type 0
NoCut e f w low high = (k : ℕ) → low ≤ k → k < high → Matches e (take k w) → Matches f (drop k w) → ⊥

pub no_follow : {L : Type 0} (e f : Expression L) (w : List L) (high : ℕ) → length w < high → NoCut e f w 0 high → Matches (follow e f) w → ⊥
no_follow {L} e f w high whole none (u, v, split, prefix, back) =
    none (length u) (omega arith) (omega (arith, ap length split, length-append u v))
    (subst (λ (t : List L). Matches e t) (sym (rw split (take-append_seam u v))) prefix)
    (subst (λ (t : List L). Matches f t) (sym (rw split (drop-append_seam u v))) back)

pub star_cut : {L : Type 0} (e : Expression L) (w : List L) (k : ℕ) → Matches e (take k w) → Matches (star e) (drop k w) → Matches (star e) w
star_cut e w k prefix (pieces, split, all) = (take k w ∷ pieces, rw (← split) (sym (take-append-drop k w)), (prefix, all))

pieces_cut : {L : Type 0} (e : Expression L) (w : List L) (high : ℕ) → 0 < length w → length w < high → NoCut e (star e) w 1 high → (pieces : List (List L)) → w ≡ joined pieces → AllByRecursion (Matches e) pieces → ⊥
pieces_cut e w high some whole none [] split all = omega (arith, ap length split)
pieces_cut e w high some whole none ([] ∷ pieces) split all = pieces_cut e w high some whole none pieces split all.1
pieces_cut {L} e w high some whole none ((x ∷ p) ∷ pieces) split all =
    none (length (x ∷ p)) (omega arith) (omega (arith, ap length split, length-append (x ∷ p) (joined pieces)))
    (subst (λ (t : List L). Matches e t) (sym (rw split (take-append_seam (x ∷ p) (joined pieces)))) all.0)
    (pieces, rw split (drop-append_seam (x ∷ p) (joined pieces)), all.1)

pub no_star : {L : Type 0} (e : Expression L) (w : List L) (high : ℕ) → 0 < length w → length w < high → NoCut e (star e) w 1 high → Matches (star e) w → ⊥
no_star e w high some whole none (pieces, split, all) = pieces_cut e w high some whole none pieces split all

-- one more cut at which they don't
pub one_more_cut : {L : Type 0} (e f : Expression L) (w : List L) (low high : ℕ) → NoCut e f w low high → (Matches e (take high w) → Matches f (drop high w) → ⊥) → NoCut e f w low (high + 1)
one_more_cut {L} e f w low high none here k from less prefix back = elim (cases_lt k high) [
  | inl before ↦ none k from before prefix back
  | inr suffix ↦ let same : k ≡ high = omega arith in here (subst (λ (i : ℕ). Matches e (take i w)) same prefix) (subst (λ (i : ℕ). Matches f (drop i w)) same back)
]

-- pieces that are empty together
empty_piece : {L : Type 0} (e : Expression L) (pieces : List (List L)) → (pieces ≢ []) → joined pieces ≡ [] → AllByRecursion (Matches e) pieces → Matches e []
empty_piece e [] some none all = absurd (some refl)
empty_piece e ([] ∷ pieces) some none all = all.0
empty_piece e ((x ∷ p) ∷ pieces) some none all = absurd (cc)

-- a cut whose prefix does not match
pub no_prefix : {L : Type 0} (e f : Expression L) (w prefix : List L) (low k : ℕ) → prefix ≡ take k w → (Matches e prefix → ⊥) → NoCut e f w low k → NoCut e f w low (k + 1)
no_prefix {L} e f w prefix low k prefix_is none before = one_more_cut e f w low k before (λ first others. none (subst (λ (t : List L). Matches e t) (sym prefix_is) first))

-- a cut after which the rest does not match
pub no_back : {L : Type 0} (e f : Expression L) (w back : List L) (low k : ℕ) → back ≡ drop k w → (Matches f back → ⊥) → NoCut e f w low k → NoCut e f w low (k + 1)
no_back {L} e f w back low k back_is none before = one_more_cut e f w low k before (λ first others. none (subst (λ (t : List L). Matches f t) (sym back_is) others))

-- the empty word is matched once or not at all
pub plus_empty : {L : Type 0} (e : Expression L) (w : List L) (r : Bool) → length w ≡ 0 → IsTrue r ↔ Matches e w → IsTrue r ↔ Matches (plus e) w
plus_empty e [] r none same = (λ yes. ([] ∷ [], (λ is. absurd (cc)), refl, (same.0 yes, tt)), λ (pieces, some, split, all). same.1 (empty_piece e pieces some (sym split) all))
plus_empty e (x ∷ w) r none same = absurd (omega arith)

-- what a test that failed did not find
pub refuted : {M : Type 0} (r : Bool) → r ≡ false → (M → IsTrue r) → M → ⊥
refuted r fails finds m = let passes : r ≡ true = finds m in cc

pub found : {M : Type 0} (r : Bool) → r ≡ true → (IsTrue r → M) → M
found r passes finds = finds passes

pub answers_yes : {M : Type 0} → M → IsTrue true ↔ M
answers_yes m = (λ _. m, λ _. refl)

pub answers_no : {M : Type 0} → (M → ⊥) → IsTrue false ↔ M
answers_no none = (λ (is : false ≡ true). absurd (cc), λ m. absurd (none m))

one_letter : {L : Type 0} (w : List L) (t : L) → 1 ≤ length w → length w < 2 → t ≡ get_or w 0 t → w ≡ t ∷ []
one_letter [] t some few is = absurd (omega arith)
one_letter {L} (x ∷ []) t some few is = ap (λ (y : L). y ∷ []) (sym is)
one_letter (x ∷ y ∷ w) t some few is = absurd (omega arith)

-- a word of one letter is another letter if and only if the two are equal
pub same_letter : {L : Type 0} (w : List L) (t x : L) (r : Bool) → 1 ≤ length w → length w < 2 → t ≡ get_or w 0 t → Decides r (t ≡ x) → IsTrue r ↔ (w ≡ x ∷ [])
same_letter {L} w t x r some few is same =
    let alone : w ≡ t ∷ [] = one_letter w t some few is in
    (λ equal. alone ∙ ap (λ (y : L). y ∷ []) (same.0 equal), λ w_is. same.1 (cc))

-- a word of one letter is any letter
pub one_of_any : {L : Type 0} (w : List L) → IsTrue (nat_eq (length w) 1) ↔ Matches any w
one_of_any {L} [] = (λ is. let none : length {A = L} [] ≡ 1 = eqb-true (length {A = L} []) 1 is in absurd (omega (arith, none)), λ (x, is). absurd (omega (arith, ap length is)))
one_of_any (x ∷ []) = (λ is. (x, refl), λ _. refl)
one_of_any (x ∷ y ∷ w) = (λ is. let more : length (x ∷ y ∷ w) ≡ 1 = eqb-true (length (x ∷ y ∷ w)) 1 is in absurd (omega (arith, more)), λ (z, is). absurd (omega (arith, ap length is)))
