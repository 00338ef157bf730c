-- Where a text breaks a grammar: at one place at most, and nowhere where it is a text of the grammar.
use Rattle.std.proofs.Common.{◌≡◌, ℕ, ◌+◌, ◌<◌, ◌≤◌, List, ◌++◌, length, inl, inr, sym, ap, ◌∙◌, subst, arith, append_assoc, take, drop}
use Rattle.std.proofs.lemmas.Bool.{cases_lt}
use Rattle.std.proofs.lemmas.List.{take-append-drop, take-take}
use Rattle.text_grammar.specs.Faults.{Begins, BreaksAt}

-- a prefix of what begins a text begins one
pub begins_shorter : {X T : Type 0} (grammar : List X → T → Type 0) (text : List X) (i j : ℕ) → i ≤ j → Begins grammar (take j text) → Begins grammar (take i text)
begins_shorter {X} {T} grammar text i j l b =
    let e : take i text ++ (drop i (take j text) ++ b.0) ≡ take j text ++ b.0 =
    sym (append_assoc (take i text) (drop i (take j text)) b.0) ∙ ap (λ w. w ++ b.0) (ap (λ w. w ++ drop i (take j text)) (sym (take-take i j text l)) ∙ take-append-drop i (take j text)) in
    let P : List X → Type 0 = λ w. grammar w b.1 in
    (drop i (take j text) ++ b.0, b.1, subst P (sym e) b.2)

-- each prefix of a text of the grammar begins one
pub whole_begins : {X T : Type 0} (grammar : List X → T → Type 0) (text : List X) (i : ℕ) (tree : T) → grammar text tree → Begins grammar (take i text)
whole_begins {X} grammar text i tree g = let P : List X → Type 0 = λ w. grammar w tree in (drop i text, tree, subst P (sym (take-append-drop i text)) g)

-- a text of the grammar breaks it nowhere
pub breaks_nowhere : {X T : Type 0} (grammar : List X → T → Type 0) (text : List X) (i : ℕ) (tree : T) → BreaksAt grammar text i → grammar text tree → ⊥
breaks_nowhere grammar text i tree b g = elim (cases_lt i (length text)) [
  | inl l ↦ b.there l (whole_begins grammar text (i + 1) tree g)
  | inr l ↦ let w : i ≤ length text = b.within in b.end (omega arith) tree g
]

not_before : {X T : Type 0} (grammar : List X → T → Type 0) (text : List X) (i j : ℕ) → BreaksAt grammar text i → BreaksAt grammar text j → i < j → ⊥
not_before grammar text i j a b l = let w : j ≤ length text = b.within in a.there (omega arith) (begins_shorter grammar text (i + 1) j (omega arith) b.before)

-- a text breaks a grammar at one place
pub breaks_once : {X T : Type 0} (grammar : List X → T → Type 0) (text : List X) (i j : ℕ) → BreaksAt grammar text i → BreaksAt grammar text j → i ≡ j
breaks_once grammar text i j a b = elim (cases_lt i j) [
  | inl l ↦ absurd (not_before grammar text i j a b l)
  | inr l ↦ elim (cases_lt j i) [ inl m ↦ absurd (not_before grammar text j i b a m) | inr m ↦ omega arith ]
]
