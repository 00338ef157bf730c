-- Two tables of one expression are equal.
use Rattle.std.proofs.Common.{◌≡◌, ℕ, suc, ◌<◌, Bool, true, false, List, [], ◌∷◌, length, inl, inr, refl, sym, ap, ◌∙◌, subst, arith}
use Rattle.std.specs.Prelude.{Contains, IsTrue, ℤ, AllPairs}
use Rattle.std.proofs.lemmas.List.{same_lists, get_or_default}
use Rattle.digit_tuple.specs.declared.transitions.Transition.{Transition}
use Rattle.digit_tuple.specs.Automaton.{Branching, Branch, no_branch, branch_of, accepting_of, transitions_of, letters_of, IsBefore, IsBranchTable}
use Rattle.digit_tuple.specs.Tuples.{IsLetterOf}
use Rattle.regex_build.specs.Expression.{Expression}
use Rattle.regex_build.specs.Positions.{IsPositionTable}
use Rattle.regex_build.proofs.ListSteps.{contains_cons_cases, contains_here, contains_later, contains_none}

same_tests : (a b : Bool) → (IsTrue a → IsTrue b) → (IsTrue b → IsTrue a) → a ≡ b
same_tests true b f g = sym (f refl)
same_tests false true f g = g refl
same_tests false false f g = refl

not_both : (e f : Transition) → IsBefore e f → IsBefore f e → ⊥
not_both e f h k = elim h [ inl p ↦ elim k [ inl q ↦ omega arith | inr q ↦ let x : f.letter ≡ e.letter = q.0 in omega arith ] | inr p ↦ let y : e.letter ≡ f.letter = p.0 in let z : e.target < f.target = p.1 in elim k [ inl q ↦ omega arith | inr q ↦ let w : f.target < e.target = q.1 in omega arith ] ]

-- the first is before each later one
head_before : (x : Transition) (xs : List Transition) (y : Transition) → AllPairs IsBefore (x ∷ xs) → Contains xs y → IsBefore x y
head_before x xs y up h = let P : Transition → Type 0 = λ z. IsBefore x z in let l : h.0 < length xs = h.1 in subst P h.2 (up 0 (suc h.0) y (omega arith) (omega arith))

tail_up : (x : Transition) (xs : List Transition) → AllPairs IsBefore (x ∷ xs) → AllPairs IsBefore xs
tail_up x xs up i j d l m = up (suc i) (suc j) d (omega arith) (omega arith)

-- lists in order with the same members are equal
same_rows : (xs ys : List Transition) → AllPairs IsBefore xs → AllPairs IsBefore ys → ((e : Transition) → Contains xs e → Contains ys e) → ((e : Transition) → Contains ys e → Contains xs e) → xs ≡ ys
same_rows [] [] up vp f g = refl
same_rows [] (y ∷ ys) up vp f g = absurd (contains_none y (g y (contains_here y ys y refl)))
same_rows (x ∷ xs) [] up vp f g = absurd (contains_none x (f x (contains_here x xs x refl)))
same_rows (x ∷ xs) (y ∷ ys) up vp f g =
    let one : x ≡ y = elim (contains_cons_cases y ys x (f x (contains_here x xs x refl))) [
      | inl e ↦ sym e
      | inr h ↦ elim (contains_cons_cases x xs y (g y (contains_here y ys y refl))) [
        | inl e ↦ e
        | inr k ↦ absurd (not_both x y (head_before x xs y up k) (head_before y ys x vp h))
      ]
    ] in
    let rest : xs ≡ ys = same_rows xs ys (tail_up x xs up) (tail_up y ys vp) (later x xs y ys one up f) (later y ys x xs (sym one) vp g) in
    ap (λ z. z ∷ xs) one ∙ ap (λ zs. y ∷ zs) rest
  where
    later : (x : Transition) (xs : List Transition) (y : Transition) (ys : List Transition) → x ≡ y → AllPairs IsBefore (x ∷ xs) → ((e : Transition) → Contains (x ∷ xs) e → Contains (y ∷ ys) e) → (e : Transition) → Contains xs e → Contains ys e
    later x xs y ys one up f e h = elim (contains_cons_cases y ys e (f e (contains_later x xs e h))) [
      | inl k ↦ let P : Transition → Type 0 = λ z. IsBefore x z in let b : IsBefore x x = subst P (sym (one ∙ k)) (head_before x xs e up h) in absurd (not_both x x b b)
      | inr k ↦ k
    ]

same_branches : (a b : Branch) → a.accepting ≡ b.accepting → a.transitions ≡ b.transitions → a ≡ b
same_branches a b e f =
    let one : Branch → Branch = λ c. c in
    ap (λ (t : Bool). let r : Branch = record { accepting = t; transitions = a.transitions } in r) e ∙ ap (λ (es : List Transition). let r : Branch = record { accepting = b.accepting; transitions = es } in r) f

pub one_table : (sets : List (List ℤ)) (e : Expression (List ℤ)) (n m : Branching) → IsPositionTable (IsLetterOf sets) e n → IsPositionTable (IsLetterOf sets) e m
    → n.sizes ≡ m.sizes → IsBranchTable (letters_of n) n.states → IsBranchTable (letters_of m) m.states → n ≡ m
one_table sets e n m t u s tn tm =
    ap (λ (xs : List ℕ). let r : Branching = record { sizes = xs; states = n.states } in r) s ∙ ap (λ (xs : List Branch). let r : Branching = record { sizes = m.sizes; states = xs } in r) same
  where
    count : length n.states ≡ length m.states
    count = t.states ∙ sym u.states

    at : (q : ℕ) → q < length n.states → branch_of n q ≡ branch_of m q
    at q l =
        let k : q < length m.states = let c : length n.states ≡ length m.states = count in omega arith in
        same_branches (branch_of n q) (branch_of m q)
        (same_tests (accepting_of n q) (accepting_of m q) (λ h. (u.accepts q).1 ((t.accepts q).0 h)) (λ h. (t.accepts q).1 ((u.accepts q).0 h)))
        (same_rows (transitions_of n q) (transitions_of m q) (tn.rows q no_branch l).ascending (tm.rows q no_branch k).ascending
        (λ x h. (u.leads q x.letter x.target).1 ((t.leads q x.letter x.target).0 h))
        (λ x h. (t.leads q x.letter x.target).1 ((u.leads q x.letter x.target).0 h)))

    same : n.states ≡ m.states
    same = same_lists n.states m.states count (λ k d l.
        let j : k < length m.states = let c : length n.states ≡ length m.states = count in omega arith in
        get_or_default n.states k d no_branch l ∙ (at k l ∙ get_or_default m.states k no_branch d j))
