-- A search for the states that words over some letters lead to.
use Rattle.std.proofs.Common.{◌≡◌, ◌≢◌, ℕ, zero, suc, ◌+◌, ◌<◌, ◌≤◌, Bool, true, false, List, [], ◌∷◌, ◌++◌, length, take, get_or, ◌↔◌, ◌⊎◌, inl, inr, refl, sym, ap, ◌∙◌, subst, true≢false, arith, append_assoc, length-append, set, get_or-set_same, get_or-set_other}
use Rattle.std.specs.Prelude.{eqb}
use Rattle.std.specs.List.{AllByRecursion, Contains, IsDistinct, list_any}
use Rattle.std.proofs.lemmas.Bool.{cases_eq, cases_lt, eqb-true, false_from_ne_true}
use Rattle.std.proofs.lemmas.List.{get_or_append_left, get_or_push, get_or_past, get_or_default, length_push, take_more, take_all, take-append-le, length-set}
use Rattle.std.proofs.lemmas.List.Elements.{Contains-append_left, Contains-push, Contains-push_cases, All-contains_itself, All-push}
use Rattle.std.proofs.lemmas.List.Folds.{Any-from_list_any}
use Rattle.std.proofs.lemmas.List.Quantifiers.{all_pairs_push}
use Rattle.std.proofs.lemmas.Map.Steps.{length-le_from_distinct_below}
use Rattle.digit_tuple.specs.Automaton.{Branching, IsBranchTable, Leads, Path, transitions_of, letters_of, states_of}
use Rattle.digit_tuple.specs.Paddings.{zeros}
use Rattle.digit_tuple.specs.declared.transitions.Transition.{Transition}
use Rattle.digit_tuple.proofs.PathLemmas.{Path-push, Path-in_range}
use Rattle.digit_tuple.proofs.MemberLemmas.{Contains-head, Contains-cases, Contains-none}
use Rattle.pad_rename.specs.ZeroClosure.{AreAfterZeros, AreFlagged, AreFound, AreFoundToo, IsOverFlagged, IsReached, IsTargetOf, flag_at}

-- one more state is found, and flagged
pub AreFound-push : (flags : List Bool) (found new : List ℕ) (state : ℕ) → state < length flags → flag_at flags state ≡ false → new ≡ found ++ state ∷ [] → AreFound (length flags) flags found
    → AreFound (length flags) (set flags state true) new
AreFound-push flags found new state inside unset is are = subst (AreFound (length flags) (set flags state true)) (sym is) (record {
  size = length-set flags state true;
  in_range = All-push (λ q. q < length flags) found state are.in_range inside;
  apart = all_pairs_push (λ p q. p ≢ q) found state are.apart (λ k d within same. missing (subst (Contains found) same (All-contains_itself found k d within)));
  flagged = λ q. by q (cases_eq q state);
})
  where
    missing : ¬ Contains found state
    missing there = true≢false (sym ((are.flagged state).1 there) ∙ unset)

    before : (q : ℕ) → q ≢ state → Contains found q ⊎ (state ≡ q) → Contains found q
    before q other (inl there) = there
    before q other (inr same) = absurd (other (sym same))

    by : (q : ℕ) → (q ≡ state) ⊎ (q ≢ state) → (flag_at (set flags state true) q ≡ true) ↔ Contains (found ++ state ∷ []) q
    by q (inl same) = (
      (λ flagged. subst (Contains (found ++ state ∷ [])) (sym same) (Contains-push found state)),
      (λ there. ap (flag_at (set flags state true)) same ∙ get_or-set_same flags state true false inside),
    )
    by q (inr other) = (
      (λ flagged. Contains-append_left found (state ∷ []) q ((are.flagged q).0 (sym (get_or-set_other flags state q true false other) ∙ flagged))),
      (λ there. get_or-set_other flags state q true false other ∙ (are.flagged q).1 (before q other (Contains-push_cases found state q there))),
    )

pub AreFoundToo-push : (found new : List ℕ) (state : ℕ) → new ≡ found ++ state ∷ [] → AreFoundToo found new (λ q. state ≡ q)
AreFoundToo-push found new state is = record {
  later = state ∷ [];
  new_is = is;
  from = λ q there. Contains-push_cases found state q (subst (λ xs. Contains xs q) is there);
  all = λ q same. subst (λ xs. Contains xs q) (sym is) (subst (Contains (found ++ state ∷ [])) same (Contains-push found state));
}

-- more are found, and more again
pub AreFoundToo-more : (old mid new : List ℕ) (P Q R : ℕ → Type 0) → ((q : ℕ) → R q → P q ⊎ Q q) → ((q : ℕ) → P q → R q) → ((q : ℕ) → Q q → R q)
    → AreFoundToo old mid P → AreFoundToo mid new Q → AreFoundToo old new R
AreFoundToo-more old mid new P Q R parts left right one two = record {
  later = one.later ++ two.later;
  new_is = two.new_is ∙ ap (λ xs. xs ++ two.later) one.new_is ∙ append_assoc old one.later two.later;
  from = λ q there. first q (two.from q there);
  all = λ q is. last q (parts q is);
}
  where
    first : (q : ℕ) → Contains mid q ⊎ Q q → Contains old q ⊎ R q
    first q (inl there) = second q (one.from q there)
      where
        second : (r : ℕ) → Contains old r ⊎ P r → Contains old r ⊎ R r
        second r (inl before) = inl before
        second r (inr new_one) = inr (left r new_one)
    first q (inr new_one) = inr (right q new_one)

    last : (q : ℕ) → P q ⊎ Q q → Contains new q
    last q (inl is) = subst (λ xs. Contains xs q) (sym two.new_is) (Contains-append_left mid two.later q (one.all q is))
    last q (inr is) = two.all q is

-- the more are the same
pub AreFoundToo-same : (old new : List ℕ) (P Q : ℕ → Type 0) → ((q : ℕ) → P q → Q q) → ((q : ℕ) → Q q → P q) → AreFoundToo old new P → AreFoundToo old new Q
AreFoundToo-same old new P Q over back too = record {
  later = too.later;
  new_is = too.new_is;
  from = λ q there. by q (too.from q there);
  all = λ q is. too.all q (back q is);
}
  where
    by : (q : ℕ) → Contains old q ⊎ P q → Contains old q ⊎ Q q
    by q (inl there) = inl there
    by q (inr is) = inr (over q is)

-- what was found before is found
pub AreFoundToo-old : (old new : List ℕ) (P : ℕ → Type 0) → AreFoundToo old new P → (q : ℕ) → Contains old q → Contains new q
AreFoundToo-old old new P too q there = subst (λ xs. Contains xs q) (sym too.new_is) (Contains-append_left old too.later q there)

-- what the elements up to one more are
Contains-take_more : {X : Type 0} (xs : List X) (i : ℕ) (d x : X) → i < length xs → Contains (take (i + 1) xs) x → Contains (take i xs) x ⊎ (get_or xs i d ≡ x)
Contains-take_more xs i d x within there = Contains-push_cases (take i xs) (get_or xs i d) x (subst (λ ys. Contains ys x) (take_more xs i d within) there)

Contains-take_old : {X : Type 0} (xs : List X) (i : ℕ) (d x : X) → i < length xs → Contains (take i xs) x → Contains (take (i + 1) xs) x
Contains-take_old xs i d x within there = subst (λ ys. Contains ys x) (sym (take_more xs i d within)) (Contains-append_left (take i xs) (get_or xs i d ∷ []) x there)

Contains-take_new : {X : Type 0} (xs : List X) (i : ℕ) (d : X) → i < length xs → Contains (take (i + 1) xs) (get_or xs i d)
Contains-take_new xs i d within = subst (λ ys. Contains ys (get_or xs i d)) (sym (take_more xs i d within)) (Contains-push (take i xs) (get_or xs i d))

-- one more of the states
pub AreFoundToo-state : (old mid new states : List ℕ) (i state : ℕ) → i < length states → get_or states i 0 ≡ state
    → AreFoundToo old mid (Contains (take i states)) → AreFoundToo mid new (λ q. state ≡ q) → AreFoundToo old new (Contains (take (i + 1) states))
AreFoundToo-state old mid new states i state within at one two =
    AreFoundToo-more old mid new (Contains (take i states)) (λ q. state ≡ q) (Contains (take (i + 1) states))
    (λ q there. by q (Contains-take_more states i 0 q within there))
    (λ q there. Contains-take_old states i 0 q within there)
    (λ q is. subst (Contains (take (i + 1) states)) (at ∙ is) (Contains-take_new states i 0 within))
    one two
  where
    by : (q : ℕ) → Contains (take i states) q ⊎ (get_or states i 0 ≡ q) → Contains (take i states) q ⊎ (state ≡ q)
    by q (inl there) = inl there
    by q (inr is) = inr (sym at ∙ is)

-- the target of one more transition
pub AreFoundToo-transition : (letters : List Bool) (old mid new : List ℕ) (transitions : List Transition) (i : ℕ) (transition : Transition) → i < length transitions → get_or transitions i transition ≡ transition
    → AreFoundToo old mid (IsTargetOf letters (take i transitions)) → AreFoundToo mid new (λ q. (flag_at letters transition.letter ≡ true) × (transition.target ≡ q)) → AreFoundToo old new (IsTargetOf letters (take (i + 1) transitions))
AreFoundToo-transition letters old mid new transitions i transition within at one two =
    AreFoundToo-more old mid new (IsTargetOf letters (take i transitions)) (λ q. (flag_at letters transition.letter ≡ true) × (transition.target ≡ q)) (IsTargetOf letters (take (i + 1) transitions))
    (λ q is. by q is (Contains-take_more transitions i transition is.0 within is.1))
    (λ q is. (is.0, Contains-take_old transitions i transition is.0 within is.1, is.2, is.3))
    (λ q is. (transition, subst (Contains (take (i + 1) transitions)) at (Contains-take_new transitions i transition within), is.0, is.1))
    one two
  where
    by : (q : ℕ) (is : IsTargetOf letters (take (i + 1) transitions) q) → Contains (take i transitions) is.0 ⊎ (get_or transitions i transition ≡ is.0) → IsTargetOf letters (take i transitions) q ⊎ ((flag_at letters transition.letter ≡ true) × (transition.target ≡ q))
    by q is (inl there) = inl (is.0, there, is.2, is.3)
    by q is (inr same) =
        let one : transition ≡ is.0 = sym at ∙ same in
        inr (ap (λ (e : Transition). flag_at letters e.letter) one ∙ is.2, ap (λ (e : Transition). e.target) one ∙ is.3)

-- no more states are found than there are
different : (x : ℕ) (xs : List ℕ) → ((j : ℕ) → j < length xs → x ≢ get_or xs j 0) → AllByRecursion (λ y. eqb x y ≡ false) xs
different x [] apart = tt
different x (y ∷ xs) apart = (false_from_ne_true (eqb x y) (λ is. apart 0 (omega arith) (eqb-true x y is)), different x xs (λ j within. apart (suc j) (omega arith)))

distinct : (xs : List ℕ) → ((i j : ℕ) → i < j → j < length xs → get_or xs i 0 ≢ get_or xs j 0) → IsDistinct eqb xs
unfolding IsDistinct
distinct [] apart = tt
distinct (x ∷ xs) apart = (different x xs (λ j within. apart 0 (suc j) (omega arith) (omega arith)), distinct xs (λ i j before within. apart (suc i) (suc j) (omega arith) (omega arith)))

pub AreFound-few : (count : ℕ) (flags : List Bool) (found : List ℕ) → AreFound count flags found → length found ≤ count
AreFound-few count flags found are = length-le_from_distinct_below found count (distinct found (λ i j before within. are.apart i j 0 before within)) member
  where
    member : (q : ℕ) → list_any (eqb q) found ≡ true → q < count
    member q is =
        let any = Any-from_list_any (eqb q) found is in
        let same : q ≡ any.1 = eqb-true q any.1 any.4 in
        let at : get_or found any.0 0 ≡ any.1 = get_or_default found any.0 0 any.1 any.2 ∙ any.3 in
        omega (arith, are.in_range any.0 0 any.2, at, same)

-- The search so far: the found states up to a place have had their transitions looked at.
pub record IsSearch (n : Branching) (letters : List Bool) (first : List ℕ) (flags : List Bool) (found : List ℕ) (next : ℕ) : Type 0 where
  pub are : AreFound (states_of n) flags found
  pub low : next ≤ length found
  pub begun : (q : ℕ) → Contains first q → Contains found q
  pub sound : (q : ℕ) → Contains found q → IsReached n letters first q
  pub closed : (i q : ℕ) → i < next → IsTargetOf letters (transitions_of n (get_or found i 0)) q → Contains found q

-- it begins with the first states
pub IsSearch-begin : (n : Branching) (letters flags : List Bool) (first none found : List ℕ) → none ≡ [] → AreFound (states_of n) flags found → AreFoundToo none found (Contains first) → IsSearch n letters first flags found 0
IsSearch-begin n letters flags first none found empty are too = record {
  are = are;
  low = omega arith;
  begun = λ q there. too.all q there;
  sound = λ q there. by q (too.from q there);
  closed = λ i q less. absurd (omega arith);
}
  where
    by : (q : ℕ) → Contains none q ⊎ Contains first q → IsReached n letters first q
    by q (inl old) = absurd (Contains-none q (subst (λ xs. Contains xs q) empty old))
    by q (inr new_one) = (q, new_one, ([], tt, refl))

IsOverFlagged-push : (letters : List Bool) (w : List ℕ) (a : ℕ) → IsOverFlagged letters w → flag_at letters a ≡ true → IsOverFlagged letters (w ++ a ∷ [])
IsOverFlagged-push letters [] a over is = (is, tt)
IsOverFlagged-push letters (b ∷ w) a over is = (over.0, IsOverFlagged-push letters w a over.1 is)

-- one more letter leads on
pub IsReached-more : (n : Branching) (letters : List Bool) (first : List ℕ) (p q : ℕ) → IsReached n letters first p → IsTargetOf letters (transitions_of n p) q → IsReached n letters first q
IsReached-more n letters first p q reached target =
    let transition = target.0 in
    let leads : Leads n p transition.letter q = subst (λ t. Leads n p transition.letter t) target.3 target.1 in
    (reached.0, reached.1, (reached.2.0 ++ transition.letter ∷ [], IsOverFlagged-push letters reached.2.0 transition.letter reached.2.1 target.2, Path-push n reached.2.0 transition.letter reached.0 p q reached.2.2 leads))

-- the transitions of one more state are looked at
pub IsSearch-next : (n : Branching) (letters flags news : List Bool) (first found more : List ℕ) (next state : ℕ) → next < length found → get_or found next 0 ≡ state
    → IsSearch n letters first flags found next → AreFound (states_of n) news more → AreFoundToo found more (IsTargetOf letters (transitions_of n state)) → IsSearch n letters first news more (next + 1)
IsSearch-next n letters flags news first found more next state within at search are too = record {
  are = are;
  low = longer;
  begun = λ q there. old q (search.begun q there);
  sound = λ q there. by q (too.from q there);
  closed = λ i q less target. close i q (cases_lt i next) less target;
}
  where
    old : (q : ℕ) → Contains found q → Contains more q
    old q there = AreFoundToo-old found more (IsTargetOf letters (transitions_of n state)) too q there

    read : (i : ℕ) → i < length found → get_or more i 0 ≡ get_or found i 0
    read i less = ap (λ (xs : List ℕ). get_or xs i 0) too.new_is ∙ get_or_append_left found too.later 0 i less

    longer : next + 1 ≤ length more
    longer = omega (arith, within, ap length too.new_is, length-append {A = ℕ})

    here : Contains found state
    here = subst (Contains found) at (All-contains_itself found next 0 within)

    by : (q : ℕ) → Contains found q ⊎ IsTargetOf letters (transitions_of n state) q → IsReached n letters first q
    by q (inl before) = search.sound q before
    by q (inr target) = IsReached-more n letters first state q (search.sound state here) target

    close : (i q : ℕ) → (i < next) ⊎ (next ≤ i) → i < next + 1 → IsTargetOf letters (transitions_of n (get_or more i 0)) q → Contains more q
    close i q (inl before) less target = old q (search.closed i q before (subst (λ p. IsTargetOf letters (transitions_of n p) q) (read i (omega arith)) target))
    close i q (inr after) less target =
        let is : next ≡ i = omega arith in
        let same : get_or more i 0 ≡ state = ap (λ j. get_or more j 0) (sym is) ∙ read next within ∙ at in
        too.all q (subst (λ p. IsTargetOf letters (transitions_of n p) q) same target)

-- where all transitions have been looked at, all reached states are found
module _ (n : Branching) (letters flags : List Bool) (first found : List ℕ) (next : ℕ) (search : IsSearch n letters first flags found next) (all : length found ≤ next) where
  found_after : (w : List ℕ) (p q : ℕ) → Contains found p → IsOverFlagged letters w → Path n p w q → Contains found q
  found_after [] p q there over path = subst (Contains found) path there
  found_after (a ∷ w) p q there over path =
      let at : get_or found there.0 0 ≡ p = get_or_default found there.0 0 p there.1 ∙ there.2 in
      let target : IsTargetOf letters (transitions_of n p) path.0 = (record { letter = a; target = path.0 }, path.1, over.0, refl) in
      found_after w path.0 q (search.closed there.0 path.0 (omega (arith, there.1)) (subst (λ r. IsTargetOf letters (transitions_of n r) path.0) (sym at) target)) over.1 path.2

  pub IsReached-flagged : (q : ℕ) → (flag_at flags q ≡ true) ↔ IsReached n letters first q
  IsReached-flagged q = (
    (λ is. search.sound q ((search.are.flagged q).0 is)),
    (λ reached. (search.are.flagged q).1 (found_after reached.2.0 reached.0 q (search.begun reached.0 reached.1) reached.2.1 reached.2.2)),
  )

-- a list that was written over
pub written : (n : ℕ) (new rest : List Bool) → length new ≡ n → take n (new ++ rest) ≡ new
written n new rest size = take-append-le n new rest (omega arith) ∙ take_all n new (omega arith)

-- one more flag that is set
pub AreFlagged-take : (flags : List Bool) (set : List ℕ) → AreFlagged flags set → AreFlagged (flags ++ true ∷ []) (set ++ length flags ∷ [])
AreFlagged-take flags set are = record {
  ascending = all_pairs_push (λ p q. p < q) set (length flags) are.ascending (λ k d within. below (get_or set k d) ((are.members (get_or set k d)).0 (All-contains_itself set k d within)));
  members = λ q. ((λ there. forth q (Contains-push_cases set (length flags) q there)), (λ is. back q (cases_lt q (length flags)) is));
}
  where
    below : (q : ℕ) → flag_at flags q ≡ true → q < length flags
    below q is = by (cases_lt q (length flags))
      where
        by : (q < length flags) ⊎ (length flags ≤ q) → q < length flags
        by (inl less) = less
        by (inr more) = absurd (true≢false (sym is ∙ get_or_past flags q false more))

    forth : (q : ℕ) → Contains set q ⊎ (length flags ≡ q) → flag_at (flags ++ true ∷ []) q ≡ true
    forth q (inl before) = let is = (are.members q).0 before in get_or_append_left flags (true ∷ []) false q (below q is) ∙ is
    forth q (inr is) = get_or_push flags true false q is

    back : (q : ℕ) → (q < length flags) ⊎ (length flags ≤ q) → flag_at (flags ++ true ∷ []) q ≡ true → Contains (set ++ length flags ∷ []) q
    back q (inl less) is = Contains-append_left set (length flags ∷ []) q ((are.members q).1 (sym (get_or_append_left flags (true ∷ []) false q less) ∙ is))
    back q (inr more) is = last (cases_lt (length flags) q)
      where
        last : (length flags < q) ⊎ (q ≤ length flags) → Contains (set ++ length flags ∷ []) q
        last (inl past) = absurd (true≢false (sym is ∙ get_or_past (flags ++ true ∷ []) q false (omega (arith, length_push flags true))))
        last (inr low) = let same : length flags ≡ q = omega arith in subst (Contains (set ++ length flags ∷ [])) same (Contains-push set (length flags))

-- one more flag that is not
pub AreFlagged-skip : (flags : List Bool) (set : List ℕ) → AreFlagged flags set → AreFlagged (flags ++ false ∷ []) set
AreFlagged-skip flags set are = record {
  ascending = are.ascending;
  members = λ q. ((λ there. read q (cases_lt q (length flags)) ∙ (are.members q).0 there), (λ is. (are.members q).1 (sym (read q (cases_lt q (length flags))) ∙ is)));
}
  where
    read : (q : ℕ) → (q < length flags) ⊎ (length flags ≤ q) → flag_at (flags ++ false ∷ []) q ≡ flag_at flags q
    read q (inl less) = get_or_append_left flags (false ∷ []) false q less
    read q (inr more) = last (cases_lt (length flags) q) ∙ sym (get_or_past flags q false more)
      where
        last : (length flags < q) ⊎ (q ≤ length flags) → flag_at (flags ++ false ∷ []) q ≡ false
        last (inl past) = get_or_past (flags ++ false ∷ []) q false (omega (arith, length_push flags false))
        last (inr low) = get_or_push flags false false q (omega arith)

-- a word over the zero letter alone is so many zeros
zeros_from : (w : List ℕ) → IsOverFlagged (true ∷ []) w → (k : ℕ) × (w ≡ zeros k)
zeros_from [] over = (0, refl)
zeros_from (zero ∷ w) over = let rest = zeros_from w over.1 in (suc rest.0, ap (λ v. 0 ∷ v) rest.1)
zeros_from (suc a ∷ w) over = absurd (true≢false (sym over.0))

zeros_over : (k : ℕ) → IsOverFlagged (true ∷ []) (zeros k)
zeros_over zero = tt
zeros_over (suc k) = (refl, zeros_over k)

-- the states that zero letters lead to are those that are reached by the zero letter from the initial one
pub AreAfterZeros-flagged : (n : Branching) (flags : List Bool) (set : List ℕ) → IsBranchTable (letters_of n) n.states
    → ((q : ℕ) → (flag_at flags q ≡ true) ↔ IsReached n (true ∷ []) (0 ∷ []) q) → AreFlagged flags set → AreAfterZeros n set
AreAfterZeros-flagged n flags set table reached are = record {
  in_range = λ k d within. let path = forth (get_or set k d) (All-contains_itself set k d within) in Path-in_range n (zeros path.0) 0 (get_or set k d) table table.initial path.1;
  ascending = are.ascending;
  members = λ q. (forth q, back q);
}
  where
    only : (p q : ℕ) (w : List ℕ) → (0 ≡ p) ⊎ Contains [] p → Path n p w q → Path n 0 w q
    only p q w (inl same) path = subst (λ r. Path n r w q) (sym same) path
    only p q w (inr none) path = absurd (Contains-none p none)

    forth : (q : ℕ) → Contains set q → (k : ℕ) × Path n 0 (zeros k) q
    forth q there =
        let is = (reached q).0 ((are.members q).0 there) in
        let count = zeros_from is.2.0 is.2.1 in
        (count.0, subst (λ w. Path n 0 w q) count.1 (only is.0 q is.2.0 (Contains-cases 0 [] is.0 is.1) is.2.2))

    back : (q : ℕ) → (k : ℕ) × Path n 0 (zeros k) q → Contains set q
    back q path = (are.members q).1 ((reached q).1 (0, Contains-head 0 [], (zeros path.0, zeros_over path.0, path.1)))
