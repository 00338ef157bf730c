-- Lines are without conflict if and only if the transitions from each state that share a tuple have one target.
use Rattle.std.proofs.Common.{◌≡◌, ℕ, ◌<◌, Bool, true, false, cond, not, ◌&&◌, eqb, List, [], ◌∷◌, ◌++◌, Option, None, Some, ◌⊎◌, inl, inr, refl, sym, ap, ◌∙◌, subst, true≢false, arith, append_assoc}
use Rattle.std.specs.List.{Contains, AllByRecursion, list_all, list_any, filter}
use Rattle.std.proofs.lemmas.Bool.{and_parts, eqb-true, eq-eqb}
use Rattle.std.proofs.lemmas.Grind.{flat_map-append}
use Rattle.std.proofs.lemmas.List.{append-nil}
use Rattle.std.proofs.lemmas.List.Elements.{Contains-append_left, Contains-append_right, filter-append}
use Rattle.digit_tuple.proofs.MemberLemmas.{Contains-head, Contains-tail, Contains-cases, Contains-none, Contains-map, Contains-from_map, Contains-filter, Contains-from_filter, Contains-flat_map, Contains-from_flat_map, list_any-contains, contains_from_list_any}
use Rattle.dfa_reading.specs.Listed.{ListedLine}
use Rattle.dfa_reading.specs.Conflicts.{share_digit, share_tuple, are_one, are_in_conflict, are_without_conflict}
use Rattle.dfa_reading.specs.Transitions.{Transition, agrees, agree_all, to_each}
use Rattle.dfa_reading.specs.WordDrafts.{is_of_state, transitions_of, transitions_from}
use Rattle.dfa_reading.proofs.ConflictLemmas.{both_hold, share_target, no_conflict}

-- tests of the same
pub same_tests : (b c : Bool) → (b ≡ true → c ≡ true) → (c ≡ true → b ≡ true) → b ≡ c
same_tests true c h k = sym (h refl)
same_tests false true h k = k refl
same_tests false false h k = refl

-- a list is one of two lists' elements
pub Contains-either : {X : Type 0} (xs ys : List X) (x : X) → Contains (xs ++ ys) x → Contains xs x ⊎ Contains ys x
Contains-either [] ys x there = inr there
Contains-either (y ∷ xs) ys x there = elim (Contains-cases y (xs ++ ys) x there) [
  | inl same ↦ inl (subst (Contains (y ∷ xs)) same (Contains-head y xs))
  | inr later ↦ elim (Contains-either xs ys x later) [ inl one ↦ inl (Contains-tail y xs x one) | inr two ↦ inr two ]
]

-- sharing goes both ways, and with itself
eqb_swap : (m n : ℕ) → eqb m n ≡ true → eqb n m ≡ true
eqb_swap m n h = eq-eqb n m (sym (eqb-true m n h))

share_digit-swap : (d e : Option ℕ) → share_digit d e ≡ true → share_digit e d ≡ true
share_digit-swap None None h = refl
share_digit-swap None (Some e) h = refl
share_digit-swap (Some d) None h = refl
share_digit-swap (Some d) (Some e) h = eqb_swap d e h

share_tuple-swap : (ds es : List (Option ℕ)) → share_tuple ds es ≡ true → share_tuple es ds ≡ true
share_tuple-swap [] [] h = refl
share_tuple-swap [] (e ∷ es) h = absurd (cc)
share_tuple-swap (d ∷ ds) [] h = absurd (cc)
share_tuple-swap (d ∷ ds) (e ∷ es) h =
    let both = and_parts (share_digit d e) (share_tuple ds es) h in
    both_hold (share_digit e d) (share_tuple es ds) (share_digit-swap d e both.0) (share_tuple-swap ds es both.1)

share_tuple-self : (ds : List (Option ℕ)) → share_tuple ds ds ≡ true
share_tuple-self [] = refl
share_tuple-self (None ∷ ds) = share_tuple-self ds
share_tuple-self (Some d ∷ ds) = both_hold (eqb d d) (share_tuple ds ds) (eq-eqb d d refl) (share_tuple-self ds)

-- transitions that share a tuple have one target
abbrev pub AreClear : List Transition → Type 0
AreClear list = (a b : Transition) → Contains list a → Contains list b → share_tuple a.0 b.0 ≡ true → a.1 ≡ b.1

AreClear-fewer : (list more : List Transition) → AreClear (list ++ more) → AreClear list
AreClear-fewer list more clear a b one two share = clear a b (Contains-append_left list more a one) (Contains-append_left list more b two) share

-- a transition that agrees with others
agrees_target : (list : List Transition) (digits : List (Option ℕ)) (target : ℕ) (a : Transition) → agrees list digits target ≡ true → Contains list a → share_tuple digits a.0 ≡ true → a.1 ≡ target
agrees_target list digits target a agree there share = by (eqb a.1 target) refl
  where
    by : (b : Bool) → eqb a.1 target ≡ b → a.1 ≡ target
    by true h = eqb-true a.1 target h
    by false h =
        let other : list_any (λ t. share_tuple digits t.0 && not (eqb t.1 target)) list ≡ true = list_any-contains (λ (t : Transition). share_tuple digits t.0 && not (eqb t.1 target)) list a there (both_hold (share_tuple digits a.0) (not (eqb a.1 target)) share (ap not h)) in
        absurd (true≢false (sym agree ∙ ap not other))

agrees_from : (list : List Transition) (digits : List (Option ℕ)) (target : ℕ) → ((a : Transition) → Contains list a → share_tuple digits a.0 ≡ true → a.1 ≡ target) → agrees list digits target ≡ true
agrees_from list digits target same = by (list_any (λ (t : Transition). share_tuple digits t.0 && not (eqb t.1 target)) list) refl
  where
    by : (b : Bool) → list_any (λ (t : Transition). share_tuple digits t.0 && not (eqb t.1 target)) list ≡ b → not b ≡ true
    by false h = refl
    by true h =
        let (a, there, both) = contains_from_list_any (λ (t : Transition). share_tuple digits t.0 && not (eqb t.1 target)) list h in
        let parts = and_parts (share_tuple digits a.0) (not (eqb a.1 target)) both in
        absurd (true≢false (sym parts.1 ∙ ap not (eq-eqb a.1 target (same a there parts.0))))

AreClear-push : (list : List Transition) (digits : List (Option ℕ)) (target : ℕ) → AreClear list → agrees list digits target ≡ true → AreClear (list ++ (digits, target) ∷ [])
AreClear-push list digits target clear agree a b one two share = by (Contains-either list ((digits, target) ∷ []) a one) (Contains-either list ((digits, target) ∷ []) b two)
  where
    last : (c : Transition) → Contains ((digits, target) ∷ []) c → (digits, target) ≡ c
    last c h = elim (Contains-cases (digits, target) [] c h) [ inl same ↦ same | inr none ↦ absurd (Contains-none c none) ]

    by : Contains list a ⊎ Contains ((digits, target) ∷ []) a → Contains list b ⊎ Contains ((digits, target) ∷ []) b → a.1 ≡ b.1
    by (inl h) (inl k) = clear a b h k share
    by (inl h) (inr k) =
        let is = last b k in
        agrees_target list digits target a agree h (share_tuple-swap a.0 digits (ap (share_tuple a.0) (ap (λ (t : Transition). t.0) is) ∙ share)) ∙ ap (λ (t : Transition). t.1) is
    by (inr h) (inl k) =
        let is = last a h in
        sym (agrees_target list digits target b agree k (ap (λ ds. share_tuple ds b.0) (ap (λ (t : Transition). t.0) is) ∙ share) ∙ ap (λ (t : Transition). t.1) is)
    by (inr h) (inr k) = ap (λ (t : Transition). t.1) (sym (last a h) ∙ last b k)

-- transitions to each target agree if and only if all are clear
pub clear_from_agree : (list : List Transition) (digits : List (Option ℕ)) (targets : List ℕ) → AreClear list → agree_all list digits targets ≡ true → AreClear (list ++ to_each digits targets)
clear_from_agree list digits [] clear h = subst AreClear (sym (append-nil list)) clear
clear_from_agree list digits (t ∷ targets) clear h =
    let parts = and_parts (agrees list digits t) (agree_all (list ++ (digits, t) ∷ []) digits targets) h in
    subst AreClear (append_assoc list ((digits, t) ∷ []) (to_each digits targets)) (clear_from_agree (list ++ (digits, t) ∷ []) digits targets (AreClear-push list digits t clear parts.0) parts.1)

pub agree_from_clear : (list : List Transition) (digits : List (Option ℕ)) (targets : List ℕ) → AreClear (list ++ to_each digits targets) → agree_all list digits targets ≡ true
agree_from_clear list digits [] clear = refl
agree_from_clear list digits (t ∷ targets) clear =
    both_hold (agrees list digits t) (agree_all (list ++ (digits, t) ∷ []) digits targets)
    (agrees_from list digits t (λ a there share. sym (clear (digits, t) a (Contains-append_right list (to_each digits (t ∷ targets)) (digits, t) (Contains-head (digits, t) (to_each digits targets))) (Contains-append_left list (to_each digits (t ∷ targets)) a there) share)))
    (agree_from_clear (list ++ (digits, t) ∷ []) digits targets (subst AreClear (sym (append_assoc list ((digits, t) ∷ []) (to_each digits targets))) clear))

-- a transition from a state is of a line
pub record IsOfLine (state : ℕ) (lines : List (ℕ × ListedLine)) (a : Transition) : Type 0 where
  pub line : ℕ × ListedLine
  pub among : Contains lines line
  pub from : line.1.state ≡ state
  pub digits : a.0 ≡ line.1.digits
  pub target : Contains line.1.targets a.1

of_line : (state : ℕ) (lines : List (ℕ × ListedLine)) (a : Transition) → Contains (transitions_from state lines) a → IsOfLine state lines a
of_line state lines a there =
    let (line, inside, one) = Contains-from_flat_map (λ (l : ℕ × ListedLine). to_each l.1.digits l.1.targets) (filter (is_of_state state) lines) a there in
    let kept = Contains-from_filter (is_of_state state) lines line inside in
    let (target, to, is) = Contains-from_map (λ (t : ℕ). (line.1.digits, t)) line.1.targets a one in
    record {
      line = line;
      among = kept.0;
      from = eqb-true line.1.state state kept.1;
      digits = sym (ap (λ (t : Transition). t.0) is);
      target = subst (Contains line.1.targets) (ap (λ (t : Transition). t.1) is) to;
    }

line_of : (state : ℕ) (lines : List (ℕ × ListedLine)) (line : ℕ × ListedLine) (q : ℕ) → Contains lines line → line.1.state ≡ state → Contains line.1.targets q → Contains (transitions_from state lines) (line.1.digits, q)
line_of state lines line q there from to =
    Contains-flat_map (λ (l : ℕ × ListedLine). to_each l.1.digits l.1.targets) (filter (is_of_state state) lines) line (line.1.digits, q)
    (Contains-filter (is_of_state state) lines line there (eq-eqb line.1.state state from))
    (Contains-map (λ (t : ℕ). (line.1.digits, t)) line.1.targets q to)

pub clear_from_lines : (lines : List (ℕ × ListedLine)) → are_without_conflict lines ≡ true → (state : ℕ) → AreClear (transitions_from state lines)
clear_from_lines lines h state a b one two share =
    let of = of_line state lines a one in
    let other = of_line state lines b two in
    share_target of.line.1 other.line.1 a.1 b.1 (no_conflict lines of.line other.line h of.among other.among) (of.from ∙ sym other.from)
    (ap (λ ds. share_tuple ds other.line.1.digits) (sym of.digits) ∙ ap (share_tuple a.0) (sym other.digits) ∙ share) of.target other.target

-- numbers that are all equal are one
list_all-from : {X : Type 0} (p : X → Bool) (xs : List X) → ((x : X) → Contains xs x → p x ≡ true) → list_all p xs ≡ true
list_all-from p [] h = refl
list_all-from p (x ∷ xs) h = both_hold (p x) (list_all p xs) (h x (Contains-head x xs)) (list_all-from p xs (λ y there. h y (Contains-tail x xs y there)))

are_one-from : (numbers : List ℕ) → ((q r : ℕ) → Contains numbers q → Contains numbers r → q ≡ r) → are_one numbers ≡ true
are_one-from [] h = refl
are_one-from (n ∷ numbers) h = list_all-from (λ m. eqb m n) numbers (λ m there. eq-eqb m n (h m n (Contains-tail n numbers m there) (Contains-head n numbers)))

pub lines_from_clear : (lines : List (ℕ × ListedLine)) → ((state : ℕ) → AreClear (transitions_from state lines)) → are_without_conflict lines ≡ true
lines_from_clear lines clear =
    list_all-from (λ l. list_all (λ o. not (are_in_conflict l.1 o.1)) lines) lines
    (λ l there. list_all-from (λ o. not (are_in_conflict l.1 o.1)) lines (λ o among. apart l o there among (are_in_conflict l.1 o.1) refl))
  where
    apart : (l o : ℕ × ListedLine) → Contains lines l → Contains lines o → (b : Bool) → are_in_conflict l.1 o.1 ≡ b → not b ≡ true
    apart l o there among false h = refl
    apart l o there among true h =
        let parts = and_parts (eqb l.1.state o.1.state) (share_tuple l.1.digits o.1.digits && not (are_one (l.1.targets ++ o.1.targets))) h in
        let rest = and_parts (share_tuple l.1.digits o.1.digits) (not (are_one (l.1.targets ++ o.1.targets))) parts.1 in
        let state = l.1.state in
        let same : o.1.state ≡ state = sym (eqb-true l.1.state o.1.state parts.0) in
        let one : (q : ℕ) → Contains l.1.targets q → Contains (transitions_from state lines) (l.1.digits, q) = λ q to. line_of state lines l q there refl to in
        let two : (q : ℕ) → Contains o.1.targets q → Contains (transitions_from state lines) (o.1.digits, q) = λ q to. line_of state lines o q among same to in
        let equal : (q r : ℕ) → Contains (l.1.targets ++ o.1.targets) q → Contains (l.1.targets ++ o.1.targets) r → q ≡ r = λ q r h k.
        elim (Contains-either l.1.targets o.1.targets q h) [
          | inl at ↦ elim (Contains-either l.1.targets o.1.targets r k) [
            | inl too ↦ clear state (l.1.digits, q) (l.1.digits, r) (one q at) (one r too) (share_tuple-self l.1.digits)
            | inr too ↦ clear state (l.1.digits, q) (o.1.digits, r) (one q at) (two r too) rest.0
          ]
          | inr at ↦ elim (Contains-either l.1.targets o.1.targets r k) [
            | inl too ↦ clear state (o.1.digits, q) (l.1.digits, r) (two q at) (one r too) (share_tuple-swap l.1.digits o.1.digits rest.0)
            | inr too ↦ clear state (o.1.digits, q) (o.1.digits, r) (two q at) (two r too) (share_tuple-self o.1.digits)
          ]
        ] in
        absurd (true≢false (sym rest.1 ∙ ap not (are_one-from (l.1.targets ++ o.1.targets) equal)))

-- lines of which no two are in conflict
pub without_conflict_from : (lines : List (ℕ × ListedLine)) → ((l o : ℕ × ListedLine) → Contains lines l → Contains lines o → are_in_conflict l.1 o.1 ≡ false) → are_without_conflict lines ≡ true
without_conflict_from lines apart =
    list_all-from (λ l. list_all (λ o. not (are_in_conflict l.1 o.1)) lines) lines
    (λ l there. list_all-from (λ o. not (are_in_conflict l.1 o.1)) lines (λ o among. ap not (apart l o there among)))

-- the transitions with a line more
transitions_from-push : (state : ℕ) (lines : List (ℕ × ListedLine)) (line : ℕ × ListedLine) → transitions_from state (lines ++ line ∷ []) ≡ transitions_from state lines ++ transitions_of (filter (is_of_state state) (line ∷ []))
transitions_from-push state lines line =
    ap transitions_of (filter-append (is_of_state state) lines (line ∷ []))
    ∙ flat_map-append (λ (l : ℕ × ListedLine). to_each l.1.digits l.1.targets) (filter (is_of_state state) lines) (filter (is_of_state state) (line ∷ []))

pub transitions_from-own : (state : ℕ) (lines : List (ℕ × ListedLine)) (line : ℕ × ListedLine) → line.1.state ≡ state → transitions_from state (lines ++ line ∷ []) ≡ transitions_from state lines ++ to_each line.1.digits line.1.targets
transitions_from-own state lines line from =
    transitions_from-push state lines line
    ∙ ap (λ b. transitions_from state lines ++ transitions_of (cond b (line ∷ []) [])) (eq-eqb line.1.state state from)
    ∙ ap (λ ts. transitions_from state lines ++ ts) (append-nil (to_each line.1.digits line.1.targets))

transitions_from-other : (state : ℕ) (lines : List (ℕ × ListedLine)) (line : ℕ × ListedLine) → eqb line.1.state state ≡ false → transitions_from state (lines ++ line ∷ []) ≡ transitions_from state lines
transitions_from-other state lines line apart =
    transitions_from-push state lines line
    ∙ ap (λ b. transitions_from state lines ++ transitions_of (cond b (line ∷ []) [])) apart
    ∙ append-nil (transitions_from state lines)

-- one line more is without conflict if and only if its transitions agree with those of its state
pub without_conflict-push : (lines : List (ℕ × ListedLine)) (line : ℕ × ListedLine) → are_without_conflict lines ≡ true
    → are_without_conflict (lines ++ line ∷ []) ≡ agree_all (transitions_from line.1.state lines) line.1.digits line.1.targets
without_conflict-push lines line clear =
    same_tests (are_without_conflict (lines ++ line ∷ [])) (agree_all (transitions_from line.1.state lines) line.1.digits line.1.targets)
    (λ h. agree_from_clear (transitions_from line.1.state lines) line.1.digits line.1.targets (subst AreClear (transitions_from-own line.1.state lines line refl) (clear_from_lines (lines ++ line ∷ []) h line.1.state)))
    (λ h. lines_from_clear (lines ++ line ∷ []) (λ state. each h state (eqb line.1.state state) refl))
  where
    each : agree_all (transitions_from line.1.state lines) line.1.digits line.1.targets ≡ true → (state : ℕ) (b : Bool) → eqb line.1.state state ≡ b → AreClear (transitions_from state (lines ++ line ∷ []))
    each h state true same =
        let from = eqb-true line.1.state state same in
        subst (λ s. AreClear (transitions_from s (lines ++ line ∷ []))) from
        (subst AreClear (sym (transitions_from-own line.1.state lines line refl)) (clear_from_agree (transitions_from line.1.state lines) line.1.digits line.1.targets (clear_from_lines lines clear line.1.state) h))
    each h state false apart = subst AreClear (sym (transitions_from-other state lines line apart)) (clear_from_lines lines clear state)

-- with a line less there is no conflict either
pub without_conflict-fewer : (lines : List (ℕ × ListedLine)) (line : ℕ × ListedLine) → are_without_conflict (lines ++ line ∷ []) ≡ true → are_without_conflict lines ≡ true
without_conflict-fewer lines line h =
    lines_from_clear lines (λ state. AreClear-fewer (transitions_from state lines) (transitions_of (filter (is_of_state state) (line ∷ []))) (subst AreClear (transitions_from-push state lines line) (clear_from_lines (lines ++ line ∷ []) h state)))

-- before a state's lines there are none
pub transitions_from-none : (state : ℕ) (lines : List (ℕ × ListedLine)) → AllByRecursion (λ line. line.1.state < state) lines → transitions_from state lines ≡ []
transitions_from-none state [] h = refl
transitions_from-none state (line ∷ lines) h = by (transitions_from-none state lines h.1) (eqb line.1.state state) refl
  where
    by : transitions_from state lines ≡ [] → (b : Bool) → eqb line.1.state state ≡ b → transitions_of (cond b (line ∷ filter (is_of_state state) lines) (filter (is_of_state state) lines)) ≡ []
    by rest true e = let less = h.0 in absurd (omega (arith, eqb-true line.1.state state e, less))
    by rest false e = rest
