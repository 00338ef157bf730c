-- Transitions without conflict lead by a tuple to one state at most.
use Rattle.std.proofs.Common.{◌≡◌, ℕ, Bool, true, false, not, ◌&&◌, eqb, List, [], ◌∷◌, ◌++◌, Option, None, Some, inl, inr, refl, sym, ap, ◌∙◌, subst, true≢false}
use Rattle.std.specs.List.{Contains, list_all}
use Rattle.std.proofs.lemmas.Bool.{and_parts, eqb-true, eq-eqb}
use Rattle.std.proofs.lemmas.List.Elements.{Contains-append_left, Contains-append_right}
use Rattle.digit_tuple.proofs.MemberLemmas.{Contains-cases, Contains-none}
use Rattle.dfa_reading.specs.Listed.{ListedLine, TakesDigit, Takes}
use Rattle.dfa_reading.specs.Conflicts.{share_digit, share_tuple, TakesTuple, SharedTuplesAreTaken, are_one, are_in_conflict, are_without_conflict}

-- both parts hold
pub both_hold : (x y : Bool) → x ≡ true → y ≡ true → (x && y) ≡ true
both_hold x y h k = ap (λ b. b && y) h ∙ k

-- what holds of each holds of one
pub list_all-holds : {X : Type 0} (p : X → Bool) (xs : List X) (x : X) → list_all p xs ≡ true → Contains xs x → p x ≡ true
list_all-holds p [] x h there = absurd (Contains-none x there)
list_all-holds p (y ∷ ys) x h there =
    let both = and_parts (p y) (list_all p ys) h in
    elim (Contains-cases y ys x there) [ inl same ↦ subst (λ z. p z ≡ true) same both.0 | inr later ↦ list_all-holds p ys x both.1 later ]

-- a digit that both take
digit_taken : (digit other : Option ℕ) → share_digit digit other ≡ true → (n : ℕ) × TakesDigit digit n × TakesDigit other n
digit_taken None None h = (0, tt, tt)
digit_taken None (Some other) h = (other, tt, refl)
digit_taken (Some digit) None h = (digit, refl, tt)
digit_taken (Some digit) (Some other) h = (digit, refl, eqb-true digit other h)

taken_digit : (digit other : Option ℕ) (n : ℕ) → TakesDigit digit n → TakesDigit other n → share_digit digit other ≡ true
taken_digit None other n h k = refl
taken_digit (Some digit) None n h k = refl
taken_digit (Some digit) (Some other) n h k = eq-eqb digit other (sym h ∙ k)

-- a tuple that both take
tuple_taken : (digits others : List (Option ℕ)) → share_tuple digits others ≡ true → (tuple : List ℕ) × TakesTuple digits tuple × TakesTuple others tuple
tuple_taken [] [] h = ([], tt, tt)
tuple_taken [] (o ∷ others) h = absurd (cc)
tuple_taken (d ∷ digits) [] h = absurd (cc)
tuple_taken (d ∷ digits) (o ∷ others) h =
    let both = and_parts (share_digit d o) (share_tuple digits others) h in
    let (n, one, two) = digit_taken d o both.0 in
    let (tuple, ones, twos) = tuple_taken digits others both.1 in
    (n ∷ tuple, (one, ones), (two, twos))

pub taken_tuple : (digits others : List (Option ℕ)) (tuple : List ℕ) → TakesTuple digits tuple → TakesTuple others tuple → share_tuple digits others ≡ true
taken_tuple [] [] tuple h k = refl
taken_tuple [] (o ∷ others) [] h k = absurd k
taken_tuple [] (o ∷ others) (n ∷ tuple) h k = absurd h
taken_tuple (d ∷ digits) others [] h k = absurd h
taken_tuple (d ∷ digits) [] (n ∷ tuple) h k = absurd k
taken_tuple (d ∷ digits) (o ∷ others) (n ∷ tuple) h k = both_hold (share_digit d o) (share_tuple digits others) (taken_digit d o n h.0 k.0) (taken_tuple digits others tuple h.1 k.1)

pub shared_tuples_are_taken : SharedTuplesAreTaken
shared_tuples_are_taken digits others = (tuple_taken digits others, λ h. taken_tuple digits others h.0 h.1 h.2)

-- a tuple is taken on tracks of these sizes only where it is taken
pub takes_tuple : (sizes : List ℕ) (digits : List (Option ℕ)) (tuple : List ℕ) → Takes sizes digits tuple → TakesTuple digits tuple
takes_tuple [] [] [] h = tt
takes_tuple [] [] (n ∷ tuple) h = absurd h
takes_tuple [] (d ∷ digits) tuple h = absurd h
takes_tuple (s ∷ sizes) [] tuple h = absurd h
takes_tuple (s ∷ sizes) (d ∷ digits) [] h = absurd h
takes_tuple (s ∷ sizes) (d ∷ digits) (n ∷ tuple) h = (h.1.0, takes_tuple sizes digits tuple h.1.1)

-- of numbers that are one any two are equal
first_is : (n : ℕ) (numbers : List ℕ) (q : ℕ) → are_one (n ∷ numbers) ≡ true → Contains (n ∷ numbers) q → q ≡ n
first_is n numbers q h there = elim (Contains-cases n numbers q there) [ inl same ↦ sym same | inr later ↦ eqb-true q n (list_all-holds (λ m. eqb m n) numbers q h later) ]

are_one-equal : (numbers : List ℕ) (q r : ℕ) → are_one numbers ≡ true → Contains numbers q → Contains numbers r → q ≡ r
are_one-equal [] q r h one two = absurd (Contains-none q one)
are_one-equal (n ∷ numbers) q r h one two = first_is n numbers q h one ∙ sym (first_is n numbers r h two)

not_false : (b : Bool) → not b ≡ true → b ≡ false
not_false true h = sym h
not_false false h = refl

-- lines that share a tuple and are not in conflict have one target
pub share_target : (line other : ListedLine) (q r : ℕ) → are_in_conflict line other ≡ false → line.state ≡ other.state → share_tuple line.digits other.digits ≡ true → Contains line.targets q → Contains other.targets r → q ≡ r
share_target line other q r apart same share from to = by (are_one (line.targets ++ other.targets)) refl
  where
    by : (b : Bool) → are_one (line.targets ++ other.targets) ≡ b → q ≡ r
    by true h = are_one-equal (line.targets ++ other.targets) q r h (Contains-append_left line.targets other.targets q from) (Contains-append_right line.targets other.targets r to)
    by false h =
        absurd (true≢false
        (sym (both_hold (eqb line.state other.state) (share_tuple line.digits other.digits && not (are_one (line.targets ++ other.targets))) (eq-eqb line.state other.state same)
        (both_hold (share_tuple line.digits other.digits) (not (are_one (line.targets ++ other.targets))) share (ap not h)))
        ∙ apart))

-- of lines without conflict no two are in conflict
pub no_conflict : (lines : List (ℕ × ListedLine)) (line other : ℕ × ListedLine) → are_without_conflict lines ≡ true → Contains lines line → Contains lines other → are_in_conflict line.1 other.1 ≡ false
no_conflict lines line other h one two =
    not_false (are_in_conflict line.1 other.1)
    (list_all-holds (λ o. not (are_in_conflict line.1 o.1)) lines other (list_all-holds (λ l. list_all (λ o. not (are_in_conflict l.1 o.1)) lines) lines line h one) two)
