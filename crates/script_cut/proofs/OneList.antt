-- A script has one list of items.
use Rattle.std.proofs.Common.{◌≡◌, ℕ, ◌+◌, Bool, true, false, List, [], ◌∷◌, length, refl, sym, ap, ◌∙◌, subst, arith}
use Rattle.script_cut.specs.Texts.{terminator_of, line_ends}
use Rattle.script_cut.specs.Cuts.{Ended, Terminated, Unterminated, PastLimit, Item, Rest, Next, IsAtEnd, CutsTo, HasItems}
use Rattle.script_cut.proofs.FirstCut.{after_gaps, IsFirst, first_of_next, none_after}

-- two items and the places after them are equal
pub record Same (i j : Item) (p q : Rest) : Type 0 where
  pub item : i ≡ j
  pub place : p ≡ q

same_parts : (e f : Ended) (t u : List ℕ) (m n : ℕ) (p q : Rest) → e ≡ f → t ≡ u → m ≡ n → p.left ≡ q.left → p.room ≡ q.room → p.line ≡ m + line_ends t → q.line ≡ n + line_ends u → Same (record { text = t; line = m; ended = e }) (record { text = u; line = n; ended = f }) p q
same_parts e f t u m n p q ends texts begins lefts rooms line line' =
    let lines : p.line ≡ q.line = cc in
    record {
      item = λ i. record { text = texts i; line = begins i; ended = ends i };
      place = λ i. record { left = lefts i; room = rooms i; line = lines i };
    }

-- a terminator says whether the steps are shown
one_terminator : (a b : Bool) → terminator_of a ≡ terminator_of b → a ≡ b
one_terminator true true is = refl
one_terminator true false is = absurd (omega arith)
one_terminator false true is = absurd (omega arith)
one_terminator false false is = refl

first_byte : (b c : ℕ) (bs cs : List ℕ) → b ∷ bs ≡ c ∷ cs → (b ≡ c) × (bs ≡ cs)
first_byte b c bs cs is = (cc, cc)

-- one place has one first item
same_first : (old : Rest) (e f : Ended) (t u : List ℕ) (m n : ℕ) (p q : Rest) → IsFirst e old t m p → IsFirst f old u n q → p.line ≡ m + line_ends t → q.line ≡ n + line_ends u → Same (record { text = t; line = m; ended = e }) (record { text = u; line = n; ended = f }) p q
same_first old (Terminated v) (Terminated w) t u m n p q a b line line' =
    let lefts : (terminator_of v ≡ terminator_of w) × (p.left ≡ q.left) = first_byte (terminator_of v) (terminator_of w) p.left q.left (a.left_is ∙ sym b.left_is) in
    same_parts (Terminated v) (Terminated w) t u m n p q (ap Terminated (one_terminator v w lefts.0)) (a.text_is ∙ sym b.text_is) (a.line_is ∙ sym b.line_is) lefts.1 (omega (arith, a.room_is, b.room_is)) line line'
same_first old (Terminated v) Unterminated t u m n p q a b line line' = absurd (omega (arith, a.found, b.none))
same_first old (Terminated v) PastLimit t u m n p q a b line line' = absurd (omega (arith, a.within, b.none))
same_first old Unterminated (Terminated w) t u m n p q a b line line' = absurd (omega (arith, a.none, b.found))
same_first old Unterminated Unterminated t u m n p q a b line line' = same_parts Unterminated Unterminated t u m n p q refl (a.text_is ∙ sym b.text_is) (a.line_is ∙ sym b.line_is) (a.left_is ∙ sym b.left_is) (omega (arith, a.room_is, b.room_is)) line line'
same_first old Unterminated PastLimit t u m n p q a b line line' = absurd (omega (arith, a.within, b.more))
same_first old PastLimit (Terminated w) t u m n p q a b line line' = absurd (omega (arith, a.none, b.within))
same_first old PastLimit Unterminated t u m n p q a b line line' = absurd (omega (arith, a.more, b.within))
same_first old PastLimit PastLimit t u m n p q a b line line' = same_parts PastLimit PastLimit t u m n p q refl (a.text_is ∙ sym b.text_is) (a.line_is ∙ sym b.line_is) (a.left_is ∙ sym b.left_is) (a.room_is ∙ sym b.room_is) line line'

-- what comes next is determined
pub same_next : (old : Rest) (i j : Item) (p q : Rest) → Next old i p → Next old j q → Same i j p q
same_next old i j p q a b = same_first old i.ended j.ended i.text j.text i.line j.line p q (first_of_next old i.ended i.text i.line p a) (first_of_next old j.ended j.text j.line q b) a.next_line b.next_line

no_first : (old : Rest) (e : Ended) (t : List ℕ) (m : ℕ) (p : Rest) → IsFirst e old t m p → IsAtEnd old → ⊥
no_first old (Terminated v) t m p a end = let none : length (after_gaps old.left) ≡ 0 = ap length (none_after old end) in omega (arith, a.found)
no_first old Unterminated t m p a end = let none : length (after_gaps old.left) ≡ 0 = ap length (none_after old end) in omega (arith, a.some)
no_first old PastLimit t m p a end = omega (arith, a.more, end.within)

-- at the end no item comes
pub none_next : (old : Rest) (i : Item) (p : Rest) → Next old i p → IsAtEnd old → ⊥
none_next old i p next end = no_first old i.ended i.text i.line p (first_of_next old i.ended i.text i.line p next) end

same_items : (is js : List Item) (old p q : Rest) → CutsTo old is p → IsAtEnd p → CutsTo old js q → IsAtEnd q → is ≡ js
same_items [] [] old p q a end b end' = refl
same_items [] (j ∷ js) old p q a end b end' = absurd (none_next old j b.0 b.1 (let P : Rest → Type 0 = λ x. IsAtEnd x in subst P a end))
same_items (i ∷ is) [] old p q a end b end' = absurd (none_next old i a.0 a.1 (let P : Rest → Type 0 = λ x. IsAtEnd x in subst P b end'))
same_items (i ∷ is) (j ∷ js) old p q a end b end' =
    let same : Same i j a.0 b.0 = same_next old i j a.0 b.0 a.1 b.1 in
    let rest : is ≡ js = same_items is js b.0 p q (let P : Rest → Type 0 = λ x. CutsTo x is p in subst P same.place a.2) end b.2 end' in
    λ n. same.item n ∷ rest n

-- the items from a place on are determined
pub same_lists : (place : Rest) (is js : List Item) → HasItems place is → HasItems place js → is ≡ js
same_lists place is js a b = same_items is js place a.last b.last a.cut a.end b.cut b.end
