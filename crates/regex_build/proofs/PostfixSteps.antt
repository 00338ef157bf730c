-- How many expressions wait after one more symbol.
use Rattle.std.proofs.Common.{◌≡◌, ℕ, ◌+◌, ◌<◌, ◌≤◌, ℤ, List, [], ◌∷◌, ◌++◌, length, refl, sym, ap, ◌∙◌, subst, arith, get_or, take}
use Rattle.std.specs.Prelude.{Contains}
use Rattle.std.proofs.lemmas.List.{take_more, take_all}
use Rattle.regex_build.specs.declared.postfix_symbol.PostfixSymbol.{PostfixSymbol}
use Rattle.regex_build.specs.declared.postfix_symbol.PostfixSymbol.TheVariants.{Empty, Letter, Any, Either, Follow, Star, Plus, Optional}
use Rattle.regex_build.specs.Expression.{Expression}
use Rattle.regex_build.specs.Patterns.{AreMembers, IsOver}
use Rattle.regex_build.specs.Postfix.{after_symbol, stacked, top_of, IsPostfix}
use Rattle.regex_build.proofs.ListSteps.{zip-append}

-- the symbol leads from so many expressions to so many
abbrev pub Counts : PostfixSymbol → ℕ → ℕ → Type 0
Counts symbol waiting after = (stack : List (Expression (List ℤ))) → length stack ≡ waiting → length (after_symbol stack symbol) ≡ after

pub counts_empty : (symbol : PostfixSymbol) (waiting : ℕ) → symbol ≡ Empty → Counts symbol waiting (waiting + 1)
counts_empty symbol waiting e = let P : PostfixSymbol → Type 0 = λ s. Counts s waiting (waiting + 1) in subst P (sym e) one
  where
    one : Counts Empty waiting (waiting + 1)
    one [] h = omega arith
    one (x ∷ []) h = omega arith
    one (x ∷ y ∷ stack) h = omega arith

pub counts_letter : (symbol : PostfixSymbol) (waiting : ℕ) (x : List ℤ) → symbol ≡ Letter x → Counts symbol waiting (waiting + 1)
counts_letter symbol waiting x e = let P : PostfixSymbol → Type 0 = λ s. Counts s waiting (waiting + 1) in subst P (sym e) one
  where
    one : Counts (Letter x) waiting (waiting + 1)
    one [] h = omega arith
    one (y ∷ []) h = omega arith
    one (y ∷ z ∷ stack) h = omega arith

pub counts_any : (symbol : PostfixSymbol) (waiting : ℕ) → symbol ≡ Any → Counts symbol waiting (waiting + 1)
counts_any symbol waiting e = let P : PostfixSymbol → Type 0 = λ s. Counts s waiting (waiting + 1) in subst P (sym e) one
  where
    one : Counts Any waiting (waiting + 1)
    one [] h = omega arith
    one (x ∷ []) h = omega arith
    one (x ∷ y ∷ stack) h = omega arith

pub counts_either : (symbol : PostfixSymbol) (waiting after : ℕ) → symbol ≡ Either → (waiting < 2 → after ≡ waiting) → (2 ≤ waiting → after + 1 ≡ waiting) → Counts symbol waiting after
counts_either symbol waiting after e few many = let P : PostfixSymbol → Type 0 = λ s. Counts s waiting after in subst P (sym e) one
  where
    one : Counts Either waiting after
    one [] h = let k : after ≡ waiting = few (omega arith) in omega arith
    one (x ∷ []) h = let k : after ≡ waiting = few (omega arith) in omega arith
    one (x ∷ y ∷ stack) h = let k : after + 1 ≡ waiting = many (omega arith) in omega arith

pub counts_follow : (symbol : PostfixSymbol) (waiting after : ℕ) → symbol ≡ Follow → (waiting < 2 → after ≡ waiting) → (2 ≤ waiting → after + 1 ≡ waiting) → Counts symbol waiting after
counts_follow symbol waiting after e few many = let P : PostfixSymbol → Type 0 = λ s. Counts s waiting after in subst P (sym e) one
  where
    one : Counts Follow waiting after
    one [] h = let k : after ≡ waiting = few (omega arith) in omega arith
    one (x ∷ []) h = let k : after ≡ waiting = few (omega arith) in omega arith
    one (x ∷ y ∷ stack) h = let k : after + 1 ≡ waiting = many (omega arith) in omega arith

-- a sign after one expression
pub counts_other : (symbol : PostfixSymbol) (waiting : ℕ) → (symbol ≡ Empty → ⊥) → ((x : List ℤ) → symbol ≡ Letter x → ⊥) → (symbol ≡ Any → ⊥) → (symbol ≡ Either → ⊥) → (symbol ≡ Follow → ⊥) → Counts symbol waiting waiting
counts_other Empty waiting a b c d e = absurd (a refl)
counts_other (Letter x) waiting a b c d e = absurd (b x refl)
counts_other Any waiting a b c d e = absurd (c refl)
counts_other Either waiting a b c d e = absurd (d refl)
counts_other Follow waiting a b c d e = absurd (e refl)
counts_other Star waiting a b c d e = one
  where
    one : Counts Star waiting waiting
    one [] h = h
    one (x ∷ []) h = h
    one (x ∷ y ∷ stack) h = h
counts_other Plus waiting a b c d e = one
  where
    one : Counts Plus waiting waiting
    one [] h = h
    one (x ∷ []) h = h
    one (x ∷ y ∷ stack) h = h
counts_other Optional waiting a b c d e = one
  where
    one : Counts Optional waiting waiting
    one [] h = h
    one (x ∷ []) h = h
    one (x ∷ y ∷ stack) h = h

pub stacked-push : (stack : List (Expression (List ℤ))) (symbols : List PostfixSymbol) (symbol : PostfixSymbol) → stacked stack (symbols ++ symbol ∷ []) ≡ after_symbol (stacked stack symbols) symbol
stacked-push stack [] symbol = refl
stacked-push stack (s ∷ symbols) symbol = stacked-push (after_symbol stack s) symbols symbol

pub count_more : (symbols : List PostfixSymbol) (i : ℕ) (symbol : PostfixSymbol) (waiting after : ℕ) → i < length symbols → symbol ≡ get_or symbols i symbol → waiting ≡ length (stacked [] (take i symbols)) → Counts symbol waiting after → after ≡ length (stacked [] (take (i + 1) symbols))
count_more symbols i symbol waiting after l e h counts =
    let one : take (i + 1) symbols ≡ take i symbols ++ symbol ∷ [] = take_more symbols i symbol l ∙ ap (λ s. take i symbols ++ s ∷ []) (sym e) in
    sym (ap (λ xs. length (stacked [] xs)) one ∙ (ap length (stacked-push [] (take i symbols) symbol) ∙ counts (stacked [] (take i symbols)) (sym h)))

-- one expression waits at the end if and only if the symbols are in postfix order
pub postfix_from_count : (symbols : List PostfixSymbol) (i waiting : ℕ) → length symbols ≤ i → waiting ≡ length (stacked [] (take i symbols)) → waiting ≡ 1 → IsPostfix symbols
postfix_from_count symbols i waiting l h one = alone (stacked [] symbols) (ap (λ xs. length (stacked [] xs)) (sym (take_all i symbols l)) ∙ (sym h ∙ one))
  where
    alone : (stack : List (Expression (List ℤ))) → length stack ≡ 1 → stack ≡ top_of stack ∷ []
    alone [] h = absurd (omega arith)
    alone (x ∷ []) h = refl
    alone (x ∷ y ∷ stack) h = absurd (omega arith)

pub count_from_postfix : (symbols : List PostfixSymbol) (i waiting : ℕ) → length symbols ≤ i → waiting ≡ length (stacked [] (take i symbols)) → IsPostfix symbols → waiting ≡ 1
count_from_postfix symbols i waiting l h postfix = h ∙ (ap (λ xs. length (stacked [] xs)) (take_all i symbols l) ∙ ap length postfix)

-- a member of one set more
pub members_more : (sets : List (List ℤ)) (members : List ℤ) (i : ℕ) (set : List ℤ) (other : ℤ) → length sets ≡ length members → i < length sets → set ≡ get_or sets i set → AreMembers (take i sets) (take i members) → Contains {X = ℤ} set (get_or members i other)
    → AreMembers (take (i + 1) sets) (take (i + 1) members)
members_more sets members i set other n l e are has =
    let s : take (i + 1) sets ≡ take i sets ++ set ∷ [] = take_more sets i set l ∙ ap (λ x. take i sets ++ x ∷ []) (sym e) in
    let t : take (i + 1) members ≡ take i members ++ get_or members i other ∷ [] = take_more members i other (omega arith) in
    let P : List (List ℤ) → Type 0 = λ x. AreMembers x (take (i + 1) members) in
    let Q : List ℤ → Type 0 = λ x. AreMembers (take i sets ++ set ∷ []) x in
    subst P (sym s) (subst Q (sym t) (zip-append (Contains {X = ℤ}) (take i sets) (take i members) (set ∷ []) (get_or members i other ∷ []) are (has, tt)))

pub members_all : (sets : List (List ℤ)) (members : List ℤ) (i : ℕ) → length sets ≡ length members → length sets ≤ i → AreMembers (take i sets) (take i members) → AreMembers sets members
members_all sets members i n l are =
    let P : List (List ℤ) → Type 0 = λ x. AreMembers x members in
    let Q : List ℤ → Type 0 = λ x. AreMembers (take i sets) x in
    subst P (take_all i sets l) (subst Q (take_all i members (omega arith)) are)

pub over_other : (sets : List (List ℤ)) (symbol : PostfixSymbol) → ((x : List ℤ) → symbol ≡ Letter x → ⊥) → IsOver sets symbol
over_other sets Empty f = tt
over_other sets (Letter x) f = absurd (f x refl)
over_other sets Any f = tt
over_other sets Either f = tt
over_other sets Follow f = tt
over_other sets Star f = tt
over_other sets Plus f = tt
over_other sets Optional f = tt
