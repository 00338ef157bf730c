-- Steps of a reading.
use Rattle.std.proofs.Common.{◌≡◌, refl, sym, ◌∙◌, ap, subst, ◌+◌, true, List, [], ◌∷◌, ◌++◌, length, None, Some, arith}
use Rattle.std.specs.Prelude.{ℤ, ◌<◌, Vec, Result, Ok, ⊤}
use Rattle.std.specs.declared.alloc.Global.{Global}
use Rattle.std.proofs.lemmas.List.Sums.{fold-append}
use Rattle.std.specs.List.{fold}
use Rattle.regex_build.specs.declared.postfix_symbol.PostfixSymbol.TheVariants as kinds
use Rattle.regex_build.specs.declared.fault.Refusal.{Refusal}
use Rattle.regex_build.specs.declared.reading.Group.{Group}
use Rattle.regex_build.specs.declared.reading.Stage.{Stage}
use Rattle.regex_build.specs.declared.reading.Stage.TheVariants.{AtPost, After, AtNumber, AfterNumber}
use Rattle.regex_build.specs.declared.reading.Reading.{Reading}
use Rattle.regex_build.specs.Tokens.{opening, closing}
use Rattle.regex_build.specs.Machine.{State, fresh, pushed, joined, close, is_fresh, ended, ended_at}
use Rattle.regex_build.specs.Reading.{state_view, Answers, Enters, GivesAt}
use Rattle.regex_build.proofs.Runs.{st, opened}

length-onto : {X : Type 0} (ys xs : List X) → length (fold (λ gs g. g ∷ gs) ys xs) ≡ length ys + length xs
length-onto ys [] = omega arith
length-onto ys (x ∷ xs) = let e = length-onto (x ∷ ys) xs in omega (arith, e)

pub length_reversed : {X : Type 0} (xs : List X) → length (fold (λ gs g. g ∷ gs) [] xs) ≡ length xs
length_reversed {X} xs = let e = length-onto {X = X} [] xs in omega (arith, e)

unclosed_at : (gs : List Group) (p : Stage) (s : State) → (length gs ≡ 0 → ⊥) → ended_at gs p s ≡ None
unclosed_at [] p s h = absurd (h refl)
unclosed_at (g ∷ gs) p s h = refl

-- a text that ends within parentheses
pub unclosed : (r : Reading) → (length r.outer.items ≡ 0 → ⊥) → ended (state_view r) ≡ None
unclosed r h = unclosed_at (fold (λ gs g. g ∷ gs) [] r.outer.items) r.stage (state_view r) (λ e. let l = length_reversed r.outer.items in h (omega (arith, l, e)))

unended_at : (gs : List Group) (p : Stage) (s : State) → (p ≡ After → ⊥) → ended_at gs p s ≡ None
unended_at [] AtPost s h = refl
unended_at [] After s h = absurd (h refl)
unended_at [] AtNumber s h = refl
unended_at [] AfterNumber s h = refl
unended_at (g ∷ gs) p s h = refl

-- a text that ends where a post or a number must come
pub unended : (r : Reading) → (r.stage ≡ After → ⊥) → ended (state_view r) ≡ None
unended r h = unended_at (fold (λ gs g. g ∷ gs) [] r.outer.items) r.stage (state_view r) h

-- a `)` where nothing has come in its parentheses
pub closes_empty : (sets : List (List ℤ)) (s m n : State) (result : Result (Unit {0}) Refusal) → is_fresh s.group ≡ true → m ≡ pushed s kinds.Empty → Answers (close m.outer m) ⊤ closing n result → GivesAt AtPost sets s closing n result
closes_empty sets s m n result f e h =
    subst (λ o. Answers o ⊤ closing n result) (ap (λ (x : State). close x.outer x) e ∙ sym (opened (is_fresh s.group) (close s.outer (pushed s kinds.Empty)) f)) h

-- a `)` after a post
pub closes_group : (sets : List (List ℤ)) (s m n : State) (result : Result (Unit {0}) Refusal) → m ≡ joined s → Answers (close m.outer m) ⊤ closing n result → GivesAt After sets s closing n result
closes_group sets s m n result e h = subst (λ o. Answers o ⊤ closing n result) (ap (λ (x : State). close x.outer x) e) h

-- a group is opened
pub opens : (sets : List (List ℤ)) (r : Reading) (outer : Vec Group Global) (g : Group) → outer.items ≡ r.outer.items ++ r.group ∷ [] → g ≡ fresh → length r.outer.items < 128
    → Enters sets (state_view r) opening (state_view (record { outer = outer; group = g; stage = AtPost; letter = r.letter; symbols = r.symbols })) (Ok tt)
opens sets r outer g e f l =
    let n = length_reversed r.outer.items in
    let os : r.group ∷ fold (λ gs h. h ∷ gs) [] r.outer.items ≡ fold (λ gs h. h ∷ gs) [] outer.items =
    sym (ap (fold (λ gs h. h ∷ gs) []) e ∙ fold-append (λ gs h. h ∷ gs) [] r.outer.items (r.group ∷ [])) in (
      ap (λ gs. Some (st gs fresh AtPost r.letter r.symbols.items)) os
          ∙ ap (λ h. Some (st (fold (λ gs h. h ∷ gs) [] outer.items) h AtPost r.letter r.symbols.items)) (sym f),
      omega (arith, n, l),
    )
