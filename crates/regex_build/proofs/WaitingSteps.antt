-- What waits after one more symbol.
use Rattle.std.proofs.Common.{◌≡◌, ℕ, ◌+◌, ◌<◌, ◌≤◌, ℤ, List, [], ◌∷◌, ◌++◌, length, inl, inr, refl, sym, ap, ◌∙◌, subst, arith, Option, Some, take}
use Rattle.std.specs.Prelude.{Contains, slice_index_or}
use Rattle.std.specs.Prelude.{Vec, vec_len}
use Rattle.std.specs.declared.alloc.Global.{Global}
use Rattle.std.specs.Option.{option_to_list}
use Rattle.std.proofs.lemmas.List.{length-append, length_push, get_or_append_left, get_or_push, take_more, take_all}
use Rattle.regex_build.specs.declared.fragment.Fragment.{Fragment}
use Rattle.regex_build.specs.declared.postfix_symbol.PostfixSymbol.{PostfixSymbol}
use Rattle.regex_build.specs.declared.postfix_symbol.PostfixSymbol.TheVariants.{Empty, Letter, Any, Either, Follow, Star, Plus, Optional}
use Rattle.regex_build.specs.Expression.{Expression, empty, letter, any, either, follow, star, plus, optional, occurrences_in}
use Rattle.regex_build.specs.Postfix.{after_symbol, stacked, tree_of, IsPostfix}
use Rattle.regex_build.specs.Fragments.{IsFragment, IsKeptBelow, HasRows, IsOccurrence, IsEmptyWord, IsPlace, IsEither, IsFollow, IsStar, IsPlus, IsOptional}
use Rattle.regex_build.specs.Waiting.{AreWaiting, Waits, IsWaiting, Takes, AddsOccurrence}
use Rattle.regex_build.proofs.ListSteps.{middle_is_some, same_ends}
use Rattle.regex_build.proofs.PlaceWords.{IsWithin}
use Rattle.regex_build.proofs.FragmentSteps.{last_within, next_within}
use Rattle.regex_build.proofs.PostfixSteps.{stacked-push}

-- a fragment of places whose lists are as before
kept_fragment : (n : ℕ) (e : Expression (List ℤ)) (fragment : Fragment) (old new : List (List ℕ)) → IsFragment n e fragment old → IsKeptBelow (n + length (occurrences_in e)) old new → IsFragment n e fragment new
kept_fragment n e fragment old new a kept = record {
  nullable = a.nullable;
  firsts = a.firsts;
  lasts = a.lasts;
  repeats = a.repeats;
  owed = a.owed;
  listed = λ p q low high h. a.listed p q low high ((kept p q high).0 h);
  whole = λ p q h.
      let w : IsWithin n (n + length (occurrences_in e)) p = next_within n e p q h in
      elim (a.whole p q h) [ inl x ↦ inl ((kept p q w.below).1 x) | inr x ↦ inr x ];
}

pub kept_waiting : (stack : List (Expression (List ℤ))) (fragments : List Fragment) (n : ℕ) (old new : List (List ℕ)) → AreWaiting stack fragments n old → IsKeptBelow n old new → AreWaiting stack fragments n new
kept_waiting [] fragments n old new w kept = w
kept_waiting (e ∷ stack) fragments n old new w kept =
    let P : ℕ → Type 0 = λ m. IsKeptBelow m old new in
    let end : n ≡ w.2 + length (occurrences_in e) = w.4 in (
      w.0,
      w.1,
      w.2,
      w.3,
      w.4,
      kept_fragment w.2 e w.1 old new w.5 (subst P w.4 kept),
      kept_waiting stack w.0 w.2 old new w.6 (λ p q below. kept p q (omega arith)),
    )

-- nothing waits where there is no fragment
none_waits : (e : Expression (List ℤ)) (stack : List (Expression (List ℤ))) (n : ℕ) (rows : List (List ℕ)) → AreWaiting (e ∷ stack) [] n rows → ⊥
none_waits e stack n rows w = middle_is_some w.0 w.1 [] (sym w.3)

-- what the last fragment and the others are
record HasTop (e : Expression (List ℤ)) (stack : List (Expression (List ℤ))) (others : List Fragment) (fragment : Fragment) (next : ℕ) (rows : List (List ℕ)) : Type 0 where
  pub n : ℕ
  pub end : next ≡ n + length (occurrences_in e)
  pub top : IsFragment n e fragment rows
  pub below : AreWaiting stack others n rows

top_of_waiting : (e : Expression (List ℤ)) (stack : List (Expression (List ℤ))) (others : List Fragment) (fragment : Fragment) (next : ℕ) (rows : List (List ℕ)) → AreWaiting (e ∷ stack) (others ++ fragment ∷ []) next rows → HasTop e stack others fragment next rows
top_of_waiting e stack others fragment next rows w =
    let s = same_ends others fragment w.0 w.1 w.3 in
    let P : Fragment → Type 0 = λ x. IsFragment w.2 e x rows in
    let Q : List Fragment → Type 0 = λ xs. AreWaiting stack xs w.2 rows in
    record { n = w.2; end = w.4; top = subst P (sym s.last) w.5; below = subst Q (sym s.prefix) w.6 }

-- what was taken off
pub popped : {X : Type 0} (old new : List X) (o : Option X) (x : X) → old ≡ new ++ option_to_list o → o ≡ Some x → old ≡ new ++ x ∷ []
popped old new o x e f = e ∙ ap (λ p. new ++ option_to_list p) f

pub empty_items : (v : Vec Fragment Global) → vec_len v ≡ 0 → v.items ≡ []
empty_items v e = from v.items (sym v.ok.0 ∙ e)
  where
    from : (xs : List Fragment) → length xs ≡ 0 → xs ≡ []
    from [] h = refl
    from (x ∷ xs) h = absurd (omega arith)

-- one more waits
pub waits_more : (stack : List (Expression (List ℤ))) (e : Expression (List ℤ)) (others new : List Fragment) (fragment : Fragment) (n next : ℕ) (rows : List (List ℕ)) → AreWaiting stack others n rows
    → IsFragment n e fragment rows → next ≡ n + length (occurrences_in e) → new ≡ others ++ fragment ∷ [] → AreWaiting (e ∷ stack) new next rows
waits_more stack e others new fragment n next rows w a end is = (others, fragment, n, is, end, a, w)

after_symbol-empty : (stack : List (Expression (List ℤ))) → empty ∷ stack ≡ after_symbol stack Empty
after_symbol-empty [] = refl
after_symbol-empty (e ∷ []) = refl
after_symbol-empty (e ∷ f ∷ stack) = refl

after_symbol-letter : (x : List ℤ) (stack : List (Expression (List ℤ))) → letter x ∷ stack ≡ after_symbol stack (Letter x)
after_symbol-letter x [] = refl
after_symbol-letter x (e ∷ []) = refl
after_symbol-letter x (e ∷ f ∷ stack) = refl

after_symbol-any : (stack : List (Expression (List ℤ))) → any ∷ stack ≡ after_symbol stack Any
after_symbol-any [] = refl
after_symbol-any (e ∷ []) = refl
after_symbol-any (e ∷ f ∷ stack) = refl

after_symbol-star : (e : Expression (List ℤ)) (stack : List (Expression (List ℤ))) → star e ∷ stack ≡ after_symbol (e ∷ stack) Star
after_symbol-star e [] = refl
after_symbol-star e (f ∷ stack) = refl

after_symbol-plus : (e : Expression (List ℤ)) (stack : List (Expression (List ℤ))) → plus e ∷ stack ≡ after_symbol (e ∷ stack) Plus
after_symbol-plus e [] = refl
after_symbol-plus e (f ∷ stack) = refl

after_symbol-optional : (e : Expression (List ℤ)) (stack : List (Expression (List ℤ))) → optional e ∷ stack ≡ after_symbol (e ∷ stack) Optional
after_symbol-optional e [] = refl
after_symbol-optional e (f ∷ stack) = refl

-- the empty word
pub takes_empty : (old new : List Fragment) (made : Fragment) (rows : List (List ℕ)) → IsEmptyWord made → new ≡ old ++ made ∷ [] → Takes old rows Empty new rows
takes_empty old new made rows is e stack w =
    let P : List (Expression (List ℤ)) → Type 0 = λ s. Waits s new rows in
    subst P (after_symbol-empty stack) (waits_more stack empty old new made (length rows) (length rows) rows w (is (length rows) rows) (omega arith) e)

-- a letter, or any letter
pub takes_occurrence : (old new : List Fragment) (made : Fragment) (rows more : List (List ℕ)) (place : ℕ) → place ≡ length rows → IsPlace place made → more ≡ rows ++ [] ∷ [] → new ≡ old ++ made ∷ [] → AddsOccurrence old rows new more
takes_occurrence old new made rows more place at is f g stack e one w =
    let P : List (List ℕ) → Type 0 = λ r. AreWaiting (e ∷ stack) new (length r) r in
    let pushed : List (List ℕ) = rows ++ [] ∷ [] in
    let kept : IsKeptBelow (length rows) rows pushed = λ p q below.
    let same : slice_index_or pushed p [] ≡ slice_index_or rows p [] = get_or_append_left rows ([] ∷ []) [] p below in
    let R : List ℕ → Type 0 = λ xs. Contains xs q in
    (λ h. subst R same h, λ h. subst R (sym same) h) in
    let N : ℕ → Type 0 = λ m. IsFragment m e made pushed in
    let fragment : IsFragment (length rows) e made pushed = subst N at (is e pushed one (get_or_push rows [] [] place (sym at))) in
    let len : length pushed ≡ length rows + 1 = length_push rows [] in
    subst P (sym f) (waits_more stack e old new made (length rows) (length pushed) pushed (kept_waiting stack old (length rows) rows pushed w kept) fragment (len ∙ ap (λ m. length rows + m) (sym (count_of e one))) g)
  where
    count_of : (e : Expression (List ℤ)) → IsOccurrence e → length (occurrences_in e) ≡ 1
    count_of empty h = absurd h
    count_of (letter x) h = refl
    count_of any h = refl
    count_of (either e f) h = absurd h
    count_of (follow e f) h = absurd h
    count_of (star e) h = absurd h
    count_of (plus e) h = absurd h
    count_of (optional e) h = absurd h

pub occurrence_is_letter : (x : List ℤ) (old new : List Fragment) (rows more : List (List ℕ)) → AddsOccurrence old rows new more → Takes old rows (Letter x) new more
occurrence_is_letter x old new rows more adds stack w = let P : List (Expression (List ℤ)) → Type 0 = λ s. Waits s new more in subst P (after_symbol-letter x stack) (adds stack (letter x) tt w)

pub occurrence_is_any : (old new : List Fragment) (rows more : List (List ℕ)) → AddsOccurrence old rows new more → Takes old rows Any new more
occurrence_is_any old new rows more adds stack w = let P : List (Expression (List ℤ)) → Type 0 = λ s. Waits s new more in subst P (after_symbol-any stack) (adds stack any tt w)

-- a sign after one expression
pub takes_star : (old popped new : List Fragment) (fragment made : Fragment) (rows : List (List ℕ)) → old ≡ popped ++ fragment ∷ [] → IsStar fragment made → new ≡ popped ++ made ∷ [] → Takes old rows Star new rows
takes_star old popped new fragment made rows e is f [] w = absurd (middle_is_some popped fragment [] (sym e ∙ w.0))
takes_star old popped new fragment made rows e is f (x ∷ stack) w =
    let P : List (Expression (List ℤ)) → Type 0 = λ s. Waits s new rows in
    let Q : List Fragment → Type 0 = λ xs. Waits (x ∷ stack) xs rows in
    let t = top_of_waiting x stack popped fragment (length rows) rows (subst Q e w) in
    subst P (after_symbol-star x stack) (waits_more stack (star x) popped new made t.n (length rows) rows t.below (is t.n x rows t.top) t.end f)

pub takes_plus : (old popped new : List Fragment) (fragment made : Fragment) (rows : List (List ℕ)) → old ≡ popped ++ fragment ∷ [] → IsPlus fragment made → new ≡ popped ++ made ∷ [] → Takes old rows Plus new rows
takes_plus old popped new fragment made rows e is f [] w = absurd (middle_is_some popped fragment [] (sym e ∙ w.0))
takes_plus old popped new fragment made rows e is f (x ∷ stack) w =
    let P : List (Expression (List ℤ)) → Type 0 = λ s. Waits s new rows in
    let Q : List Fragment → Type 0 = λ xs. Waits (x ∷ stack) xs rows in
    let t = top_of_waiting x stack popped fragment (length rows) rows (subst Q e w) in
    subst P (after_symbol-plus x stack) (waits_more stack (plus x) popped new made t.n (length rows) rows t.below (is t.n x rows t.top) t.end f)

pub takes_optional : (old popped new : List Fragment) (fragment made : Fragment) (rows : List (List ℕ)) → old ≡ popped ++ fragment ∷ [] → IsOptional fragment made → new ≡ popped ++ made ∷ [] → Takes old rows Optional new rows
takes_optional old popped new fragment made rows e is f [] w = absurd (middle_is_some popped fragment [] (sym e ∙ w.0))
takes_optional old popped new fragment made rows e is f (x ∷ stack) w =
    let P : List (Expression (List ℤ)) → Type 0 = λ s. Waits s new rows in
    let Q : List Fragment → Type 0 = λ xs. Waits (x ∷ stack) xs rows in
    let t = top_of_waiting x stack popped fragment (length rows) rows (subst Q e w) in
    subst P (after_symbol-optional x stack) (waits_more stack (optional x) popped new made t.n (length rows) rows t.below (is t.n x rows t.top) t.end f)

-- a sign with nothing before it is passed over
pub passes_star : (old new : List Fragment) (rows : List (List ℕ)) → old ≡ [] → new ≡ [] → Takes old rows Star new rows
passes_star old new rows e f [] w = (f, w.1)
passes_star old new rows e f (x ∷ stack) w = let Q : List Fragment → Type 0 = λ xs. Waits (x ∷ stack) xs rows in absurd (none_waits x stack (length rows) rows (subst Q e w))

pub passes_plus : (old new : List Fragment) (rows : List (List ℕ)) → old ≡ [] → new ≡ [] → Takes old rows Plus new rows
passes_plus old new rows e f [] w = (f, w.1)
passes_plus old new rows e f (x ∷ stack) w = let Q : List Fragment → Type 0 = λ xs. Waits (x ∷ stack) xs rows in absurd (none_waits x stack (length rows) rows (subst Q e w))

pub passes_optional : (old new : List Fragment) (rows : List (List ℕ)) → old ≡ [] → new ≡ [] → Takes old rows Optional new rows
passes_optional old new rows e f [] w = (f, w.1)
passes_optional old new rows e f (x ∷ stack) w = let Q : List Fragment → Type 0 = λ xs. Waits (x ∷ stack) xs rows in absurd (none_waits x stack (length rows) rows (subst Q e w))

-- a sign between two expressions
two_wait : (e f : Expression (List ℤ)) (stack : List (Expression (List ℤ))) (old : List Fragment) (next : ℕ) (rows : List (List ℕ)) → AreWaiting (f ∷ e ∷ stack) old next rows → length old < 2 → ⊥
two_wait e f stack old next rows w few =
    let one : length old ≡ length w.0 + 1 = ap length w.3 ∙ length_push w.0 w.1 in
    let two : length w.0 ≡ length w.6.0 + 1 = ap length w.6.3 ∙ length_push w.6.0 w.6.1 in
    omega arith

pub passes_either : (old new : List Fragment) (rows : List (List ℕ)) → length old < 2 → new ≡ old → Takes old rows Either new rows
passes_either old new rows few same [] w = let Q : List Fragment → Type 0 = λ xs. Waits [] xs rows in subst Q (sym same) w
passes_either old new rows few same (f ∷ []) w = let Q : List Fragment → Type 0 = λ xs. Waits (f ∷ []) xs rows in subst Q (sym same) w
passes_either old new rows few same (f ∷ e ∷ stack) w = absurd (two_wait e f stack old (length rows) rows w few)

pub passes_follow : (old new : List Fragment) (rows more : List (List ℕ)) → length old < 2 → new ≡ old → more ≡ rows → Takes old rows Follow new more
passes_follow old new rows more few same is [] w = let Q : List Fragment → Type 0 = λ xs. Waits [] xs more in let R : List (List ℕ) → Type 0 = λ r. Waits [] old r in subst Q (sym same) (subst R (sym is) w)
passes_follow old new rows more few same is (f ∷ []) w = let Q : List Fragment → Type 0 = λ xs. Waits (f ∷ []) xs more in let R : List (List ℕ) → Type 0 = λ r. Waits (f ∷ []) old r in subst Q (sym same) (subst R (sym is) w)
passes_follow old new rows more few same is (f ∷ e ∷ stack) w = absurd (two_wait e f stack old (length rows) rows w few)

one_is_not_two : (e : Expression (List ℤ)) (others : List Fragment) (left right : Fragment) (next : ℕ) (rows : List (List ℕ)) → AreWaiting (e ∷ []) ((others ++ left ∷ []) ++ right ∷ []) next rows → ⊥
one_is_not_two e others left right next rows w =
    let t = top_of_waiting e [] (others ++ left ∷ []) right next rows w in
    middle_is_some others left [] t.below.0

pub takes_either : (old popped new : List Fragment) (left right made : Fragment) (rows : List (List ℕ)) → old ≡ (popped ++ left ∷ []) ++ right ∷ [] → IsEither left right made → new ≡ popped ++ made ∷ [] → Takes old rows Either new rows
takes_either old popped new left right made rows e is f [] w = absurd (middle_is_some (popped ++ left ∷ []) right [] (sym e ∙ w.0))
takes_either old popped new left right made rows e is f (y ∷ []) w = let Q : List Fragment → Type 0 = λ xs. Waits (y ∷ []) xs rows in absurd (one_is_not_two y popped left right (length rows) rows (subst Q e w))
takes_either old popped new left right made rows e is f (y ∷ x ∷ stack) w =
    let Q : List Fragment → Type 0 = λ xs. Waits (y ∷ x ∷ stack) xs rows in
    let t = top_of_waiting y (x ∷ stack) (popped ++ left ∷ []) right (length rows) rows (subst Q e w) in
    let u = top_of_waiting x stack popped left t.n rows t.below in
    let N : ℕ → Type 0 = λ m. IsFragment m y right rows in
    let l : length (occurrences_in x ++ occurrences_in y) ≡ length (occurrences_in x) + length (occurrences_in y) = length-append (occurrences_in x) (occurrences_in y) in
    let te : length rows ≡ t.n + length (occurrences_in y) = t.end in
    let ue : t.n ≡ u.n + length (occurrences_in x) = u.end in
    waits_more stack (either x y) popped new made u.n (length rows) rows u.below (is u.n x y rows u.top (subst N u.end t.top)) (omega arith) f

pub takes_follow : (old popped new : List Fragment) (left right made : Fragment) (rows more : List (List ℕ)) → old ≡ (popped ++ left ∷ []) ++ right ∷ [] → IsFollow left right made rows more → new ≡ popped ++ made ∷ [] → Takes old rows Follow new more
takes_follow old popped new left right made rows more e is f [] w = absurd (middle_is_some (popped ++ left ∷ []) right [] (sym e ∙ w.0))
takes_follow old popped new left right made rows more e is f (y ∷ []) w = let Q : List Fragment → Type 0 = λ xs. Waits (y ∷ []) xs rows in absurd (one_is_not_two y popped left right (length rows) rows (subst Q e w))
takes_follow old popped new left right made rows more e is f (y ∷ x ∷ stack) w =
    let Q : List Fragment → Type 0 = λ xs. Waits (y ∷ x ∷ stack) xs rows in
    let t = top_of_waiting y (x ∷ stack) (popped ++ left ∷ []) right (length rows) rows (subst Q e w) in
    let u = top_of_waiting x stack popped left t.n rows t.below in
    let N : ℕ → Type 0 = λ m. IsFragment m y right rows in
    let b : IsFragment (u.n + length (occurrences_in x)) y right rows = subst N u.end t.top in
    let l : length (occurrences_in x ++ occurrences_in y) ≡ length (occurrences_in x) + length (occurrences_in y) = length-append (occurrences_in x) (occurrences_in y) in
    let te : length rows ≡ t.n + length (occurrences_in y) = t.end in
    let ue : t.n ≡ u.n + length (occurrences_in x) = u.end in
    let ce : length more ≡ length rows = is.count in
    waits_more stack (follow x y) popped new made u.n (length more) more (kept_waiting stack popped u.n rows more u.below (is.kept u.n x y u.top b)) (is.fragment u.n x y u.top b) (omega arith) f

-- the places of fragments that wait have lists
rows_of_fragment : (n : ℕ) (e : Expression (List ℤ)) (fragment : Fragment) (rows : List (List ℕ)) (count : ℕ) → IsFragment n e fragment rows → n + length (occurrences_in e) ≤ count → HasRows count fragment
rows_of_fragment n e fragment rows count a below = record {
  lasts = λ p h. let w : IsWithin n (n + length (occurrences_in e)) p = last_within n e p ((a.lasts p).0 h) in omega arith;
  owed = λ p q h. let w : IsWithin n (n + length (occurrences_in e)) p = last_within n e p (a.owed p q h).0 in omega arith;
}

pub rows_of_two : (old popped : List Fragment) (left right : Fragment) (rows : List (List ℕ)) → old ≡ (popped ++ left ∷ []) ++ right ∷ [] → IsWaiting old rows → HasRows (length rows) left × HasRows (length rows) right
rows_of_two old popped left right rows e waiting = from waiting.0 waiting.1
  where
    from : (stack : List (Expression (List ℤ))) → Waits stack old rows → HasRows (length rows) left × HasRows (length rows) right
    from [] w = absurd (middle_is_some (popped ++ left ∷ []) right [] (sym e ∙ w.0))
    from (y ∷ []) w = let Q : List Fragment → Type 0 = λ xs. Waits (y ∷ []) xs rows in absurd (one_is_not_two y popped left right (length rows) rows (subst Q e w))
    from (y ∷ x ∷ stack) w =
        let Q : List Fragment → Type 0 = λ xs. Waits (y ∷ x ∷ stack) xs rows in
        let t = top_of_waiting y (x ∷ stack) (popped ++ left ∷ []) right (length rows) rows (subst Q e w) in
        let u = top_of_waiting x stack popped left t.n rows t.below in
        let te : length rows ≡ t.n + length (occurrences_in y) = t.end in
        let ue : t.n ≡ u.n + length (occurrences_in x) = u.end in
        (rows_of_fragment u.n x left rows (length rows) u.top (omega arith), rows_of_fragment t.n y right rows (length rows) t.top (omega arith))

pub waits_next : (symbols : List PostfixSymbol) (i : ℕ) (symbol : PostfixSymbol) (old new : List Fragment) (rows more : List (List ℕ)) → i < length symbols → symbol ≡ slice_index_or symbols i symbol → Waits (stacked [] (take i symbols)) old rows → Takes old rows symbol new more
    → Waits (stacked [] (take (i + 1) symbols)) new more
waits_next symbols i symbol old new rows more l e w goes =
    let P : List (Expression (List ℤ)) → Type 0 = λ s. Waits s new more in
    let one : take (i + 1) symbols ≡ take i symbols ++ symbol ∷ [] = take_more symbols i symbol l ∙ ap (λ s. take i symbols ++ s ∷ []) (sym e) in
    subst P (sym (ap (stacked []) one ∙ stacked-push [] (take i symbols) symbol)) (goes (stacked [] (take i symbols)) w)

-- at the end the fragment of the whole expression waits
pub record HasWhole (e : Expression (List ℤ)) (whole : Fragment) (rows : List (List ℕ)) : Type 0 where
  pub count : length rows ≡ length (occurrences_in e) + 1
  pub is : IsFragment 1 e whole rows
  pub places : HasRows (length rows) whole

whole_waits : (symbols : List PostfixSymbol) (i : ℕ) (fragments : List Fragment) (rows : List (List ℕ)) → IsPostfix symbols → length symbols ≤ i → Waits (stacked [] (take i symbols)) fragments rows → Waits (tree_of symbols ∷ []) fragments rows
whole_waits symbols i fragments rows postfix l w = let P : List (Expression (List ℤ)) → Type 0 = λ s. Waits s fragments rows in subst P (ap (stacked []) (take_all i symbols l) ∙ postfix) w

pub some_waits : (symbols : List PostfixSymbol) (i : ℕ) (fragments : List Fragment) (rows : List (List ℕ)) → IsPostfix symbols → length symbols ≤ i → Waits (stacked [] (take i symbols)) fragments rows → 0 < length fragments
some_waits symbols i fragments rows postfix l w =
    let v = whole_waits symbols i fragments rows postfix l w in
    let e : length fragments ≡ length v.0 + 1 = ap length v.3 ∙ length_push v.0 v.1 in
    omega arith

pub whole_of_waiting : (symbols : List PostfixSymbol) (i : ℕ) (fragments popped : List Fragment) (whole : Fragment) (rows : List (List ℕ)) → IsPostfix symbols → length symbols ≤ i → Waits (stacked [] (take i symbols)) fragments rows → fragments ≡ popped ++ whole ∷ []
    → HasWhole (tree_of symbols) whole rows
whole_of_waiting symbols i fragments popped whole rows postfix l w e =
    let Q : List Fragment → Type 0 = λ xs. Waits (tree_of symbols ∷ []) xs rows in
    let t = top_of_waiting (tree_of symbols) [] popped whole (length rows) rows (subst Q e (whole_waits symbols i fragments rows postfix l w)) in
    let first : t.n ≡ 1 = t.below.1 in
    let end : length rows ≡ t.n + length (occurrences_in (tree_of symbols)) = t.end in
    let N : ℕ → Type 0 = λ m. IsFragment m (tree_of symbols) whole rows in
    record { count = omega arith; is = subst N first t.top; places = rows_of_fragment t.n (tree_of symbols) whole rows (length rows) t.top (omega arith) }
