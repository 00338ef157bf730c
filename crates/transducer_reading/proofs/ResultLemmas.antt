-- The results of one state's lines, and the lines that clash with a further one.
use Rattle.std.proofs.Common.{◌≡◌, inl, inr, ℕ, zero, suc, ◌<◌, Bool, ◌⊎◌, ◌&&◌, ◌||◌, true, false, not, cond, eqb, List, [], ◌∷◌, ◌++◌, length, get_or, ℤ, Option, None, Some, refl, sym, ap, ◌∙◌, true≢false, arith}
use Rattle.std.specs.Prelude.{is_none, is_some, option_map}
use Rattle.std.specs.Option.{option_or}
use Rattle.std.specs.List.{All, Contains, find, list_any}
use Rattle.std.specs.Ordering.{int_eq}
use Rattle.std.proofs.lemmas.Bool.Decides.{Decides-int_eq, Decides-eqb}
use Rattle.std.proofs.lemmas.List.Elements.{Contains-append_right, Contains-get_or}
use Rattle.std.proofs.lemmas.List.Folds.{find-append, list_any_none}
use Rattle.indexmap.specs.IndexMap.{get}
use Rattle.transducer_reading.specs.declared.results.Results.{Results}
use Rattle.transducer_reading.specs.declared.transducer.TransducerLine.{TransducerLine}
use Rattle.transducer_reading.specs.Transducers.{HaveOneResult}
use Rattle.transducer_reading.specs.Reading.{share_letter, differ}
use Rattle.transducer_reading.specs.LastResults.{result_in, is_letter, first_result, differs_from, clashes, AreAgreed, AreResults}

abbrev FileLine : Type 0
FileLine = ℕ × TransducerLine

-- one result of two lines
pub same_result : (line other : TransducerLine) → HaveOneResult line other → result_in line ≡ result_in other
same_result line other one =
    ap (λ (t : ℕ). let p : ℕ × ℤ = (t, line.output) in p) one.target ∙ ap (λ (o : ℤ). let p : ℕ × ℤ = (other.target, o) in p) one.output

pub and_true : (b c : Bool) → (b && c) ≡ true → (b ≡ true) × (c ≡ true)
and_true true c h = (refl, h)
and_true false c h = absurd (true≢false (sym h))

not_false : (b : Bool) → not b ≡ false → b ≡ true
not_false true h = refl
not_false false h = sym h

bool_cases : (b : Bool) → (b ≡ true) ⊎ (b ≡ false)
bool_cases true = inl refl
bool_cases false = inr refl

-- lines that do not differ have one result
pub no_difference : (line other : TransducerLine) → differ line other ≡ false → HaveOneResult line other
no_difference line other h =
    let both = and_true (eqb line.target other.target) (int_eq line.output other.output) (not_false (eqb line.target other.target && int_eq line.output other.output) h) in
    record { target = (Decides-eqb line.target other.target).0 both.0; output = (Decides-int_eq line.output other.output).0 both.1 }

-- a test that finds nothing
pub none_passes : {X : Type 0} (p : X → Bool) (xs : List X) (x : X) → list_any p xs ≡ false → Contains xs x → p x ≡ false
none_passes p [] x h (k, lt, at) = absurd (omega arith)
none_passes p (y ∷ xs) x h (zero, lt, at) = ap p (sym at) ∙ left (p y) (list_any p xs) h
  where
    left : (b c : Bool) → (b || c) ≡ false → b ≡ false
    left true c e = e
    left false c e = refl
none_passes p (y ∷ xs) x h (suc k, lt, at) = none_passes p xs x (right (p y) (list_any p xs) h) (k, (omega arith), at)
  where
    right : (b c : Bool) → (b || c) ≡ false → c ≡ false
    right true c e = absurd (true≢false e)
    right false c e = e

-- what is found is there and passes
pub find_some : {X : Type 0} (p : X → Bool) (xs : List X) (x : X) → find p xs ≡ Some x → Contains xs x × (p x ≡ true)
find_some p [] x h = absurd (cc)
find_some p (y ∷ xs) x h = by (find_some p xs x) (p y) refl h
  where
    by : (find p xs ≡ Some x → Contains xs x × (p x ≡ true)) → (b : Bool) → p y ≡ b → cond b (Some y) (find p xs) ≡ Some x → Contains (y ∷ xs) x × (p x ≡ true)
    by later true e is = let same : y ≡ x = let f : Some y ≡ Some x = is in cc in ((0, omega arith, same), ap p (sym same) ∙ e)
    by later false e is = let rest = later is in (Contains-append_right (y ∷ []) xs x rest.0, rest.1)

module _ (line : TransducerLine) where
  -- of lines that pass a test and have one result, the first shows whether one differs
  any_first : (passes : Option ℤ → Bool) (lines : List FileLine) → ((x y : FileLine) → Contains lines x → Contains lines y → passes x.1.letter ≡ true → passes y.1.letter ≡ true → HaveOneResult x.1 y.1)
      → list_any (λ (other : FileLine). passes other.1.letter && differ line other.1) lines ≡ differs_from (result_in line) (first_result passes lines)
  any_first passes [] one = refl
  any_first passes (x ∷ lines) one = by (any_first passes lines (λ y z h k. one y z (Contains-append_right (x ∷ []) lines y h) (Contains-append_right (x ∷ []) lines z k))) (passes x.1.letter) refl
    where
      later : (y : FileLine) → Contains lines y → Contains (x ∷ lines) y
      later y h = Contains-append_right (x ∷ []) lines y h

      others : passes x.1.letter ≡ true → differ line x.1 ≡ false → All (λ (y : FileLine). (passes y.1.letter && differ line y.1) ≡ false) lines
      others e same k d lt = at (get_or lines k d) (Contains-get_or lines k d lt) (passes (get_or lines k d).1.letter) refl
        where
          at : (y : FileLine) → Contains lines y → (b : Bool) → passes y.1.letter ≡ b → (b && differ line y.1) ≡ false
          at y h true f = ap (λ (r : ℕ × ℤ). not (eqb line.target r.0 && int_eq line.output r.1)) (sym (same_result x.1 y.1 (one x y (0, omega arith, refl) (later y h) e f))) ∙ same
          at y h false f = refl

      by : list_any (λ (other : FileLine). passes other.1.letter && differ line other.1) lines ≡ differs_from (result_in line) (first_result passes lines)
          → (b : Bool) → passes x.1.letter ≡ b → ((b && differ line x.1) || list_any (λ (other : FileLine). passes other.1.letter && differ line other.1) lines)
          ≡ differs_from (result_in line) (option_map (λ (l : FileLine). result_in l.1) (cond b (Some x) (find (λ (l : FileLine). passes l.1.letter) lines)))
      by rest false e = rest
      by rest true e = or_rest (differ line x.1) refl
        where
          or_rest : (b : Bool) → differ line x.1 ≡ b → (b || list_any (λ (other : FileLine). passes other.1.letter && differ line other.1) lines) ≡ b
          or_rest true f = refl
          or_rest false f = list_any_none (λ (other : FileLine). passes other.1.letter && differ line other.1) lines (others e f)

  -- a letter is shared with `*` and with itself
  any_or : (letter : ℤ) (lines : List FileLine) → list_any (λ (other : FileLine). share_letter (Some letter) other.1.letter && differ line other.1) lines
      ≡ (list_any (λ (other : FileLine). is_none other.1.letter && differ line other.1) lines || list_any (λ (other : FileLine). is_letter letter other.1.letter && differ line other.1) lines)
  any_or letter [] = refl
  any_or letter (x ∷ lines) = by x.1.letter ∙ ap (λ b. (is_none x.1.letter && differ line x.1) || (is_letter letter x.1.letter && differ line x.1) || b) (any_or letter lines) ∙ turn (is_none x.1.letter && differ line x.1) (is_letter letter x.1.letter && differ line x.1) _ _
    where
      by : (l : Option ℤ) → ((share_letter (Some letter) l && differ line x.1) || list_any (λ (other : FileLine). share_letter (Some letter) other.1.letter && differ line other.1) lines)
          ≡ ((is_none l && differ line x.1) || (is_letter letter l && differ line x.1) || list_any (λ (other : FileLine). share_letter (Some letter) other.1.letter && differ line other.1) lines)
      by None = same (differ line x.1) _
        where
          same : (b c : Bool) → (b || c) ≡ (b || false || c)
          same true c = refl
          same false c = refl
      by (Some other) = refl

      turn : (p q r s : Bool) → (p || q || (r || s)) ≡ ((p || r) || (q || s))
      turn true q r s = refl
      turn false true true s = refl
      turn false true false s = refl
      turn false false r s = refl

  module _ (lines : List FileLine) (results : Results) (is : AreResults lines results) (agreed : AreAgreed lines) where
    none_shares : (x y : Option ℤ) → is_none x ≡ true → share_letter x y ≡ true
    none_shares None y h = refl
    none_shares (Some letter) y h = absurd (true≢false (sym h))

    letter_shares : (letter : ℤ) (x y : Option ℤ) → is_letter letter x ≡ true → is_letter letter y ≡ true → share_letter x y ≡ true
    letter_shares letter None y h k = absurd (true≢false (sym h))
    letter_shares letter (Some a) None h k = refl
    letter_shares letter (Some a) (Some b) h k = (Decides-int_eq a b).1 (sym ((Decides-int_eq letter a).0 h) ∙ (Decides-int_eq letter b).0 k)

    -- a line by a letter
    pub clash_letter : (letter : ℤ) → line.letter ≡ Some letter → list_any (clashes line) lines ≡ (differs_from (result_in line) results.star || differs_from (result_in line) (get int_eq results.by_letter letter))
    clash_letter letter at =
        ap (λ (l : Option ℤ). list_any (λ (other : FileLine). share_letter l other.1.letter && differ line other.1) lines) at ∙ any_or letter lines
        ∙ ap (λ b. b || list_any (λ (other : FileLine). is_letter letter other.1.letter && differ line other.1) lines)
        (any_first is_none lines (λ x y h k p q. agreed x y h k (none_shares x.1.letter y.1.letter p)) ∙ ap (differs_from (result_in line)) (sym is.star))
        ∙ ap (λ b. differs_from (result_in line) results.star || b)
        (any_first (is_letter letter) lines (λ x y h k p q. agreed x y h k (letter_shares letter x.1.letter y.1.letter p q)) ∙ ap (differs_from (result_in line)) (sym (is.letters letter)))

    -- a line by `*`
    star_any : line.letter ≡ None → list_any (clashes line) lines ≡ list_any (λ (other : FileLine). differs_from (result_in line) (Some (result_in other.1))) lines
    star_any at = ap (λ (l : Option ℤ). list_any (λ (other : FileLine). share_letter l other.1.letter && differ line other.1) lines) at

    pub clash_first_star : line.letter ≡ None → list_any (λ (other : FileLine). differs_from (result_in line) (Some (result_in other.1))) lines ≡ list_any (clashes line) lines
    clash_first_star at = sym (star_any at)

    -- where a line by `*` is, all lines have its result
    all_same : (x : FileLine) → Contains lines x → is_none x.1.letter ≡ true → (others : List FileLine) → ((y : FileLine) → Contains others y → Contains lines y) → 0 < length others
        → list_any (λ (other : FileLine). differs_from (result_in line) (Some (result_in other.1))) others ≡ differs_from (result_in line) (Some (result_in x.1))
    all_same x there star [] among some = absurd (omega arith)
    all_same x there star (y ∷ others) among some =
        ap (λ b. b || list_any (λ (other : FileLine). differs_from (result_in line) (Some (result_in other.1))) others)
        (ap (λ (r : ℕ × ℤ). differs_from (result_in line) (Some r)) (sym (same_result x.1 y.1 (agreed x y there (among y (0, omega arith, refl)) (none_shares x.1.letter y.1.letter star)))))
        ∙ rest (all_same x there star others (λ w h. among w (Contains-append_right (y ∷ []) others w h))) others refl
      where
        rest : (0 < length others → list_any (λ (other : FileLine). differs_from (result_in line) (Some (result_in other.1))) others ≡ differs_from (result_in line) (Some (result_in x.1)))
            → (zs : List FileLine) → others ≡ zs → (differs_from (result_in line) (Some (result_in x.1)) || list_any (λ (other : FileLine). differs_from (result_in line) (Some (result_in other.1))) others) ≡ differs_from (result_in line) (Some (result_in x.1))
        rest later [] e = ap (λ os. differs_from (result_in line) (Some (result_in x.1)) || list_any (λ (other : FileLine). differs_from (result_in line) (Some (result_in other.1))) os) e ∙ or_false (differs_from (result_in line) (Some (result_in x.1)))
          where
            or_false : (b : Bool) → (b || false) ≡ b
            or_false true = refl
            or_false false = refl
        rest later (z ∷ zs) e =
            ap (λ b. differs_from (result_in line) (Some (result_in x.1)) || b) (later (omega (arith, ap length e)))
            ∙ or_same (differs_from (result_in line) (Some (result_in x.1)))
          where
            or_same : (b : Bool) → (b || b) ≡ b
            or_same true = refl
            or_same false = refl

    pub clash_star : line.letter ≡ None → is_some results.star ≡ true → differs_from (result_in line) results.star ≡ list_any (clashes line) lines
    clash_star at there =
        let found = first (find (λ (l : FileLine). is_none l.1.letter) lines) refl in
        ap (differs_from (result_in line)) (is.star ∙ found.1)
        ∙ sym (star_any at ∙ all_same found.0 found.2 found.3 lines (λ y h. h) (let lt = found.2.1 in omega arith))
      where
        first : (o : Option FileLine) → find (λ (l : FileLine). is_none l.1.letter) lines ≡ o
            → (x : FileLine) × (first_result is_none lines ≡ Some (result_in x.1)) × Contains lines x × (is_none x.1.letter ≡ true)
        first None e = absurd (true≢false (sym there ∙ ap is_some (is.star ∙ ap (option_map (λ (l : FileLine). result_in l.1)) e)))
        first (Some x) e = let h = find_some (λ (l : FileLine). is_none l.1.letter) lines x e in (x, ap (option_map (λ (l : FileLine). result_in l.1)) e, h.0, h.1)

  -- results with a further line
  module _ (lines : List FileLine) (at : ℕ) where
    -- a line that does not pass
    first-other : (passes : Option ℤ → Bool) → passes line.letter ≡ false → first_result passes lines ≡ first_result passes (lines ++ (at, line) ∷ [])
    first-other passes other = sym (ap (option_map (λ (l : FileLine). result_in l.1)) (find-append (λ (l : FileLine). passes l.1.letter) lines ((at, line) ∷ [])
        ∙ ap (λ b. option_or (find (λ (l : FileLine). passes l.1.letter) lines) (cond b (Some (at, line)) None)) other ∙ or_none (find (λ (l : FileLine). passes l.1.letter) lines)))
      where
        or_none : (o : Option FileLine) → option_or o None ≡ o
        or_none None = refl
        or_none (Some x) = refl

    -- a line that passes, and has the result of each other that does
    first-one : (passes : Option ℤ → Bool) → passes line.letter ≡ true → ((x : FileLine) → Contains lines x → passes x.1.letter ≡ true → HaveOneResult line x.1) → Some (result_in line) ≡ first_result passes (lines ++ (at, line) ∷ [])
    first-one passes this one = by (find (λ (l : FileLine). passes l.1.letter) lines) refl
      where
        by : (o : Option FileLine) → find (λ (l : FileLine). passes l.1.letter) lines ≡ o → Some (result_in line) ≡ first_result passes (lines ++ (at, line) ∷ [])
        by None e = sym (ap (option_map (λ (l : FileLine). result_in l.1)) (find-append (λ (l : FileLine). passes l.1.letter) lines ((at, line) ∷ [])
            ∙ ap (λ o. option_or o (cond (passes line.letter) (Some (at, line)) None)) e ∙ ap (λ b. cond b (Some (at, line)) None) this))
        by (Some x) e =
            let h = find_some (λ (l : FileLine). passes l.1.letter) lines x e in
            ap Some (same_result line x.1 (one x h.0 h.1))
            ∙ sym (ap (option_map (λ (l : FileLine). result_in l.1)) (find-append (λ (l : FileLine). passes l.1.letter) lines ((at, line) ∷ []) ∙ ap (λ o. option_or o (cond (passes line.letter) (Some (at, line)) None)) e))

    -- a line that clashes with none
    no_clash : list_any (clashes line) lines ≡ false → (x : FileLine) → Contains lines x → share_letter line.letter x.1.letter ≡ true → HaveOneResult line x.1
    no_clash none x there share =
        no_difference line x.1 (and_false (share_letter line.letter x.1.letter) (differ line x.1) share (none_passes (clashes line) lines x none there))
      where
        and_false : (b c : Bool) → b ≡ true → (b && c) ≡ false → c ≡ false
        and_false true c h e = e
        and_false false c h e = absurd (true≢false (sym h))

    module _ (results : Results) (is : AreResults lines results) (none : list_any (clashes line) lines ≡ false) where
      pub add_star : line.letter ≡ None → AreResults (lines ++ (at, line) ∷ []) (record { star = Some (result_in line); by_letter = results.by_letter })
      add_star letter = record {
        star = first-one is_none (ap is_none letter) (λ x there star. no_clash none x there (ap (λ l. share_letter l x.1.letter) letter));
        letters = λ a. is.letters a ∙ first-other (is_letter a) (ap (is_letter a) letter);
      }

      pub add_letter : (letter : ℤ) (next : Results) → line.letter ≡ Some letter → next.star ≡ results.star
          → ((a : ℤ) → get int_eq next.by_letter a ≡ cond (int_eq letter a) (Some (result_in line)) (get int_eq results.by_letter a)) → AreResults (lines ++ (at, line) ∷ []) next
      add_letter letter next there star updates = record {
        star = star ∙ is.star ∙ first-other is_none (ap is_none there);
        letters = λ a. updates a ∙ by a (int_eq letter a) refl;
      }
        where
          turned : (a b : ℤ) (t : Bool) → int_eq a b ≡ t → int_eq b a ≡ t
          turned a b true e = (Decides-int_eq b a).1 (sym ((Decides-int_eq a b).0 e))
          turned a b false e = elim (bool_cases (int_eq b a)) [
            | inl same ↦ absurd (true≢false (sym ((Decides-int_eq a b).1 (sym ((Decides-int_eq b a).0 same))) ∙ e))
            | inr apart ↦ apart
          ]

          shares : (a : ℤ) (x : Option ℤ) → int_eq letter a ≡ true → is_letter a x ≡ true → share_letter (Some letter) x ≡ true
          shares a None e h = refl
          shares a (Some b) e h = (Decides-int_eq letter b).1 ((Decides-int_eq letter a).0 e ∙ (Decides-int_eq a b).0 h)

          by : (a : ℤ) (t : Bool) → int_eq letter a ≡ t → cond t (Some (result_in line)) (get int_eq results.by_letter a) ≡ first_result (is_letter a) (lines ++ (at, line) ∷ [])
          by a true e = first-one (is_letter a) (ap (is_letter a) there ∙ turned letter a true e) (λ x h p. no_clash none x h (ap (λ l. share_letter l x.1.letter) there ∙ shares a x.1.letter e p))
          by a false e = is.letters a ∙ first-other (is_letter a) (ap (is_letter a) there ∙ turned letter a false e)
