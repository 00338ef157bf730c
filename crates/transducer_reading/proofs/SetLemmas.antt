-- The line of the set, as the reader reads it.
use Rattle.std.proofs.Common.{◌≡◌, ℕ, ◌<◌, Bool, ◌&&◌, true, false, cond, eqb, List, [], ◌∷◌, length, ℤ, Option, None, Some, refl, sym, ap, ◌∙◌, true≢false, arith}
use Rattle.std.specs.List.{slice_split, onto_first, list_all}
use Rattle.std.proofs.lemmas.Bool.{ne_eqb}
use Rattle.text_grammar.specs.Bytes.{is_blank}
use Rattle.dfa_reading.specs.Lines.{◌>>=◌}
use Rattle.dfa_reading.specs.Headers.{open_set_of, sets_between, sets_of}
use Rattle.dfa_reading.proofs.Splits.{split_some}
use Rattle.transducer_reading.specs.Entries.{only_set, set_of}

-- blanks have no brace
blanks_split : (rest : List ℕ) → list_all is_blank rest ≡ true → slice_split (λ b. eqb b 125) rest ≡ rest ∷ []
blanks_split [] h = refl
blanks_split (b ∷ rest) h = by (blanks_split rest) (is_blank b) refl h
  where
    by : (list_all is_blank rest ≡ true → slice_split (λ x. eqb x 125) rest ≡ rest ∷ []) → (t : Bool) → is_blank b ≡ t → (t && list_all is_blank rest) ≡ true → slice_split (λ x. eqb x 125) (b ∷ rest) ≡ (b ∷ rest) ∷ []
    by later true e all =
        let other : eqb b 125 ≡ false = ne_eqb b 125 (λ same. let bad : false ≡ true = sym (ap is_blank same) ∙ e in cc) in
        rw other (ap (onto_first b) (later all))
    by later false e all = absurd (true≢false (sym all))

-- a text in one piece is this piece
one_piece : (p : ℕ → Bool) (xs piece : List ℕ) → slice_split p xs ≡ piece ∷ [] → xs ≡ piece
one_piece p [] piece h = let e : [] ∷ [] ≡ piece ∷ [] = h in cc
one_piece p (x ∷ xs) piece h = by (one_piece p xs) (p x) h
  where
    first : ((y : List ℕ) → slice_split p xs ≡ y ∷ [] → xs ≡ y) → (pieces : List (List ℕ)) → slice_split p xs ≡ pieces → onto_first x pieces ≡ piece ∷ [] → x ∷ xs ≡ piece
    first later [] split e = let some = split_some p xs in absurd (omega (arith, ap length split))
    first later (y ∷ []) split e = let same : (x ∷ y) ∷ [] ≡ piece ∷ [] = e in let first_is : x ∷ y ≡ piece = cc in ap (λ t. x ∷ t) (later y split) ∙ first_is
    first later (y ∷ z ∷ pieces) split e = let same : (x ∷ y) ∷ z ∷ pieces ≡ piece ∷ [] = e in absurd (cc)

    by : ((y : List ℕ) → slice_split p xs ≡ y ∷ [] → xs ≡ y) → (b : Bool) → cond b ([] ∷ slice_split p xs) (onto_first x (slice_split p xs)) ≡ piece ∷ [] → x ∷ xs ≡ piece
    by later true e = let some = split_some p xs in let none : slice_split p xs ≡ [] = let f : [] ∷ slice_split p xs ≡ piece ∷ [] = e in cc in absurd (omega (arith, ap length none))
    by later false e = first later (slice_split p xs) refl e

-- the sets of a line, after which is something else
both : (piece : List ℕ) (pieces : List (List ℕ)) → 0 < length pieces → sets_between (piece ∷ pieces) ≡ (open_set_of piece >>= (λ set. sets_between pieces >>= (λ sets. Some (set ∷ sets))))
both piece [] some = absurd (omega arith)
both piece (next ∷ pieces) some = refl

alone : (set : Option (List ℤ)) → ((set >>= (λ s. Some [] >>= (λ sets. Some (s ∷ sets)))) >>= only_set) ≡ set
alone None = refl
alone (Some set) = refl

pub set_first : (line piece rest : List ℕ) → slice_split (λ b. eqb b 125) line ≡ piece ∷ slice_split (λ b. eqb b 125) rest → list_all is_blank rest ≡ true → open_set_of piece ≡ set_of line
unfolding sets_of
set_first line piece rest split blank =
    let none : sets_between (rest ∷ []) ≡ Some [] = ap (λ b. cond b (Some []) None) blank in
    sym (ap (λ ps. sets_between ps >>= only_set) (split ∙ ap (λ ps. piece ∷ ps) (blanks_split rest blank))
    ∙ ap (λ sets. (open_set_of piece >>= (λ set. sets >>= (λ others. Some (set ∷ others)))) >>= only_set) none ∙ alone (open_set_of piece))

-- something else after a set
not_alone : (set : Option (List ℤ)) (sets : Option (List (List ℤ))) → (sets ≡ Some [] → ⊥) → ((set >>= (λ s. sets >>= (λ others. Some (s ∷ others)))) >>= only_set) ≡ None
not_alone None sets apart = refl
not_alone (Some set) None apart = refl
not_alone (Some set) (Some []) apart = absurd (apart refl)
not_alone (Some set) (Some (other ∷ sets)) apart = refl

more_sets : (set : Option (List ℤ)) (sets : Option (List (List ℤ))) → (set >>= (λ s. sets >>= (λ others. Some (s ∷ others)))) ≡ Some [] → ⊥
more_sets None sets e = cc
more_sets (Some set) None e = cc
more_sets (Some set) (Some sets) e = let bad : Some (set ∷ sets) ≡ Some [] = e in cc

some_sets : (rest : List ℕ) → list_all is_blank rest ≡ false → sets_between (slice_split (λ b. eqb b 125) rest) ≡ Some [] → ⊥
some_sets rest full none = by (slice_split (λ b. eqb b 125) rest) refl none
  where
    by : (pieces : List (List ℕ)) → slice_split (λ b. eqb b 125) rest ≡ pieces → sets_between pieces ≡ Some [] → ⊥
    by [] split e = let some = split_some (λ b. eqb b 125) rest in omega (arith, ap length split)
    by (piece ∷ []) split e =
        let other : list_all is_blank piece ≡ false = ap (list_all is_blank) (sym (one_piece (λ b. eqb b 125) rest piece split)) ∙ full in
        let bad : None ≡ Some [] = sym (ap (λ b. cond b (Some []) None) other) ∙ e in cc
    by (piece ∷ next ∷ pieces) split e = more_sets (open_set_of piece) (sets_between (next ∷ pieces)) e

pub set_not_alone : (line piece rest : List ℕ) → slice_split (λ b. eqb b 125) line ≡ piece ∷ slice_split (λ b. eqb b 125) rest → list_all is_blank rest ≡ false → None ≡ set_of line
unfolding sets_of
set_not_alone line piece rest split full =
    sym (ap (λ ps. sets_between ps >>= only_set) split ∙ ap (λ sets. sets >>= only_set) (both piece (slice_split (λ b. eqb b 125) rest) (split_some (λ b. eqb b 125) rest))
    ∙ not_alone (open_set_of piece) (sets_between (slice_split (λ b. eqb b 125) rest)) (some_sets rest full))

pub no_brace : (line piece : List ℕ) → slice_split (λ b. eqb b 125) line ≡ piece ∷ [] → None ≡ set_of line
unfolding sets_of
no_brace line piece split = sym (ap (λ ps. sets_between ps >>= only_set) split ∙ by (list_all is_blank piece))
  where
    by : (b : Bool) → (cond b (Some []) None >>= only_set) ≡ None
    by true = refl
    by false = refl
