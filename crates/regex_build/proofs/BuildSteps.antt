-- From the table of an expression's letters to the canonical automaton of its matches.
use Rattle.std.proofs.Common.{◌≡◌, ℕ, ℤ, List, IsTrue, ◌↔◌, sym, ap, ◌∙◌, subst}
use Rattle.digit_tuple.specs.Automaton as branching
use Rattle.digit_tuple.specs.Automaton.{Branching, Accepts}
use Rattle.digit_tuple.specs.Deterministic.{Automaton, accepts_of}
use Rattle.digit_tuple.specs.Letters.{product, IsWord}
use Rattle.digit_tuple.specs.Sets.{sizes_of}
use Rattle.digit_tuple.specs.Tuples.{IsLetterOf, Codes}
use Rattle.digit_tuple.specs.Width.{HasApart, HasWidth}
use Rattle.digit_tuple.proofs.TupleLemmas.{IsWord-codes}
use Rattle.digit_tuple.proofs.WidthLemmas.{HasApart-same, HasWidth-same}
use Rattle.determinise.specs.Subsets.{Alike}
use Rattle.minimise.specs.Residuals.{SameLanguage}
use Rattle.regex_build.specs.Expression.{Expression}
use Rattle.regex_build.specs.LastMarks.{SameLastMarks}
use Rattle.regex_build.specs.Matches.{Matches}
use Rattle.regex_build.specs.Positions.{IsPositionTable, AcceptsTheMatches}
use Rattle.regex_build.proofs.MarkPaths.{alike_from_marks, marks_from_alike}

module _ (sets : List (List ℤ)) (e : Expression (List ℤ)) (n : Branching) (sizes : n.sizes ≡ sizes_of sets) where
  -- sets of states are as many as sets of last marks
  pub width_by_marks : (k : ℕ) → IsPositionTable (IsLetterOf sets) e n → HasWidth (Alike n) (branching.letters_of n) k → HasWidth (SameLastMarks (IsLetterOf sets) e) (product (sizes_of sets)) k
  width_by_marks k table width =
      subst (λ letters. HasWidth (SameLastMarks (IsLetterOf sets) e) letters k) (ap product sizes)
      (HasWidth-same (Alike n) (SameLastMarks (IsLetterOf sets) e) (branching.letters_of n) k
      (λ w v over too alike. marks_from_alike (IsLetterOf sets) e n table w v alike)
      (λ w v over too same. alike_from_marks (IsLetterOf sets) e n table w v same) width)

  pub apart_by_marks : (k : ℕ) → IsPositionTable (IsLetterOf sets) e n → HasApart (Alike n) (branching.letters_of n) k → HasApart (SameLastMarks (IsLetterOf sets) e) (product (sizes_of sets)) k
  apart_by_marks k table apart =
      subst (λ letters. HasApart (SameLastMarks (IsLetterOf sets) e) letters k) (ap product sizes)
      (HasApart-same (Alike n) (SameLastMarks (IsLetterOf sets) e) (branching.letters_of n) k
      (λ w v over too same. alike_from_marks (IsLetterOf sets) e n table w v same) apart)

  -- automata of the language of the table accept the matches
  pub matches_accepted : (d minimal : Automaton) → d.sizes ≡ n.sizes → AcceptsTheMatches sets e n
      → ((word : List ℕ) → IsWord (branching.letters_of n) word → IsTrue (accepts_of d word) ↔ Accepts n word) → SameLanguage d minimal
      → (tuples : List (List ℤ)) (word : List ℕ) → Codes sets tuples word → IsTrue (accepts_of minimal word) ↔ Matches e tuples
  matches_accepted d minimal sizes_too matches language same tuples word codes =
      let over = IsWord-codes sets tuples word codes in
      let over_n : IsWord (branching.letters_of n) word = subst (λ letters. IsWord letters word) (sym (ap product sizes)) over in
      let over_d : IsWord (product d.sizes) word = subst (λ letters. IsWord letters word) (sym (ap product sizes_too)) over_n in
      let one = language word over_n in
      let two = matches tuples word codes in
      ((λ is. two.0 (one.0 (same word over_d ∙ is))), (λ matched. sym (same word over_d) ∙ one.1 (two.1 matched)))
