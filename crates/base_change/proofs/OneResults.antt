-- A step has one width and one outcome: letter functions with the same letters are equal.
use Rattle.std.proofs.Common.{◌≡◌, ℕ, ◌*◌, ◌^◌, ◌≤◌, List, [], ◌∷◌, refl, sym, ◌∙◌, subst, arith}
use Rattle.digit_tuple.specs.Letters.{IsWord, product}
use Rattle.digit_tuple.specs.Width.{IsEquivalence}
use Rattle.digit_tuple.proofs.WidthLemmas.{IsOneWidth-equivalence}
use Rattle.automaton_steps.proofs.StepAnswers.{step_one}
use Rattle.word_output.specs.LetterFunctions.{LetterFunctionValue}
use Rattle.word_output.proofs.LetterEquality.{letter_functions}
use Rattle.base_change.specs.Joins.{IsJoin, JoinAlike, join_step}
use Rattle.base_change.specs.Laws.{JoinHasOneOutcome, OneJoinWidth, OneSplitWidth, SplitHasOneOutcome}
use Rattle.base_change.specs.Splits.{IsSplit, SplitAlike, split_step}
use Rattle.base_change.proofs.GroupLemmas.{padded_word}

split_alike : (r b : ℕ) (f : LetterFunctionValue) → IsEquivalence (SplitAlike r b f)
split_alike r b f = record {
  reflexive = λ w. record { left = refl; letters = λ u over. refl };
  symmetric = λ w v alike. record { left = sym alike.left; letters = λ u over. sym (alike.letters u over) };
  transitive = λ u v w one two. record { left = one.left ∙ two.left; letters = λ t over. one.letters t over ∙ two.letters t over };
}

join_alike : (r a : ℕ) (f : LetterFunctionValue) → IsEquivalence (JoinAlike r a f)
join_alike r a f = record {
  reflexive = λ w u over. refl;
  symmetric = λ w v alike u over. sym (alike u over);
  transitive = λ u v w one two t over. one t over ∙ two t over;
}

-- a word over a track of k digits is one over k digits
one_track : (k : ℕ) (sizes w : List ℕ) → sizes ≡ k ∷ [] → IsWord (product sizes) w → IsWord k w
one_track k sizes w is over = subst (λ n. IsWord n w) (let unit : k * 1 ≡ k = omega arith in unit) (subst (λ (ss : List ℕ). IsWord (product ss) w) is over)

one_split : (r b : ℕ) (f g h : LetterFunctionValue) → 1 ≤ r → 1 ≤ b → IsSplit r b f g → IsSplit r b f h → g ≡ h
one_split r b f g h base some one other =
    letter_functions g h one.function other.function (one.sizes ∙ sym other.sizes)
    (λ w over.
    let here = one_track r g.automaton.sizes w one.sizes over in
    let found = padded_word r b base some w here in
    one.letters w found.0 found.1 here found.2 found.3 found.4 ∙ sym (other.letters w found.0 found.1 here found.2 found.3 found.4))

one_join : (r a : ℕ) (f g h : LetterFunctionValue) → IsJoin r a f g → IsJoin r a f h → g ≡ h
one_join r a f g h one other =
    letter_functions g h one.function other.function (one.sizes ∙ sym other.sizes)
    (λ w over. let here = one_track (r ^ a) g.automaton.sizes w one.sizes over in one.letters w here ∙ sym (other.letters w here))

pub split_width : OneSplitWidth
split_width r b f = IsOneWidth-equivalence (SplitAlike r b f) r (split_alike r b f)

pub join_width : OneJoinWidth
join_width r a f = IsOneWidth-equivalence (JoinAlike r a f) (r ^ a) (join_alike r a f)

pub split_outcome : SplitHasOneOutcome
split_outcome r b f low some = step_one (split_step r b f) (split_alike r b f) (λ g h. one_split r b f g h (omega (arith, low)) some)

pub join_outcome : JoinHasOneOutcome
join_outcome r a f = step_one (join_step r a f) (join_alike r a f) (one_join r a f)
