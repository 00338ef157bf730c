-- The steps over numeration systems make the automaton of the relation.
use Rattle.std.proofs.Common.{◌≡◌, ℕ, ◌&&◌, List, ℤ, IsTrue, Ok, sym, ap, ◌∙◌, subst}
use Rattle.std.proofs.lemmas.Bool.{and_parts, and_from}
use Rattle.digit_tuple.specs.Deterministic.{Automaton, letters_of, accepts_of}
use Rattle.digit_tuple.specs.Letters.{IsWord, product}
use Rattle.digit_tuple.specs.Paddings.{in_order}
use Rattle.digit_tuple.specs.Sets.{sizes_of}
use Rattle.digit_tuple.specs.StepResults.{Then}
use Rattle.digit_tuple.specs.Steps.{StepLog}
use Rattle.digit_tuple.specs.Tuples.{Codes}
use Rattle.digit_tuple.specs.declared.direction.Direction.{Direction}
use Rattle.digit_tuple.proofs.TupleLemmas.{tuples_from_word, IsWord-codes}
use Rattle.minimise.specs.Tracked.{NamedAutomaton}
use Rattle.minimise.proofs.CanonicalLemmas.{canonical_forms}
use Rattle.product_op.specs.Validity.{is_valid}
use Rattle.pad_rename.specs.Padding.{IsPadded}
use Rattle.numeration.specs.Systems.{System, AreSystems}
use Rattle.numeration.specs.Representation as representation
use Rattle.numeration.specs.Representation.{Represents, letters_in}
use Rattle.digit_tuple.proofs.PaddingLemmas.{IsWord-in_order}
use Rattle.numeration.proofs.RepresentLemmas.{representations}
use Rattle.regex_build.specs.Expression.{Expression}
use Rattle.automaton_steps.specs.Makings.{DoesStep}
use Rattle.automaton_steps.specs.Numbered.{numbered}
use Rattle.automaton_steps.specs.PadSteps.{IsClosure, pad_step}
use Rattle.automaton_steps.specs.ValiditySteps.{IsValidPart, valid_step}
use Rattle.automaton_steps.proofs.AnswerCases.{both_done}
use Rattle.reg_steps.specs.RegexSteps.{IsRegexAutomaton, regex_step}
use Rattle.reg_steps.specs.RelationSteps.{DoesRelation}
use Rattle.reg_steps.specs.Relations.{HasMatch, IsRelation, AreSystemLanguages}
use Rattle.reg_steps.specs.Laws.{StepsMakeTheRelation, OneRelation}
use Rattle.reg_steps.proofs.OneRegex.{same_truth}
use Rattle.automaton_steps.proofs.DirectionLemmas.{same_without_zeros, same_strip}
use Rattle.reg_steps.proofs.RepresentedWords.{valid_represents, represented_valid}

-- what the steps made
record AreMade (direction : Direction) (languages : List Automaton) (sets : List (List ℤ)) (e : Expression (List ℤ)) (made : NamedAutomaton) : Type 0 where
  pub matches : Automaton
  pub closed : Automaton
  pub regex : IsRegexAutomaton sets e matches
  pub closure : IsClosure direction matches closed
  pub valid_part : IsValidPart languages (numbered closed) made

steps_made : (direction : Direction) (languages : List Automaton) (sets : List (List ℤ)) (e : Expression (List ℤ)) (old new : StepLog) (made : NamedAutomaton) → DoesRelation direction languages sets e old (Ok made) new
    → AreMade direction languages sets e made
steps_made direction languages sets e old new made done =
    let first = both_done (DoesStep (regex_step sets e)) (λ matches. Then (DoesStep (pad_step direction matches)) (λ closed. DoesStep (valid_step languages (numbered closed)))) old new made done in
    let rest = both_done (DoesStep (pad_step direction first.0)) (λ closed. DoesStep (valid_step languages (numbered closed))) first.1 new made first.3 in
    record { matches = first.0; closed = rest.0; regex = first.2.step.made_is; closure = rest.2.step.made_is; valid_part = rest.3.step.made_is }

module _ (direction : Direction) (ss : List System) (languages : List Automaton) (sets : List (List ℤ)) (e : Expression (List ℤ)) (made : NamedAutomaton)
    (systems : AreSystems ss) (are : AreSystemLanguages direction ss languages) (sizes : sizes_of sets ≡ representation.sizes_of ss) (steps : AreMade direction languages sets e made) where
  abbrev d : Automaton
  d = made.automaton

  abbrev matches : Automaton
  matches = steps.matches

  abbrev closed : Automaton
  closed = steps.closed

  matches_sizes : matches.sizes ≡ representation.sizes_of ss
  matches_sizes = steps.regex.sizes ∙ sizes

  closed_sizes : closed.sizes ≡ representation.sizes_of ss
  closed_sizes = steps.closure.sizes ∙ matches_sizes

  over_matches : (w : List ℕ) → IsWord (letters_in ss) w → IsWord (letters_of matches) w
  over_matches w over = subst (λ (s : List ℕ). IsWord (product s) w) (sym matches_sizes) over

  over_closed : (w : List ℕ) → IsWord (letters_in ss) w → IsWord (letters_of closed) w
  over_closed w over = subst (λ (s : List ℕ). IsWord (product s) w) (sym closed_sizes) over

  over_sets : (w : List ℕ) → IsWord (letters_in ss) w → IsWord (product (sizes_of sets)) w
  over_sets w over = subst (λ (s : List ℕ). IsWord (product s) w) (sym sizes) over

  over_systems : (w : List ℕ) → IsWord (product (sizes_of sets)) w → IsWord (letters_in ss) w
  over_systems w over = subst (λ (s : List ℕ). IsWord (product s) w) sizes over

  of_matches : (w : List ℕ) → IsWord (letters_of matches) w → IsWord (letters_in ss) w
  of_matches w over = subst (λ (s : List ℕ). IsWord (product s) w) matches_sizes over

  -- of a word whose paddings are accepted some representation matches
  has_match : (word ns : List ℕ) → IsWord (letters_in ss) word → Represents ss (in_order direction word) ns → IsPadded direction matches word → HasMatch direction ss sets e ns
  has_match word ns over represented (v, inside, same, accepted) =
      let there : IsWord (letters_in ss) v = of_matches v inside in
      let coded : (tuples : List (List ℤ)) × Codes sets tuples v = tuples_from_word sets v (over_sets v there) in
      record {
        word = v;
        tuples = coded.0;
        codes = coded.1;
        represents = (representations ss (in_order direction word) (in_order direction v) ns systems (IsWord-in_order direction (letters_in ss) word over) (IsWord-in_order direction (letters_in ss) v there) represented).1
            (same_without_zeros direction word v same);
        matches = (steps.regex.language coded.0 v coded.1).0 accepted;
      }

  -- and of a word that represents what some representation matches a padding is accepted
  is_padded : (word ns : List ℕ) → IsWord (letters_in ss) word → Represents ss (in_order direction word) ns → HasMatch direction ss sets e ns → IsPadded direction matches word
  is_padded word ns over represented match =
      let there : IsWord (letters_in ss) match.word = over_systems match.word (IsWord-codes sets match.tuples match.word match.codes) in (
        match.word,
        over_matches match.word there,
        same_strip direction word match.word
            ((representations ss (in_order direction word) (in_order direction match.word) ns systems (IsWord-in_order direction (letters_in ss) word over) (IsWord-in_order direction (letters_in ss) match.word there) represented).0 match.represents),
        (steps.regex.language match.tuples match.word match.codes).1 match.matches,
      )

  accepts_is : (word : List ℕ) → IsWord (letters_in ss) word → accepts_of d word ≡ (accepts_of closed word && is_valid (representation.sizes_of ss) languages word)
  accepts_is word over = steps.valid_part.language word (over_closed word over) ∙ ap (λ (s : List ℕ). accepts_of closed word && is_valid s languages word) closed_sizes

  represented_from : (word : List ℕ) → IsWord (letters_in ss) word → IsTrue (accepts_of d word) → (ns : List ℕ) × Represents ss (in_order direction word) ns × HasMatch direction ss sets e ns
  represented_from word over accepted =
      let both = and_parts (accepts_of closed word) (is_valid (representation.sizes_of ss) languages word) (sym (accepts_is word over) ∙ accepted) in
      let represented = valid_represents direction ss languages are word both.1 in
      (represented.0, represented.1, has_match word represented.0 over represented.1 ((steps.closure.language word (over_matches word over)).0 both.0))

  accepted_from : (word : List ℕ) → IsWord (letters_in ss) word → (ns : List ℕ) × Represents ss (in_order direction word) ns × HasMatch direction ss sets e ns → IsTrue (accepts_of d word)
  accepted_from word over (ns, represented, match) =
      accepts_is word over
      ∙ and_from (accepts_of closed word) (is_valid (representation.sizes_of ss) languages word)
      ((steps.closure.language word (over_matches word over)).1 (is_padded word ns over represented match)) (represented_valid direction ss languages are word ns represented)

  makes_relation : IsRelation direction ss sets e d
  makes_relation = record {
    sizes = steps.valid_part.sizes ∙ closed_sizes;
    canonical = steps.valid_part.canonical;
    language = λ word over. (represented_from word over, accepted_from word over);
  }

pub relation_made : StepsMakeTheRelation
relation_made direction ss languages sets e old new made systems are sizes done = makes_relation direction ss languages sets e made systems are sizes (steps_made direction languages sets e old new made done)

pub relation_is_one : OneRelation
relation_is_one direction ss sets e c d one other = canonical_forms c d one.canonical other.canonical (one.sizes ∙ sym other.sizes) same
  where
    same : (word : List ℕ) → IsWord (letters_of c) word → accepts_of c word ≡ accepts_of d word
    same word over =
        let inside : IsWord (letters_in ss) word = subst (λ (s : List ℕ). IsWord (product s) word) one.sizes over in
        same_truth (accepts_of c word) (accepts_of d word) ((ns : List ℕ) × Represents ss (in_order direction word) ns × HasMatch direction ss sets e ns) (one.language word inside) (other.language word inside)
