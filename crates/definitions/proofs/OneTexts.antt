-- An entry has one text, and a formula one verdict.
use Rattle.std.proofs.Common.{◌≡◌, ℕ, Bool, List, [], ◌∷◌, ℤ, Option, None, Some, refl, sym, ap, ◌∙◌, subst}
use Rattle.digit_tuple.specs.Deterministic.{Automaton}
use Rattle.digit_tuple.specs.declared.direction.Direction.{Direction}
use Rattle.dfa_text.specs.RelationText.{relation_text}
use Rattle.numeration.specs.Relations.{HoldsOf}
use Rattle.num_system.proofs.OneSystem.{one_holding}
use Rattle.formula_parse.specs.Trees as trees
use Rattle.regex_build.specs.Expression.{Expression}
use Rattle.reg_steps.proofs.OneRegex.{same_truth}
use Rattle.reg_steps.proofs.RelationLemmas.{relation_is_one}
use Rattle.definitions.specs.Tracks.{Tracks, OverSets, OverSystems, systems_of, letter_sets, header_of}
use Rattle.definitions.specs.Trees.{Variable, Tree, File, Regex, Formula, Fixed, Language, Bindings, Bytes, Defined}
use Rattle.system_files.specs.SystemFiles.{Custom}
use Rattle.definitions.specs.FormulaTexts.{IsSolvedBy, named_systems, IsSolutionText, HasTruth, truth_text, IsFormulaText, HasVerdict}
use Rattle.definitions.specs.TreeMeanings.{tree_words}
use Rattle.definitions.specs.Texts.{IsTrackText, HasTreeText}
use Rattle.definitions.specs.Laws.{OneText}
use Rattle.definitions.proofs.RegexTexts.{one_regex_text}
use Rattle.definitions.proofs.LanguageTexts.{one_language_text}
use Rattle.definitions.proofs.OneWordTexts.{one_word_text, one_fixed_text}

-- an expression over tracks has one text
pub one_track_text : (custom : Custom) (tracks : Tracks) (e : Expression (List ℤ)) (text other : List ℕ) → IsTrackText custom tracks e text → IsTrackText custom tracks e other → text ≡ other
one_track_text custom (OverSets sets) e text other a b = one_regex_text sets e text other a b
one_track_text custom (OverSystems direction named) e text other a b =
    a.text_is
    ∙ ap (λ (d : Automaton). relation_text (header_of (OverSystems direction named)) d) (relation_is_one direction (systems_of named) (letter_sets (OverSystems direction named)) e a.automaton b.automaton a.of_relation b.of_relation)
    ∙ sym b.text_is

module _ (custom : Custom) (bindings : Bindings) where
  -- a sentence has one truth
  one_truth : (formula : trees.Formula) (truth other : Bool) → HasTruth custom bindings formula truth → HasTruth custom bindings formula other → truth ≡ other
  one_truth formula truth other a b = same_truth truth other (IsSolvedBy custom bindings [] formula []) a b

  -- the first variable determines the direction, and the formula the automaton
  one_solution_text : (v : Variable) (variables : List Variable) (formula : trees.Formula) (text other : List ℕ)
      → IsSolutionText custom bindings (v ∷ variables) formula text → IsSolutionText custom bindings (v ∷ variables) formula other → text ≡ other
  one_solution_text v variables formula text other a b =
      let named = named_systems (v ∷ variables) in
      let holds : List ℕ → Type 0 = IsSolvedBy custom bindings (v ∷ variables) formula in
      let directions : a.direction ≡ b.direction = sym a.read.0 ∙ b.read.0 in
      let moved : HoldsOf b.direction (systems_of named) holds a.automaton = subst (λ (direction : Direction). HoldsOf direction (systems_of named) holds a.automaton) directions a.holds in
      let automata : a.automaton ≡ b.automaton = one_holding b.direction (systems_of named) holds a.automaton b.automaton a.canonical b.canonical moved b.holds in
      a.text_is ∙ ((λ i. relation_text (header_of (OverSystems (directions i) named)) (automata i)) ∙ sym b.text_is)

  -- a formula has one text
  pub one_formula_text : (variables : List Variable) (formula : trees.Formula) (text other : List ℕ) → IsFormulaText custom bindings variables formula text → IsFormulaText custom bindings variables formula other → text ≡ other
  one_formula_text [] formula text other (truth, has, is) (truth', has', is') = is ∙ (ap truth_text (one_truth formula truth truth' has has') ∙ sym is')
  one_formula_text (v ∷ variables) formula text other a b = one_solution_text v variables formula text other a b

  -- and one verdict
  pub one_verdict : (variables : List Variable) (formula : trees.Formula) (verdict other : Option Bool) → HasVerdict custom bindings variables formula verdict → HasVerdict custom bindings variables formula other → verdict ≡ other
  one_verdict [] formula None other a b = absurd a
  one_verdict [] formula (Some truth) None a b = absurd b
  one_verdict [] formula (Some truth) (Some truth') a b = ap (λ (v : Bool). Some v) (one_truth formula truth truth' a b)
  one_verdict (v ∷ variables) formula None None a b = refl
  one_verdict (v ∷ variables) formula None (Some truth) a b = absurd b
  one_verdict (v ∷ variables) formula (Some truth) other a b = absurd a

-- a definition has one text
pub one_tree_text : (custom : Custom) (tree : Tree) (text other : List ℕ) → HasTreeText custom tree text → HasTreeText custom tree other → text ≡ other
one_tree_text custom (File bytes) text other a b = a ∙ sym b
one_tree_text custom (Regex tracks e) text other a b = one_track_text custom tracks e text other a b
one_tree_text custom (Formula variables formula bindings) text other a b = one_formula_text custom bindings variables formula text other a b
one_tree_text custom (Fixed rules) text other a b = one_fixed_text custom rules text other a b
one_tree_text custom (Language sets op trees) text other a b = one_language_text sets (λ word. tree_words custom (Language sets op trees) word) text other a b
one_tree_text custom _ text other a b = one_word_text custom _ _ _ text other a b

-- an entry has one text
pub one_text_of : OneText
one_text_of custom (Bytes bytes) text other a b = a ∙ sym b
one_text_of custom (Defined tree) text other a b = one_tree_text custom tree text other a b
