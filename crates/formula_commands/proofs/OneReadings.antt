-- A quoted text is read as one formula, or refused in one way.
use Rattle.std.proofs.Common.{◌≡◌, ◌≢◌, ℕ, List, None, Some, Result, Ok, Err, refl, sym, ap, ◌∙◌, arith}
use Rattle.formula_parse.specs.Trees as trees
use Rattle.formula_parse.specs.Flaws.{Flaw, mixed_chain, not_linear}
use Rattle.formula_parse.specs.FormulaTrees.{tree_of}
use Rattle.formula_parse.specs.Grammar.{Reads, IsFlawed}
use Rattle.text_grammar.specs.Spots.{tokens}
use Rattle.formula_parse.specs.Spots.{spots}
use Rattle.formula_parse.specs.Parsing.{Cut, Parses}
use Rattle.formula_parse.specs.OneAnswer.{IsOfTheText}
use Rattle.formula_parse.specs.declared.tree.Formula.{Formula as Tree}
use Rattle.formula_parse.specs.declared.fault.ParseFault.{ParseFault}
use Rattle.formula_parse.specs.declared.fault.ParseFault.TheVariants as parses
use Rattle.formula_parse.proofs.Derivations as derivations
use Rattle.formula_parse.proofs.DerivedFlaws.{formula_flaw}
use Rattle.formula_parse.proofs.BothGrammars.{breaks_derived, reaches_derived, WholeDerived, whole_derived}
use Rattle.formula_parse.proofs.Cuts.{one_derivation, Stops, breaks_stop, reaches_stop, whole_stops}
use Rattle.formula_parse.proofs.OneAnswer.{one_answer_of, one_tree_of}
use Rattle.command_parts.specs.declared.refusal.Refusal.{Refusal}
use Rattle.command_parts.specs.Checks.{Pure, IsSingle}
use Rattle.command_parts.specs.FormulaFaults.{fault_of_formula}
use Rattle.formula_commands.specs.FormulaOutcomes.{FormulaAnswers}
use Rattle.command_parts.proofs.CheckSteps.{single_so}
use Rattle.command_parts.proofs.RefusingSteps.{refusing_single}
use Rattle.command_parts.specs.RefusingChecks.{Refusing}

-- a formula that is read, or a fault
abbrev ReadResult : Type 0
ReadResult = Result trees.Formula ParseFault

abbrev IsReadAs : List ℕ → ReadResult → Type 0
IsReadAs text (Ok formula) = Reads (tokens (spots text)) formula
IsReadAs text (Err fault) = (fault ≢ parses.Memory) × (let r : Result Tree ParseFault = Err fault in Parses text r)

-- what is derived of a text that is read, and of one with a flaw
derived : (text : List ℕ) (formula : trees.Formula) → Reads (tokens (spots text)) formula → WholeDerived (tokens (spots text)) formula None
derived text formula reads = whole_derived (tokens (spots text)) formula None (record { text = reads.text; derives = reads.derives; tree_is = reads.tree_is; flaw_is = reads.flawless })

flawed : (text : List ℕ) (flaw : Flaw) (is : IsFlawed (tokens (spots text)) flaw) → WholeDerived (tokens (spots text)) (tree_of is.text) (Some flaw)
flawed text flaw is = whole_derived (tokens (spots text)) (tree_of is.text) (Some flaw) (record { text = is.text; derives = is.derives; tree_is = refl; flaw_is = is.flaw_is })

module _ (text : List ℕ) (formula : trees.Formula) (reads : Reads (tokens (spots text)) formula) where
  -- what is read has no flaw
  not_flawed : (flaw : Flaw) → IsFlawed (tokens (spots text)) flaw → ⊥
  not_flawed flaw is =
      let whole : WholeDerived (tokens (spots text)) formula None = derived text formula reads in
      let other : WholeDerived (tokens (spots text)) (tree_of is.text) (Some flaw) = flawed text flaw is in
      let same : whole.text ≡ other.text = one_derivation whole.text other.text (whole.derives.derived_is ∙ sym other.derives.derived_is) in
      let none : None ≡ Some flaw = sym whole.flaw_is ∙ (ap (λ (f : derivations.Formula). formula_flaw None f) same ∙ other.flaw_is) in cc

  -- and does not stop at a token
  not_stopped : (cut : Cut text) → Stops (tokens cut.prefix) cut.spot.token → ⊥
  not_stopped cut stops =
      let whole : WholeDerived (tokens (spots text)) formula None = derived text formula reads in
      whole_stops text whole.text cut whole.derives stops

  not_refused : (fault : ParseFault) → IsReadAs text (Err fault) → ⊥
  not_refused (parses.Syntax at) (not_memory, is) = not_stopped is.cut (breaks_stop (tokens is.cut.prefix) is.cut.spot.token (breaks_derived (tokens is.cut.prefix) is.cut.spot.token is.breaks))
  not_refused (parses.Number at) (not_memory, is) =
      not_stopped is.cut (reaches_stop (tokens is.cut.prefix) is.cut.spot.token is.passes.reached (reaches_derived (tokens is.cut.prefix) is.cut.spot.token is.passes.reached is.passes.reaches) (λ allowed. is.passes.out allowed.1))
  not_refused (parses.Depth at) (not_memory, is) =
      not_stopped is.cut (reaches_stop (tokens is.cut.prefix) is.cut.spot.token is.passes.reached (reaches_derived (tokens is.cut.prefix) is.cut.spot.token is.passes.reached is.passes.reaches) (λ allowed. let low = allowed.0 in let deep = is.passes.deep in omega arith))
  not_refused (parses.MixedChain at) (not_memory, is) = not_flawed (mixed_chain at) is
  not_refused (parses.NotLinear at) (not_memory, is) = not_flawed (not_linear at) is
  not_refused parses.Memory (not_memory, is) = not_memory refl

-- a fault that is not out of memory is of the text
of_text : (fault : ParseFault) → fault ≢ parses.Memory → (let r : Result Tree ParseFault = Err fault in IsOfTheText r)
of_text (parses.Syntax at) not_memory = tt
of_text (parses.Number at) not_memory = tt
of_text (parses.Depth at) not_memory = tt
of_text (parses.MixedChain at) not_memory = tt
of_text (parses.NotLinear at) not_memory = tt
of_text parses.Memory not_memory = not_memory refl

one_result_of : (text : List ℕ) (r s : ReadResult) → IsReadAs text r → IsReadAs text s → r ≡ s
one_result_of text (Ok formula) (Ok other) a b = ap (λ (f : trees.Formula). let t : ReadResult = Ok f in t) (one_tree_of (tokens (spots text)) formula other a b)
one_result_of text (Ok formula) (Err fault) a b = absurd (not_refused text formula a fault b)
one_result_of text (Err fault) (Ok formula) a b = absurd (not_refused text formula b fault a)
one_result_of text (Err fault) (Err other) (not_memory, a) (not_memory', b) = one_answer_of text (Err fault) (Err other) (of_text fault not_memory) (of_text other not_memory') a b

reading_is : (text : List ℕ) (r : Result trees.Formula Refusal) → FormulaAnswers text r → (Refusing fault_of_formula (IsReadAs text)).answers r
reading_is text (Ok formula) a = a
reading_is text (Err refusal) (parses.Syntax at, is, a) = (parses.Syntax at, is, ((λ same. cc), a))
reading_is text (Err refusal) (parses.Number at, is, a) = (parses.Number at, is, ((λ same. cc), a))
reading_is text (Err refusal) (parses.Depth at, is, a) = (parses.Depth at, is, ((λ same. cc), a))
reading_is text (Err refusal) (parses.MixedChain at, is, a) = (parses.MixedChain at, is, ((λ same. cc), a))
reading_is text (Err refusal) (parses.NotLinear at, is, a) = (parses.NotLinear at, is, ((λ same. cc), a))
reading_is text (Err refusal) (parses.Memory, is, a) = absurd a

pub reading_single : (text : List ℕ) → IsSingle (Pure (FormulaAnswers text))
reading_single text = single_so (Pure (FormulaAnswers text)) (Refusing fault_of_formula (IsReadAs text)) (reading_is text) (refusing_single fault_of_formula (IsReadAs text) (one_result_of text))
