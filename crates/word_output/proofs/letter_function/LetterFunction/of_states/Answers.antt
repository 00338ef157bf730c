use Rattle.std.proofs.Common.{◌≡◌, ◌≤◌, ℕ, ℤ, List, length, ◌∙◌, sym, ap, subst, arith}
use Rattle.std.specs.List.{All}
use Rattle.residual_classes.specs.Classes.{class_of}
use Rattle.residual_classes.specs.ClassFunctions.{SameClassFunction}
use Rattle.word_output.specs.LetterFunctions.{letter_in}
use Rattle.word_output.specs.StateLetters.{AreLettersOf, letter_at}
use Rattle.word_output.proofs.LetterFunctionLemmas.{AreClasses, IsLetterFunction-made, few_states, letters-led}
use Rattle.word_output.proofs.letter_function.LetterFunction.of_states.Goals as goal

pub classes_of-requires-clause-letters : goal.classes_of-requires-clause-letters
classes_of-requires-clause-letters c = subst (AreLettersOf c.args.letters.now) (sym c.deref.ensures.value) c.in_ok-table_letters.ensures.letters

pub classes_of-requires-clause-few : goal.classes_of-requires-clause-few
classes_of-requires-clause-few c = omega (arith, ap (λ (xs : List ℤ). length xs) c.deref.ensures.value, c.in_ok-table_letters.ensures.few, c.requires.count, c.states-states.ensures.table.part.small)

pub canonical_classes-requires : goal.canonical_classes-requires
canonical_classes-requires c = ap (λ (cs : List ℕ). length cs) c.deref-2.ensures.value ∙ c.in_ok-classes.ensures.count ∙ c.requires.count

pub invariant_of-result : goal.invariant_of-result
invariant_of-result c =
    let found = c.in_ok-table_letters.table_letters.items in
    let classes = c.in_ok-classes.classes.items in
    let classed : AreClasses c.args.letters.now found classes = record {
      count = c.in_ok-classes.ensures.count;
      within = subst (λ xs. All (λ class. class ≤ length xs) classes) c.deref.ensures.value c.in_ok-classes.ensures.within;
      are = subst (λ (xs : List ℤ). (q : ℕ) → letter_in xs (class_of classes q) ≡ letter_at c.args.letters.now q) c.deref.ensures.value c.in_ok-classes.ensures.classes;
    } in
    IsLetterFunction-made c.args.table.now c.args.letters.now found classes classed c.in_ok-table_letters.ensures.letters c.requires.count c.states-states.ensures.table c.requires.reached.0 c.requires.reached.1
    c.in_ok-table.table c.in_ok-table.table_classes.items c.in_ok-table.ensures.sizes c.in_ok-table.ensures.canonical
    (subst (λ cs. SameClassFunction c.args.table.now cs c.in_ok-table.table c.in_ok-table.table_classes.items) c.deref-2.ensures.value c.in_ok-table.ensures.function)

pub returns-clause-function : goal.returns-clause-function
returns-clause-function c =
    let found = c.in_ok-table_letters.table_letters.items in
    let classes = c.in_ok-classes.classes.items in
    let classed : AreClasses c.args.letters.now found classes = record {
      count = c.in_ok-classes.ensures.count;
      within = subst (λ xs. All (λ class. class ≤ length xs) classes) c.deref.ensures.value c.in_ok-classes.ensures.within;
      are = subst (λ (xs : List ℤ). (q : ℕ) → letter_in xs (class_of classes q) ≡ letter_at c.args.letters.now q) c.deref.ensures.value c.in_ok-classes.ensures.classes;
    } in
    IsLetterFunction-made c.args.table.now c.args.letters.now found classes classed c.in_ok-table_letters.ensures.letters c.requires.count c.states-states.ensures.table c.requires.reached.0 c.requires.reached.1
    c.in_ok-table.table c.in_ok-table.table_classes.items c.in_ok-table.ensures.sizes c.in_ok-table.ensures.canonical
    (subst (λ cs. SameClassFunction c.args.table.now cs c.in_ok-table.table c.in_ok-table.table_classes.items) c.deref-2.ensures.value c.in_ok-table.ensures.function)

pub returns-clause-letters : goal.returns-clause-letters
returns-clause-letters c =
    let found = c.in_ok-table_letters.table_letters.items in
    let classes = c.in_ok-classes.classes.items in
    let classed : AreClasses c.args.letters.now found classes = record {
      count = c.in_ok-classes.ensures.count;
      within = subst (λ xs. All (λ class. class ≤ length xs) classes) c.deref.ensures.value c.in_ok-classes.ensures.within;
      are = subst (λ (xs : List ℤ). (q : ℕ) → letter_in xs (class_of classes q) ≡ letter_at c.args.letters.now q) c.deref.ensures.value c.in_ok-classes.ensures.classes;
    } in
    letters-led c.args.table.now c.args.letters.now found classes classed c.in_ok-table_letters.ensures.letters c.requires.count c.states-states.ensures.table c.requires.reached.0 c.requires.reached.1
    c.in_ok-table.table c.in_ok-table.table_classes.items c.in_ok-table.ensures.sizes c.in_ok-table.ensures.canonical
    (subst (λ cs. SameClassFunction c.args.table.now cs c.in_ok-table.table c.in_ok-table.table_classes.items) c.deref-2.ensures.value c.in_ok-table.ensures.function)

pub returns-clause-size : goal.returns-clause-size
returns-clause-size c =
    let found = c.in_ok-table_letters.table_letters.items in
    let classes = c.in_ok-classes.classes.items in
    let classed : AreClasses c.args.letters.now found classes = record {
      count = c.in_ok-classes.ensures.count;
      within = subst (λ xs. All (λ class. class ≤ length xs) classes) c.deref.ensures.value c.in_ok-classes.ensures.within;
      are = subst (λ (xs : List ℤ). (q : ℕ) → letter_in xs (class_of classes q) ≡ letter_at c.args.letters.now q) c.deref.ensures.value c.in_ok-classes.ensures.classes;
    } in
    few_states c.args.table.now c.args.letters.now found classes classed c.in_ok-table_letters.ensures.letters c.requires.count c.states-states.ensures.table c.requires.reached.0 c.requires.reached.1
    c.in_ok-table.table c.in_ok-table.table_classes.items c.in_ok-table.ensures.sizes c.in_ok-table.ensures.canonical
    (subst (λ cs. SameClassFunction c.args.table.now cs c.in_ok-table.table c.in_ok-table.table_classes.items) c.deref-2.ensures.value c.in_ok-table.ensures.function)
