-- A formula means the same where its names are bound to what holds of the same numbers.
use Rattle.formula_truth.proofs.MeaningLemmas.{MeanTheSame, meanings_matter}
use Rattle.definitions.specs.Trees.{Bindings}
use Rattle.system_files.specs.SystemFiles.{Custom}
use Rattle.definitions.specs.TreeMeanings.{assigned, meanings_in}
use Rattle.definitions.specs.Laws.{BindTheSame, BindingsMatterByMeaning}

-- names that are bound to the same mean the same
pub same_meanings : (custom : Custom) (bindings others : Bindings) → BindTheSame custom bindings others → MeanTheSame (meanings_in custom bindings) (meanings_in custom others)
same_meanings custom bindings others same = record {
  holds_there = λ name ns. (same.holds name ns).0;
  holds_back = λ name ns. (same.holds name ns).1;
  letter_there = λ name ns letter. (same.letters name ns letter).0;
  letter_back = λ name ns letter. (same.letters name ns letter).1;
}

pub bindings_matter : BindingsMatterByMeaning
bindings_matter custom variables formula bindings others same ns =
    let both = meanings_matter (meanings_in custom bindings) (meanings_in custom others) (same_meanings custom bindings others same) formula (assigned variables ns) in
    (λ h. (h.0, both.0 h.1), λ h. (h.0, both.1 h.1))
