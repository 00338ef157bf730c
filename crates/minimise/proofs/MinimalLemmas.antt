-- Automata whose states have residuals of their own.
use Rattle.std.proofs.Common.{◌≡◌, ℕ, ◌<◌, List, Some, sym, ◌∙◌, subst, arith}
use Rattle.std.specs.Option.{IfSome}
use Rattle.digit_tuple.specs.Deterministic.{Automaton, IsTable, letters_of, states_of, transitions_of}
use Rattle.digit_tuple.specs.FirstWords.{IsNumberedByFirsts}
use Rattle.digit_tuple.proofs.DfaLemmas.{row_at, target_by-in_range}
use Rattle.residual_classes.specs.CoarseClasses.{AreResidualClasses}
use Rattle.residual_classes.specs.Leaders.{AreAlone}
use Rattle.residual_classes.specs.Outputs.{bits_of}
use Rattle.residual_classes.proofs.SinkLemmas.{sink_refuses}
use Rattle.minimise.specs.Canonical.{IsCanonical}
use Rattle.minimise.proofs.BitLemmas.{residual-classes}

-- numbered by first words, they are canonical
pub IsCanonical-alone : (d : Automaton) (classes : List ℕ) (firsts : List (List ℕ)) → IsTable (letters_of d) d.states → IsNumberedByFirsts d firsts → AreResidualClasses d (bits_of d) classes → AreAlone classes → IsCanonical d
IsCanonical-alone d classes firsts table numbered are alone = record {
  table = table;
  firsts = firsts;
  numbered = numbered;
  distinct = λ p q before within same.
      let is : p ≡ q = alone p q (omega (arith, are.width)) (omega (arith, are.width)) ((are.residuals p q (omega arith) (omega arith)).1 (residual-classes d d p q same)) in
      omega (arith, is, before);
  live = λ p a q within letter leads dead.
      let inside : IfSome (Some q) (λ t. t < states_of d) = subst (λ o. IfSome o (λ t. t < states_of d)) leads (target_by-in_range (letters_of d) (states_of d) (transitions_of d p) a (row_at d p table within).in_range) in
      let is : q ≡ states_of d = alone q (states_of d) (omega (arith, inside, are.width)) (omega (arith, are.width)) ((are.residuals q (states_of d) (omega (arith, inside)) (omega arith)).1 (residual-classes d d q (states_of d) (λ w over. dead w over ∙ sym (sink_refuses d w)))) in
      omega (arith, is, inside);
}
