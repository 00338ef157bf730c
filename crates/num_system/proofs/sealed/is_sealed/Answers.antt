use Rattle.std.proofs.Common.{subst}
use Rattle.digit_tuple.specs.Deterministic.{Automaton}
use Rattle.minimise.specs.Canonical.{IsCanonical}
use Rattle.numeration.specs.Relations.{IsLanguageOf, IsAdderOf, IsEqualityOf, IsOrderOf, IsZeroOf}
use Rattle.num_system.specs.Sealed.{system_of}
use Rattle.num_system.specs.Successor.{IsSuccessorOf}
use Rattle.num_system.proofs.sealed.is_sealed.Goals as goal

pub returns : goal.returns
returns c =
    let v = c.args.system.now in
    let s = system_of v in
    record {
      laws = c.language.ensures.laws;
      language = subst (λ (d : Automaton). IsLanguageOf v.direction s d) c.language.ensures.value c.language.ensures.language;
      language_canonical = subst IsCanonical c.language.ensures.value c.language.ensures.canonical;
      adder = subst (λ (d : Automaton). IsAdderOf v.direction s d) c.adder.ensures.value c.adder.ensures.adder;
      adder_canonical = subst IsCanonical c.adder.ensures.value c.adder.ensures.canonical;
      relations = record {
        equality = subst (λ (d : Automaton). IsEqualityOf v.direction s d) c.equal.ensures.value c.equal.ensures.equality;
        equality_canonical = subst IsCanonical c.equal.ensures.value c.equal.ensures.canonical;
        order = subst (λ (d : Automaton). IsOrderOf v.direction s d) c.less.ensures.value c.less.ensures.order;
        order_canonical = subst IsCanonical c.less.ensures.value c.less.ensures.canonical;
        next = subst (λ (d : Automaton). IsSuccessorOf v.direction s d) c.successor.ensures.value c.successor.ensures.successor;
        next_canonical = subst IsCanonical c.successor.ensures.value c.successor.ensures.canonical;
        zeros = subst (λ (d : Automaton). IsZeroOf v.direction s d) c.zero.ensures.value c.zero.ensures.zero;
        zeros_canonical = subst IsCanonical c.zero.ensures.value c.zero.ensures.canonical;
      };
    }
