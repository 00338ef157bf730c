-- What a system's automata say of the sealed system.
use Rattle.std.proofs.Common.{◌≡◌, ℕ, List, ap, sym, ◌∙◌, subst}
use Rattle.digit_tuple.specs.Paddings.{in_order}
use Rattle.digit_tuple.specs.Deterministic.{Automaton, accepts_of}
use Rattle.digit_tuple.specs.declared.direction.Direction.{Direction}
use Rattle.minimise.specs.Canonical.{IsCanonical}
use Rattle.numeration.specs.Systems.{System, IsSystem}
use Rattle.numeration.specs.Relations.{IsLanguageOf, IsAdderOf}
use Rattle.num_system.specs.Sealed.{SystemValue, system_of, AreOrderRelationsOf, AreRelationsOf, IsSealed}
use Rattle.num_system.specs.Sealing.{IsMinimalLanguage}
use Rattle.num_system.specs.Successor.{IsSuccessorOf}
use Rattle.digit_tuple.proofs.PaddingLemmas.{in_order-twice}

-- the system whose language the automaton accepts is the one
pub same_system : (s : System) (v : SystemValue) → v.digits ≡ s.digits → IsLanguageOf v.direction s v.language → system_of v ≡ s
same_system s v digits language =
    let test : (w : List ℕ) → accepts_of v.language (in_order v.direction w) ≡ s.test w = λ w. language.accepts (in_order v.direction w) ∙ ap s.test (in_order-twice v.direction w) in
    λ i. record { digits = digits i; test = λ w. test w i }

-- the relations with that of the next number
pub with_next : (direction : Direction) (s : System) (equal less next zero : Automaton) → AreOrderRelationsOf direction s equal less zero → IsSuccessorOf direction s next → IsCanonical next → AreRelationsOf direction s equal less next zero
with_next direction s equal less next zero are follows canonical = record {
  equality = are.equality;
  equality_canonical = are.equality_canonical;
  order = are.order;
  order_canonical = are.order_canonical;
  next = follows;
  next_canonical = canonical;
  zeros = are.zeros;
  zeros_canonical = are.zeros_canonical;
}

-- the automata of a system in a direction are sealed
pub sealed_from : (s : System) (direction : Direction) (v : SystemValue) → v.direction ≡ direction → v.digits ≡ s.digits → IsSystem s
    → IsMinimalLanguage direction s v.language → IsAdderOf direction s v.adder → IsCanonical v.adder → AreRelationsOf direction s v.equal v.less v.successor v.zero → IsSealed v
sealed_from s direction v directions digits laws language adder canonical relations =
    let here : IsMinimalLanguage v.direction s v.language = subst (λ (m : Direction). IsMinimalLanguage m s v.language) (sym directions) language in
    let sum : IsAdderOf v.direction s v.adder = subst (λ (m : Direction). IsAdderOf m s v.adder) (sym directions) adder in
    let others : AreRelationsOf v.direction s v.equal v.less v.successor v.zero = subst (λ (m : Direction). AreRelationsOf m s v.equal v.less v.successor v.zero) (sym directions) relations in
    let same : s ≡ system_of v = sym (same_system s v digits here.accepts) in
    record {
      laws = subst IsSystem same laws;
      language = subst (λ (m : System). IsLanguageOf v.direction m v.language) same here.accepts;
      language_canonical = here.canonical;
      adder = subst (λ (m : System). IsAdderOf v.direction m v.adder) same sum;
      adder_canonical = canonical;
      relations = subst (λ (m : System). AreRelationsOf v.direction m v.equal v.less v.successor v.zero) same others;
    }
