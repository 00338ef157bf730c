-- Whether a sentence is true.
use Rattle.std.proofs.Common.{◌≡◌, Bool, List, [], ◌∷◌, length, sym, ap, ◌∙◌, ◌↔◌, IsTrue, arith}
use Rattle.digit_tuple.specs.Deterministic.{Automaton, accepts_of}
use Rattle.num_system.specs.Sealed.{SystemValue}
use Rattle.number_relations.specs.Relations.{RelationValue, IsRelation, IsClosedOver, HoldsOver, RelationHolds}

-- over no tracks the empty word says whether the relation holds
no_tracks : (systems : List SystemValue) (d : Automaton) → length systems ≡ 0 → IsClosedOver systems d → IsTrue (accepts_of d []) ↔ HoldsOver systems d []
no_tracks [] d none closed = (λ accepted. ([], tt, tt, accepted), λ some. (closed.accepts [] tt).1 ([], tt, some))
no_tracks (s ∷ systems) d none closed = absurd (omega (arith, none))

pub sentence_decided : (r : RelationValue) (b : Bool) → IsRelation r → r.names ≡ [] → b ≡ accepts_of r.automaton [] → IsTrue b ↔ RelationHolds r []
sentence_decided r b is none says =
    let compared = no_tracks r.systems r.automaton (is.count ∙ ap length none) is.closed in
    (λ yes. compared.0 (sym says ∙ yes), λ holds. says ∙ compared.1 holds)
