-- A step has one result: canonical automata over the same tracks with one language are equal.
use Rattle.std.proofs.Common.{◌≡◌, ◌↔◌, ℕ, Bool, List, [], ◌∷◌, IsTrue, sym, ◌∙◌, subst}
use Rattle.digit_tuple.specs.Automaton.{Branching, Accepts}
use Rattle.digit_tuple.specs.Deterministic.{Automaton, accepts_of}
use Rattle.digit_tuple.specs.Letters.{IsWord, product}
use Rattle.digit_tuple.specs.declared.direction.Direction.{Direction}
use Rattle.minimise.specs.Canonical.{IsCanonical}
use Rattle.minimise.specs.Tracked.{NamedAutomaton}
use Rattle.digit_tuple.proofs.TruthLemmas.{same_tests}
use Rattle.minimise.proofs.CanonicalLemmas.{canonical_forms}
use Rattle.digit_tuple.specs.Paddings.{in_order}
use Rattle.numeration.specs.Relations.{IsLanguageOf, IsOrderOf, IsLess}
use Rattle.numeration.specs.Representation.{Represents, sizes_of}
use Rattle.numeration.specs.Systems.{System, IsSystem}
use Rattle.product_op.specs.declared.op.Op.{Op}
use Rattle.pad_rename.specs.Padding.{IsPadded}
use Rattle.pad_rename.specs.StayingTracks.{staying_places}
use Rattle.project_close.specs.Projection.{InProjection}
use Rattle.automaton_steps.specs.ReadSteps.{IsRead}
use Rattle.automaton_steps.specs.ReverseSteps.{IsReversed}
use Rattle.automaton_steps.specs.PadSteps.{IsClosure}
use Rattle.automaton_steps.specs.ValiditySteps.{IsOnTracksOf}
use Rattle.automaton_steps.specs.JoinSteps.{IsJoin}
use Rattle.automaton_steps.specs.ProjectSteps.{IsProjection}
use Rattle.automaton_steps.specs.OrderSteps.{IsOrder}

-- both are canonical over these sizes, and accept the same words
one_automaton : (sizes : List ℕ) (d e : Automaton) → IsCanonical d → IsCanonical e → d.sizes ≡ sizes → e.sizes ≡ sizes → ((w : List ℕ) → IsWord (product sizes) w → accepts_of d w ≡ accepts_of e w) → d ≡ e
one_automaton sizes d e one other first second same =
    canonical_forms d e one other (first ∙ sym second) (λ w over. same w (subst (λ (s : List ℕ). IsWord (product s) w) first over))

one_named : (a b : NamedAutomaton) → a.names ≡ b.names → a.automaton ≡ b.automaton → a ≡ b
one_named a b names automaton = λ i. record { names = names i; automaton = automaton i }

by_fact : (v w : Automaton) (P : Type 0) (word : List ℕ) → (IsTrue (accepts_of v word) ↔ P) → (IsTrue (accepts_of w word) ↔ P) → accepts_of v word ≡ accepts_of w word
by_fact v w P word one other = same_tests (accepts_of v word) (accepts_of w word) (λ is. other.1 (one.0 is), λ is. one.1 (other.0 is))

pub one_read : (n : Branching) (d e : Automaton) → IsRead n d → IsRead n e → d ≡ e
one_read n d e one other = one_automaton n.sizes d e one.canonical other.canonical one.sizes other.sizes (λ w over. by_fact d e (Accepts n w) w (one.language w over) (other.language w over))

pub one_reversed : (a d e : Automaton) → IsReversed a d → IsReversed a e → d ≡ e
one_reversed a d e one other = one_automaton a.sizes d e one.canonical other.canonical one.sizes other.sizes (λ w over. one.language w over ∙ sym (other.language w over))

pub one_closure : (direction : Direction) (a d e : Automaton) → IsClosure direction a d → IsClosure direction a e → d ≡ e
one_closure direction a d e one other =
    one_automaton a.sizes d e one.canonical other.canonical one.sizes other.sizes (λ w over. by_fact d e (IsPadded direction a w) w (one.language w over) (other.language w over))

pub one_on_tracks : (a : NamedAutomaton) (is_in : List ℕ → Bool) (b c : NamedAutomaton) → IsOnTracksOf a is_in b → IsOnTracksOf a is_in c → b ≡ c
one_on_tracks a is_in b c one other = one_named b c (one.names ∙ sym other.names)
    (one_automaton a.automaton.sizes b.automaton c.automaton one.canonical other.canonical one.sizes other.sizes (λ w over. one.language w over ∙ sym (other.language w over)))

pub one_join : (op : Op) (languages : List Automaton) (a b c e : NamedAutomaton) → IsJoin op languages a b c → IsJoin op languages a b e → c ≡ e
one_join op languages a b c e one other = one_named c e (one.names ∙ sym other.names)
    (canonical_forms c.automaton e.automaton one.canonical other.canonical (one.sizes ∙ sym other.sizes) (λ w over.
    let inside = subst (λ (s : List ℕ). IsWord (product s) w) one.sizes over in one.language w inside ∙ sym (other.language w inside)))

pub one_projection : (direction : Direction) (track : List ℕ) (a b c : NamedAutomaton) → IsProjection direction track a b → IsProjection direction track a c → b ≡ c
one_projection direction track a b c one other = one_named b c (one.names ∙ sym other.names)
    (canonical_forms b.automaton c.automaton one.canonical other.canonical (one.sizes ∙ sym other.sizes) (λ w over.
    let inside = subst (λ (s : List ℕ). IsWord (product s) w) one.sizes over in
    by_fact b.automaton c.automaton (InProjection a.automaton (staying_places a track) direction w) w (one.language w inside) (other.language w inside)))

pub one_order : (direction : Direction) (s : System) (language d e : Automaton) → IsSystem s → IsLanguageOf direction s language → IsOrder direction language d → IsOrder direction language e → d ≡ e
one_order direction s language d e system is one other =
    let first : IsOrderOf direction s d = one.order s system is in
    let second : IsOrderOf direction s e = other.order s system is in
    one_automaton (sizes_of (s ∷ s ∷ [])) d e one.canonical other.canonical first.sizes second.sizes
    (λ w over. by_fact d e ((ns : List ℕ) × Represents (s ∷ s ∷ []) (in_order direction w) ns × IsLess ns) w (first.accepts w over) (second.accepts w over))
