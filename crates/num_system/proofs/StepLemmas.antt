-- What the three steps from the order to the successor ask for.
use Rattle.std.proofs.Common.{◌≡◌, ℕ, zero, suc, ◌*◌, ◌≤◌, List, [], ◌∷◌, inl, inr, Result, Ok, Err, ap, ◌∙◌, arith, IsTrue, ◌↔◌}
use Rattle.std.specs.Result.{IfOk}
use Rattle.digit_tuple.specs.Deterministic.{Automaton, accepts_of}
use Rattle.digit_tuple.specs.Letters.{product, IsAlphabet, IsTooLarge, IsWord}
use Rattle.digit_tuple.specs.Names.{joint_names, names_without}
use Rattle.digit_tuple.specs.Parts.{picked}
use Rattle.digit_tuple.specs.declared.direction.Direction.{Direction}
use Rattle.minimise.specs.Canonical.{IsCanonical}
use Rattle.minimise.specs.Tracked.{NamedAutomaton}
use Rattle.product_op.specs.declared.op.Op.{Op}
use Rattle.product_op.specs.Products.{in_product}
use Rattle.product_op.specs.Tracks.{joint_sizes}
use Rattle.pad_rename.specs.StayingTracks.{staying_places, staying_sizes}
use Rattle.project_close.specs.Projection.{InProjection}
use Rattle.num_system.specs.Operations.{IsProduct, IsProjection}
use Rattle.num_system.specs.SuccessorSteps.{name_u, name_x, name_y}
use Rattle.num_system.proofs.SuccessorLemmas.{under_names}

-- what a call gave is a product
pub product_made : {X E : Type 0} (op : Op) (a b : NamedAutomaton) (languages : List Automaton) (given : X → NamedAutomaton) (r : Result X E)
    → IfOk r (λ x. (given x).names ≡ joint_names a.names b.names) → IfOk r (λ x. (given x).automaton.sizes ≡ joint_sizes a b) → IfOk r (λ x. IsCanonical (given x).automaton)
    → IfOk r (λ x. (w : List ℕ) → IsWord (product (joint_sizes a b)) w → accepts_of (given x).automaton w ≡ in_product op a b languages w) → IfOk r (λ x. IsProduct op a b languages (given x))
product_made op a b languages given (Ok x) names sizes canonical language = record { names = names; sizes = sizes; canonical = canonical; language = language }
product_made op a b languages given (Err e) names sizes canonical language = tt

-- and a projection
pub projection_made : {X E : Type 0} (direction : Direction) (a : NamedAutomaton) (track : List ℕ) (given : X → NamedAutomaton) (r : Result X E)
    → IfOk r (λ x. (given x).names ≡ names_without a.names track) → IfOk r (λ x. (given x).automaton.sizes ≡ staying_sizes a track) → IfOk r (λ x. IsCanonical (given x).automaton)
    → IfOk r (λ x. (w : List ℕ) → IsWord (product (staying_sizes a track)) w → IsTrue (accepts_of (given x).automaton w) ↔ InProjection a.automaton (staying_places a track) direction w) → IfOk r (λ x. IsProjection direction a track (given x))
projection_made direction a track given (Ok x) names sizes canonical language = record { names = names; sizes = sizes; canonical = canonical; language = language }
projection_made direction a track given (Err e) names sizes canonical language = tt

-- fewer tracks of one size have no more letters
cube_fits : (d : ℕ) → d * (d * (d * 1)) ≤ 65536 → d * (d * 1) ≤ 65536
cube_fits zero small = omega arith
cube_fits (suc n) small = omega (arith, small)

pub two_fit : (d : ℕ) → IsAlphabet (d ∷ d ∷ d ∷ []) → IsAlphabet (d ∷ d ∷ [])
two_fit d fits = record { tracks = omega arith; letters = cube_fits d fits.letters }

pub not_too_large : (sizes : List ℕ) → IsAlphabet sizes → ¬ IsTooLarge sizes
not_too_large sizes fits large = elim large [ inl long ↦ omega (arith, long, fits.tracks) | inr many ↦ omega (arith, many, fits.letters) ]

-- the sizes of the second step's tracks
pub staying_sizes_are : (chain : NamedAutomaton) (d : ℕ) → chain.names ≡ name_u ∷ name_x ∷ name_y ∷ [] → chain.automaton.sizes ≡ d ∷ d ∷ d ∷ [] → staying_sizes chain name_u ≡ d ∷ d ∷ []
staying_sizes_are chain d names same =
    ap (λ (c : NamedAutomaton). staying_sizes c name_u) (under_names chain (name_u ∷ name_x ∷ name_y ∷ []) names)
    ∙ ap (λ (ns : List ℕ). picked (1 ∷ 2 ∷ []) ns) same
