-- The laws of relations that are made without a step.
use Rattle.std.proofs.Common.{◌≡◌, ℕ, ◌+◌, List, [], ◌∷◌, map, get_or, sym, subst, ◌↔◌}
use Rattle.std.specs.Bool.{⊤}
use Rattle.std.proofs.lemmas.Simd.{map-map}
use Rattle.digit_tuple.specs.Names.{place_of}
use Rattle.number_relations.specs.Relations.{RelationHolds, HoldsOver}
use Rattle.num_system.specs.Tracks.{systems_under}
use Rattle.number_relations.specs.Placed.{each_once}
use Rattle.number_relations.specs.Comparisons.{Compares, compared_names}
use Rattle.number_relations.specs.Laws.{ComparisonsHold, NumbersHold, OneAnyNumber, OneComparison, OnePlaced, OneSum, PlacedHolds, SumsHold}
use Rattle.number_relations.proofs.RelationLemmas.{one_relation, tuples_hold}

pub placed : PlacedHolds
placed d systems under r ns is count =
    subst (λ (ms : List ℕ). RelationHolds r ns ↔ HoldsOver systems d ms) (sym (map-map (λ (p : ℕ). get_or ns p 0) (place_of r.names) under))
    (tuples_hold (each_once under) (systems_under under systems (each_once under)) (λ number_of. HoldsOver systems d (map number_of under)) r ns is count)

pub one_placed : OnePlaced
one_placed d systems under r s is also = one_relation (each_once under) (systems_under under systems (each_once under)) (λ number_of. HoldsOver systems d (map number_of under)) r s is also

pub comparisons : ComparisonsHold
comparisons system k first second r ns is count =
    let names : List (List ℕ) = each_once (compared_names k first second) in
    tuples_hold names (map (λ name. system) names) (λ number_of. Compares k (number_of first) (number_of second)) r ns is count

pub one_comparison : OneComparison
one_comparison system k first second r s is also =
    let names : List (List ℕ) = each_once (compared_names k first second) in
    one_relation names (map (λ name. system) names) (λ number_of. Compares k (number_of first) (number_of second)) r s is also

pub sums : SumsHold
sums system x y z r ns is count =
    let names : List (List ℕ) = each_once (x ∷ y ∷ z ∷ []) in
    tuples_hold names (map (λ name. system) names) (λ number_of. number_of x + number_of y ≡ number_of z) r ns is count

pub one_sum : OneSum
one_sum system x y z r s is also =
    let names : List (List ℕ) = each_once (x ∷ y ∷ z ∷ []) in
    one_relation names (map (λ name. system) names) (λ number_of. number_of x + number_of y ≡ number_of z) r s is also

pub numbers : NumbersHold
numbers system x r n is = (is.holds_of (λ name. n)).1 tt

pub one_number : OneAnyNumber
one_number system x r s is also = one_relation (x ∷ []) (system ∷ []) (λ number_of. ⊤) r s is also
