-- The digits of systems.
use Rattle.std.proofs.Common.{◌≡◌, ℕ, ◌<◌, List, [], length, get_or, pos, sym, ap, ◌∙◌, subst, arith}
use Rattle.std.proofs.lemmas.List.{get_or-map, length-map}
use Rattle.std.proofs.lemmas.List.FromFn.{length-map-range_with_len, get_or-map-range_with_len}
use Rattle.digit_tuple.specs.Headers.{sets_of}
use Rattle.digit_tuple.specs.Systems.{digit_set, digit_sets}
use Rattle.digit_tuple.specs.declared.header.Header.{Header}
use Rattle.digit_tuple.specs.declared.header.Header.TheVariants.{Systems}
use Rattle.digit_tuple.specs.declared.systems.SystemTrack.{SystemTrack}

no_system : SystemTrack
no_system = record { name = []; digits = 0 }

-- the digit of a system at a place is the place
digit_at : (systems : List SystemTrack) (track place : ℕ) → track < length (digit_sets systems) → place < length (get_or (digit_sets systems) track []) → get_or (get_or (digit_sets systems) track []) place (pos 0) ≡ pos place
digit_at systems track place within low =
    let n = (get_or systems track no_system).digits in
    let set : get_or (digit_sets systems) track [] ≡ digit_set n = get_or-map (λ system. digit_set system.digits) systems track no_system [] (omega (arith, within, length-map systems (λ system. digit_set system.digits))) in
    let below : place < n = omega (arith, low, ap length set, length-map-range_with_len pos 0 n) in
    ap (λ digits. get_or digits place (pos 0)) set ∙ get_or-map-range_with_len pos 0 n place place (pos 0) below (omega arith)

-- the same in a header of systems
pub digit_in : (header : Header) (systems : List SystemTrack) (track place : ℕ) → header ≡ Systems systems → track < length (sets_of header) → place < length (get_or (sets_of header) track []) → get_or (get_or (sets_of header) track []) place (pos 0) ≡ pos place
digit_in header systems track place is =
    subst (λ (h : Header). track < length (sets_of h) → place < length (get_or (sets_of h) track []) → get_or (get_or (sets_of h) track []) place (pos 0) ≡ pos place) (sym is) (digit_at systems track place)
