-- What is met in parts, one part after another.
use Rattle.std.proofs.Common.{◌≡◌, refl, sym, ap, ◌∙◌, true, false, if◌then◌else◌, List, [], ◌∷◌, ◌++◌, map, Option, None, Some, fold}
use Rattle.std.proofs.lemmas.List.{map-append}
use Rattle.std.specs.Option.{option_or, option_map}
use Rattle.std.specs.Ordering.{nat_cmp, is_lt}
use Rattle.std.specs.Cmp.Lexicographic.{slice_cmp}
use Rattle.formula_parse.specs.Tokens.{Name}
use Rattle.formula_resolve.specs.Directions.{lesser, first_met, opposed, other_met}
use Rattle.formula_resolve.specs.Meetings.{met_in, other_in, IsMet, HasMet}
use Rattle.formula_resolve.specs.declared.occurrence.Occurrence.{Occurrence}
use Rattle.formula_resolve.specs.declared.meeting.Meeting.{Meeting}

pub option_or_none : {X : Type 0} (o : Option X) → option_or o None ≡ o
option_or_none None = refl
option_or_none (Some x) = refl

pub option_or_assoc : {X : Type 0} (o p q : Option X) → option_or (option_or o p) q ≡ option_or o (option_or p q)
option_or_assoc None p q = refl
option_or_assoc (Some x) p q = refl

first_met_more : (ps : List (List Occurrence)) (q : List Occurrence) → first_met (ps ++ q ∷ []) ≡ option_or (first_met ps) (met_in None q)
first_met_more [] q = option_or_none (met_in None q)
first_met_more (p ∷ ps) q = ap (option_or (met_in None p)) (first_met_more ps q) ∙ sym (option_or_assoc (met_in None p) (first_met ps) (met_in None q))

opposed_more : (s : Name) (ps : List (List Occurrence)) (q : List Occurrence) → first_met (map (opposed s) (ps ++ q ∷ [])) ≡ option_or (first_met (map (opposed s) ps)) (met_in (Some s) q)
opposed_more s ps q = ap first_met (map-append (opposed s) ps (q ∷ [])) ∙ first_met_more (map (opposed s) ps) (opposed s q)

-- there is one where there are occurrences
some_least : (o : Occurrence) (os : List Occurrence) → (p : Occurrence) × (fold lesser (Some o) os ≡ Some p)
some_least o [] = (o, refl)
some_least o (p ∷ os) =
    elim (is_lt (slice_cmp nat_cmp p.name o.name)) as (λ t. (q : Occurrence) × (fold lesser (if t then Some p else Some o) os ≡ Some q)) [ true ↦ some_least p os | false ↦ some_least o os ]

none_or_some : {X : Type 0} (x : X) (o p : Option X) → o ≡ Some x → None ≡ option_or o p → ⊥
none_or_some x None p is none = cc
none_or_some x (Some y) p is none = cc

-- where nothing is met, nothing of another direction is
none_opposed : (s : Name) (ps : List (List Occurrence)) → None ≡ first_met ps → first_met (map (opposed s) ps) ≡ None
none_opposed s [] none = refl
none_opposed s ([] ∷ ps) none = none_opposed s ps none
none_opposed s ((o ∷ os) ∷ ps) none =
    absurd (none_or_some (some_least o os).0.system (met_in None (o ∷ os)) (first_met ps) (ap (option_map (λ q. q.system)) (some_least o os).1) none)

other_more : (first here : Option Name) (ps : List (List Occurrence)) (q : List Occurrence) → first ≡ first_met ps → option_or (other_met first ps) (other_in (option_or first here) q) ≡ other_met (option_or first here) (ps ++ q ∷ [])
other_more (Some s) here ps q is = sym (opposed_more s ps q)
other_more None None ps q is = refl
other_more None (Some s) ps q is = ap (λ o. option_or o (met_in (Some s) q)) (sym (none_opposed s ps is)) ∙ sym (opposed_more s ps q)

-- one part more
pub met_more : (ps : List (List Occurrence)) (q : List Occurrence) (m n : Meeting) → HasMet ps m → IsMet m q n → HasMet (ps ++ q ∷ []) n
met_more ps q m n before here = record {
  first = first_is;
  other =
      here.other
      ∙ (λ i. option_or (before.other i) (other_in (known i) q))
      ∙ other_more (first_met ps) (met_in None q) ps q refl
      ∙ ap (λ o. other_met o (ps ++ q ∷ [])) (sym (first_met_more ps q));
}
  where
    known : n.first ≡ option_or (first_met ps) (met_in None q)
    known = here.first ∙ ap (λ o. option_or o (met_in None q)) before.first

    first_is : n.first ≡ first_met (ps ++ q ∷ [])
    first_is = known ∙ sym (first_met_more ps q)
