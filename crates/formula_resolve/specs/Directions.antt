-- One direction for the free variables of the operands of a chain, and for the two words of an atom.
use Rattle.std.specs.Prelude.{ℕ, ◌+◌, nat_eq, codes, Bool, not, List, [], ◌∷◌, ◌++◌, map, Option, None, Some, if◌then◌else◌}
use Rattle.std.specs.Bool.{beq}
use Rattle.std.specs.List.{filter, fold, starts_with}
use Rattle.std.specs.Option.{option_or, option_map}
use Rattle.std.specs.Ordering.{nat_cmp, is_lt}
use Rattle.std.specs.Cmp.Lexicographic.{slice_cmp}
use Rattle.formula_parse.specs.Tokens.{Name}
use Rattle.formula_parse.specs.Trees.{Fact, compare, words, word_letter, letter_word, call, Formula, atom, negated, chain, quantified, marked, Operands, no_operands, operands}
use Rattle.formula_resolve.specs.Headers.{Headers, word_tracks}
use Rattle.formula_resolve.specs.Occurrences.{Binders, bound_by, unbound, occurrences, occurrences_among, free_of}
use Rattle.formula_resolve.specs.declared.occurrence.Occurrence.{Occurrence}
use Rattle.formula_resolve.specs.declared.direction.Conflict.{Conflict}

-- whether the system of this name reads the least significant digit first
abbrev pub is_lsd : Name → Bool
is_lsd n = starts_with nat_eq n (codes "lsd_")

abbrev pub is_other_direction : Name → Name → Bool
is_other_direction s t = not (beq (is_lsd s) (is_lsd t))

-- of an occurrence so far and one after it that whose variable is first in byte order
abbrev pub lesser : Option Occurrence → Occurrence → Option Occurrence
lesser None p = Some p
lesser (Some o) p = if is_lt (slice_cmp nat_cmp p.name o.name) then Some p else Some o

-- the occurrence whose variable is first in byte order, the first of that variable
abbrev pub least : List Occurrence → Option Occurrence
least os = fold lesser None os

-- operand by operand, in byte order of the variables: the system that is met first
abbrev pub first_met : List (List Occurrence) → Option Name
first_met [] = None
first_met (os ∷ rest) = option_or (option_map (λ o. o.system) (least os)) (first_met rest)

-- those over a system of the other direction
abbrev pub opposed : Name → List Occurrence → List Occurrence
opposed s os = filter (λ o. is_other_direction s o.system) os

-- after the first system, if one is met, the first of the other direction
abbrev pub other_met : Option Name → List (List Occurrence) → Option Name
other_met None parts = None
other_met (Some s) parts = first_met (map (opposed s) parts)

abbrev pub conflict_between : Option Name → Option Name → Option Conflict
conflict_between None t = None
conflict_between (Some s) None = None
conflict_between (Some s) (Some t) = Some (record { first = s; other = t })

-- the system that is met first, and the first one after it of the other direction
abbrev pub conflict_among_parts : List (List Occurrence) → Option Conflict
conflict_among_parts parts = conflict_between (first_met parts) (other_met (first_met parts) parts)

abbrev pub first_track : List Name → Option Name
first_track [] = None
first_track (s ∷ ss) = Some s

-- two systems of two directions
abbrev pub conflict_of_two : Option Name → Option Name → Option Conflict
conflict_of_two None t = None
conflict_of_two (Some s) None = None
conflict_of_two (Some s) (Some t) = if is_other_direction s t then Some (record { first = s; other = t }) else None

-- the first tracks of the two words of an atom
abbrev pub fact_conflict : Headers → Fact → Option Conflict
fact_conflict h (compare t r u) = None
fact_conflict h (words x r y) = conflict_of_two (first_track (word_tracks h x.word)) (first_track (word_tracks h y.word))
fact_conflict h (word_letter x r l) = None
fact_conflict h (letter_word l r x) = None
fact_conflict h (call n ts) = None

-- the free variables of an operand
abbrev pub part_of : Headers → Binders → ℕ → Formula → List Occurrence
part_of h b k f = free_of k (occurrences h b k f).list

abbrev pub parts_among : Headers → Binders → ℕ → Operands → List (List Occurrence)
parts_among h b k no_operands = []
parts_among h b k (operands os f j) = parts_among h b k os ++ part_of h b (occurrences_among h b k os).next f ∷ []

abbrev mutual
  -- the first conflict, inner before outer and left before right
  pub conflict_in : Headers → Binders → ℕ → Formula → Option Conflict
  conflict_in h b k (atom x) = fact_conflict h x.fact
  conflict_in h b k (negated f) = conflict_in h b k f
  conflict_in h b k (chain os f) =
      let next = (occurrences_among h b k os).next in
      option_or (option_or (conflict_in_operands h b k os) (conflict_in h b next f)) (conflict_among_parts (parts_among h b k os ++ part_of h b next f ∷ []))
  conflict_in h b k (quantified q ns f) = conflict_in h (bound_by k ns b) (k + 1) f
  conflict_in h b k (marked ms f) = conflict_in h b k f

  pub conflict_in_operands : Headers → Binders → ℕ → Operands → Option Conflict
  conflict_in_operands h b k no_operands = None
  conflict_in_operands h b k (operands os f j) = option_or (conflict_in_operands h b k os) (conflict_in h b (occurrences_among h b k os).next f)

abbrev pub first_conflict : Headers → Formula → Option Conflict
first_conflict h f = conflict_in h unbound 1 f
