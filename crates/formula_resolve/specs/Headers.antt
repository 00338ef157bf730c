-- What the tracks of automata and words are over.
use Rattle.std.specs.Prelude.{List, [], Option, None, Some, Bool, true, false, refl}
use Rattle.std.specs.Ordering.{nat_cmp}
use Rattle.std.specs.Cmp.Lexicographic.{slice_cmp}
use Rattle.std.specs.FinMap as finite
use Rattle.std.specs.Coded.{Coded, code_by, coded×, coded_ℕ, coded_list, coded_option}
use Rattle.formula_parse.specs.Tokens.{Name}

-- something for each of some names
abbrev pub Named : Type 0 → Type 0
Named X = finite.FinMap (slice_cmp nat_cmp) X

-- The systems of the tracks of automata and of words, by their names. An automaton over sets has None.
pub record Headers : Type 0 where
  pub automata : Named (Option (List Name))
  pub words : Named (List Name)

abbrev pub coded_name : Coded Name
coded_name = coded_list coded_ℕ

-- headers are stored as the pair of both maps
abbrev pub headers_code : Coded Headers
headers_code =
    code_by (Named (Option (List Name)) × Named (List Name))
    (coded× (finite.code coded_name (coded_option (coded_list coded_name))) (finite.code coded_name (coded_list coded_name)))
    (λ h. (h.automata, h.words)) (λ p. record { automata = p.0; words = p.1 }) (λ _. refl)

abbrev pub no_headers : Headers
no_headers = record { automata = finite.empty; words = finite.empty }

-- the headers with one more, in place of one of the name
abbrev pub with_automaton : Headers → Name → Option (List Name) → Headers
with_automaton h n tracks = record { automata = finite.insert h.automata n tracks; words = h.words }

abbrev pub with_word : Headers → Name → List Name → Headers
with_word h n tracks = record { automata = h.automata; words = finite.insert h.words n tracks }

-- no tracks where there is no header
abbrev pub known : Option (List Name) → List Name
known None = []
known (Some tracks) = tracks

-- no tracks where there is no header or it is over sets
abbrev pub known_systems : Option (Option (List Name)) → List Name
known_systems None = []
known_systems (Some tracks) = known tracks

abbrev pub is_over_sets : Option (Option (List Name)) → Bool
is_over_sets None = false
is_over_sets (Some None) = true
is_over_sets (Some (Some tracks)) = false

-- the systems of the tracks of an automaton of this name; none where it is over sets or has no header
abbrev pub automaton_tracks : Headers → Name → List Name
automaton_tracks h n = known_systems (finite.get h.automata n)

-- the systems of the tracks of a word of this name; none where it has no header
abbrev pub word_tracks : Headers → Name → List Name
word_tracks h n = known (finite.get h.words n)

-- whether the automaton of this name is over sets
abbrev pub is_plain : Headers → Name → Bool
is_plain h n = is_over_sets (finite.get h.automata n)
