-- A machine that reads tokens to the symbols of their expression.
use Rattle.std.specs.Prelude.{ℕ, ◌==◌, nat_lt, Bool, true, false, not, ◌&&◌, ℤ, pos, List, [], ◌∷◌, ◌++◌, length, Option, None, Some}
use Rattle.regex_build.specs.declared.postfix_symbol.PostfixSymbol.{PostfixSymbol}
use Rattle.regex_build.specs.declared.postfix_symbol.PostfixSymbol.TheVariants as kinds
use Rattle.regex_build.specs.declared.reading.Group.{Group}
use Rattle.regex_build.specs.declared.reading.Stage.{Stage}
use Rattle.regex_build.specs.declared.reading.Stage.TheVariants.{AtPost, After, AtNumber, AfterNumber}
use Rattle.regex_build.specs.Tokens.{Token, bar, star, plus, optional, dot, opening, closing, bracket, comma, unbracket, digit, number}

-- the groups around, the innermost first; the group that is read; the numbers of an open bracket; the symbols so far
pub record State : Type 0 where
  pub outer : List Group
  pub group : Group
  pub stage : Stage
  pub letter : List ℤ
  pub symbols : List PostfixSymbol

abbrev pub fresh : Group
fresh = record { alternatives = false; sequence = false }

abbrev pub start : State
start = record { outer = []; group = fresh; stage = AtPost; letter = []; symbols = [] }

abbrev pub gate : {X : Type 0} → Bool → Option X → Option X
gate true o = o
gate false o = None

abbrev pub symbol_if : Bool → PostfixSymbol → List PostfixSymbol → List PostfixSymbol
symbol_if true x ss = ss ++ x ∷ []
symbol_if false x ss = ss

-- after one symbol more
abbrev pub pushed : State → PostfixSymbol → State
pushed s x = record s { stage = After; symbols = s.symbols ++ x ∷ [] }

-- the last post ends the sequence so far
abbrev pub followed : State → State
followed s = record s { group = record s.group { sequence = true }; symbols = symbol_if s.group.sequence kinds.Follow s.symbols }

-- the last sequence ends the alternatives so far
abbrev pub joined : State → State
joined s = record s { group = record { alternatives = true; sequence = false }; symbols = symbol_if s.group.alternatives kinds.Either (followed s).symbols }

-- a group ends
abbrev pub close : List Group → State → Option State
close [] s = None
close (g ∷ gs) s = Some (record s { outer = gs; group = g; stage = After })

-- a post begins
abbrev pub enter : ℕ → State → Token → Option State
enter tracks s (digit d) = gate (tracks == 1) (gate (nat_lt d 10) (Some (pushed s (kinds.Letter (pos d ∷ [])))))
enter tracks s dot = Some (pushed s kinds.Any)
enter tracks s opening = Some (record s { outer = s.group ∷ s.outer; group = fresh; stage = AtPost })
enter tracks s bracket = gate (nat_lt 0 tracks) (Some (record s { stage = AtNumber }))
enter tracks s _ = None

abbrev pub is_fresh : Group → Bool
is_fresh g = not g.alternatives && not g.sequence

abbrev pub step_at : ℕ → State → Stage → Token → Option State
step_at tracks s AtPost closing = gate (is_fresh s.group) (close s.outer (pushed s kinds.Empty))
step_at tracks s AtPost t = enter tracks s t
step_at tracks s After star = Some (pushed s kinds.Star)
step_at tracks s After plus = Some (pushed s kinds.Plus)
step_at tracks s After optional = Some (pushed s kinds.Optional)
step_at tracks s After bar = Some (record (joined s) { stage = AtPost })
step_at tracks s After closing = close s.outer (joined s)
step_at tracks s After t = enter tracks (followed s) t
step_at tracks s AtNumber (number z) = Some (record s { stage = AfterNumber; letter = s.letter ++ z ∷ [] })
step_at tracks s AtNumber _ = None
step_at tracks s AfterNumber comma = gate (nat_lt (length s.letter) tracks) (Some (record s { stage = AtNumber }))
step_at tracks s AfterNumber unbracket = gate (length s.letter == tracks) (Some (record (pushed s (kinds.Letter s.letter)) { letter = [] }))
step_at tracks s AfterNumber _ = None

-- one token more; none where no text goes on with it
abbrev pub step : ℕ → State → Token → Option State
step tracks s t = step_at tracks s s.stage t

-- the symbols of a text that ends
abbrev pub ended_at : List Group → Stage → State → Option (List PostfixSymbol)
ended_at [] After s = Some (joined s).symbols
ended_at _ _ s = None

abbrev pub ended : State → Option (List PostfixSymbol)
ended s = ended_at s.outer s.stage s

-- whether a bracket is open
abbrev pub in_bracket : Stage → Bool
in_bracket AtPost = false
in_bracket After = false
in_bracket AtNumber = true
in_bracket AfterNumber = true
