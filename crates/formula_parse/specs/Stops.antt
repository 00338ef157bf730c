-- What a step of the machine gives, unless memory runs out.
use Rattle.std.specs.Prelude.{◌≡◌, ◌<◌, ◌≤◌, ℕ, suc, Bool, true, false, Option, Some, None, Result, Ok, Err, ⊤, IsSome, IsSomeAnd}
use Rattle.formula_parse.specs.Tokens as tokens
use Rattle.formula_parse.specs.Made.{made}
use Rattle.formula_parse.specs.Limits.{letter_bound}
use Rattle.formula_parse.specs.Machine as machine
use Rattle.formula_parse.specs.Machine.{depth}
use Rattle.formula_parse.specs.StateViews.{Machine, state_view}
use Rattle.formula_parse.specs.declared.state.State.{State}
use Rattle.formula_parse.specs.declared.fault.Stop.{Stop}
use Rattle.formula_parse.specs.declared.fault.Stop.TheVariants as stops

abbrev pub Gives : Result State Stop → Option Machine → Type 0
Gives (Ok s) o = o ≡ Some (state_view s)
Gives (Err stops.Syntax) o = o ≡ None
Gives (Err (stops.Letter b)) o = ⊥
Gives (Err stops.Depth) o = IsSomeAnd o (λ n. 128 < depth n)
Gives (Err stops.Memory) o = ⊤

abbrev pub IsLetterBelow : Bool → tokens.Token → Type 0
IsLetterBelow b (tokens.number v) = v < letter_bound b
IsLetterBelow b _ = ⊤

abbrev pub IsLetterPast : Bool → tokens.Token → Type 0
IsLetterPast b (tokens.number v) = letter_bound b ≤ v
IsLetterPast b _ = ⊥

-- the same where a letter is read, after the `@` at a byte and a `-` or none
abbrev pub GivesLetter : ℕ → Bool → tokens.Token → Result State Stop → Option Machine → Type 0
GivesLetter at b t (Ok s) o = (o ≡ Some (state_view s)) × IsLetterBelow b t
GivesLetter at b t (Err stops.Syntax) o = o ≡ None
GivesLetter at b t (Err (stops.Letter c)) o = (c ≡ at) × IsSome o × IsLetterPast b t
GivesLetter at b t (Err stops.Depth) o = ⊥
GivesLetter at b t (Err stops.Memory) o = ⊤

-- the same at any position
abbrev pub Steps : machine.Position made → tokens.Token → Result State Stop → Option Machine → Type 0
Steps (machine.at_letter c b) t r o = GivesLetter b false t r o
Steps (machine.at_value c b) t r o = GivesLetter b true t r o
Steps _ t r o = Gives r o

-- the nesting inside of a place
abbrev pub IsInside : ℕ → Result ℕ Stop → Type 0
IsInside d (Ok b) = b ≡ suc d
IsInside d (Err stops.Depth) = 128 ≤ d
IsInside d (Err stops.Syntax) = ⊥
IsInside d (Err (stops.Letter c)) = ⊥
IsInside d (Err stops.Memory) = ⊥
