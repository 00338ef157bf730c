-- Whether the names that a formula mentions have the tracks that it gives them.
use Rattle.std.specs.Prelude.{ℕ, ◌==◌, List, [], ◌∷◌, length, Option, None, Some, min, if◌then◌else◌}
use Rattle.std.specs.Option.{option_or}
use Rattle.formula_parse.specs.Tokens.{Name}
use Rattle.formula_resolve.specs.Headers.{Headers, automaton_tracks, word_tracks, is_plain}
use Rattle.formula_resolve.specs.declared.mention.Mention.{Mention}
use Rattle.formula_resolve.specs.declared.mention.Mention.TheVariants.{Marked, Called, Indexed}
use Rattle.formula_resolve.specs.declared.fault.ResolveFault.{ResolveFault}
use Rattle.formula_resolve.specs.declared.fault.ResolveFault.TheVariants.{Plain, Arity}

-- a count as a fault keeps it: 2 ^ 32 - 1 means each that is no less
abbrev pub kept_count : ℕ → ℕ
kept_count n = min n 4294967295

-- a name with so many tracks, where so many places are given
abbrev pub miscount : Name → ℕ → ℕ → Option ResolveFault
miscount n tracks given = if tracks == given then None else Some (Arity n (kept_count tracks) (kept_count given))

-- the fault of a mention: an automaton over sets, or another number of tracks than is given
abbrev pub misuse : Headers → Mention → Option ResolveFault
misuse h (Marked s) = None
misuse h (Called n k) = if is_plain h n then Some (Plain n) else miscount n (length (automaton_tracks h n)) k
misuse h (Indexed n k) = miscount n (length (word_tracks h n)) k

-- the first from the left
abbrev pub first_misuse : Headers → List Mention → Option ResolveFault
first_misuse h [] = None
first_misuse h (m ∷ ms) = option_or (misuse h m) (first_misuse h ms)
