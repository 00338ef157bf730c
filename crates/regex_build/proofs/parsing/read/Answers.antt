-- A token is read or at fault, and the text ends or ends too early.
use Rattle.std.proofs.Common.{subst, sym, Bool, List, ℕ, [], drop, ◌≡◌, Option, Vec, Err}
use Rattle.std.specs.declared.alloc.Global.{Global}
use Rattle.regex_build.specs.declared.postfix_symbol.PostfixSymbol.{PostfixSymbol}
use Rattle.regex_build.specs.declared.fault.RegexFault.{RegexFault}
use Rattle.regex_build.specs.Machine.{ended}
use Rattle.text_grammar.specs.Spots.{spots_from}
use Rattle.regex_build.specs.Spots.{lexing}
use Rattle.regex_build.specs.Parsing.{Parses}
use Rattle.regex_build.specs.Reading.{state_view, IsNext, Ends}
use Rattle.regex_build.proofs.ParseSteps.{byte_start, byte_next, byte_fault, byte_early, byte_end}
use Rattle.regex_build.proofs.parsing.read.Goals as goal

-- no token is from a byte on
abbrev NoNext : Bool → List ℕ → ℕ → Type 0
NoNext inside text at = spots_from lexing inside at 0 (drop at text) ≡ []

pub loop-spot-init : goal.loop-spot-init
loop-spot-init c = byte_start c.args.sets.now c.args.text.now (state_view c.new-reading.result) c.new-reading.ensures

pub loop-spot-preserved : goal.loop-spot-preserved
loop-spot-preserved c =
    byte_next c.args.sets.now c.args.text.now c.loop-spot.at (state_view c.loop-spot.reading) (state_view c.take.new.self) c.in-Some.spot c.loop-spot.invariant
    (subst (λ (b : Bool). IsNext b c.args.text.now c.loop-spot.at c.in-Some.spot) c.in_bracket.ensures c.in-Some.ensures) c.in-Ok.ensures

pub returns-in-Err : goal.returns-in-Err
returns-in-Err c =
    subst (λ (f : RegexFault). Parses c.args.sets.now c.args.text.now (Err f)) (sym c.at.ensures)
    (byte_fault c.args.sets.now c.args.text.now c.loop-spot.at (state_view c.loop-spot.reading) (state_view c.take.new.self) c.in-Some.spot c.in-Err.refusal c.loop-spot.invariant
    (subst (λ (b : Bool). IsNext b c.args.text.now c.loop-spot.at c.in-Some.spot) c.in_bracket.ensures c.in-Some.ensures) c.in-Err.ensures)

pub returns-in-Some-2 : goal.returns-in-Some-2
returns-in-Some-2 c =
    byte_end c.args.sets.now c.args.text.now c.loop-spot.at (state_view c.loop-spot.reading) c.in-Some-2.symbols.items c.loop-spot.invariant
    (subst (λ (b : Bool). NoNext b c.args.text.now c.loop-spot.at) c.in_bracket.ensures c.in_default.ensures)
    (subst (λ (o : Option (Vec PostfixSymbol Global)). Ends (ended (state_view c.loop-spot.reading)) o) c.in-Some-2.is c.in_ok-symbols.ensures)

pub returns-in-None : goal.returns-in-None
returns-in-None c =
    byte_early c.args.sets.now c.args.text.now c.loop-spot.at (state_view c.loop-spot.reading) c.loop-spot.invariant
    (subst (λ (b : Bool). NoNext b c.args.text.now c.loop-spot.at) c.in_bracket.ensures c.in_default.ensures)
    (subst (λ (o : Option (Vec PostfixSymbol Global)). Ends (ended (state_view c.loop-spot.reading)) o) c.in-None.is c.in_ok-symbols.ensures)
