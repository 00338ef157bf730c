use Rattle.std.proofs.Common.{ℕ, List, refl, subst}
use Rattle.std.proofs.lemmas.Result.{err_from_is_err_and}
use Rattle.place_text.specs.Grammar.{Derives}
use Rattle.place_text.specs.Lexemes.{lexemes}
use Rattle.place_text.specs.Faults.{IsFault}
use Rattle.place_text.specs.declared.fault.PlaceFault.TheVariants as places
use Rattle.command_head.specs.Parts.{unquoted}
use Rattle.command_head.specs.TestParts.{NoQuotes, Broken}
use Rattle.command_head.proofs.PartShape.{is_quoted-part}
use Rattle.command_head.proofs.listing_heads.place_in.Goals as goal

pub returns-in_err-body : goal.returns-in_err-body
returns-in_err-body c =
    let p = err_from_is_err_and c.from_residual.result c.from_residual.ensures.1 in
    rw (p.1, p.2) (NoQuotes c.in_err-body.ensures.0 c.in_err-body.ensures.1)

pub returns-in-Ok : goal.returns-in-Ok
returns-in-Ok c =
    let shape = is_quoted-part c.args.part.now.bytes.now c.in_ok-body.ensures.1 in
    record {
      body = unquoted c.args.part.now.bytes.now;
      part_is = shape.0;
      unquoted = shape.1;
      derived = subst (λ (l : List ℕ). Derives (lexemes l) c.in-Ok.place) c.in_ok-body.ensures.0 c.in-Ok.ensures.place;
    }

pub returns-in-Err-Syntax : goal.returns-in-Err-Syntax
returns-in-Err-Syntax c =
    Broken c.in_ok-body.ensures.1 (places.Syntax c.in-Err-Syntax.at) (subst (λ (l : List ℕ). IsFault l (places.Syntax c.in-Err-Syntax.at)) c.in_ok-body.ensures.0 (rw c.in-Err-Syntax.field-0-is at c.in-Err-Syntax.ensures.place)) refl

pub returns-in-Err-Number : goal.returns-in-Err-Number
returns-in-Err-Number c =
    Broken c.in_ok-body.ensures.1 (places.Number c.in-Err-Number.at) (subst (λ (l : List ℕ). IsFault l (places.Number c.in-Err-Number.at)) c.in_ok-body.ensures.0 (rw c.in-Err-Number.field-0-is at c.in-Err-Number.ensures.place)) refl
