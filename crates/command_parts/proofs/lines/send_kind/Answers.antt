use Rattle.std.proofs.Common.{ℕ, List, ◌++◌, ◌≡◌, ◌∙◌, codes, ap, rules, subst}
use Rattle.std.proofs.lemmas.Int.{to_z-of_z}
use Rattle.std.specs.Fmt.{signed_decimal}
use mir.Val.{SFits}
use mir.Syntax.{w32}
use Rattle.wal_outside.specs.Sending.{Sends}
use Rattle.command_parts.specs.Lines.{refusal_name, refusal_letter}
use Rattle.command_parts.proofs.lines.send_kind.Goals as goal

pub returns : goal.returns
returns g c =
    let fits : SFits w32 c.kind_letter-letter.result = search rules in
    let P : List ℕ → List ℕ → Type 0 = λ name letter. Sends (g.K.Sink.view c.args.out.now) ((codes ": F22 Morphism " ++ name) ++ (codes " " ++ letter)) c.send_four.result (g.K.Sink.view c.send_four.new.out) in
    let name : c.as_bytes.result.now ≡ refusal_name c.args.kind = c.as_bytes.ensures.value ∙ c.kind_name.ensures in
    let letter : c.as_bytes-2.result.now ≡ signed_decimal (refusal_letter c.args.kind) = c.as_bytes-2.ensures.value ∙ ((simp to_z-of_z at c.format.ensures.text) ∙ ap signed_decimal c.kind_letter-letter.ensures) in
    subst (P (refusal_name c.args.kind)) letter (subst (λ n. P n c.as_bytes-2.result.now) name c.send_four.ensures)
