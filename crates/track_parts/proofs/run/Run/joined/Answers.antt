use Rattle.std.proofs.Common.{◌≡◌, ◌*◌, ◌/◌, ◌%◌, ◌∙◌, ap, sym}
use Rattle.track_parts.proofs.RunLemmas.{run_part-joined}
use Rattle.track_parts.proofs.run.Run.joined.Goals as goal

pub returns-then-digits-from-clause-sum : goal.returns-then-digits-from-clause-sum
returns-then-digits-from-clause-sum c = λ letter.
    let after = c.args.after in
    let digits : c.from.result * c.from-size.result ≡ c.args.self.size * after.size = ap (λ n. n * c.from-size.result) c.from.ensures ∙ ap (λ n. c.args.self.size * n) c.from-size.ensures in
    let divisor : after.divisor * after.size ≡ c.args.self.divisor =
    ap (λ n. n * after.size) (sym c.from-2.ensures) ∙ ap (λ n. c.from-2.result * n) (sym c.from-size.ensures) ∙ c.if-from-size.true ∙ c.from-3.ensures in
    let factor : after.factor * after.size ≡ c.args.self.factor =
    ap (λ n. n * after.size) (sym c.from-then-from-size.ensures) ∙ ap (λ n. c.from-then-from-size.result * n) (sym c.from-size.ensures) ∙ c.if-from-size-2.true ∙ c.from-then-from-size-2.ensures in
    ap (λ n. letter / after.divisor % n * after.factor) digits
    ∙ run_part-joined letter after.divisor after.size c.args.self.size after.factor c.args.self.divisor c.args.self.factor c.requires.after.0 c.requires.after.1 c.requires.positive.1 divisor factor
