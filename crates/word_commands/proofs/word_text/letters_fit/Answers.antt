use Rattle.std.proofs.Common.{rules, ◌≡◌, ◌+◌, ◌++◌, ◌∷◌, [], pos, take, get_or, sym, ◌∙◌, subst, arith}
use Rattle.std.specs.Int.{w32}
use Rattle.std.specs.List.{All}
use Rattle.std.specs.Prelude.{FitsSigned}
use Rattle.std.proofs.lemmas.List.{take_all, take_more}
use Rattle.std.proofs.lemmas.List.Elements.{All-push}
use mir.Val.{SFits}
use Rattle.word_commands.proofs.word_text.letters_fit.Goals as goal

pub loop-letter-preserved : goal.loop-letter-preserved
loop-letter-preserved c =
    let items = c.letters-letter-items.result.now in
    let i = c.loop-letter.letter-index in
    let x = get_or items i (pos 0) in
    let fits : SFits w32 x = search rules in
    let prefix : take (i + 1) items ≡ take i items ++ x ∷ [] = take_more items i (pos 0) (omega arith) in
    subst (All (λ letter. FitsSigned w32 letter)) (sym prefix) (All-push (λ letter. FitsSigned w32 letter) (take i items) x c.loop-letter.invariant fits)

pub returns : goal.returns
returns c =
    let items = c.letters-letter-items.result.now in
    let i = c.loop-letter.letter-index in
    let whole : take i items ≡ items = take_all i items (omega arith) in
    subst (All (λ letter. FitsSigned w32 letter)) (whole ∙ c.letters-letter-items.ensures.value) c.loop-letter.invariant
