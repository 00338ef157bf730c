use Rattle.std.proofs.Common.{◌≡◌, ℕ, List, [], ◌∷◌, length, ap, sym, ◌∙◌, subst, arith}
use Rattle.std.specs.Prelude.{MatchResult}
use Rattle.std.specs.Rc.{rc_value}
use Rattle.std.proofs.lemmas.List.{length-map}
use Rattle.std.proofs.lemmas.Result.{err_from_is_err_and}
use Rattle.num_system.specs.Tracks.{systems_of}
use Rattle.word_commands.specs.BaseWords.{base_name}
use Rattle.command_parts.specs.WordPrinting.{IsWordTextOf, HasNoWordText}
use Rattle.word_commands.proofs.BaseTexts.{one_name, some_system}
use Rattle.word_commands.proofs.promote.base_text.Goals as goal

pub first_digits-requires : goal.first_digits-requires
first_digits-requires c =
    let one : length c.args.word.now.systems ≡ 1 = some_system c.requires.0 c.args.word.now.systems c.requires.1.system in
    let long : length c.systems.result.now ≡ length c.args.word.now.systems = sym (length-map c.systems.result.now rc_value) ∙ ap length c.systems.ensures.value in
    omega (arith, one, long)

pub word_text-requires : goal.word_text-requires
word_text-requires c = one_name c.requires.0 c.in_ok-name.name c.args.word.now.systems c.requires.1.base_is c.requires.1.system

pub returns-in_err-name : goal.returns-in_err-name
returns-in_err-name c =
    let p = err_from_is_err_and c.from_residual.result c.from_residual.ensures.1 in
    rw (p.1, p.2) (λ k over. tt)

pub returns : goal.returns
returns c = λ k over.
    let digits : c.first_digits.result ≡ k = c.first_digits.ensures k (ap systems_of c.systems.ensures.value ∙ over.system) in
    let name : c.in_ok-name.name ≡ base_name k = c.in_ok-name.ensures ∙ ap base_name digits in
    subst (λ (n : List ℕ). MatchResult c.word_text.result (λ text. IsWordTextOf (n ∷ []) c.args.word.now text.items) (HasNoWordText (n ∷ []) c.args.word.now)) name c.word_text.ensures
