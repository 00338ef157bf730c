use Rattle.std.proofs.Common.{[], ◌∷◌, refl}
use Rattle.std.proofs.lemmas.Result.{err_from_is_err_and}
use Rattle.command_head.specs.Parts.{is_name, is_quoted}
use Rattle.command_head.specs.Grammar.{DerivesNamed}
use Rattle.command_head.proofs.PartShape.{IsAscii-name}
use Rattle.command_head.proofs.PartsRead.{word_read, part_read, all_read}
use Rattle.command_head.proofs.Forms.{This, AName, AText, form_word, form_part, form_end, refuted, not_empty}
use Rattle.command_head.proofs.NamedHeads.{named_kinds, named_form, read_head}
use Rattle.command_head.proofs.named.named_parts.Goals as goal

pub returns-in_err-rest : goal.returns-in_err-rest
returns-in_err-rest c =
    let p = err_from_is_err_and c.from_residual.result c.from_residual.ensures.1 in
    rw (p.1, p.2, c.in_err-rest.ensures.1) (form_word (DerivesNamed c.args.word.now) c.args.word.now (AName ∷ AText ∷ []) c.args.text.now (named_form c.args.word.now) c.requires c.in_err-rest.ensures.0)

pub returns-in_err-bytes : goal.returns-in_err-bytes
returns-in_err-bytes c =
    let p = err_from_is_err_and c.from_residual-in_err-bytes.result c.from_residual-in_err-bytes.ensures.1 in
    let word = word_read c.args.text.now c.args.word.now _ _ _ c.in_ok-rest.ensures.0 c.in_ok-rest.ensures.1 c.in_ok-rest.ensures.2 c.in_ok-rest.ensures.3 in
    rw (p.1, p.2, c.in_err-bytes.ensures.1)
    (form_part (DerivesNamed c.args.word.now) (This c.args.word.now ∷ []) AName (AText ∷ []) c.args.text.now (c.args.word.now ∷ []) _ _ _ _ _ (named_form c.args.word.now) tt (refl, tt) word
    c.first_part-name.ensures.at c.first_part-name.ensures.bytes (refuted _ c.in_err-bytes.ensures.0))

pub returns-in_err-body : goal.returns-in_err-body
returns-in_err-body c =
    let p = err_from_is_err_and c.from_residual-in_err-body.result c.from_residual-in_err-body.ensures.1 in
    let word = word_read c.args.text.now c.args.word.now _ _ _ c.in_ok-rest.ensures.0 c.in_ok-rest.ensures.1 c.in_ok-rest.ensures.2 c.in_ok-rest.ensures.3 in
    let named = c.in_ok-bytes.ensures.1 in
    let name = part_read c.args.text.now (c.args.word.now ∷ []) _ _ _ _ _ _ _ word (not_empty is_name _ refl named) c.first_part-name.ensures.bytes c.first_part-name.ensures.whole c.first_part-name.ensures.blank c.first_part-name.ensures.rest in
    rw (p.1, p.2, c.in_err-body.ensures.1)
    (form_part (DerivesNamed c.args.word.now) (This c.args.word.now ∷ AName ∷ []) AText [] c.args.text.now (c.args.word.now ∷ c.first_part-name.result.bytes.now ∷ []) _ _ _ _ _ (named_form c.args.word.now) tt (refl, (named, tt)) name
    c.first_part-quoted.ensures.at c.first_part-quoted.ensures.bytes (refuted _ c.in_err-body.ensures.0))

pub returns-in_err-at_end : goal.returns-in_err-at_end
returns-in_err-at_end c =
    let p = err_from_is_err_and c.from_residual-in_err-at_end.result c.from_residual-in_err-at_end.ensures.1 in
    let word = word_read c.args.text.now c.args.word.now _ _ _ c.in_ok-rest.ensures.0 c.in_ok-rest.ensures.1 c.in_ok-rest.ensures.2 c.in_ok-rest.ensures.3 in
    let named = c.in_ok-bytes.ensures.1 in
    let name = part_read c.args.text.now (c.args.word.now ∷ []) _ _ _ _ _ _ _ word (not_empty is_name _ refl named) c.first_part-name.ensures.bytes c.first_part-name.ensures.whole c.first_part-name.ensures.blank c.first_part-name.ensures.rest in
    let q = c.in_ok-body.ensures.1 in
    let body = part_read c.args.text.now (c.args.word.now ∷ c.first_part-name.result.bytes.now ∷ []) _ _ _ _ _ _ _ name (not_empty is_quoted _ refl q) c.first_part-quoted.ensures.bytes c.first_part-quoted.ensures.whole c.first_part-quoted.ensures.blank c.first_part-quoted.ensures.rest in
    rw (p.1, p.2, c.in_err-at_end.ensures.1)
    (form_end (DerivesNamed c.args.word.now) (named_kinds c.args.word.now) c.args.text.now (c.args.word.now ∷ c.first_part-name.result.bytes.now ∷ c.first_part-quoted.result.bytes.now ∷ []) _ _ _ (named_form c.args.word.now)
    (refl, (named, (q, tt))) body c.in_err-at_end.ensures.0)

pub name_of-requires : goal.name_of-requires
name_of-requires c = rw c.in_ok-bytes.ensures.0 (IsAscii-name c.first_part-name.result.bytes.now c.in_ok-bytes.ensures.1)

pub returns : goal.returns
returns c =
    let word = word_read c.args.text.now c.args.word.now _ _ _ c.in_ok-rest.ensures.0 c.in_ok-rest.ensures.1 c.in_ok-rest.ensures.2 c.in_ok-rest.ensures.3 in
    let named = c.in_ok-bytes.ensures.1 in
    let name = part_read c.args.text.now (c.args.word.now ∷ []) _ _ _ _ _ _ _ word (not_empty is_name _ refl named) c.first_part-name.ensures.bytes c.first_part-name.ensures.whole c.first_part-name.ensures.blank c.first_part-name.ensures.rest in
    let q = c.in_ok-body.ensures.1 in
    let body = part_read c.args.text.now (c.args.word.now ∷ c.first_part-name.result.bytes.now ∷ []) _ _ _ _ _ _ _ name (not_empty is_quoted _ refl q) c.first_part-quoted.ensures.bytes c.first_part-quoted.ensures.whole c.first_part-quoted.ensures.blank c.first_part-quoted.ensures.rest in
    let texts = all_read c.args.text.now (c.args.word.now ∷ c.first_part-name.result.bytes.now ∷ c.first_part-quoted.result.bytes.now ∷ []) _ _ _ body c.in_ok-at_end.ensures in
    rw (texts, c.in_ok-name_of.ensures, c.in_ok-bytes.ensures.0, c.in_ok-body.ensures.0) (read_head c.args.word.now c.first_part-name.result.bytes.now c.first_part-quoted.result.bytes.now named q)
