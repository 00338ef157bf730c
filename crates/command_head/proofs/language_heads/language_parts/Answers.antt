use Rattle.std.proofs.Common.{[], ◌∷◌, refl}
use Rattle.std.proofs.lemmas.Result.{err_from_is_err_and}
use Rattle.command_head.specs.Parts.{is_name}
use Rattle.command_head.specs.Grammar.{DerivesLanguage}
use Rattle.command_head.proofs.PartShape.{IsAscii-name}
use Rattle.command_head.proofs.PartsRead.{word_read, part_read, all_read}
use Rattle.command_head.proofs.Forms.{This, AName, form_word, form_part, form_end, refuted, not_empty}
use Rattle.command_head.proofs.LanguageHeads.{language_kinds, language_form, language_read}
use Rattle.command_head.proofs.language_heads.language_parts.Goals as goal

pub returns-in_err-rest : goal.returns-in_err-rest
returns-in_err-rest c =
    let p = err_from_is_err_and c.from_residual.result c.from_residual.ensures.1 in
    rw (p.1, p.2, c.in_err-rest.ensures.1) (form_word (DerivesLanguage c.args.word.now) c.args.word.now (AName ∷ AName ∷ []) c.args.text.now (language_form c.args.word.now) c.requires c.in_err-rest.ensures.0)

pub returns-in_err-name : goal.returns-in_err-name
returns-in_err-name c =
    let p = err_from_is_err_and c.from_residual-in_err-name.result c.from_residual-in_err-name.ensures.1 in
    let read_0 = word_read c.args.text.now c.args.word.now _ _ _ c.in_ok-rest.ensures.0 c.in_ok-rest.ensures.1 c.in_ok-rest.ensures.2 c.in_ok-rest.ensures.3 in
    rw (p.1, p.2, c.in_err-name.ensures.1)
    (form_part (DerivesLanguage c.args.word.now) (This c.args.word.now ∷ []) AName (AName ∷ []) c.args.text.now (c.args.word.now ∷ []) _ _ _ _ _ (language_form c.args.word.now) tt (refl, tt) read_0
    c.first_part-first.ensures.at c.first_part-first.ensures.bytes (refuted _ c.in_err-name.ensures.0))

pub returns-in_err-language : goal.returns-in_err-language
returns-in_err-language c =
    let p = err_from_is_err_and c.from_residual-in_err-language.result c.from_residual-in_err-language.ensures.1 in
    let read_0 = word_read c.args.text.now c.args.word.now _ _ _ c.in_ok-rest.ensures.0 c.in_ok-rest.ensures.1 c.in_ok-rest.ensures.2 c.in_ok-rest.ensures.3 in
    let read_1 = part_read c.args.text.now (c.args.word.now ∷ []) _ _ _ _ _ _ _ read_0 (not_empty is_name _ refl c.in_ok-name.ensures.1) c.first_part-first.ensures.bytes c.first_part-first.ensures.whole c.first_part-first.ensures.blank c.first_part-first.ensures.rest in
    rw (p.1, p.2, c.in_err-language.ensures.1)
    (form_part (DerivesLanguage c.args.word.now) (This c.args.word.now ∷ AName ∷ []) AName [] c.args.text.now (c.args.word.now ∷ c.first_part-first.result.bytes.now ∷ []) _ _ _ _ _ (language_form c.args.word.now) tt (refl, (c.in_ok-name.ensures.1, tt)) read_1
    c.first_part-second.ensures.at c.first_part-second.ensures.bytes (refuted _ c.in_err-language.ensures.0))

pub returns-in_err-at_end : goal.returns-in_err-at_end
returns-in_err-at_end c =
    let p = err_from_is_err_and c.from_residual-in_err-at_end.result c.from_residual-in_err-at_end.ensures.1 in
    let read_0 = word_read c.args.text.now c.args.word.now _ _ _ c.in_ok-rest.ensures.0 c.in_ok-rest.ensures.1 c.in_ok-rest.ensures.2 c.in_ok-rest.ensures.3 in
    let read_1 = part_read c.args.text.now (c.args.word.now ∷ []) _ _ _ _ _ _ _ read_0 (not_empty is_name _ refl c.in_ok-name.ensures.1) c.first_part-first.ensures.bytes c.first_part-first.ensures.whole c.first_part-first.ensures.blank c.first_part-first.ensures.rest in
    let read_2 = part_read c.args.text.now (c.args.word.now ∷ c.first_part-first.result.bytes.now ∷ []) _ _ _ _ _ _ _ read_1 (not_empty is_name _ refl c.in_ok-language.ensures.1) c.first_part-second.ensures.bytes c.first_part-second.ensures.whole c.first_part-second.ensures.blank c.first_part-second.ensures.rest in
    rw (p.1, p.2, c.in_err-at_end.ensures.1)
    (form_end (DerivesLanguage c.args.word.now) (language_kinds c.args.word.now) c.args.text.now (c.args.word.now ∷ c.first_part-first.result.bytes.now ∷ c.first_part-second.result.bytes.now ∷ []) _ _ _ (language_form c.args.word.now) (refl, (c.in_ok-name.ensures.1, (c.in_ok-language.ensures.1, tt))) read_2 c.in_err-at_end.ensures.0)

pub name_of-requires : goal.name_of-requires
name_of-requires c = rw c.in_ok-language.ensures.0 (IsAscii-name c.first_part-second.result.bytes.now c.in_ok-language.ensures.1)

pub name_of-requires-2 : goal.name_of-requires-2
name_of-requires-2 c = rw c.in_ok-name.ensures.0 (IsAscii-name c.first_part-first.result.bytes.now c.in_ok-name.ensures.1)

pub returns : goal.returns
returns c =
    let read_0 = word_read c.args.text.now c.args.word.now _ _ _ c.in_ok-rest.ensures.0 c.in_ok-rest.ensures.1 c.in_ok-rest.ensures.2 c.in_ok-rest.ensures.3 in
    let read_1 = part_read c.args.text.now (c.args.word.now ∷ []) _ _ _ _ _ _ _ read_0 (not_empty is_name _ refl c.in_ok-name.ensures.1) c.first_part-first.ensures.bytes c.first_part-first.ensures.whole c.first_part-first.ensures.blank c.first_part-first.ensures.rest in
    let read_2 = part_read c.args.text.now (c.args.word.now ∷ c.first_part-first.result.bytes.now ∷ []) _ _ _ _ _ _ _ read_1 (not_empty is_name _ refl c.in_ok-language.ensures.1) c.first_part-second.ensures.bytes c.first_part-second.ensures.whole c.first_part-second.ensures.blank c.first_part-second.ensures.rest in
    let texts = all_read c.args.text.now (c.args.word.now ∷ c.first_part-first.result.bytes.now ∷ c.first_part-second.result.bytes.now ∷ []) _ _ _ read_2 c.in_ok-at_end.ensures in
    rw (texts, c.in_ok-push.ensures.items, c.new-languages.ensures.items, c.in_ok-name_of.ensures, c.in_ok-language.ensures.0, c.in_ok-name_of-2.ensures, c.in_ok-name.ensures.0) (language_read c.args.word.now c.first_part-first.result.bytes.now c.first_part-second.result.bytes.now c.in_ok-name.ensures.1 c.in_ok-language.ensures.1)
