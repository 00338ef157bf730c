use Rattle.std.proofs.Common.{[], ◌∷◌, refl}
use Rattle.std.proofs.lemmas.Result.{err_from_is_err_and}
use Rattle.command_head.specs.Parts.{is_name, is_word}
use Rattle.command_head.specs.Grammar.{DerivesImage}
use Rattle.command_head.proofs.PartShape.{IsAscii-name, IsAscii-word}
use Rattle.command_head.proofs.PartsRead.{word_read, part_read, all_read}
use Rattle.command_head.proofs.Forms.{This, AName, AWord, form_word, form_part, form_end, refuted, not_empty}
use Rattle.command_head.proofs.WordHeads.{image_kinds, image_form, image_read}
use Rattle.command_head.proofs.word_heads.image_parts.Goals as goal

pub returns-in_err-rest : goal.returns-in_err-rest
returns-in_err-rest c =
    let p = err_from_is_err_and c.from_residual.result c.from_residual.ensures.1 in
    rw (p.1, p.2, c.in_err-rest.ensures.1) (form_word (DerivesImage c.args.word.now) c.args.word.now (AWord ∷ AName ∷ AWord ∷ []) c.args.text.now (image_form c.args.word.now) c.requires c.in_err-rest.ensures.0)

pub returns-in_err-new : goal.returns-in_err-new
returns-in_err-new c =
    let p = err_from_is_err_and c.from_residual-in_err-new.result c.from_residual-in_err-new.ensures.1 in
    let read_0 = word_read c.args.text.now c.args.word.now _ _ _ c.in_ok-rest.ensures.0 c.in_ok-rest.ensures.1 c.in_ok-rest.ensures.2 c.in_ok-rest.ensures.3 in
    rw (p.1, p.2, c.in_err-new.ensures.1)
    (form_part (DerivesImage c.args.word.now) (This c.args.word.now ∷ []) AWord (AName ∷ AWord ∷ []) c.args.text.now (c.args.word.now ∷ []) _ _ _ _ _ (image_form c.args.word.now) tt (refl, tt) read_0
    c.first_part-first.ensures.at c.first_part-first.ensures.bytes (refuted _ c.in_err-new.ensures.0))

pub returns-in_err-mapping : goal.returns-in_err-mapping
returns-in_err-mapping c =
    let p = err_from_is_err_and c.from_residual-in_err-mapping.result c.from_residual-in_err-mapping.ensures.1 in
    let read_0 = word_read c.args.text.now c.args.word.now _ _ _ c.in_ok-rest.ensures.0 c.in_ok-rest.ensures.1 c.in_ok-rest.ensures.2 c.in_ok-rest.ensures.3 in
    let read_1 = part_read c.args.text.now (c.args.word.now ∷ []) _ _ _ _ _ _ _ read_0 (not_empty is_word _ refl c.in_ok-new.ensures.1) c.first_part-first.ensures.bytes c.first_part-first.ensures.whole c.first_part-first.ensures.blank c.first_part-first.ensures.rest in
    rw (p.1, p.2, c.in_err-mapping.ensures.1)
    (form_part (DerivesImage c.args.word.now) (This c.args.word.now ∷ AWord ∷ []) AName (AWord ∷ []) c.args.text.now (c.args.word.now ∷ c.first_part-first.result.bytes.now ∷ []) _ _ _ _ _ (image_form c.args.word.now) tt (refl, (c.in_ok-new.ensures.1, tt)) read_1
    c.first_part-second.ensures.at c.first_part-second.ensures.bytes (refuted _ c.in_err-mapping.ensures.0))

pub returns-in_err-old : goal.returns-in_err-old
returns-in_err-old c =
    let p = err_from_is_err_and c.from_residual-in_err-old.result c.from_residual-in_err-old.ensures.1 in
    let read_0 = word_read c.args.text.now c.args.word.now _ _ _ c.in_ok-rest.ensures.0 c.in_ok-rest.ensures.1 c.in_ok-rest.ensures.2 c.in_ok-rest.ensures.3 in
    let read_1 = part_read c.args.text.now (c.args.word.now ∷ []) _ _ _ _ _ _ _ read_0 (not_empty is_word _ refl c.in_ok-new.ensures.1) c.first_part-first.ensures.bytes c.first_part-first.ensures.whole c.first_part-first.ensures.blank c.first_part-first.ensures.rest in
    let read_2 = part_read c.args.text.now (c.args.word.now ∷ c.first_part-first.result.bytes.now ∷ []) _ _ _ _ _ _ _ read_1 (not_empty is_name _ refl c.in_ok-mapping.ensures.1) c.first_part-second.ensures.bytes c.first_part-second.ensures.whole c.first_part-second.ensures.blank c.first_part-second.ensures.rest in
    rw (p.1, p.2, c.in_err-old.ensures.1)
    (form_part (DerivesImage c.args.word.now) (This c.args.word.now ∷ AWord ∷ AName ∷ []) AWord [] c.args.text.now (c.args.word.now ∷ c.first_part-first.result.bytes.now ∷ c.first_part-second.result.bytes.now ∷ []) _ _ _ _ _ (image_form c.args.word.now) tt (refl, (c.in_ok-new.ensures.1, (c.in_ok-mapping.ensures.1, tt))) read_2
    c.first_part-third.ensures.at c.first_part-third.ensures.bytes (refuted _ c.in_err-old.ensures.0))

pub returns-in_err-at_end : goal.returns-in_err-at_end
returns-in_err-at_end c =
    let p = err_from_is_err_and c.from_residual-in_err-at_end.result c.from_residual-in_err-at_end.ensures.1 in
    let read_0 = word_read c.args.text.now c.args.word.now _ _ _ c.in_ok-rest.ensures.0 c.in_ok-rest.ensures.1 c.in_ok-rest.ensures.2 c.in_ok-rest.ensures.3 in
    let read_1 = part_read c.args.text.now (c.args.word.now ∷ []) _ _ _ _ _ _ _ read_0 (not_empty is_word _ refl c.in_ok-new.ensures.1) c.first_part-first.ensures.bytes c.first_part-first.ensures.whole c.first_part-first.ensures.blank c.first_part-first.ensures.rest in
    let read_2 = part_read c.args.text.now (c.args.word.now ∷ c.first_part-first.result.bytes.now ∷ []) _ _ _ _ _ _ _ read_1 (not_empty is_name _ refl c.in_ok-mapping.ensures.1) c.first_part-second.ensures.bytes c.first_part-second.ensures.whole c.first_part-second.ensures.blank c.first_part-second.ensures.rest in
    let read_3 = part_read c.args.text.now (c.args.word.now ∷ c.first_part-first.result.bytes.now ∷ c.first_part-second.result.bytes.now ∷ []) _ _ _ _ _ _ _ read_2 (not_empty is_word _ refl c.in_ok-old.ensures.1) c.first_part-third.ensures.bytes c.first_part-third.ensures.whole c.first_part-third.ensures.blank c.first_part-third.ensures.rest in
    rw (p.1, p.2, c.in_err-at_end.ensures.1)
    (form_end (DerivesImage c.args.word.now) (image_kinds c.args.word.now) c.args.text.now (c.args.word.now ∷ c.first_part-first.result.bytes.now ∷ c.first_part-second.result.bytes.now ∷ c.first_part-third.result.bytes.now ∷ []) _ _ _ (image_form c.args.word.now) (refl, (c.in_ok-new.ensures.1, (c.in_ok-mapping.ensures.1, (c.in_ok-old.ensures.1, tt)))) read_3 c.in_err-at_end.ensures.0)

pub name_of-requires : goal.name_of-requires
name_of-requires c = rw c.in_ok-new.ensures.0 (IsAscii-word c.first_part-first.result.bytes.now c.in_ok-new.ensures.1)

pub name_of-requires-2 : goal.name_of-requires-2
name_of-requires-2 c = rw c.in_ok-mapping.ensures.0 (IsAscii-name c.first_part-second.result.bytes.now c.in_ok-mapping.ensures.1)

pub name_of-requires-3 : goal.name_of-requires-3
name_of-requires-3 c = rw c.in_ok-old.ensures.0 (IsAscii-word c.first_part-third.result.bytes.now c.in_ok-old.ensures.1)

pub returns : goal.returns
returns c =
    let read_0 = word_read c.args.text.now c.args.word.now _ _ _ c.in_ok-rest.ensures.0 c.in_ok-rest.ensures.1 c.in_ok-rest.ensures.2 c.in_ok-rest.ensures.3 in
    let read_1 = part_read c.args.text.now (c.args.word.now ∷ []) _ _ _ _ _ _ _ read_0 (not_empty is_word _ refl c.in_ok-new.ensures.1) c.first_part-first.ensures.bytes c.first_part-first.ensures.whole c.first_part-first.ensures.blank c.first_part-first.ensures.rest in
    let read_2 = part_read c.args.text.now (c.args.word.now ∷ c.first_part-first.result.bytes.now ∷ []) _ _ _ _ _ _ _ read_1 (not_empty is_name _ refl c.in_ok-mapping.ensures.1) c.first_part-second.ensures.bytes c.first_part-second.ensures.whole c.first_part-second.ensures.blank c.first_part-second.ensures.rest in
    let read_3 = part_read c.args.text.now (c.args.word.now ∷ c.first_part-first.result.bytes.now ∷ c.first_part-second.result.bytes.now ∷ []) _ _ _ _ _ _ _ read_2 (not_empty is_word _ refl c.in_ok-old.ensures.1) c.first_part-third.ensures.bytes c.first_part-third.ensures.whole c.first_part-third.ensures.blank c.first_part-third.ensures.rest in
    let texts = all_read c.args.text.now (c.args.word.now ∷ c.first_part-first.result.bytes.now ∷ c.first_part-second.result.bytes.now ∷ c.first_part-third.result.bytes.now ∷ []) _ _ _ read_3 c.in_ok-at_end.ensures in
    rw (texts, c.in_ok-name_of.ensures, c.in_ok-new.ensures.0, c.in_ok-name_of-2.ensures, c.in_ok-mapping.ensures.0, c.in_ok-name_of-3.ensures, c.in_ok-old.ensures.0) (image_read c.args.word.now c.first_part-first.result.bytes.now c.first_part-second.result.bytes.now c.first_part-third.result.bytes.now c.in_ok-new.ensures.1 c.in_ok-mapping.ensures.1 c.in_ok-old.ensures.1)
