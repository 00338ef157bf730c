use Rattle.std.proofs.Common.{[], ◌∷◌, refl, codes}
use Rattle.std.proofs.lemmas.Result.{err_from_is_err_and}
use Rattle.text_grammar.specs.Systems.{is_system}
use Rattle.command_head.specs.Parts.{is_word}
use Rattle.command_head.specs.Grammar.{DerivesConvert}
use Rattle.command_head.proofs.PartShape.{IsAscii-system, IsAscii-word}
use Rattle.command_head.proofs.PartsRead.{word_read, part_read, all_read}
use Rattle.command_head.proofs.Forms.{This, ASystem, AWord, form_word, form_part, form_end, refuted, not_empty}
use Rattle.command_head.proofs.WordHeads.{convert_kinds, convert_form, convert_read}
use Rattle.command_head.proofs.word_heads.convert_parts.Goals as goal

pub returns-in_err-rest : goal.returns-in_err-rest
returns-in_err-rest c =
    let p = err_from_is_err_and c.from_residual.result c.from_residual.ensures.1 in
    rw (p.1, p.2, c.in_err-rest.ensures.1) (form_word DerivesConvert (codes "convert") (AWord ∷ ASystem ∷ AWord ∷ []) c.args.text.now convert_form refl c.in_err-rest.ensures.0)

pub returns-in_err-word : goal.returns-in_err-word
returns-in_err-word c =
    let p = err_from_is_err_and c.from_residual-in_err-word.result c.from_residual-in_err-word.ensures.1 in
    let read_0 = word_read c.args.text.now (codes "convert") _ _ _ c.in_ok-rest.ensures.0 c.in_ok-rest.ensures.1 c.in_ok-rest.ensures.2 c.in_ok-rest.ensures.3 in
    rw (p.1, p.2, c.in_err-word.ensures.1)
    (form_part DerivesConvert (This (codes "convert") ∷ []) AWord (ASystem ∷ AWord ∷ []) c.args.text.now (codes "convert" ∷ []) _ _ _ _ _ convert_form tt (refl, tt) read_0
    c.first_part-first.ensures.at c.first_part-first.ensures.bytes (refuted _ c.in_err-word.ensures.0))

pub returns-in_err-system : goal.returns-in_err-system
returns-in_err-system c =
    let p = err_from_is_err_and c.from_residual-in_err-system.result c.from_residual-in_err-system.ensures.1 in
    let read_0 = word_read c.args.text.now (codes "convert") _ _ _ c.in_ok-rest.ensures.0 c.in_ok-rest.ensures.1 c.in_ok-rest.ensures.2 c.in_ok-rest.ensures.3 in
    let read_1 = part_read c.args.text.now (codes "convert" ∷ []) _ _ _ _ _ _ _ read_0 (not_empty is_word _ refl c.in_ok-word.ensures.1) c.first_part-first.ensures.bytes c.first_part-first.ensures.whole c.first_part-first.ensures.blank c.first_part-first.ensures.rest in
    rw (p.1, p.2, c.in_err-system.ensures.1)
    (form_part DerivesConvert (This (codes "convert") ∷ AWord ∷ []) ASystem (AWord ∷ []) c.args.text.now (codes "convert" ∷ c.first_part-first.result.bytes.now ∷ []) _ _ _ _ _ convert_form tt (refl, (c.in_ok-word.ensures.1, tt)) read_1
    c.first_part-second.ensures.at c.first_part-second.ensures.bytes (refuted _ c.in_err-system.ensures.0))

pub returns-in_err-old : goal.returns-in_err-old
unfolding is_system
returns-in_err-old c =
    let p = err_from_is_err_and c.from_residual-in_err-old.result c.from_residual-in_err-old.ensures.1 in
    let read_0 = word_read c.args.text.now (codes "convert") _ _ _ c.in_ok-rest.ensures.0 c.in_ok-rest.ensures.1 c.in_ok-rest.ensures.2 c.in_ok-rest.ensures.3 in
    let read_1 = part_read c.args.text.now (codes "convert" ∷ []) _ _ _ _ _ _ _ read_0 (not_empty is_word _ refl c.in_ok-word.ensures.1) c.first_part-first.ensures.bytes c.first_part-first.ensures.whole c.first_part-first.ensures.blank c.first_part-first.ensures.rest in
    let read_2 = part_read c.args.text.now (codes "convert" ∷ c.first_part-first.result.bytes.now ∷ []) _ _ _ _ _ _ _ read_1 (not_empty is_system _ refl c.in_ok-system.ensures.1) c.first_part-second.ensures.bytes c.first_part-second.ensures.whole c.first_part-second.ensures.blank c.first_part-second.ensures.rest in
    rw (p.1, p.2, c.in_err-old.ensures.1)
    (form_part DerivesConvert (This (codes "convert") ∷ AWord ∷ ASystem ∷ []) AWord [] c.args.text.now (codes "convert" ∷ c.first_part-first.result.bytes.now ∷ c.first_part-second.result.bytes.now ∷ []) _ _ _ _ _ convert_form tt (refl, (c.in_ok-word.ensures.1, (c.in_ok-system.ensures.1, tt))) read_2
    c.first_part-last.ensures.at c.first_part-last.ensures.bytes (refuted _ c.in_err-old.ensures.0))

pub returns-in_err-at_end : goal.returns-in_err-at_end
unfolding is_system
returns-in_err-at_end c =
    let p = err_from_is_err_and c.from_residual-in_err-at_end.result c.from_residual-in_err-at_end.ensures.1 in
    let read_0 = word_read c.args.text.now (codes "convert") _ _ _ c.in_ok-rest.ensures.0 c.in_ok-rest.ensures.1 c.in_ok-rest.ensures.2 c.in_ok-rest.ensures.3 in
    let read_1 = part_read c.args.text.now (codes "convert" ∷ []) _ _ _ _ _ _ _ read_0 (not_empty is_word _ refl c.in_ok-word.ensures.1) c.first_part-first.ensures.bytes c.first_part-first.ensures.whole c.first_part-first.ensures.blank c.first_part-first.ensures.rest in
    let read_2 = part_read c.args.text.now (codes "convert" ∷ c.first_part-first.result.bytes.now ∷ []) _ _ _ _ _ _ _ read_1 (not_empty is_system _ refl c.in_ok-system.ensures.1) c.first_part-second.ensures.bytes c.first_part-second.ensures.whole c.first_part-second.ensures.blank c.first_part-second.ensures.rest in
    let read_3 = part_read c.args.text.now (codes "convert" ∷ c.first_part-first.result.bytes.now ∷ c.first_part-second.result.bytes.now ∷ []) _ _ _ _ _ _ _ read_2 (not_empty is_word _ refl c.in_ok-old.ensures.1) c.first_part-last.ensures.bytes c.first_part-last.ensures.whole c.first_part-last.ensures.blank c.first_part-last.ensures.rest in
    rw (p.1, p.2, c.in_err-at_end.ensures.1)
    (form_end DerivesConvert convert_kinds c.args.text.now (codes "convert" ∷ c.first_part-first.result.bytes.now ∷ c.first_part-second.result.bytes.now ∷ c.first_part-last.result.bytes.now ∷ []) _ _ _ convert_form (refl, (c.in_ok-word.ensures.1, (c.in_ok-system.ensures.1, (c.in_ok-old.ensures.1, tt)))) read_3 c.in_err-at_end.ensures.0)

pub name_of-requires : goal.name_of-requires
name_of-requires c = rw c.in_ok-word.ensures.0 (IsAscii-word c.first_part-first.result.bytes.now c.in_ok-word.ensures.1)

pub name_of-requires-2 : goal.name_of-requires-2
name_of-requires-2 c = rw c.in_ok-system.ensures.0 (IsAscii-system c.first_part-second.result.bytes.now c.in_ok-system.ensures.1)

pub name_of-requires-3 : goal.name_of-requires-3
name_of-requires-3 c = rw c.in_ok-old.ensures.0 (IsAscii-word c.first_part-last.result.bytes.now c.in_ok-old.ensures.1)

pub returns : goal.returns
unfolding is_system
returns c =
    let read_0 = word_read c.args.text.now (codes "convert") _ _ _ c.in_ok-rest.ensures.0 c.in_ok-rest.ensures.1 c.in_ok-rest.ensures.2 c.in_ok-rest.ensures.3 in
    let read_1 = part_read c.args.text.now (codes "convert" ∷ []) _ _ _ _ _ _ _ read_0 (not_empty is_word _ refl c.in_ok-word.ensures.1) c.first_part-first.ensures.bytes c.first_part-first.ensures.whole c.first_part-first.ensures.blank c.first_part-first.ensures.rest in
    let read_2 = part_read c.args.text.now (codes "convert" ∷ c.first_part-first.result.bytes.now ∷ []) _ _ _ _ _ _ _ read_1 (not_empty is_system _ refl c.in_ok-system.ensures.1) c.first_part-second.ensures.bytes c.first_part-second.ensures.whole c.first_part-second.ensures.blank c.first_part-second.ensures.rest in
    let read_3 = part_read c.args.text.now (codes "convert" ∷ c.first_part-first.result.bytes.now ∷ c.first_part-second.result.bytes.now ∷ []) _ _ _ _ _ _ _ read_2 (not_empty is_word _ refl c.in_ok-old.ensures.1) c.first_part-last.ensures.bytes c.first_part-last.ensures.whole c.first_part-last.ensures.blank c.first_part-last.ensures.rest in
    let texts = all_read c.args.text.now (codes "convert" ∷ c.first_part-first.result.bytes.now ∷ c.first_part-second.result.bytes.now ∷ c.first_part-last.result.bytes.now ∷ []) _ _ _ read_3 c.in_ok-at_end.ensures in
    rw (texts, c.in_ok-name_of.ensures, c.in_ok-word.ensures.0, c.in_ok-name_of-2.ensures, c.in_ok-system.ensures.0, c.in_ok-name_of-3.ensures, c.in_ok-old.ensures.0) (convert_read c.first_part-first.result.bytes.now c.first_part-second.result.bytes.now c.first_part-last.result.bytes.now c.in_ok-word.ensures.1 c.in_ok-system.ensures.1 c.in_ok-old.ensures.1)
