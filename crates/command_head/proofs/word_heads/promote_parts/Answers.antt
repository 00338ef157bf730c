use Rattle.std.proofs.Common.{[], ◌∷◌, refl, codes}
use Rattle.std.proofs.lemmas.Result.{err_from_is_err_and}
use Rattle.command_head.specs.Parts.{is_name, is_word}
use Rattle.command_head.specs.Grammar.{DerivesPromote}
use Rattle.command_head.proofs.PartShape.{IsAscii-name, IsAscii-word}
use Rattle.command_head.proofs.PartsRead.{word_read, part_read, all_read}
use Rattle.command_head.proofs.Forms.{This, AName, AWord, form_word, form_part, form_end, refuted, not_empty}
use Rattle.command_head.proofs.WordHeads.{promote_kinds, promote_form, promote_read}
use Rattle.command_head.proofs.word_heads.promote_parts.Goals as goal

pub returns-in_err-rest : goal.returns-in_err-rest
returns-in_err-rest c =
    let p = err_from_is_err_and c.from_residual.result c.from_residual.ensures.1 in
    rw (p.1, p.2, c.in_err-rest.ensures.1) (form_word DerivesPromote (codes "promote") (AWord ∷ AName ∷ []) c.args.text.now promote_form refl c.in_err-rest.ensures.0)

pub returns-in_err-word : goal.returns-in_err-word
returns-in_err-word c =
    let p = err_from_is_err_and c.from_residual-in_err-word.result c.from_residual-in_err-word.ensures.1 in
    let read_0 = word_read c.args.text.now (codes "promote") _ _ _ c.in_ok-rest.ensures.0 c.in_ok-rest.ensures.1 c.in_ok-rest.ensures.2 c.in_ok-rest.ensures.3 in
    rw (p.1, p.2, c.in_err-word.ensures.1)
    (form_part DerivesPromote (This (codes "promote") ∷ []) AWord (AName ∷ []) c.args.text.now (codes "promote" ∷ []) _ _ _ _ _ promote_form tt (refl, tt) read_0
    c.first_part-first.ensures.at c.first_part-first.ensures.bytes (refuted _ c.in_err-word.ensures.0))

pub returns-in_err-morphism : goal.returns-in_err-morphism
returns-in_err-morphism c =
    let p = err_from_is_err_and c.from_residual-in_err-morphism.result c.from_residual-in_err-morphism.ensures.1 in
    let read_0 = word_read c.args.text.now (codes "promote") _ _ _ c.in_ok-rest.ensures.0 c.in_ok-rest.ensures.1 c.in_ok-rest.ensures.2 c.in_ok-rest.ensures.3 in
    let read_1 = part_read c.args.text.now (codes "promote" ∷ []) _ _ _ _ _ _ _ read_0 (not_empty is_word _ refl c.in_ok-word.ensures.1) c.first_part-first.ensures.bytes c.first_part-first.ensures.whole c.first_part-first.ensures.blank c.first_part-first.ensures.rest in
    rw (p.1, p.2, c.in_err-morphism.ensures.1)
    (form_part DerivesPromote (This (codes "promote") ∷ AWord ∷ []) AName [] c.args.text.now (codes "promote" ∷ c.first_part-first.result.bytes.now ∷ []) _ _ _ _ _ promote_form tt (refl, (c.in_ok-word.ensures.1, tt)) read_1
    c.first_part-second.ensures.at c.first_part-second.ensures.bytes (refuted _ c.in_err-morphism.ensures.0))

pub returns-in_err-at_end : goal.returns-in_err-at_end
returns-in_err-at_end c =
    let p = err_from_is_err_and c.from_residual-in_err-at_end.result c.from_residual-in_err-at_end.ensures.1 in
    let read_0 = word_read c.args.text.now (codes "promote") _ _ _ c.in_ok-rest.ensures.0 c.in_ok-rest.ensures.1 c.in_ok-rest.ensures.2 c.in_ok-rest.ensures.3 in
    let read_1 = part_read c.args.text.now (codes "promote" ∷ []) _ _ _ _ _ _ _ read_0 (not_empty is_word _ refl c.in_ok-word.ensures.1) c.first_part-first.ensures.bytes c.first_part-first.ensures.whole c.first_part-first.ensures.blank c.first_part-first.ensures.rest in
    let read_2 = part_read c.args.text.now (codes "promote" ∷ c.first_part-first.result.bytes.now ∷ []) _ _ _ _ _ _ _ read_1 (not_empty is_name _ refl c.in_ok-morphism.ensures.1) c.first_part-second.ensures.bytes c.first_part-second.ensures.whole c.first_part-second.ensures.blank c.first_part-second.ensures.rest in
    rw (p.1, p.2, c.in_err-at_end.ensures.1)
    (form_end DerivesPromote promote_kinds c.args.text.now (codes "promote" ∷ c.first_part-first.result.bytes.now ∷ c.first_part-second.result.bytes.now ∷ []) _ _ _ promote_form (refl, (c.in_ok-word.ensures.1, (c.in_ok-morphism.ensures.1, tt))) read_2 c.in_err-at_end.ensures.0)

pub name_of-requires : goal.name_of-requires
name_of-requires c = rw c.in_ok-word.ensures.0 (IsAscii-word c.first_part-first.result.bytes.now c.in_ok-word.ensures.1)

pub name_of-requires-2 : goal.name_of-requires-2
name_of-requires-2 c = rw c.in_ok-morphism.ensures.0 (IsAscii-name c.first_part-second.result.bytes.now c.in_ok-morphism.ensures.1)

pub returns : goal.returns
returns c =
    let read_0 = word_read c.args.text.now (codes "promote") _ _ _ c.in_ok-rest.ensures.0 c.in_ok-rest.ensures.1 c.in_ok-rest.ensures.2 c.in_ok-rest.ensures.3 in
    let read_1 = part_read c.args.text.now (codes "promote" ∷ []) _ _ _ _ _ _ _ read_0 (not_empty is_word _ refl c.in_ok-word.ensures.1) c.first_part-first.ensures.bytes c.first_part-first.ensures.whole c.first_part-first.ensures.blank c.first_part-first.ensures.rest in
    let read_2 = part_read c.args.text.now (codes "promote" ∷ c.first_part-first.result.bytes.now ∷ []) _ _ _ _ _ _ _ read_1 (not_empty is_name _ refl c.in_ok-morphism.ensures.1) c.first_part-second.ensures.bytes c.first_part-second.ensures.whole c.first_part-second.ensures.blank c.first_part-second.ensures.rest in
    let texts = all_read c.args.text.now (codes "promote" ∷ c.first_part-first.result.bytes.now ∷ c.first_part-second.result.bytes.now ∷ []) _ _ _ read_2 c.in_ok-at_end.ensures in
    rw (texts, c.in_ok-name_of.ensures, c.in_ok-word.ensures.0, c.in_ok-name_of-2.ensures, c.in_ok-morphism.ensures.0) (promote_read c.first_part-first.result.bytes.now c.first_part-second.result.bytes.now c.in_ok-word.ensures.1 c.in_ok-morphism.ensures.1)
