use Rattle.std.proofs.Common.{ℕ, List, [], ◌∷◌, refl, sym, subst}
use Rattle.std.proofs.lemmas.Result.{err_from_is_err_and}
use Rattle.command_head.specs.Parts.{is_name}
use Rattle.command_head.specs.Grammar.{DerivesName}
use Rattle.command_head.proofs.PartShape.{IsAscii-name}
use Rattle.command_head.proofs.PartsRead.{word_read, part_read, all_read}
use Rattle.command_head.proofs.Forms.{This, AName, form_word, form_part, form_end, refuted, not_empty}
use Rattle.command_head.proofs.ListingHeads.{name_kinds, name_form, name_read, name_result}
use Rattle.command_head.proofs.listing_heads.name_after.Goals as goal

pub returns-in_err-rest : goal.returns-in_err-rest
returns-in_err-rest c =
    let p = err_from_is_err_and c.from_residual.result c.from_residual.ensures.1 in
    rw (p.1, p.2, c.in_err-rest.ensures.1) (form_word (DerivesName c.args.word.now) c.args.word.now (AName ∷ []) c.args.text.now (name_form c.args.word.now) c.requires c.in_err-rest.ensures.0)

pub returns-in_err-name : goal.returns-in_err-name
returns-in_err-name c =
    let p = err_from_is_err_and c.from_residual-in_err-name.result c.from_residual-in_err-name.ensures.1 in
    let read_0 = word_read c.args.text.now c.args.word.now _ _ _ c.in_ok-rest.ensures.0 c.in_ok-rest.ensures.1 c.in_ok-rest.ensures.2 c.in_ok-rest.ensures.3 in
    rw (p.1, p.2, c.in_err-name.ensures.1)
    (form_part (DerivesName c.args.word.now) (This c.args.word.now ∷ []) AName [] c.args.text.now (c.args.word.now ∷ []) _ _ _ _ _ (name_form c.args.word.now) tt (refl, tt) read_0
    c.first_part-part.ensures.at c.first_part-part.ensures.bytes (refuted _ c.in_err-name.ensures.0))

pub returns-in_err-at_end : goal.returns-in_err-at_end
returns-in_err-at_end c =
    let p = err_from_is_err_and c.from_residual-in_err-at_end.result c.from_residual-in_err-at_end.ensures.1 in
    let read_0 = word_read c.args.text.now c.args.word.now _ _ _ c.in_ok-rest.ensures.0 c.in_ok-rest.ensures.1 c.in_ok-rest.ensures.2 c.in_ok-rest.ensures.3 in
    let read_1 = part_read c.args.text.now (c.args.word.now ∷ []) _ _ _ _ _ _ _ read_0 (not_empty is_name _ refl c.in_ok-name.ensures.1) c.first_part-part.ensures.bytes c.first_part-part.ensures.whole c.first_part-part.ensures.blank c.first_part-part.ensures.rest in
    rw (p.1, p.2, c.in_err-at_end.ensures.1)
    (form_end (DerivesName c.args.word.now) (name_kinds c.args.word.now) c.args.text.now (c.args.word.now ∷ c.first_part-part.result.bytes.now ∷ []) _ _ _ (name_form c.args.word.now) (refl, (c.in_ok-name.ensures.1, tt)) read_1 c.in_err-at_end.ensures.0)

pub name_of-requires : goal.name_of-requires
name_of-requires c = rw c.in_ok-name.ensures.0 (IsAscii-name c.first_part-part.result.bytes.now c.in_ok-name.ensures.1)

pub returns : goal.returns
returns c =
    let read_0 = word_read c.args.text.now c.args.word.now _ _ _ c.in_ok-rest.ensures.0 c.in_ok-rest.ensures.1 c.in_ok-rest.ensures.2 c.in_ok-rest.ensures.3 in
    let read_1 = part_read c.args.text.now (c.args.word.now ∷ []) _ _ _ _ _ _ _ read_0 (not_empty is_name _ refl c.in_ok-name.ensures.1) c.first_part-part.ensures.bytes c.first_part-part.ensures.whole c.first_part-part.ensures.blank c.first_part-part.ensures.rest in
    let all = all_read c.args.text.now (c.args.word.now ∷ c.first_part-part.result.bytes.now ∷ []) _ _ _ read_1 c.in_ok-at_end.ensures in
    let name = c.first_part-part.result.bytes.now in
    name_result c.args.word.now c.args.text.now name c.name_of.result
    (subst (λ (parts : List (List ℕ)). DerivesName c.args.word.now parts name) (sym all) (name_read c.args.word.now name c.in_ok-name.ensures.1))
    (rw (sym c.in_ok-name.ensures.0) c.name_of.ensures)
