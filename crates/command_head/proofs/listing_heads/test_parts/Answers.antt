use Rattle.std.proofs.Common.{None, Some, [], ◌∷◌, refl, codes}
use Rattle.std.proofs.lemmas.Result.{err_from_is_err_and}
use Rattle.command_head.specs.Parts.{is_name}
use Rattle.command_head.specs.HeadViews.{test_view}
use Rattle.command_head.proofs.PartShape.{IsAscii-name}
use Rattle.command_head.proofs.PartsRead.{word_read, part_read, all_read}
use Rattle.command_head.proofs.Forms.{not_empty}
use Rattle.command_head.proofs.Listing.{none_of, some_of}
use Rattle.command_head.proofs.TestHeads.{word_refused, name_refused, no_count, no_place, more_refused, count_some, place_some, fault_reported, test_read}
use Rattle.command_head.proofs.listing_heads.test_parts.Goals as goal

pub returns-in_err-rest : goal.returns-in_err-rest
returns-in_err-rest c =
    let p = err_from_is_err_and c.from_residual.result c.from_residual.ensures.1 in
    rw (p.1, p.2, c.in_err-rest.ensures.1) (word_refused c.args.text.now c.in_err-rest.ensures.0)

pub returns-in_err-name : goal.returns-in_err-name
returns-in_err-name c =
    let p = err_from_is_err_and c.from_residual-in_err-name.result c.from_residual-in_err-name.ensures.1 in
    let read_0 = word_read c.args.text.now (codes "test") _ _ _ c.in_ok-rest.ensures.0 c.in_ok-rest.ensures.1 c.in_ok-rest.ensures.2 c.in_ok-rest.ensures.3 in
    rw (p.1, p.2, c.in_err-name.ensures.1) (name_refused c.args.text.now _ _ _ c.first_part-first.result.bytes.now c.first_part-first.result.at read_0 c.first_part-first.ensures.at c.first_part-first.ensures.bytes c.in_err-name.ensures.0)

pub returns-in_err-count : goal.returns-in_err-count
returns-in_err-count c =
    let p = err_from_is_err_and c.from_residual-in_err-count.result c.from_residual-in_err-count.ensures.1 in
    let read_0 = word_read c.args.text.now (codes "test") _ _ _ c.in_ok-rest.ensures.0 c.in_ok-rest.ensures.1 c.in_ok-rest.ensures.2 c.in_ok-rest.ensures.3 in
    let read_1 = part_read c.args.text.now (codes "test" ∷ []) _ _ _ _ _ _ _ read_0 (not_empty is_name _ refl c.in_ok-name.ensures.1) c.first_part-first.ensures.bytes c.first_part-first.ensures.whole c.first_part-first.ensures.blank c.first_part-first.ensures.rest in
    rw (p.1, p.2)
    (fault_reported test_view c.args.text.now _
    (λ known. no_count c.args.text.now _ _ _ c.first_part-first.result.bytes.now c.first_part-second.result.bytes.now c.first_part-second.result.at _ c.in_ok-name.ensures.1 read_1 c.first_part-second.ensures.at c.first_part-second.ensures.bytes c.in_err-count.ensures))

pub name_of-requires : goal.name_of-requires
name_of-requires c = rw c.in_ok-name.ensures.0 (IsAscii-name c.first_part-first.result.bytes.now c.in_ok-name.ensures.1)

pub returns-then-is_empty : goal.returns-then-is_empty
returns-then-is_empty c =
    let read_0 = word_read c.args.text.now (codes "test") _ _ _ c.in_ok-rest.ensures.0 c.in_ok-rest.ensures.1 c.in_ok-rest.ensures.2 c.in_ok-rest.ensures.3 in
    let read_1 = part_read c.args.text.now (codes "test" ∷ []) _ _ _ _ _ _ _ read_0 (not_empty is_name _ refl c.in_ok-name.ensures.1) c.first_part-first.ensures.bytes c.first_part-first.ensures.whole c.first_part-first.ensures.blank c.first_part-first.ensures.rest in
    let name = c.first_part-first.result.bytes.now in
    let count = c.first_part-second.result.bytes.now in
    let counted = c.in_ok-count.ensures in
    let read_2 = part_read c.args.text.now (codes "test" ∷ name ∷ []) _ _ _ _ _ _ _ read_1 (count_some count _ counted) c.first_part-second.ensures.bytes c.first_part-second.ensures.whole c.first_part-second.ensures.blank c.first_part-second.ensures.rest in
    let texts = all_read c.args.text.now (codes "test" ∷ name ∷ count ∷ []) _ _ _ read_2 (none_of c.first_part-second.result.rest.bytes.now _ c.is_empty.result refl c.is_empty.ensures c.if-is_empty.true) in
    rw (texts, c.in_ok-name_of.ensures, c.in_ok-name.ensures.0) (test_read name count [] c.in_ok-count.count None c.in_ok-name.ensures.1 counted refl)

pub returns-in_err-place : goal.returns-in_err-place
returns-in_err-place c =
    let p = err_from_is_err_and c.from_residual-in_err-place.result c.from_residual-in_err-place.ensures.1 in
    let read_0 = word_read c.args.text.now (codes "test") _ _ _ c.in_ok-rest.ensures.0 c.in_ok-rest.ensures.1 c.in_ok-rest.ensures.2 c.in_ok-rest.ensures.3 in
    let read_1 = part_read c.args.text.now (codes "test" ∷ []) _ _ _ _ _ _ _ read_0 (not_empty is_name _ refl c.in_ok-name.ensures.1) c.first_part-first.ensures.bytes c.first_part-first.ensures.whole c.first_part-first.ensures.blank c.first_part-first.ensures.rest in
    let name = c.first_part-first.result.bytes.now in
    let count = c.first_part-second.result.bytes.now in
    let counted = c.in_ok-count.ensures in
    let read_2 = part_read c.args.text.now (codes "test" ∷ name ∷ []) _ _ _ _ _ _ _ read_1 (count_some count _ counted) c.first_part-second.ensures.bytes c.first_part-second.ensures.whole c.first_part-second.ensures.blank c.first_part-second.ensures.rest in
    rw (p.1, p.2)
    (fault_reported test_view c.args.text.now _
    (λ known. no_place c.args.text.now _ _ _ name count _ c.first_part-third.result.bytes.now c.first_part-third.result.at _ c.in_ok-name.ensures.1 counted (some_of c.first_part-second.result.rest.bytes.now _ c.is_empty.result refl c.is_empty.ensures c.if-is_empty.false) read_2 c.first_part-third.ensures.at c.first_part-third.ensures.bytes c.in_err-place.ensures known))

pub returns-in_err-at_end : goal.returns-in_err-at_end
returns-in_err-at_end c =
    let p = err_from_is_err_and c.from_residual-in_err-at_end.result c.from_residual-in_err-at_end.ensures.1 in
    let read_0 = word_read c.args.text.now (codes "test") _ _ _ c.in_ok-rest.ensures.0 c.in_ok-rest.ensures.1 c.in_ok-rest.ensures.2 c.in_ok-rest.ensures.3 in
    let read_1 = part_read c.args.text.now (codes "test" ∷ []) _ _ _ _ _ _ _ read_0 (not_empty is_name _ refl c.in_ok-name.ensures.1) c.first_part-first.ensures.bytes c.first_part-first.ensures.whole c.first_part-first.ensures.blank c.first_part-first.ensures.rest in
    let name = c.first_part-first.result.bytes.now in
    let count = c.first_part-second.result.bytes.now in
    let counted = c.in_ok-count.ensures in
    let read_2 = part_read c.args.text.now (codes "test" ∷ name ∷ []) _ _ _ _ _ _ _ read_1 (count_some count _ counted) c.first_part-second.ensures.bytes c.first_part-second.ensures.whole c.first_part-second.ensures.blank c.first_part-second.ensures.rest in
    let place = c.first_part-third.result.bytes.now in
    let placed = c.in_ok-place.ensures in
    let read_3 = part_read c.args.text.now (codes "test" ∷ name ∷ count ∷ []) _ _ _ _ _ _ _ read_2 (place_some place _ placed) c.first_part-third.ensures.bytes c.first_part-third.ensures.whole c.first_part-third.ensures.blank c.first_part-third.ensures.rest in
    rw (p.1, p.2, c.in_err-at_end.ensures.1) (more_refused c.args.text.now _ _ _ name count place _ _ c.in_ok-name.ensures.1 counted placed read_3 c.in_err-at_end.ensures.0)

pub name_of-requires-2 : goal.name_of-requires-2
name_of-requires-2 c = rw c.in_ok-name.ensures.0 (IsAscii-name c.first_part-first.result.bytes.now c.in_ok-name.ensures.1)

pub returns : goal.returns
returns c =
    let read_0 = word_read c.args.text.now (codes "test") _ _ _ c.in_ok-rest.ensures.0 c.in_ok-rest.ensures.1 c.in_ok-rest.ensures.2 c.in_ok-rest.ensures.3 in
    let read_1 = part_read c.args.text.now (codes "test" ∷ []) _ _ _ _ _ _ _ read_0 (not_empty is_name _ refl c.in_ok-name.ensures.1) c.first_part-first.ensures.bytes c.first_part-first.ensures.whole c.first_part-first.ensures.blank c.first_part-first.ensures.rest in
    let name = c.first_part-first.result.bytes.now in
    let count = c.first_part-second.result.bytes.now in
    let counted = c.in_ok-count.ensures in
    let read_2 = part_read c.args.text.now (codes "test" ∷ name ∷ []) _ _ _ _ _ _ _ read_1 (count_some count _ counted) c.first_part-second.ensures.bytes c.first_part-second.ensures.whole c.first_part-second.ensures.blank c.first_part-second.ensures.rest in
    let place = c.first_part-third.result.bytes.now in
    let placed = c.in_ok-place.ensures in
    let read_3 = part_read c.args.text.now (codes "test" ∷ name ∷ count ∷ []) _ _ _ _ _ _ _ read_2 (place_some place _ placed) c.first_part-third.ensures.bytes c.first_part-third.ensures.whole c.first_part-third.ensures.blank c.first_part-third.ensures.rest in
    let texts = all_read c.args.text.now (codes "test" ∷ name ∷ count ∷ place ∷ []) _ _ _ read_3 c.in_ok-at_end.ensures in
    rw (texts, c.in_ok-name_of-2.ensures, c.in_ok-name.ensures.0) (test_read name count (place ∷ []) c.in_ok-count.count (Some c.in_ok-place.place) c.in_ok-name.ensures.1 counted (place, refl, placed))
