use Rattle.std.proofs.Common.{◌≡◌, ◌<◌, ℕ, List, length, get_or, ap, ◌∙◌, arith}
use Rattle.std.proofs.lemmas.List.{get_or_default}
use Rattle.digit_tuple.specs.Starts.{base_at}
use Rattle.digit_tuple.specs.declared.starts.Base.{Base}
use Rattle.digit_tuple.proofs.StartLemmas.{length-places_from, places_from-read}
use Rattle.digit_tuple.proofs.starts.Starts.get.Goals as goal

pub index-requires : goal.index-requires
index-requires c = omega (arith, c.requires, ap length c.self.view_is, length-places_from 0 c.self.inside.offsets.items c.self.inside.bases.items)

pub overflow_add-result : goal.overflow_add-result
overflow_add-result c =
    let offsets = c.self.inside.offsets.items in
    let bases = c.self.inside.bases.items in
    let index = c.args.index in
    let within : index < length offsets = omega (arith, c.requires, ap length c.self.view_is, length-places_from 0 offsets bases) in
    let read = places_from-read 0 offsets bases index index within (omega arith) in
    let base : c.base_of.result ≡ base_at 0 bases index = c.base_of.ensures ∙ ap (λ (bs : List Base). base_at 0 bs index) c.deref.ensures.value in
    let small = c.self.invariant index 0 (omega (arith, within, length-places_from 0 offsets bases)) in
    omega (arith, read, base, small, c.index.ensures, get_or_default offsets index c.index.result.now 0 within)

pub returns : goal.returns
returns c =
    let offsets = c.self.inside.offsets.items in
    let bases = c.self.inside.bases.items in
    let index = c.args.index in
    let within : index < length offsets = omega (arith, c.requires, ap length c.self.view_is, length-places_from 0 offsets bases) in
    let read = places_from-read 0 offsets bases index index within (omega arith) in
    let base : c.base_of.result ≡ base_at 0 bases index = c.base_of.ensures ∙ ap (λ (bs : List Base). base_at 0 bs index) c.deref.ensures.value in
    let view = ap (λ (ps : List ℕ). get_or ps index 0) c.self.view_is in
    omega (arith, read, base, view, c.index.ensures, get_or_default offsets index c.index.result.now 0 within)
