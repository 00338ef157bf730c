use Rattle.std.proofs.Common.{◌≡◌, ℕ, List, Some, true, bytes_eq, true≢false, sym, ap, ◌∙◌, arith}
use Rattle.std.specs.Prelude.{slice_get}
use Rattle.std.proofs.lemmas.List.{length-map}
use Rattle.std.proofs.lemmas.Option.{slice_get_within}
use Rattle.std.proofs.lemmas.Slice.Eq.{bytes_eq-Decides}
use Rattle.system_files.specs.SystemTexts.{FoundText}
use Rattle.system_files.specs.TextViews.{finding_view, found_view, texts_in}
use Rattle.system_files.proofs.FoundLemmas.{kept_at, none_in_prefix}
use Rattle.system_files.proofs.texts.SystemTexts.place_of.Goals as goal

pub loop-place-init : goal.loop-place-init
loop-place-init c = record { texts = ap texts_in c.deref-found-items.ensures.value ∙ c.self.view_is; prefix = λ k one less there. absurd (omega (arith, less)) }

pub returns-then-eq : goal.returns-then-eq
returns-then-eq c =
    let one = c.found-item.result in
    let same : c.as_bytes.result.now ≡ c.as_bytes-in-loop-place.result.now = (bytes_eq-Decides c.as_bytes.result.now c.as_bytes-in-loop-place.result.now).0 (sym c.eq.ensures ∙ c.if-eq.true) in
    let named : one.name ≡ c.args.name.now = sym c.as_bytes.ensures ∙ same ∙ c.as_bytes-in-loop-place.ensures in
    let kept = kept_at c.deref-found-items.result.now c.loop-place.place one c.loop-place-test.true c.found-item.is in
    record {
      finding = finding_view one.finding;
      there = ap (λ (found : List FoundText). slice_get found c.loop-place.place) (sym c.loop-place.invariant.texts) ∙ kept ∙ ap (λ (n : List ℕ). Some (record { name = n; finding = finding_view one.finding })) named;
    }

pub loop-place-preserved : goal.loop-place-preserved
loop-place-preserved c = record {
  texts = c.loop-place.invariant.texts;
  prefix = none_in_prefix c.deref-found-items.result.now c.loop-place.place c.found-item.result c.args.name.now c.loop-place.invariant.prefix c.loop-place-test.true c.found-item.is
      (λ named.
      let same : bytes_eq c.as_bytes.result.now c.as_bytes-in-loop-place.result.now ≡ true = (bytes_eq-Decides c.as_bytes.result.now c.as_bytes-in-loop-place.result.now).1 (c.as_bytes.ensures ∙ named ∙ sym c.as_bytes-in-loop-place.ensures) in
      true≢false (sym same ∙ sym c.eq.ensures ∙ c.if-eq.false));
}

pub returns : goal.returns
returns c = λ place one there.
    let found = c.deref-found-items.result.now in
    let kept : slice_get (texts_in found) place ≡ Some one = ap (λ (l : List FoundText). slice_get l place) c.loop-place.invariant.texts ∙ there in
    let within = slice_get_within (texts_in found) place one kept in
    c.loop-place.invariant.prefix place one (omega (arith, within, length-map found found_view, c.loop-place-test.false)) kept
