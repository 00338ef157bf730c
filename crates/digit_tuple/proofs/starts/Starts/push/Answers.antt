use Rattle.std.proofs.Common.{◌≡◌, ◌-◌, ◌<◌, ◌∷◌, ◌++◌, [], ℕ, List, Result, Ok, Err, length, sym, subst, ap, ◌∙◌, arith}
use Rattle.std.specs.List.{All}
use Rattle.std.specs.Result.{OnErr}
use Rattle.std.proofs.lemmas.List.Elements.{All-push}
use Rattle.digit_tuple.specs.Starts.{base_at, places_from}
use Rattle.digit_tuple.specs.declared.starts.Base.{Base}
use Rattle.digit_tuple.proofs.StartLemmas.{places_from-near, places_from-far, places_from-base}
use Rattle.digit_tuple.proofs.starts.Starts.push.Goals as goal

on_err : {A E : Type 0} (r : Result A E) (P : Type 0) → P → OnErr r P
on_err (Ok x) P p = tt
on_err (Err e) P p = p

pub invariant_of-self-then-place-base : goal.invariant_of-self-then-place-base
invariant_of-self-then-place-base c =
    let offsets = c.self.inside.offsets.items in
    let bases = c.self.inside.bases.items in
    let end : c.len-first.result ≡ length offsets = omega (arith, c.len-first.ensures) in
    let base : c.base_of-base.result ≡ base_at 0 bases c.len-first.result = c.base_of-base.ensures ∙ ap (λ (bs : List Base). base_at 0 bs c.len-first.result) c.deref.ensures.value in
    let near = places_from-near offsets bases c.len-first.result c.base_of-base.result c.args.place end base c.if-base-place.true in
    let pushed : c.push.new.self.items ≡ offsets ++ (c.args.place - c.base_of-base.result) ∷ [] = c.in_ok-push.ensures.items in
    subst (All (λ (p : ℕ). p < 18446744073709551616)) (sym (ap (λ (os : List ℕ). places_from 0 os bases) pushed ∙ near))
    (All-push (λ (p : ℕ). p < 18446744073709551616) (places_from 0 offsets bases) c.args.place c.self.invariant c.ranges.place.fits)

pub returns-then-place-base-clause-added : goal.returns-then-place-base-clause-added
returns-then-place-base-clause-added c =
    let offsets = c.self.inside.offsets.items in
    let bases = c.self.inside.bases.items in
    let end : c.len-first.result ≡ length offsets = omega (arith, c.len-first.ensures) in
    let base : c.base_of-base.result ≡ base_at 0 bases c.len-first.result = c.base_of-base.ensures ∙ ap (λ (bs : List Base). base_at 0 bs c.len-first.result) c.deref.ensures.value in
    let near = places_from-near offsets bases c.len-first.result c.base_of-base.result c.args.place end base c.if-base-place.true in
    let pushed : c.push.new.self.items ≡ offsets ++ (c.args.place - c.base_of-base.result) ∷ [] = c.in_ok-push.ensures.items in
    ap (λ (os : List ℕ). places_from 0 os bases) pushed ∙ near ∙ ap (λ (ps : List ℕ). ps ++ c.args.place ∷ []) c.self.view_is

pub invariant_of-self-in_err-push-3 : goal.invariant_of-self-in_err-push-3
invariant_of-self-in_err-push-3 c =
    let offsets = c.self.inside.offsets.items in
    let bases = c.self.inside.bases.items in
    let b : Base = record { first = c.len-first.result; place = c.args.place } in
    let based : c.push-2.new.self.items ≡ bases ++ b ∷ [] = c.in_ok-push-2.ensures.items in
    let same : places_from 0 c.push-3.new.self.items c.push-2.new.self.items ≡ places_from 0 offsets bases =
    ap (λ (os : List ℕ). places_from 0 os c.push-2.new.self.items) c.in_err-push-3.ensures.items ∙ ap (places_from 0 offsets) based ∙ places_from-base 0 offsets bases b (omega (arith, c.len-first.ensures)) in
    subst (All (λ (p : ℕ). p < 18446744073709551616)) (sym same) c.self.invariant

pub returns-in_err-push-3-clause-refused : goal.returns-in_err-push-3-clause-refused
returns-in_err-push-3-clause-refused c =
    let offsets = c.self.inside.offsets.items in
    let bases = c.self.inside.bases.items in
    let b : Base = record { first = c.len-first.result; place = c.args.place } in
    let based : c.push-2.new.self.items ≡ bases ++ b ∷ [] = c.in_ok-push-2.ensures.items in
    let same : places_from 0 c.push-3.new.self.items c.push-2.new.self.items ≡ places_from 0 offsets bases =
    ap (λ (os : List ℕ). places_from 0 os c.push-2.new.self.items) c.in_err-push-3.ensures.items ∙ ap (places_from 0 offsets) based ∙ places_from-base 0 offsets bases b (omega (arith, c.len-first.ensures)) in
    on_err c.from_residual-in_err-push-3.result _ (same ∙ c.self.view_is)

pub invariant_of-self-2 : goal.invariant_of-self-2
invariant_of-self-2 c =
    let offsets = c.self.inside.offsets.items in
    let bases = c.self.inside.bases.items in
    let b : Base = record { first = c.len-first.result; place = c.args.place } in
    let based : c.push-2.new.self.items ≡ bases ++ b ∷ [] = c.in_ok-push-2.ensures.items in
    let pushed : c.push-3.new.self.items ≡ offsets ++ 0 ∷ [] = c.in_ok-push-3.ensures.items in
    let far = places_from-far offsets bases c.len-first.result c.args.place (omega (arith, c.len-first.ensures)) in
    subst (All (λ (p : ℕ). p < 18446744073709551616)) (sym (ap (λ (os : List ℕ). places_from 0 os c.push-2.new.self.items) pushed ∙ ap (places_from 0 (offsets ++ 0 ∷ [])) based ∙ far))
    (All-push (λ (p : ℕ). p < 18446744073709551616) (places_from 0 offsets bases) c.args.place c.self.invariant c.ranges.place.fits)

pub returns-clause-added : goal.returns-clause-added
returns-clause-added c =
    let offsets = c.self.inside.offsets.items in
    let bases = c.self.inside.bases.items in
    let b : Base = record { first = c.len-first.result; place = c.args.place } in
    let based : c.push-2.new.self.items ≡ bases ++ b ∷ [] = c.in_ok-push-2.ensures.items in
    let pushed : c.push-3.new.self.items ≡ offsets ++ 0 ∷ [] = c.in_ok-push-3.ensures.items in
    let far = places_from-far offsets bases c.len-first.result c.args.place (omega (arith, c.len-first.ensures)) in
    ap (λ (os : List ℕ). places_from 0 os c.push-2.new.self.items) pushed ∙ ap (places_from 0 (offsets ++ 0 ∷ [])) based ∙ far ∙ ap (λ (ps : List ℕ). ps ++ c.args.place ∷ []) c.self.view_is
