use Rattle.std.proofs.Common.{◌≡◌, ◌<◌, ◌↔◌, ℕ, List, Bool, true, length, sym, ap, ◌∙◌, subst}
use Rattle.std.specs.List.{All}
use Rattle.std.proofs.lemmas.Result.{IfOk-weaker}
use Rattle.digit_tuple.specs.Letters.{product}
use Rattle.digit_tuple.specs.Parts.{parts_of_letters, picked}
use Rattle.pad_rename.specs.ZeroClosure.{flag_at}
use Rattle.project_close.specs.Image.{IsEnd, IsImageOn}
use Rattle.pad_rename.proofs.ResultLemmas.{IfOk-both}
use Rattle.project_close.proofs.ImageLemmas.{length-parts, parts-below}
use Rattle.project_close.proofs.ProjectionLemmas.{IsImageOn-made}
use Rattle.project_close.proofs.image.image_on.Goals as goal

pub new-requires-clause-own : goal.new-requires-clause-own
new-requires-clause-own c = c.requires.alphabet ∙ ap (λ (ss : List ℕ). picked c.args.places.now ss) (sym c.alphabet.ensures.sizes)

pub image-requires-clause-parts : goal.image-requires-clause-parts
image-requires-clause-parts c =
    let sizes = c.args.d.now.sizes in
    let places = c.args.places.now in
    let parts : c.in_ok-parts.parts ≡ parts_of_letters sizes places = c.in_ok-parts.ensures ∙ ap (λ (ss : List ℕ). parts_of_letters ss places) c.alphabet.ensures.sizes in
    ap (λ (ps : List ℕ). length ps) parts ∙ length-parts sizes places

pub image-requires-clause-letters : goal.image-requires-clause-letters
image-requires-clause-letters c =
    let sizes = c.args.d.now.sizes in
    let places = c.args.places.now in
    let parts : c.in_ok-parts.parts ≡ parts_of_letters sizes places = c.in_ok-parts.ensures ∙ ap (λ (ss : List ℕ). parts_of_letters ss places) c.alphabet.ensures.sizes in
    subst (λ (ss : List ℕ). All (λ part. part < product ss) c.in_ok-parts.parts) (sym c.requires.alphabet)
    (subst (λ (ps : List ℕ). All (λ part. part < product (picked places sizes)) ps) (sym parts) (parts-below sizes places c.requires.places))

pub returns : goal.returns
returns c =
    let d = c.args.d.now in
    let places = c.args.places.now in
    let direction = c.args.direction in
    let parts : c.in_ok-parts.parts ≡ parts_of_letters d.sizes places = c.in_ok-parts.ensures ∙ ap (λ (ss : List ℕ). parts_of_letters ss places) c.alphabet.ensures.sizes in
    let ends : (q : ℕ) → (flag_at c.deref.result.now q ≡ true) ↔ IsEnd direction d places q =
    subst (λ (fs : List Bool). (q : ℕ) → (flag_at fs q ≡ true) ↔ IsEnd direction d places q) (sym c.deref.ensures.value) (c.in_ok-ends.ensures.ends places parts) in
    IfOk-weaker c.image.result _ (IsImageOn d places direction)
    (λ n made. IsImageOn-made d places direction c.args.alphabet.now c.in_ok-parts.parts c.deref.result.now n c.requires.alphabet parts made.0 made.1 ends)
    (IfOk-both c.image.result _ _ c.image.ensures.image c.image.ensures.table)
