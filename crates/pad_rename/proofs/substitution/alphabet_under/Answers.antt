use Rattle.std.proofs.Common.{◌≡◌, ◌<◌, length, sym, ap, ◌∙◌, subst}
use Rattle.std.specs.List.{All}
use Rattle.digit_tuple.specs.Letters.{IsAlphabet}
use Rattle.digit_tuple.specs.Names.{places_of}
use Rattle.digit_tuple.specs.Parts.{picked}
use Rattle.digit_tuple.proofs.NameLemmas.{places_of-within}
use Rattle.pad_rename.specs.Substitution.{sizes_under}
use Rattle.pad_rename.proofs.SubstitutionLemmas.{IsAlphabet-under}
use Rattle.pad_rename.proofs.substitution.alphabet_under.Goals as goal

pub sizes_at-requires : goal.sizes_at-requires
sizes_at-requires c =
    subst (λ ps. All (λ place. place < length c.sizes-sizes.result.now) ps) (sym (c.deref.ensures.value ∙ c.in_ok-places.ensures))
    (subst (λ n. All (λ place. place < n) (places_of c.args.under.now c.args.names.now)) (c.requires.count ∙ sym (ap length c.sizes-sizes.ensures.sizes))
    (places_of-within c.args.under.now c.args.names.now c.requires.no_others))

pub fitting-requires : goal.fitting-requires
fitting-requires c =
    let sizes : c.deref-2.result.now ≡ sizes_under c.args.alphabet.now c.args.under.now c.args.names.now =
    c.deref-2.ensures.value ∙ c.in_ok-some.ensures ∙ ap (λ ps. picked ps c.sizes-sizes.result.now) (c.deref.ensures.value ∙ c.in_ok-places.ensures)
    ∙ ap (picked (places_of c.args.under.now c.args.names.now)) c.sizes-sizes.ensures.sizes in
    subst IsAlphabet (sym sizes) (IsAlphabet-under c.args.alphabet.now c.args.under.now c.args.names.now c.requires c.sizes-sizes.ensures.alphabet)
