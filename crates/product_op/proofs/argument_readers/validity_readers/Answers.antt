use Rattle.std.proofs.Common.{[], ◌∷◌, ◌++◌, map, ap, sym, ◌∙◌, subst}
use Rattle.std.specs.Rc.{rc_value}
use Rattle.product_op.specs.TrackReadings.{AllFitTracks}
use Rattle.product_op.proofs.ProductLemmas.{validity_readings-made}
use Rattle.product_op.proofs.argument_readers.validity_readers.Goals as goal

pub add_track_readers-requires : goal.add_track_readers-requires
add_track_readers-requires c = subst (λ ss. AllFitTracks ss (map rc_value c.args.valid.now)) (sym c.requires.sizes) c.requires.languages

pub returns : goal.returns
returns c =
    let whole = c.in_ok-whole_reader.field-0 in
    validity_readings-made c.args.dfa.now (map rc_value c.args.valid.now) whole c.push.new.self.items _ c.args.alphabet.now
    c.requires.sizes c.in_ok-whole_reader.ensures
    (c.in_ok-push.ensures.items ∙ ap (λ rs. rs ++ whole ∷ []) c.new-readers.ensures.items)
    c.in_ok-add_track_readers.ensures
