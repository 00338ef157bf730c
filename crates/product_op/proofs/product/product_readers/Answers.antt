use Rattle.std.proofs.Common.{[], ◌∷◌, ◌++◌, map, ap, sym, ◌∙◌, subst}
use Rattle.std.specs.Rc.{rc_value}
use Rattle.product_op.specs.TrackReadings.{AllFitTracks}
use Rattle.product_op.proofs.ProductLemmas.{reads_first, reads_second, product_readings-made}
use Rattle.product_op.proofs.product.product_readers.Goals as goal

pub listed_reader-requires-clause-count : goal.listed_reader-requires-clause-count
listed_reader-requires-clause-count c =
    (reads_first c.args.a.now c.args.b.now c.names-first.ensures.tracked c.names-second.ensures.tracked c.requires.agree c.args.joint.now.names.items c.args.joint.now.alphabet c.requires.names c.requires.sizes).count

pub listed_reader-requires-clause-there : goal.listed_reader-requires-clause-there
listed_reader-requires-clause-there c =
    (reads_first c.args.a.now c.args.b.now c.names-first.ensures.tracked c.names-second.ensures.tracked c.requires.agree c.args.joint.now.names.items c.args.joint.now.alphabet c.requires.names c.requires.sizes).there

pub listed_reader-requires-clause-sizes : goal.listed_reader-requires-clause-sizes
listed_reader-requires-clause-sizes c =
    (reads_first c.args.a.now c.args.b.now c.names-first.ensures.tracked c.names-second.ensures.tracked c.requires.agree c.args.joint.now.names.items c.args.joint.now.alphabet c.requires.names c.requires.sizes).sizes_are

pub listed_reader-requires-2-clause-count : goal.listed_reader-requires-2-clause-count
listed_reader-requires-2-clause-count c =
    (reads_second c.args.a.now c.args.b.now c.names-first.ensures.tracked c.names-second.ensures.tracked c.requires.agree c.args.joint.now.names.items c.args.joint.now.alphabet c.requires.names c.requires.sizes).count

pub listed_reader-requires-2-clause-there : goal.listed_reader-requires-2-clause-there
listed_reader-requires-2-clause-there c =
    (reads_second c.args.a.now c.args.b.now c.names-first.ensures.tracked c.names-second.ensures.tracked c.requires.agree c.args.joint.now.names.items c.args.joint.now.alphabet c.requires.names c.requires.sizes).there

pub listed_reader-requires-2-clause-sizes : goal.listed_reader-requires-2-clause-sizes
listed_reader-requires-2-clause-sizes c =
    (reads_second c.args.a.now c.args.b.now c.names-first.ensures.tracked c.names-second.ensures.tracked c.requires.agree c.args.joint.now.names.items c.args.joint.now.alphabet c.requires.names c.requires.sizes).sizes_are

pub add_track_readers-requires : goal.add_track_readers-requires
add_track_readers-requires c = subst (λ ss. AllFitTracks ss (map rc_value c.args.languages.now)) (sym c.requires.sizes) c.requires.languages

pub returns : goal.returns
returns c =
    let joint = c.args.joint.now in
    let first = c.in_ok-listed_reader.field-0 in
    let second = c.in_ok-listed_reader-2.field-0 in
    product_readings-made c.args.a.now c.args.b.now (map rc_value c.args.languages.now) first second c.push-2.new.self.items _
    joint.names.items joint.names.items joint.alphabet c.requires.names c.requires.names c.requires.sizes c.in_ok-listed_reader.ensures c.in_ok-listed_reader-2.ensures
    (c.in_ok-push-2.ensures.items ∙ ap (λ rs. rs ++ second ∷ []) (c.in_ok-push.ensures.items ∙ ap (λ rs. rs ++ first ∷ []) c.new-readers.ensures.items))
    c.in_ok-add_track_readers.ensures
