use Rattle.std.proofs.Common.{◌+◌, ◌∷◌, List, ℕ, length, map, ap, sym, ◌∙◌, subst}
use Rattle.std.specs.Rc.{rc_value}
use Rattle.std.proofs.lemmas.Result.{IfOk-weaker}
use Rattle.digit_tuple.specs.Deterministic.{Automaton, accepts_of}
use Rattle.digit_tuple.specs.Names.{AreDistinct, AreJoint, joint_names}
use Rattle.product_op.specs.Tracks.{joint_sizes}
use Rattle.product_op.specs.Readings.{readings_in, AreCanonical}
use Rattle.product_op.specs.TrackReadings.{AllFitTracks, argument_reading, track_readings}
use Rattle.digit_tuple.proofs.JointNames.{AreJoint-joint_names}
use Rattle.product_op.proofs.SizeLemmas.{AreDistinct-ordered}
use Rattle.product_op.proofs.ProductLemmas.{AllFitTracks-counted, AreSideBySide-product, AreCanonical-product, AreSideBySide-made, length-joint, product-language, product-width, product-apart}
use Rattle.product_op.proofs.product.product.Goals as goal

pub product_readers-requires-clause-languages : goal.product_readers-requires-clause-languages
product_readers-requires-clause-languages c =
    let sizes = joint_sizes c.args.a.now c.args.b.now in
    subst (λ (ls : List Automaton). AllFitTracks sizes ls) (sym c.counted.ensures) (AllFitTracks-counted c.args.op sizes (map rc_value c.args.valid.now) c.requires.languages)

pub tracked_side_by_side-requires-clause-readers : goal.tracked_side_by_side-requires-clause-readers
tracked_side_by_side-requires-clause-readers c =
    let a = c.args.a.now in
    let b = c.args.b.now in
    let languages = map rc_value c.args.valid.now in
    let are = ap readings_in c.deref.ensures.value ∙ c.in_ok-readers.ensures ∙ ap (λ (ls : List Automaton). argument_reading a b a ∷ argument_reading a b b ∷ track_readings (joint_sizes a b) ls) c.counted.ensures in
    AreSideBySide-made c.args.op a b languages (readings_in c.deref.result.now) c.in_ok-joint.joint.alphabet are c.in_ok-joint.ensures.sizes
    (AreSideBySide-product a b c.in_ok-joint.ensures.first c.in_ok-joint.ensures.second c.requires.agree c.args.op languages (AllFitTracks-counted c.args.op (joint_sizes a b) languages c.requires.languages))

pub tracked_side_by_side-requires-clause-canonical : goal.tracked_side_by_side-requires-clause-canonical
tracked_side_by_side-requires-clause-canonical c =
    let a = c.args.a.now in
    let b = c.args.b.now in
    let languages = map rc_value c.args.valid.now in
    let are = ap readings_in c.deref.ensures.value ∙ c.in_ok-readers.ensures ∙ ap (λ (ls : List Automaton). argument_reading a b a ∷ argument_reading a b b ∷ track_readings (joint_sizes a b) ls) c.counted.ensures in
    subst AreCanonical (sym are)
    (AreCanonical-product a b c.in_ok-joint.ensures.first c.in_ok-joint.ensures.second c.requires.agree c.args.op languages (AllFitTracks-counted c.args.op (joint_sizes a b) languages c.requires.languages))

pub tracked_side_by_side-requires-clause-count : goal.tracked_side_by_side-requires-clause-count
tracked_side_by_side-requires-clause-count c =
    ap (λ (ns : List (List ℕ)). length ns) c.in_ok-joint.ensures.names
    ∙ length-joint c.args.a.now c.args.b.now c.in_ok-joint.ensures.first c.in_ok-joint.ensures.second c.requires.agree
    ∙ ap (λ (ss : List ℕ). length ss) (sym c.in_ok-joint.ensures.sizes)

pub tracked_side_by_side-requires-clause-distinct : goal.tracked_side_by_side-requires-clause-distinct
tracked_side_by_side-requires-clause-distinct c =
    let first = c.args.a.now.names in
    let second = c.args.b.now.names in
    subst AreDistinct (sym c.in_ok-joint.ensures.names) (AreDistinct-ordered (joint_names first second) (AreJoint-joint_names first second).ordered)

pub returns-clause-joint : goal.returns-clause-joint
returns-clause-joint c =
    let first = c.args.a.now.names in
    let second = c.args.b.now.names in
    IfOk-weaker c.tracked_side_by_side.result _ _ (λ stepped h. subst (AreJoint first second) (sym (h ∙ c.in_ok-joint.ensures.names)) (AreJoint-joint_names first second)) c.tracked_side_by_side.ensures.names

pub returns-clause-language : goal.returns-clause-language
returns-clause-language c =
    let a = c.args.a.now in
    let b = c.args.b.now in
    let are = ap readings_in c.deref.ensures.value ∙ c.in_ok-readers.ensures ∙ ap (λ (ls : List Automaton). argument_reading a b a ∷ argument_reading a b b ∷ track_readings (joint_sizes a b) ls) c.counted.ensures in
    IfOk-weaker c.tracked_side_by_side.result _ _
    (λ stepped. product-language c.args.op a b (map rc_value c.args.valid.now) (readings_in c.deref.result.now) c.in_ok-joint.joint.alphabet are c.in_ok-joint.ensures.sizes (accepts_of stepped.result.automaton))
    c.tracked_side_by_side.ensures.language

pub returns-clause-width : goal.returns-clause-width
returns-clause-width c =
    let a = c.args.a.now in
    let b = c.args.b.now in
    let are = ap readings_in c.deref.ensures.value ∙ c.in_ok-readers.ensures ∙ ap (λ (ls : List Automaton). argument_reading a b a ∷ argument_reading a b b ∷ track_readings (joint_sizes a b) ls) c.counted.ensures in
    IfOk-weaker c.tracked_side_by_side.result _ _
    (λ stepped. product-width c.args.op a b (map rc_value c.args.valid.now) (readings_in c.deref.result.now) c.in_ok-joint.joint.alphabet are c.in_ok-joint.ensures.sizes stepped.width)
    c.tracked_side_by_side.ensures.width

pub returns-clause-states : goal.returns-clause-states
returns-clause-states c refused =
    let a = c.args.a.now in
    let b = c.args.b.now in
    let are = ap readings_in c.deref.ensures.value ∙ c.in_ok-readers.ensures ∙ ap (λ (ls : List Automaton). argument_reading a b a ∷ argument_reading a b b ∷ track_readings (joint_sizes a b) ls) c.counted.ensures in
    product-apart c.args.op a b (map rc_value c.args.valid.now) (readings_in c.deref.result.now) c.in_ok-joint.joint.alphabet are c.in_ok-joint.ensures.sizes (c.args.limit.most + 1) (c.tracked_side_by_side.ensures.states refused)
