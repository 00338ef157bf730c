-- Relations with their tracks in byte order of names.
use Rattle.std.proofs.Common.{◌≡◌, ℕ, List, [], inl, inr, get_or, refl, sym, ap, ◌∙◌, subst, arith}
use Rattle.digit_tuple.specs.Deterministic.{Automaton, accepts_of}
use Rattle.digit_tuple.specs.Letters.{product, IsWord}
use Rattle.digit_tuple.specs.Names.{AreDistinct, joint_names, with_names}
use Rattle.digit_tuple.proofs.JointNames.{AreJoint-joint_names}
use Rattle.digit_tuple.proofs.NameLemmas.{place_of-is}
use Rattle.minimise.specs.Canonical.{IsCanonical}
use Rattle.minimise.specs.Tracked.{NamedAutomaton}
use Rattle.product_op.proofs.SizeLemmas.{AreDistinct-ordered}
use Rattle.pad_rename.specs.Substitution.{sizes_under, word_under}
use Rattle.num_system.specs.Sealed.{SystemValue}
use Rattle.num_system.specs.Tracks.{absent_system, AgreeUnder, systems_under}
use Rattle.number_relations.specs.Relations.{RelationValue, IsRelation, named_of, relation_over}
use Rattle.number_relations.specs.Placed.{IsOrdered}
use Rattle.number_relations.proofs.PlacedLemmas.{AreTheNames, placed_as}

pub ordered_names : (names : List (List ℕ)) → AreTheNames names (joint_names names [])
ordered_names names =
    let joint = AreJoint-joint_names names [] in
    record {
      distinct = AreDistinct-ordered (joint_names names []) joint.ordered;
      there = joint.all_first;
      no_others = λ i d within. elim (joint.no_others i d within) [
        | inl there ↦ there
        | inr none ↦ absurd (omega (arith, none.1))
      ];
    }

-- distinct names have one system each
pub distinct_agree : (names : List (List ℕ)) (systems : List SystemValue) → AreDistinct names → AgreeUnder names systems
distinct_agree names systems distinct i j within inside same =
    ap (λ (k : ℕ). get_or systems k absent_system) (sym (place_of-is names (get_or names i []) i distinct within refl) ∙ place_of-is names (get_or names i []) j distinct inside (sym same))

-- the table accepts the words that are read in those over the names in order
abbrev Says : NamedAutomaton → Automaton → List (List ℕ) → Type 0
Says t d names = (w : List ℕ) → IsWord (product (sizes_under d.sizes names (with_names [] names))) w → accepts_of t.automaton w ≡ accepts_of d (word_under d.sizes names (with_names [] names) w)

-- the renamed table, and the systems of its names
pub ordered_made : (r : RelationValue) (names : List (List ℕ)) (a t : NamedAutomaton) (kept : List SystemValue) → IsRelation r → names ≡ r.names → a ≡ named_of r
    → t.names ≡ with_names [] names → t.automaton.sizes ≡ sizes_under a.automaton.sizes names (with_names [] names) → IsCanonical t.automaton
    → ((w : List ℕ) → IsWord (product (sizes_under a.automaton.sizes names (with_names [] names))) w → accepts_of t.automaton w ≡ accepts_of a.automaton (word_under a.automaton.sizes names (with_names [] names) w))
    → kept ≡ systems_under names r.systems t.names → IsOrdered r (relation_over t kept)
ordered_made r names a t kept is named of same sizes canonical language kept_is =
    placed_as r.automaton r.systems r.names (joint_names r.names []) t kept (ordered_names r.names) (sym is.count) (distinct_agree r.names r.systems is.tracked.distinct) is.shared_direction is.sealed is.closed
    (same ∙ ap (with_names []) named)
    (subst (λ (ns : List (List ℕ)). t.automaton.sizes ≡ sizes_under r.automaton.sizes ns (with_names [] ns)) named
    (subst (λ (b : NamedAutomaton). t.automaton.sizes ≡ sizes_under b.automaton.sizes names (with_names [] names)) of sizes))
    canonical
    (subst (λ (ns : List (List ℕ)). Says t r.automaton ns) named
    (subst (λ (b : NamedAutomaton). Says t b.automaton names) of language))
    (kept_is ∙ ap (systems_under names r.systems) (same ∙ ap (with_names []) named) ∙ ap (λ (ns : List (List ℕ)). systems_under ns r.systems (joint_names r.names [])) named)
