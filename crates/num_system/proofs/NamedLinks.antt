-- Products of automata with named tracks hold of the joined relation.
use Rattle.std.proofs.Common.{◌≡◌, ℕ, ◌<◌, Bool, true, false, ◌&&◌, List, [], get_or, length, ◌⊎◌, inl, inr, refl, ap, sym, ◌∙◌, subst, arith, IsTrue, if◌then◌else◌}
use Rattle.std.specs.List.{All, Contains}
use Rattle.std.proofs.lemmas.Bool.{and_parts}
use Rattle.std.proofs.lemmas.List.{length-map, get_or-map}
use Rattle.std.proofs.lemmas.List.Elements.{All-contains}
use Rattle.std.proofs.Math.Bool.{and-true}
use Rattle.digit_tuple.specs.Letters.{product, IsWord}
use Rattle.digit_tuple.specs.Names.{place_of, places_of, joint_names, AreDistinct, AreJoint}
use Rattle.digit_tuple.specs.Parts.{part}
use Rattle.digit_tuple.specs.Paddings.{in_order}
use Rattle.digit_tuple.specs.Deterministic.{Automaton, accepts_of}
use Rattle.digit_tuple.specs.declared.direction.Direction.{Direction}
use Rattle.digit_tuple.proofs.NameLemmas.{place_of-is, places_of-within}
use Rattle.digit_tuple.proofs.JointNames.{AreJoint-joint_names}
use Rattle.minimise.specs.Tracked.{NamedAutomaton}
use Rattle.product_op.specs.declared.op.Op.{Op}
use Rattle.product_op.specs.declared.op.Op.TheVariants.{And, AndNot, Or, Xor, Implies, Iff}
use Rattle.product_op.specs.Connectives.{connective, among_valid}
use Rattle.product_op.specs.Tracks.{joint_sizes}
use Rattle.product_op.specs.Validity.{is_valid}
use Rattle.product_op.specs.Products.{in_product}
use Rattle.product_op.proofs.SizeLemmas.{AreDistinct-ordered}
use Rattle.numeration.specs.Systems.{System}
use Rattle.numeration.specs.Representation.{sizes_of, letters_in}
use Rattle.numeration.specs.Relations.{HoldsOf}
use Rattle.numeration.specs.SomeTracks.{system_at, systems_at}
use Rattle.num_system.specs.Joined.{joined, IsBound, AreLanguagesOf}
use Rattle.numeration.proofs.TrackLemmas.{track}
use Rattle.numeration.proofs.PartRepresentation.{AreValid}
use Rattle.num_system.proofs.ValidWords.{valid_from, valid_to}
use Rattle.num_system.proofs.ProductLinks.{product_holds}
use Rattle.numeration.proofs.ReadingLinks.{valid_read}

-- the place of a name that is among some is among their places
pub place_among : (names some : List (List ℕ)) (i : ℕ) → AreDistinct names → i < length names → Contains some (get_or names i []) → Contains (places_of names some) i
place_among names some i apart within found = (
  found.0,
  omega (arith, found.1, length-map some (place_of names)),
  get_or-map (place_of names) some found.0 (get_or names i []) i found.1
      ∙ ap (place_of names) found.2
      ∙ place_of-is names (get_or names i []) i apart within refl,
)

-- what `and` and `and not` say of the first, and `and` of the second
and_first : (b c : Bool) → connective And b c ≡ true → b ≡ true
and_first true c says = refl
and_first false true says = says
and_first false false says = says

and_second : (b c : Bool) → connective And b c ≡ true → c ≡ true
and_second b true says = refl
and_second true false says = says
and_second false false says = says

and_not_first : (b c : Bool) → connective AndNot b c ≡ true → b ≡ true
and_not_first true c says = refl
and_not_first false true says = says
and_not_first false false says = says

-- two automata with named tracks that hold of relations, and systems for the tracks of both
module _ (direction : Direction) (ss : List System) (a b : NamedAutomaton) (P Q : List ℕ → Type 0)
    (count : length ss ≡ length (joint_names a.names b.names)) (sizes : joint_sizes a b ≡ sizes_of ss)
    (holds_a : HoldsOf direction (systems_at (places_of (joint_names a.names b.names) a.names) ss) P a.automaton)
    (holds_b : HoldsOf direction (systems_at (places_of (joint_names a.names b.names) b.names) ss) Q b.automaton) where
  abbrev joint : List (List ℕ)
  joint = joint_names a.names b.names

  are_joint : AreJoint a.names b.names joint
  are_joint = AreJoint-joint_names a.names b.names

  distinct : AreDistinct joint
  distinct = AreDistinct-ordered joint are_joint.ordered

  abbrev firsts : List ℕ
  firsts = places_of joint a.names

  abbrev seconds : List ℕ
  seconds = places_of joint b.names

  within_first : All (λ place. place < length ss) firsts
  within_first = subst (λ n. All (λ place. place < n) firsts) (sym count) (places_of-within joint a.names are_joint.all_first)

  within_second : All (λ place. place < length ss) seconds
  within_second = subst (λ n. All (λ place. place < n) seconds) (sym count) (places_of-within joint b.names are_joint.all_second)

  -- each track is one of the first's or of the second's
  either : (i : ℕ) → i < length ss → Contains firsts i ⊎ Contains seconds i
  either i within =
      let inside : i < length joint = omega (arith, within, count) in
      elim (are_joint.no_others i [] inside) [
        | inl found ↦ inl (place_among joint a.names i distinct inside found)
        | inr found ↦ inr (place_among joint b.names i distinct inside found)
      ]

  -- of the first's, where the second has none of its own
  only_first : All (Contains a.names) b.names → (i : ℕ) → i < length ss → Contains firsts i
  only_first bound i within =
      let inside : i < length joint = omega (arith, within, count) in
      elim (are_joint.no_others i [] inside) [
        | inl found ↦ place_among joint a.names i distinct inside found
        | inr found ↦ place_among joint a.names i distinct inside (All-contains (Contains a.names) b.names (get_or joint i []) bound found)
      ]

  abbrev says_first : List ℕ → Bool
  says_first w = accepts_of a.automaton (part (sizes_of ss) firsts w)

  abbrev says_second : List ℕ → Bool
  says_second w = accepts_of b.automaton (part (sizes_of ss) seconds w)

  -- the product in terms of the systems' sizes
  abbrev product_says : Op → List Automaton → List ℕ → Bool
  product_says op languages w = connective op (says_first w) (says_second w) && (if among_valid op then is_valid (sizes_of ss) languages w else true)

  product_is : (op : Op) (languages : List Automaton) (w : List ℕ) → in_product op a b languages w ≡ product_says op languages w
  product_is op languages w =
      ap (λ (ns : List ℕ). connective op (accepts_of a.automaton (part ns firsts w)) (accepts_of b.automaton (part ns seconds w)) && (if among_valid op then is_valid ns languages w else true)) sizes

  module _ (languages : List Automaton) (w : List ℕ) (over : IsWord (letters_in ss) w) where
    first_valid : says_first w ≡ true → (i : ℕ) → Contains firsts i → IsTrue ((system_at ss i).test (track ss i (in_order direction w)))
    first_valid accepted = valid_read direction ss firsts within_first P a.automaton holds_a w over accepted

    second_valid : says_second w ≡ true → (i : ℕ) → Contains seconds i → IsTrue ((system_at ss i).test (track ss i (in_order direction w)))
    second_valid accepted = valid_read direction ss seconds within_second Q b.automaton holds_b w over accepted

    by_languages : (op : Op) → AreLanguagesOf direction ss languages → connective op (says_first w) (says_second w) && is_valid (sizes_of ss) languages w ≡ true → AreValid ss (in_order direction w)
    by_languages op are accepted = valid_from direction ss languages are w (and_parts (connective op (says_first w) (says_second w)) (is_valid (sizes_of ss) languages w) accepted).1

    -- each word of the product is valid
    product_valid : (op : Op) → IsBound op a.names b.names → (IsTrue (among_valid op) → AreLanguagesOf direction ss languages) → product_says op languages w ≡ true → AreValid ss (in_order direction w)
    product_valid And bound among accepted i within =
        let both = (and_parts (connective And (says_first w) (says_second w)) true accepted).0 in
        elim (either i within) [
          | inl found ↦ first_valid (and_first (says_first w) (says_second w) both) i found
          | inr found ↦ second_valid (and_second (says_first w) (says_second w) both) i found
        ]
    product_valid AndNot bound among accepted i within =
        let both = (and_parts (connective AndNot (says_first w) (says_second w)) true accepted).0 in
        first_valid (and_not_first (says_first w) (says_second w) both) i (only_first bound i within)
    product_valid Or bound among accepted i within = by_languages Or (among refl) accepted i within
    product_valid Xor bound among accepted i within = by_languages Xor (among refl) accepted i within
    product_valid Implies bound among accepted i within = by_languages Implies (among refl) accepted i within
    product_valid Iff bound among accepted i within = by_languages Iff (among refl) accepted i within

    valid_counts : (op : Op) → AreLanguagesOf direction ss languages → AreValid ss (in_order direction w) → (connective op (says_first w) (says_second w) && is_valid (sizes_of ss) languages w) ≡ connective op (says_first w) (says_second w)
    valid_counts op are valid =
        ap (λ (b : Bool). connective op (says_first w) (says_second w) && b) (valid_to direction ss languages are w valid)
        ∙ and-true (connective op (says_first w) (says_second w))

    -- and on valid words the product is as the connective says
    product_connects : (op : Op) → (IsTrue (among_valid op) → AreLanguagesOf direction ss languages) → AreValid ss (in_order direction w) → product_says op languages w ≡ connective op (says_first w) (says_second w)
    product_connects And among valid = and-true (connective And (says_first w) (says_second w))
    product_connects AndNot among valid = and-true (connective AndNot (says_first w) (says_second w))
    product_connects Or among valid = valid_counts Or (among refl) valid
    product_connects Xor among valid = valid_counts Xor (among refl) valid
    product_connects Implies among valid = valid_counts Implies (among refl) valid
    product_connects Iff among valid = valid_counts Iff (among refl) valid

  -- so the automaton of the product holds of the joined relation
  pub in_product_holds : (op : Op) (languages : List Automaton) → IsBound op a.names b.names → (IsTrue (among_valid op) → AreLanguagesOf direction ss languages)
      → (c : Automaton) → c.sizes ≡ joint_sizes a b → ((w : List ℕ) → IsWord (product (joint_sizes a b)) w → accepts_of c w ≡ in_product op a b languages w)
      → HoldsOf direction ss (joined op firsts P seconds Q) c
  in_product_holds op languages bound among c same says =
      product_holds direction ss op firsts seconds P Q a.automaton b.automaton c within_first within_second holds_a holds_b (same ∙ sizes)
      (λ w over accepted. product_valid languages w over op bound among (sym (here w over) ∙ accepted))
      (λ w over valid. here w over ∙ product_connects languages w over op among valid)
    where
      here : (w : List ℕ) → IsWord (letters_in ss) w → accepts_of c w ≡ product_says op languages w
      here w over = says w (subst (λ (ns : List ℕ). IsWord (product ns) w) (sym sizes) over) ∙ product_is op languages w
