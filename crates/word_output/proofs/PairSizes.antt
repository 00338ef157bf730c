-- The sizes of the tracks of a pair, and what the automaton of the pair is.
use Rattle.std.proofs.Common.{◌≡◌, ◌↔◌, inl, inr, ◌+◌, ◌-◌, ◌<◌, ◌≤◌, ℕ, ℤ, List, [], ◌++◌, length, map, get_or, Some, IsTrue, refl, sym, ap, ◌∙◌, subst, arith}
use Rattle.std.specs.List.{All, Contains}
use Rattle.std.proofs.lemmas.Bool.{cases_lt}
use Rattle.std.proofs.lemmas.List.{ext_get_or, get_or-append_right, get_or-map, get_or_append_left, length-append, length-map}
use Rattle.std.proofs.lemmas.Simd.{map-map}
use Rattle.digit_tuple.specs.Deterministic.{Automaton, accepts_of, letters_of, states_of}
use Rattle.digit_tuple.specs.Letters.{IsWord, product}
use Rattle.digit_tuple.specs.Names.{place_of, places_of}
use Rattle.digit_tuple.specs.Parts.{picked}
use Rattle.digit_tuple.specs.Width.{HasApart, HasWidth}
use Rattle.digit_tuple.proofs.JointNames.{AreJoint-joint_names}
use Rattle.digit_tuple.proofs.LetterLemmas.{IsWord-append}
use Rattle.digit_tuple.proofs.NameLemmas.{place_of-at, place_of-contained}
use Rattle.digit_tuple.proofs.WidthLemmas.{HasApart-same, HasApart-within, HasWidth-same}
use Rattle.digit_tuple.proofs.TruthLemmas.{same_tests}
use Rattle.minimise.specs.Canonical.{IsCanonical}
use Rattle.minimise.proofs.ApartLemmas.{canonical_apart}
use Rattle.num_system.specs.declared.comparison.Comparison.{Comparison}
use Rattle.num_system.proofs.UnderNames.{place_left, place_right}
use Rattle.product_op.proofs.SizeLemmas.{contained_from_place}
use Rattle.word_output.specs.KeyLetters.{BothAlike, BothCompare}
use Rattle.word_output.specs.LetterFunctions.{LetterFunctionValue, letter_after}
use Rattle.word_output.specs.LetterSets.{ComparesLetters}
use Rattle.word_output.specs.WordPairs.{IsPair, MayPair, PairAlike, PlacedLetters, letter_read, pair_names, pair_sizes}
use Rattle.word_output.proofs.StepOutcomes.{pair_alike}

-- the size of the first track of a name, of tracks that have names and sizes: that among the first of them, or else that among the others
module _ (under others : List (List ℕ)) (xs ys : List ℕ) (count : length under ≡ length xs) (name : List ℕ) where
  pub size_first : Contains under name → get_or (xs ++ ys) (place_of (under ++ others) name) 0 ≡ get_or xs (place_of under name) 0
  size_first found =
      let spot = place_of-contained under name found in
      ap (λ p. get_or (xs ++ ys) p 0) (place_left under others name spot.0) ∙ get_or_append_left xs ys 0 (place_of under name) (omega (arith, spot.0, count))

  past : ¬ Contains under name → length under ≤ place_of under name
  past missing = elim (cases_lt (place_of under name) (length under)) [
    | inl less ↦ absurd (missing (contained_from_place under name less))
    | inr more ↦ more
  ]

  pub size_second : ¬ Contains under name → get_or (xs ++ ys) (place_of (under ++ others) name) 0 ≡ get_or ys (place_of others name) 0
  size_second missing =
      ap (λ p. get_or (xs ++ ys) p 0) (place_right under others name (past missing))
      ∙ get_or-append_right xs ys (length under) (length under + place_of others name) 0 (sym count) (omega arith)
      ∙ ap (λ p. get_or ys p 0) (let same : (length under + place_of others name) - length under ≡ place_of others name = omega arith in same)

-- a name that is among some has the size of the first track of its name
size_again : (all some : List (List ℕ)) (sizes : List ℕ) (name : List ℕ) → Contains some name → get_or (picked (places_of all some) sizes) (place_of some name) 0 ≡ get_or sizes (place_of all name) 0
size_again all some sizes name found =
    let spot = place_of-contained some name found in
    get_or-map (λ place. get_or sizes place 0) (places_of all some) (place_of some name) 0 0 (omega (arith, spot.0, length-map some (place_of all)))
    ∙ ap (λ place. get_or sizes place 0) (get_or-map (place_of all) some (place_of some name) [] 0 spot.0)
    ∙ ap (λ n. get_or sizes (place_of all n) 0) spot.1

-- so tracks have their sizes again under their names
sizes_again : (all some : List (List ℕ)) (sizes own : List ℕ) (first : List (List ℕ)) → length first ≡ length own → All (Contains some) first
    → ((i : ℕ) → i < length first → get_or sizes (place_of all (get_or first i [])) 0 ≡ get_or own i 0) → picked (places_of some first) (picked (places_of all some) sizes) ≡ own
sizes_again all some sizes own first count there same =
    ext_get_or 0 (picked (places_of some first) joint) own (long ∙ count)
    (λ i within.
    let inside : i < length first = omega (arith, within, long) in
    get_or-map (λ place. get_or joint place 0) (places_of some first) i 0 0 (omega (arith, inside, length-map first (place_of some)))
    ∙ ap (λ place. get_or joint place 0) (get_or-map (place_of some) first i [] 0 inside)
    ∙ size_again all some sizes (get_or first i []) (there i [] inside)
    ∙ same i inside)
  where
    joint : List ℕ
    joint = picked (places_of all some) sizes

    long : length (picked (places_of some first) joint) ≡ length first
    long = length-map (places_of some first) (λ place. get_or joint place 0) ∙ length-map first (place_of some)

-- the sizes of the pair, name by name
pub joint_sizes_are : (a b : PlacedLetters) (names : List (List ℕ)) (own : List ℕ) → names ≡ pair_names a b
    → own ≡ map (λ name. get_or (a.function.automaton.sizes ++ b.function.automaton.sizes) (place_of (a.under ++ b.under) name) 0) names → own ≡ pair_sizes a b
joint_sizes_are a b names own same are =
    are
    ∙ sym (map-map (λ place. get_or (a.function.automaton.sizes ++ b.function.automaton.sizes) place 0) (place_of (a.under ++ b.under)) names)
    ∙ ap (λ (ns : List (List ℕ)). picked (places_of (a.under ++ b.under) ns) (a.function.automaton.sizes ++ b.function.automaton.sizes)) same

module _ (a b : PlacedLetters) (may : MayPair a b) where
  abbrev all : List (List ℕ)
  all = a.under ++ b.under

  abbrev sizes : List ℕ
  sizes = a.function.automaton.sizes ++ b.function.automaton.sizes

  own_first : (i : ℕ) → i < length a.under → get_or sizes (place_of all (get_or a.under i [])) 0 ≡ get_or a.function.automaton.sizes i 0
  own_first i within =
      let inside : i < length all = omega (arith, within, length-append a.under b.under) in
      let at : get_or all i [] ≡ get_or a.under i [] = get_or_append_left a.under b.under [] i within in
      let spot = place_of-at all (get_or a.under i []) i inside at in
      may.agree (place_of all (get_or a.under i [])) i spot.0 inside (spot.1 ∙ sym at)
      ∙ get_or_append_left a.function.automaton.sizes b.function.automaton.sizes 0 i (omega (arith, within, may.first_names))

  own_second : (i : ℕ) → i < length b.under → get_or sizes (place_of all (get_or b.under i [])) 0 ≡ get_or b.function.automaton.sizes i 0
  own_second i within =
      let j : ℕ = length a.under + i in
      let back : j - length a.under ≡ i = omega arith in
      let inside : j < length all = omega (arith, within, length-append a.under b.under) in
      let at : get_or all j [] ≡ get_or b.under i [] = get_or-append_right a.under b.under (length a.under) j [] refl (omega arith) ∙ ap (λ p. get_or b.under p []) back in
      let spot = place_of-at all (get_or b.under i []) j inside at in
      may.agree (place_of all (get_or b.under i [])) j spot.0 inside (spot.1 ∙ sym at)
      ∙ get_or-append_right a.function.automaton.sizes b.function.automaton.sizes (length a.under) j 0 (sym may.first_names) (omega arith)
      ∙ ap (λ p. get_or b.function.automaton.sizes p 0) back

  -- each function's tracks have their sizes among those of the pair
  pub fit_first : picked (places_of (pair_names a b) a.under) (pair_sizes a b) ≡ a.function.automaton.sizes
  fit_first = sizes_again all (pair_names a b) sizes a.function.automaton.sizes a.under may.first_names (AreJoint-joint_names a.under b.under).all_first own_first

  pub fit_second : picked (places_of (pair_names a b) b.under) (pair_sizes a b) ≡ b.function.automaton.sizes
  fit_second = sizes_again all (pair_names a b) sizes b.function.automaton.sizes b.under may.second_names (AreJoint-joint_names a.under b.under).all_second own_second

-- what is read over the joint tracks
pub reads_over : (a b p : PlacedLetters) (f : LetterFunctionValue) (names : List (List ℕ)) (own : List ℕ) → names ≡ pair_names a b → own ≡ pair_sizes a b
    → ((w : List ℕ) → IsWord (product own) w → letter_after f w ≡ letter_read names own p w)
    → (w : List ℕ) → IsWord (product (pair_sizes a b)) w → letter_after f w ≡ letter_read (pair_names a b) (pair_sizes a b) p w
reads_over a b p f names own names_are sizes_are reads =
    subst (λ (ns : List (List ℕ)). (w : List ℕ) → IsWord (product (pair_sizes a b)) w → letter_after f w ≡ letter_read ns (pair_sizes a b) p w) names_are
    (subst (λ (ss : List ℕ). (w : List ℕ) → IsWord (product ss) w → letter_after f w ≡ letter_read names ss p w) sizes_are reads)

-- functions over the joint tracks that read what both functions read make the pair
module _ (a b : PlacedLetters) (f g : LetterFunctionValue) (f_sizes : f.automaton.sizes ≡ pair_sizes a b) (g_sizes : g.automaton.sizes ≡ pair_sizes a b)
    (reads_f : (w : List ℕ) → IsWord (product (pair_sizes a b)) w → letter_after f w ≡ letter_read (pair_names a b) (pair_sizes a b) a w)
    (reads_g : (w : List ℕ) → IsWord (product (pair_sizes a b)) w → letter_after g w ≡ letter_read (pair_names a b) (pair_sizes a b) b w) where
  abbrev letters : ℕ
  letters = product (pair_sizes a b)

  over_own : (h : LetterFunctionValue) (w : List ℕ) → h.automaton.sizes ≡ pair_sizes a b → IsWord letters w → IsWord (letters_of h.automaton) w
  over_own h w same over = subst (λ (ns : List ℕ). IsWord (product ns) w) (sym same) over

  over_joint : (h : LetterFunctionValue) (w : List ℕ) → h.automaton.sizes ≡ pair_sizes a b → IsWord (letters_of h.automaton) w → IsWord letters w
  over_joint h w same over = subst (λ (ns : List ℕ). IsWord (product ns) w) same over

  alike_read : (w v : List ℕ) → IsWord letters w → IsWord letters v → BothAlike f g w v → PairAlike a b w v
  alike_read w v over there alike = record {
    first = λ u inside. sym (reads_f (w ++ u) (IsWord-append letters w u over inside)) ∙ alike.first u (over_own f u f_sizes inside) ∙ reads_f (v ++ u) (IsWord-append letters v u there inside);
    second = λ u inside. sym (reads_g (w ++ u) (IsWord-append letters w u over inside)) ∙ alike.second u (over_own g u g_sizes inside) ∙ reads_g (v ++ u) (IsWord-append letters v u there inside);
  }

  read_alike : (w v : List ℕ) → IsWord letters w → IsWord letters v → PairAlike a b w v → BothAlike f g w v
  read_alike w v over there alike = record {
    first = λ u inside.
        let more = over_joint f u f_sizes inside in
        reads_f (w ++ u) (IsWord-append letters w u over more) ∙ alike.first u more ∙ sym (reads_f (v ++ u) (IsWord-append letters v u there more));
    second = λ u inside.
        let more = over_joint g u g_sizes inside in
        reads_g (w ++ u) (IsWord-append letters w u over more) ∙ alike.second u more ∙ sym (reads_g (v ++ u) (IsWord-append letters v u there more));
  }

  pub pair_width : (k : ℕ) → HasWidth (BothAlike f g) (letters_of f.automaton) k → HasWidth (PairAlike a b) letters k
  pair_width k width =
      HasWidth-same (BothAlike f g) (PairAlike a b) letters k alike_read read_alike (subst (λ (ns : List ℕ). HasWidth (BothAlike f g) (product ns) k) f_sizes width)

  pub pair_apart : (k : ℕ) → HasApart (BothAlike f g) (letters_of f.automaton) k → HasApart (PairAlike a b) letters k
  pair_apart k apart =
      HasApart-same (BothAlike f g) (PairAlike a b) letters k read_alike (subst (λ (ns : List ℕ). HasApart (BothAlike f g) (product ns) k) f_sizes apart)

  module _ (comparison : Comparison) (e : Automaton) (e_sizes : e.sizes ≡ f.automaton.sizes) (canonical : IsCanonical e)
      (says : (w : List ℕ) → IsWord (letters_of f.automaton) w → IsTrue (accepts_of e w) ↔ BothCompare comparison (letter_after f w) (letter_after g w)) where
    abbrev Reads : List ℕ → Type 0
    Reads w = (x : ℤ) × (y : ℤ) × (letter_read (pair_names a b) (pair_sizes a b) a w ≡ Some x) × (letter_read (pair_names a b) (pair_sizes a b) b w ≡ Some y) × ComparesLetters comparison x y

    reads : (w : List ℕ) → IsWord letters w → IsTrue (accepts_of e w) ↔ Reads w
    reads w over =
        let fact = says w (over_own f w f_sizes over) in (
          (λ yes. let has = fact.0 yes in (has.0, has.1, sym (reads_f w over) ∙ has.2, sym (reads_g w over) ∙ has.3, has.4)),
          (λ has. fact.1 (has.0, has.1, reads_f w over ∙ has.2, reads_g w over ∙ has.3, has.4)),
        )

    pub pair_is : IsPair comparison a b (record { names = pair_names a b; automaton = e })
    pair_is = record { names = refl; sizes = e_sizes ∙ f_sizes; canonical = canonical; language = reads }

    kept : (w v u : List ℕ) → IsWord letters w → IsWord letters v → IsWord letters u → PairAlike a b w v → accepts_of e (w ++ u) ≡ accepts_of e (v ++ u)
    kept w v u over there inside alike =
        let first = reads (w ++ u) (IsWord-append letters w u over inside) in
        let second = reads (v ++ u) (IsWord-append letters v u there inside) in
        same_tests (accepts_of e (w ++ u)) (accepts_of e (v ++ u)) (
          (λ yes. let has = first.0 yes in second.1 (has.0, has.1, sym (alike.first u inside) ∙ has.2, sym (alike.second u inside) ∙ has.3, has.4)),
          (λ yes. let has = second.0 yes in first.1 (has.0, has.1, alike.first u inside ∙ has.2, alike.second u inside ∙ has.3, has.4)),
        )

    pub pair_small : (width : ℕ) → HasWidth (PairAlike a b) letters width → states_of e ≤ width
    pair_small width counted =
        let same : letters ≡ letters_of e = ap product (sym (e_sizes ∙ f_sizes)) in
        let apart : HasApart (PairAlike a b) (letters_of e) (states_of e) = canonical_apart e canonical (PairAlike a b) (subst (λ n. AreKeptOver n) same kept) in
        HasApart-within (PairAlike a b) letters (pair_alike a b) (states_of e) width (subst (λ n. HasApart (PairAlike a b) n (states_of e)) (sym same) apart) counted
      where
        AreKeptOver : ℕ → Type 0
        AreKeptOver n = (w v u : List ℕ) → IsWord n w → IsWord n v → IsWord n u → PairAlike a b w v → accepts_of e (w ++ u) ≡ accepts_of e (v ++ u)
