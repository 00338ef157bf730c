-- Where words lead among the keys of letters, and the letters of the places that they represent.
use Rattle.std.proofs.Common.{◌≡◌, ℕ, ◌≤◌, List, [], ◌∷◌, ℤ, pos, Option, Some, refl, sym, ap, ◌∙◌, subst, arith}
use Rattle.std.proofs.lemmas.Option.{same_Some}
use Rattle.digit_tuple.specs.Keys.{LeadAlike, key_run}
use Rattle.digit_tuple.specs.Letters.{IsWord, product}
use Rattle.digit_tuple.specs.Width.{HasApart, HasWidth}
use Rattle.digit_tuple.proofs.WidthLemmas.{HasApart-same, HasWidth-same}
use Rattle.numeration.proofs.RankLemmas.{rank-find}
use Rattle.base_k.specs.Positional.{RankIsPositional, are_digits, value}
use Rattle.base_k.specs.BaseLaws.{base_is_system, digits_over}
use Rattle.morph_words.specs.Rules.{Rules}
use Rattle.morph_words.specs.Uniform.{HasRule}
use Rattle.morph_words.specs.FixedPoint.{IsLetterAt}
use Rattle.morph_words.specs.MorphismKinds.{HasFixedPoint}
use Rattle.fixed_points.specs.LetterGraph.{IsLetterGraph, key_after, key_of, letter_by, letter_of, reached}
use Rattle.fixed_points.specs.LetterGraphLaws.{digit_ruled, zero_ruled}
use Rattle.fixed_points.specs.Promotion.{SamePlaceLetter}
use Rattle.fixed_points.proofs.PowerLemmas.{letter_of_word, one_letter, reached_ruled}

-- each place is the value of a word
pub word_of_place : RankIsPositional → (k place : ℕ) → 2 ≤ k → (w : List ℕ) × IsWord k w × (value k w ≡ place)
word_of_place positional k place some =
    let found = rank-find k (are_digits k) place (base_is_system k some) in
    let over = digits_over k found.0 found.1 in
    (found.0, over, sym (positional k found.0 some over) ∙ found.2)

module _ (rules : Rules) (k : ℕ) (has : HasFixedPoint rules k) where
  -- a letter that occurs at a place is reached by each of its words
  pub reached_at : (w : List ℕ) (place : ℕ) (letter : ℤ) → IsWord k w → value k w ≡ place → IsLetterAt rules place letter → reached rules (pos 0) w ≡ letter
  reached_at w place letter over is at = one_letter rules place (reached rules (pos 0) w) letter (subst (λ n. IsLetterAt rules n (reached rules (pos 0) w)) is (letter_of_word rules k has w over)) at

  -- the fixed point has a letter at each place
  pub some_letter : RankIsPositional → (place : ℕ) → (letter : ℤ) × IsLetterAt rules place letter
  some_letter positional place =
      let found = word_of_place positional k place has.base.0 in
      (reached rules (pos 0) found.0, subst (λ n. IsLetterAt rules n (reached rules (pos 0) found.0)) found.2 (letter_of_word rules k has found.0 found.1))

module _ (rules : Rules) (k : ℕ) (graph : IsLetterGraph rules k) where
  abbrev start : List ℕ
  start = key_of (pos 0)

  abbrev after : List ℕ → ℕ → Option (List ℕ)
  after = key_after rules

  pub ruled : (w : List ℕ) → IsWord k w → HasRule rules (reached rules (pos 0) w)
  ruled w over = reached_ruled rules k graph.has w (pos 0) over (zero_ruled rules k graph.has)

  run_from : (w : List ℕ) (letter : ℤ) → IsWord k w → HasRule rules letter → key_run after (key_of letter) w ≡ Some (key_of (reached rules letter w))
  run_from [] letter over rule = refl
  run_from (digit ∷ w) letter over rule =
      ap (λ b. key_run after (key_of (letter_by rules b digit)) w) (graph.letter_back letter rule)
      ∙ run_from w (letter_by rules letter digit) over.1 (digit_ruled rules k letter digit graph.has rule over.0)

  -- a word leads to the key of the letter that it reaches
  pub run_is : (w : List ℕ) → IsWord k w → key_run after start w ≡ Some (key_of (reached rules (pos 0) w))
  run_is w over = run_from w (pos 0) over (zero_ruled rules k graph.has)

  -- words that lead to one key reach one letter
  reached_one : (w v : List ℕ) → IsWord k w → IsWord k v → LeadAlike after start w v → reached rules (pos 0) w ≡ reached rules (pos 0) v
  reached_one w v over there alike =
      let keys = same_Some (key_of (reached rules (pos 0) w)) (key_of (reached rules (pos 0) v)) (sym (run_is w over) ∙ alike ∙ run_is v there) in
      sym (graph.letter_back (reached rules (pos 0) w) (ruled w over)) ∙ ap letter_of keys ∙ graph.letter_back (reached rules (pos 0) v) (ruled v there)

  carried : (w v : List ℕ) → IsWord k w → IsWord k v → reached rules (pos 0) w ≡ reached rules (pos 0) v → (letter : ℤ) → IsLetterAt rules (value k w) letter → IsLetterAt rules (value k v) letter
  carried w v over there same letter at =
      subst (IsLetterAt rules (value k v)) (sym same ∙ reached_at rules k graph.has w (value k w) letter over refl at) (letter_of_word rules k graph.has v there)

  -- so their places have one
  same_place : (w v : List ℕ) → IsWord k w → IsWord k v → LeadAlike after start w v → SamePlaceLetter rules k w v
  same_place w v over there alike letter =
      let same = reached_one w v over there alike in
      (carried w v over there same letter, carried v w there over (sym same) letter)

  -- and words whose places have one lead to one key
  led_alike : (w v : List ℕ) → IsWord k w → IsWord k v → SamePlaceLetter rules k w v → LeadAlike after start w v
  led_alike w v over there alike =
      let at = (alike (reached rules (pos 0) w)).0 (letter_of_word rules k graph.has w over) in
      let same = reached_at rules k graph.has v (value k v) (reached rules (pos 0) w) there refl at in
      run_is w over ∙ ap (λ b. Some (key_of b)) (sym same) ∙ sym (run_is v there)

  one_track : k ≡ product (k ∷ [])
  one_track = omega arith

  pub place_width : (width : ℕ) → HasWidth (LeadAlike after start) k width → HasWidth (SamePlaceLetter rules k) (product (k ∷ [])) width
  place_width width counted = subst (λ n. HasWidth (SamePlaceLetter rules k) n width) one_track (HasWidth-same (LeadAlike after start) (SamePlaceLetter rules k) k width same_place led_alike counted)

  pub place_apart : (count : ℕ) → HasApart (LeadAlike after start) k count → HasApart (SamePlaceLetter rules k) (product (k ∷ [])) count
  place_apart count apart = subst (λ n. HasApart (SamePlaceLetter rules k) n count) one_track (HasApart-same (LeadAlike after start) (SamePlaceLetter rules k) k count led_alike apart)
