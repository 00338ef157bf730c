-- There is one text of lines, or none within the bounds.
use Rattle.std.proofs.Common.{◌≡◌, ℕ, ◌+◌, ◌<◌, ◌≤◌, Bool, List, ◌++◌, length, min, take, drop, get_or, Option, ◌⊎◌, inl, inr, sym, ap, ◌∙◌, subst, arith, ℤ, IsTrue}
use Rattle.std.specs.List.{All, Contains}
use Rattle.std.proofs.lemmas.Bool.{cases_lt}
use Rattle.std.proofs.lemmas.List.{length-append, length-take, take-append-drop, get_or-take, get_or_default}
use Rattle.std.proofs.lemmas.List.Concat.{flat_map-append}
use Rattle.std.proofs.lemmas.List.Elements.{All-take}
use Rattle.digit_tuple.specs.Shortlex.{IsBefore, AreInOrder}
use Rattle.word_walk.specs.Following.{IsAfter, AreNext}
use Rattle.word_walk.proofs.FollowingLemmas.{next_words_are_one}
use Rattle.listings.specs.declared.listed_lines.Bounds.{Bounds}
use Rattle.listings.specs.WordLines.{word_line, word_lines}
use Rattle.listings.specs.Listings.{AreLinesWithin, ListingsAreOne, PassBound}

module _ (lists : List ℕ → Bool) (place : Option (List ℕ)) (count : ℕ) (words : List (List ℕ)) (are : AreNext lists place count words) (k : ℕ) (few : k ≤ count) where
  length_few : length (take k words) ≡ min k (length words)
  length_few = length-take k words

  prefix_in_order : AreInOrder (take k words)
  prefix_in_order i j z before within =
      let inside : j < k = omega (arith, length_few, within) in
      let early : i < k = omega arith in
      let first : get_or (take k words) i z ≡ get_or words i z = get_or-take k words i z early in
      let second : get_or (take k words) j z ≡ get_or words j z = get_or-take k words j z inside in
      let P : List ℕ → Type 0 = λ w. IsBefore w (get_or (take k words) j z) in
      let Q : List ℕ → Type 0 = λ w. IsBefore (get_or words i z) w in
      subst P (sym first) (subst Q (sym second) (are.in_order i j z before (omega (arith, length_few, within))))

  -- a word that is past the first so many
  past_few : (v : List ℕ) (i : ℕ) → k ≤ i → i < length words → get_or words i v ≡ v → All (λ w. IsBefore w v) (take k words)
  past_few v i late inside same j z within =
      let P : List ℕ → Type 0 = λ w. IsBefore w v in
      let Q : List ℕ → Type 0 = λ w. IsBefore (get_or words j v) w in
      let early : j < k = omega (arith, length_few, within) in
      let there : j < length (take k words) = within in
      let other : get_or (take k words) j z ≡ get_or words j z = get_or-take k words j z early in
      let default : get_or words j z ≡ get_or words j v = get_or_default words j z v (omega arith) in
      subst P (sym (other ∙ default)) (subst Q same (are.in_order j i v (omega arith) inside))

  prefix_whole : (v : List ℕ) → IsTrue (lists v) → IsAfter place v → Contains (take k words) v ⊎ ((length (take k words) ≡ k) × All (λ w. IsBefore w v) (take k words))
  prefix_whole v listed after = by (are.whole v listed after)
    where
      found : (i : ℕ) → i < length words → get_or words i v ≡ v → (i < k) ⊎ (k ≤ i) → Contains (take k words) v ⊎ ((length (take k words) ≡ k) × All (λ w. IsBefore w v) (take k words))
      found i inside same (inl early) = inl (i, omega (arith, length_few), get_or-take k words i v early ∙ same)
      found i inside same (inr late) = inr (omega (arith, length_few), past_few v i late inside same)

      by : Contains words v ⊎ ((length words ≡ count) × All (λ w. IsBefore w v) words) → Contains (take k words) v ⊎ ((length (take k words) ≡ k) × All (λ w. IsBefore w v) (take k words))
      by (inl there) = found there.0 there.1 there.2 (cases_lt there.0 k)
      by (inr past) = inr (omega (arith, length_few, past.0), All-take (λ w. IsBefore w v) k words past.1)

  -- the first words, as far as so many
  prefix_next : AreNext lists place k (take k words)
  prefix_next = record {
    in_order = prefix_in_order;
    listed = All-take (λ w. IsTrue (lists w)) k words are.listed;
    after = All-take (IsAfter place) k words are.after;
    few = omega (arith, length_few);
    whole = prefix_whole;
  }

-- the lines of the first words are no longer
prefix_shorter : (sets : List (List ℤ)) (words : List (List ℕ)) (k : ℕ) → length (word_lines sets (take k words)) ≤ length (word_lines sets words)
prefix_shorter sets words k =
    let whole : word_lines sets words ≡ word_lines sets (take k words) ++ word_lines sets (drop k words) = ap (word_lines sets) (sym (take-append-drop k words)) ∙ flat_map-append (word_line sets) (take k words) (drop k words) in
    omega (arith, ap length whole, length-append (word_lines sets (take k words)) (word_lines sets (drop k words)))

module _ (lists : List ℕ → Bool) (sets : List (List ℤ)) (place : Option (List ℕ)) (bounds : Bounds) (text : List ℕ) (are : AreLinesWithin lists sets place bounds text) where
  not_long : ¬ PassBound lists sets place bounds
  not_long past =
      let words = are.lines.words in
      let same : take past.count words ≡ past.lines.words = next_words_are_one lists place past.count (take past.count words) past.lines.words (prefix_next lists place bounds.words words are.lines.next past.count past.within) past.lines.next in
      let length_is : length past.text ≡ length (word_lines sets (take past.count words)) = ap length (past.lines.text_is ∙ ap (word_lines sets) (sym same)) in
      let whole_is : length text ≡ length (word_lines sets words) = ap length are.lines.text_is in
      omega (arith, past.long, are.few, length_is, whole_is, prefix_shorter sets words past.count)

  one_text : (other : List ℕ) → AreLinesWithin lists sets place bounds other → text ≡ other
  one_text other there =
      let same : are.lines.words ≡ there.lines.words = next_words_are_one lists place bounds.words are.lines.words there.lines.words are.lines.next there.lines.next in
      are.lines.text_is ∙ ap (word_lines sets) same ∙ sym there.lines.text_is

pub listings_are_one : ListingsAreOne
listings_are_one lists sets place bounds text are = (not_long lists sets place bounds text are, one_text lists sets place bounds text are)
