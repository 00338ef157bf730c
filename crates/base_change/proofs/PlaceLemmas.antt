-- Places keep their letters.
use Rattle.std.proofs.Common.{◌≡◌, ℕ, ◌^◌, ◌≤◌, List, ◌++◌, reverse, sym, ap, ◌∙◌, arith}
use Rattle.std.proofs.lemmas.List.{append-nil}
use Rattle.digit_tuple.specs.Letters.{IsWord}
use Rattle.digit_tuple.specs.Paddings.{zeros}
use Rattle.digit_tuple.specs.declared.direction.Direction.TheVariants.{Lsd}
use Rattle.base_k.specs.Positional.{value}
use Rattle.word_output.specs.LetterFunctions.{LetterFunctionValue, letter_after}
use Rattle.base_change.specs.Digits.{expanded, value_lsd}
use Rattle.base_change.specs.Joins.{IsJoin}
use Rattle.base_change.specs.Laws.{JoinsKeepPlaces, SplitsKeepPlaces}
use Rattle.base_change.specs.Places.{HasLettersOfPlaces, IsPlace, KeepsPlaces}
use Rattle.base_change.specs.Splits.{IsSplit}
use Rattle.base_change.proofs.DigitLemmas.{expanded-over, value-expanded, value-padded, value-reverse}
use Rattle.base_change.proofs.GroupLemmas.{padded_word}

module _ (r b : ℕ) (base : 1 ≤ r) where
  -- a word over the power and the word that it is, expanded, have one place
  expanded-place : (v : List ℕ) (n : ℕ) → IsPlace Lsd (r ^ b) n v → IsPlace Lsd r n (expanded r b v)
  expanded-place v n place =
      (expanded-over r b v base, value-reverse r (expanded r b v) ∙ sym (value-expanded r b v base place.0) ∙ sym (value-reverse (r ^ b) v) ∙ place.1)

  -- so have a word and the one over the power that it is with zeros after it
  padded-value : (w v : List ℕ) (more : ℕ) → IsWord (r ^ b) v → expanded r b v ≡ w ++ zeros more → value (r ^ b) (reverse v) ≡ value r (reverse w)
  padded-value w v more over padded =
      value-reverse (r ^ b) v ∙ value-expanded r b v base over ∙ ap (value_lsd r) padded ∙ value-padded r more w ∙ sym (value-reverse r w)

none-after : (w : List ℕ) → w ++ zeros 0 ≡ w
none-after w = append-nil w

module _ (r b : ℕ) (f g : LetterFunctionValue) (base : 1 ≤ r) (some : 1 ≤ b) (places : HasLettersOfPlaces Lsd (r ^ b) f) (is : IsSplit r b f g) where
  -- a word over the base has the letter of a word over the power that has its place
  split-letter : (w : List ℕ) (n : ℕ) → IsPlace Lsd r n w → (v : List ℕ) × IsPlace Lsd (r ^ b) n v × (letter_after g w ≡ letter_after f v)
  split-letter w n place =
      let found = padded_word r b base some w place.0 in
      let v : List ℕ = found.0 in (
        v,
        (found.2, padded-value r b base w v found.1 found.2 found.3 ∙ place.1),
        is.letters w v found.1 place.0 found.2 found.3 found.4,
      )

  split-keeps : KeepsPlaces Lsd (r ^ b) f Lsd r g
  split-keeps = record {
    of_places = λ n w u first second.
        let one = split-letter w n first in
        let two = split-letter u n second in
        one.2 ∙ places n one.0 two.0 one.1 two.1 ∙ sym two.2;
    letters = λ n letter. (
      (λ has. let found = split-letter has.0 n has.1 in (found.0, found.1, sym found.2 ∙ has.2)),
      (λ has.
          let w : List ℕ = expanded r b has.0 in
          (w, expanded-place r b base has.0 n has.1, is.letters w has.0 0 (expanded-over r b has.0 base) has.1.0 (sym (none-after w)) (omega (arith, some)) ∙ has.2)),
    );
  }

module _ (r a : ℕ) (f g : LetterFunctionValue) (base : 1 ≤ r) (some : 1 ≤ a) (places : HasLettersOfPlaces Lsd r f) (is : IsJoin r a f g) where
  join-keeps : KeepsPlaces Lsd r f Lsd (r ^ a) g
  join-keeps = record {
    of_places = λ n w u first second.
        is.letters w first.0
        ∙ places n (expanded r a w) (expanded r a u) (expanded-place r a base w n first) (expanded-place r a base u n second)
        ∙ sym (is.letters u second.0);
    letters = λ n letter. (
      (λ has. (expanded r a has.0, expanded-place r a base has.0 n has.1, sym (is.letters has.0 has.1.0) ∙ has.2)),
      (λ has.
          let found = padded_word r a base some has.0 has.1.0 in
          let v : List ℕ = found.0 in
          let place : IsPlace Lsd (r ^ a) n v = (found.2, padded-value r a base has.0 v found.1 found.2 found.3 ∙ has.1.1) in
          (v, place, is.letters v found.2 ∙ places n (expanded r a v) has.0 (expanded-place r a base v n place) has.1 ∙ has.2)),
    );
  }

pub splits_keep : SplitsKeepPlaces
splits_keep r b f g low some places is = split-keeps r b f g (omega (arith, low)) some places is

pub joins_keep : JoinsKeepPlaces
joins_keep r a f g low some places is = join-keeps r a f g (omega (arith, low)) some places is
