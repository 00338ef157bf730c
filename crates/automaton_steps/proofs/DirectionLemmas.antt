-- Parts of words and words without zeros, in either direction.
use Rattle.std.proofs.Common.{◌≡◌, ℕ, List, reverse, refl, sym, ap, ◌∙◌}
use Rattle.std.proofs.lemmas.List.{reverse-reverse}
use Rattle.digit_tuple.specs.Parts.{letter_part, part}
use Rattle.digit_tuple.specs.Paddings.{without_zeros, in_order, strip}
use Rattle.digit_tuple.specs.declared.direction.Direction.{Direction}
use Rattle.digit_tuple.specs.declared.direction.Direction.TheVariants.{Msd, Lsd}
use Rattle.digit_tuple.proofs.PaddingLemmas.{map-reverse}

-- the part of a word in a direction
pub part-in_order : (direction : Direction) (sizes places w : List ℕ) → part sizes places (in_order direction w) ≡ in_order direction (part sizes places w)
part-in_order Msd sizes places w = refl
part-in_order Lsd sizes places w = map-reverse (letter_part sizes places) w

-- words are the same but for zeros where they are without these
pub same_without_zeros : (direction : Direction) (w v : List ℕ) → strip direction v ≡ strip direction w → without_zeros (in_order direction v) ≡ without_zeros (in_order direction w)
same_without_zeros Msd w v same = same
same_without_zeros Lsd w v same = sym (reverse-reverse (without_zeros (reverse v))) ∙ ap reverse same ∙ reverse-reverse (without_zeros (reverse w))

pub same_strip : (direction : Direction) (w v : List ℕ) → without_zeros (in_order direction v) ≡ without_zeros (in_order direction w) → strip direction v ≡ strip direction w
same_strip Msd w v same = same
same_strip Lsd w v same = ap reverse same
