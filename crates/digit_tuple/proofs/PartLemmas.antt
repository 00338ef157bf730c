-- Digits of letters, and parts of letters and words.
use Rattle.std.proofs.Common.{◌≡◌, ℕ, ◌+◌, ◌*◌, ◌/◌, ◌%◌, ◌<◌, List, [], ◌∷◌, ◌++◌, length, get_or, arith, ap, sym, refl, ◌∙◌}
use Rattle.std.specs.List.{All, range_with_len}
use Rattle.std.proofs.lemmas.Nat.{div_below, mod_below, div-add-mod'}
use Rattle.std.proofs.lemmas.List.{map-append, length-map, get_or-map}
use Rattle.std.proofs.lemmas.List.FromFn.{fill_by_all, get_or-map-range_with_len}
use Rattle.std.proofs.lemmas.List.Elements.{All-head, All-tail, AllZip-get_or}
use Rattle.digit_tuple.specs.Letters.{product, code_of, AreDigits, IsWord}
use Rattle.digit_tuple.specs.Parts.{digits_of, picked, letter_part, part, parts_of_letters}
use Rattle.digit_tuple.proofs.LetterLemmas.{positive_right, code_of-below, code_of-injective}

-- the digits of a letter are below the sizes
pub digits_of-fit : (sizes : List ℕ) (letter : ℕ) → letter < product sizes → AreDigits sizes (digits_of sizes letter)
digits_of-fit [] letter below = tt
digits_of-fit (s ∷ ss) letter below =
    let positive : 0 < product ss = positive_right s (product ss) (omega (arith, below)) in
    (div_below letter (product ss) s positive below, digits_of-fit ss (letter % product ss) (mod_below letter (product ss) positive))

-- the letter of a letter's digits is that letter
pub code_of-digits_of : (sizes : List ℕ) (letter : ℕ) → letter < product sizes → code_of sizes (digits_of sizes letter) ≡ letter
code_of-digits_of [] letter below = omega (arith, below)
code_of-digits_of (s ∷ ss) letter below =
    let positive : 0 < product ss = positive_right s (product ss) (omega (arith, below)) in
    ap (λ n. letter / product ss * product ss + n) (code_of-digits_of ss (letter % product ss) (mod_below letter (product ss) positive)) ∙ div-add-mod' letter (product ss)

-- the digits of the letter of digits are these digits
pub digits_of-code_of : (sizes ds : List ℕ) → AreDigits sizes ds → digits_of sizes (code_of sizes ds) ≡ ds
digits_of-code_of sizes ds fit =
    let below = code_of-below sizes ds fit in
    code_of-injective sizes (digits_of sizes (code_of sizes ds)) ds (digits_of-fit sizes (code_of sizes ds) below) fit (code_of-digits_of sizes (code_of sizes ds) below)

-- digits are those of their letter
pub digits_of-is : (sizes ds : List ℕ) (letter : ℕ) → AreDigits sizes ds → code_of sizes ds ≡ letter → ds ≡ digits_of sizes letter
digits_of-is sizes ds letter fit is = sym (digits_of-code_of sizes ds fit) ∙ ap (digits_of sizes) is

-- digits at places of tracks are below the sizes there
pub picked-digits : (sizes ds places : List ℕ) → AreDigits sizes ds → All (λ place. place < length sizes) places → AreDigits (picked places sizes) (picked places ds)
picked-digits sizes ds [] fit within = tt
picked-digits sizes ds (p ∷ ps) fit within =
    (AllZip-get_or (λ size digit. digit < size) sizes ds p 0 0 fit (All-head (λ place. place < length sizes) p ps within), picked-digits sizes ds ps fit (All-tail (λ place. place < length sizes) p ps within))

-- what is at some of the picked places is at these of the places
pub picked-picked : (qs ps entries : List ℕ) → All (λ q. q < length ps) qs → picked qs (picked ps entries) ≡ picked (picked qs ps) entries
picked-picked [] ps entries within = refl
picked-picked (q ∷ qs) ps entries within =
    ap (λ n. n ∷ picked qs (picked ps entries)) (get_or-map (λ place. get_or entries place 0) ps q 0 0 (All-head (λ r. r < length ps) q qs within))
    ∙ ap (λ ns. get_or entries (get_or ps q 0) 0 ∷ ns) (picked-picked qs ps entries (All-tail (λ r. r < length ps) q qs within))

-- all places in order pick all
pub picked-all : (entries : List ℕ) → picked (range_with_len 0 (length entries)) entries ≡ entries
picked-all entries = sym (fill_by_all (λ place. get_or entries place 0) entries (length entries) 0 refl (λ k within. refl))

module _ (sizes places : List ℕ) (within : All (λ place. place < length sizes) places) where
  -- the part of a letter has its digits at the places
  pub digits_of-letter_part : (letter : ℕ) → letter < product sizes → digits_of (picked places sizes) (letter_part sizes places letter) ≡ picked places (digits_of sizes letter)
  digits_of-letter_part letter below =
      digits_of-code_of (picked places sizes) (picked places (digits_of sizes letter)) (picked-digits sizes (digits_of sizes letter) places (digits_of-fit sizes letter below) within)

  -- the part of a letter is a letter of the tracks there
  pub letter_part-below : (letter : ℕ) → letter < product sizes → letter_part sizes places letter < product (picked places sizes)
  letter_part-below letter below =
      code_of-below (picked places sizes) (picked places (digits_of sizes letter)) (picked-digits sizes (digits_of sizes letter) places (digits_of-fit sizes letter below) within)

  -- the part of a word is a word over the tracks there
  pub IsWord-part : (w : List ℕ) → IsWord (product sizes) w → IsWord (product (picked places sizes)) (part sizes places w)
  IsWord-part [] over = tt
  IsWord-part (a ∷ w) over = (letter_part-below a over.0, IsWord-part w over.1)

  -- a part of a part is a part
  pub letter_part-letter_part : (qs : List ℕ) (letter : ℕ) → All (λ q. q < length places) qs → letter < product sizes
      → letter_part (picked places sizes) qs (letter_part sizes places letter) ≡ letter_part sizes (picked qs places) letter
  letter_part-letter_part qs letter inside below =
      ap (λ ds. code_of (picked qs (picked places sizes)) (picked qs ds)) (digits_of-letter_part letter below)
      ∙ ap (λ ss. code_of ss (picked qs (picked places (digits_of sizes letter)))) (picked-picked qs places sizes inside)
      ∙ ap (λ ds. code_of (picked (picked qs places) sizes) ds) (picked-picked qs places (digits_of sizes letter) inside)

  pub part-part : (qs w : List ℕ) → All (λ q. q < length places) qs → IsWord (product sizes) w
      → part (picked places sizes) qs (part sizes places w) ≡ part sizes (picked qs places) w
  part-part qs [] inside over = refl
  part-part qs (a ∷ w) inside over =
      ap (λ n. n ∷ part (picked places sizes) qs (part sizes places w)) (letter_part-letter_part qs a inside over.0)
      ∙ ap (λ ns. letter_part sizes (picked qs places) a ∷ ns) (part-part qs w inside over.1)

-- the part of two words in turn
pub part-append : (sizes places u v : List ℕ) → part sizes places (u ++ v) ≡ part sizes places u ++ part sizes places v
part-append sizes places u v = map-append (letter_part sizes places) u v

pub length-part : (sizes places w : List ℕ) → length (part sizes places w) ≡ length w
length-part sizes places w = length-map w (letter_part sizes places)

-- the part on all tracks is the word
pub letter_part-all : (sizes : List ℕ) (letter : ℕ) → letter < product sizes → letter_part sizes (range_with_len 0 (length sizes)) letter ≡ letter
letter_part-all sizes letter below =
    let same : length sizes ≡ length (digits_of sizes letter) = length-digits_of sizes letter in
    ap (λ ss. code_of ss (picked (range_with_len 0 (length sizes)) (digits_of sizes letter))) (picked-all sizes)
    ∙ ap (λ n. code_of sizes (picked (range_with_len 0 n) (digits_of sizes letter))) same
    ∙ ap (λ ds. code_of sizes ds) (picked-all (digits_of sizes letter))
    ∙ code_of-digits_of sizes letter below
  where
    length-digits_of : (ss : List ℕ) (a : ℕ) → length ss ≡ length (digits_of ss a)
    length-digits_of [] a = refl
    length-digits_of (s ∷ ss) a = omega (arith, length-digits_of ss (a % product ss))

pub part-all : (sizes w : List ℕ) → IsWord (product sizes) w → part sizes (range_with_len 0 (length sizes)) w ≡ w
part-all sizes [] over = refl
part-all sizes (a ∷ w) over =
    ap (λ n. n ∷ part sizes (range_with_len 0 (length sizes)) w) (letter_part-all sizes a over.0) ∙ ap (λ ns. a ∷ ns) (part-all sizes w over.1)

-- the entry of a letter in the list of all parts
pub get_or-parts : (sizes places : List ℕ) (letter d : ℕ) → letter < product sizes → get_or (parts_of_letters sizes places) letter d ≡ letter_part sizes places letter
get_or-parts sizes places letter d below = get_or-map-range_with_len (letter_part sizes places) 0 (product sizes) letter letter d below (omega arith)
