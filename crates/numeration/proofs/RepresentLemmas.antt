-- Words of several tracks, and the tuples that they represent.
use Rattle.std.proofs.Common.{◌≡◌, ℕ, zero, suc, ◌+◌, ◌*◌, ◌/◌, ◌%◌, ◌<◌, List, [], ◌∷◌, ◌++◌, map, get_or, length, refl, ap, sym, ◌∙◌, subst, arith, ◌↔◌, IsTrue}
use Rattle.std.proofs.Math.Nat.{zero-div, zero-mod}
use Rattle.std.proofs.lemmas.List.{length-map}
use Rattle.std.proofs.lemmas.Nat.{div-add-mod', div-mul-add, mod-mul-add, mul-add-lt, mod_below, mul-lt}
use Rattle.digit_tuple.specs.Letters.{IsWord}
use Rattle.digit_tuple.specs.Paddings.{zeros, without_zeros}
use Rattle.numeration.specs.Systems.{System, IsSystem, AreSystems, IsRepresentation}
use Rattle.numeration.specs.Representation.{letters_in, first_track, other_tracks, Represents, TuplesHaveRepresentations, RepresentationsArePaddings}
use Rattle.digit_tuple.proofs.PaddingLemmas.{length-zeros, zeros_then_rest, without_zeros-zeros, IsWord-zeros_before}
use Rattle.numeration.proofs.RankLemmas.{two_digits, rank-zero, rank-pad, rank-apart, rank-find, valid-zeros}

-- there is a letter
pub letters_positive : (ss : List System) → AreSystems ss → 0 < letters_in ss
letters_positive [] are = omega arith
letters_positive (s ∷ ss) are =
    let some : 1 < s.digits = two_digits s.digits s.test are.0 in
    let rest : 0 < letters_in ss = letters_positive ss are.1 in
    let more = mul-lt 0 0 s.digits (letters_in ss) (let h : 0 < s.digits = omega (arith, some) in h) rest in
    omega (arith, more)

pub IsWord-other_tracks : (ss : List System) (w : List ℕ) → AreSystems ss → IsWord (letters_in ss) (other_tracks ss w)
IsWord-other_tracks ss [] are = tt
IsWord-other_tracks ss (a ∷ w) are = (mod_below a (letters_in ss) (letters_positive ss are), IsWord-other_tracks ss w are)

-- words of the letter 0 alone are determined by their lengths
zero_words : (w v : List ℕ) → IsWord 1 w → IsWord 1 v → length w ≡ length v → w ≡ v
zero_words [] [] first second long = refl
zero_words [] (b ∷ v) first second long = absurd (omega (arith, long))
zero_words (a ∷ w) [] first second long = absurd (omega (arith, long))
zero_words (a ∷ w) (b ∷ v) first second long =
    let same : a ≡ b = omega (arith, first.0, second.0) in
    ap (λ c. c ∷ w) same ∙ ap (λ u. b ∷ u) (zero_words w v first.1 second.1 (omega (arith, long)))

-- letters are determined by quotient and remainder
same_parts : (p : ℕ) (w v : List ℕ) → map (λ a. a / p) w ≡ map (λ a. a / p) v → map (λ a. a % p) w ≡ map (λ a. a % p) v → w ≡ v
same_parts p [] [] quotients remainders = refl
same_parts p [] (b ∷ v) quotients remainders = absurd (let e : 0 ≡ suc (length (map (λ c. c / p) v)) = ap length quotients in omega (arith, e))
same_parts p (a ∷ w) [] quotients remainders = absurd (let e : suc (length (map (λ c. c / p) w)) ≡ 0 = ap length quotients in omega (arith, e))
same_parts p (a ∷ w) (b ∷ v) quotients remainders =
    let high : a / p ≡ b / p = ap (λ xs. get_or xs 0 0) quotients in
    let low : a % p ≡ b % p = ap (λ xs. get_or xs 0 0) remainders in
    let same : a ≡ b = sym (div-add-mod' a p) ∙ ap (λ n. n * p + a % p) high ∙ ap (λ n. b / p * p + n) low ∙ div-add-mod' b p in
    ap (λ c. c ∷ w) same ∙ ap (λ u. b ∷ u) (same_parts p w v (ap rest quotients) (ap rest remainders))
  where
    rest : List ℕ → List ℕ
    rest [] = []
    rest (x ∷ xs) = xs

-- words of one length that represent one tuple are equal
pub represents-apart : (ss : List System) (w v ns : List ℕ) → AreSystems ss → IsWord (letters_in ss) w → IsWord (letters_in ss) v → length w ≡ length v → Represents ss w ns → Represents ss v ns → w ≡ v
represents-apart [] w v ns are first second long represented also = zero_words w v first second long
represents-apart (s ∷ ss) w v [] are first second long represented also = absurd represented
represents-apart (s ∷ ss) w v (n ∷ ns) are first second long represented also =
    let p : ℕ = letters_in ss in
    let firsts : length (first_track ss w) ≡ length (first_track ss v) = length-map w (λ a. a / p) ∙ long ∙ sym (length-map v (λ a. a / p)) in
    let others : length (other_tracks ss w) ≡ length (other_tracks ss v) = length-map w (λ a. a % p) ∙ long ∙ sym (length-map v (λ a. a % p)) in
    let track : first_track ss w ≡ first_track ss v = rank-apart s.digits s.test (first_track ss w) (first_track ss v) are.0 represented.0.0 also.0.0 firsts (represented.0.1 ∙ sym also.0.1) in
    let tracks : other_tracks ss w ≡ other_tracks ss v = represents-apart ss (other_tracks ss w) (other_tracks ss v) ns are.1 (IsWord-other_tracks ss w are.1) (IsWord-other_tracks ss v are.1) others represented.1 also.1 in
    same_parts p w v track tracks

pub is_representation-zero : (s : System) (w : List ℕ) (n : ℕ) → IsSystem s → IsRepresentation s (0 ∷ w) n ↔ IsRepresentation s w n
is_representation-zero s w n is =
    let valid = is.zeros w in
    (λ h. (valid.0 h.0, sym (rank-zero s.digits s.test w) ∙ h.1), λ h. (valid.1 h.0, rank-zero s.digits s.test w ∙ h.1))

-- a leading zero letter changes nothing
pub represents-zero : (ss : List System) (w ns : List ℕ) → AreSystems ss → Represents ss (0 ∷ w) ns ↔ Represents ss w ns
represents-zero [] w [] are = (λ h. h, λ h. h)
represents-zero [] w (n ∷ ns) are = (λ h. h, λ h. h)
represents-zero (s ∷ ss) w [] are = (λ h. h, λ h. h)
represents-zero (s ∷ ss) w (n ∷ ns) are =
    let p : ℕ = letters_in ss in
    let first : first_track ss (0 ∷ w) ≡ 0 ∷ first_track ss w = ap (λ a. a ∷ first_track ss w) (zero-div p) in
    let others : other_tracks ss (0 ∷ w) ≡ 0 ∷ other_tracks ss w = ap (λ a. a ∷ other_tracks ss w) (zero-mod p) in
    let one = is_representation-zero s (first_track ss w) n are.0 in
    let rest = represents-zero ss (other_tracks ss w) ns are.1 in (
      λ h. (one.0 (subst (λ u. IsRepresentation s u n) first h.0), rest.0 (subst (λ u. Represents ss u ns) others h.1)),
      λ h. (subst (λ u. IsRepresentation s u n) (sym first) (one.1 h.0), subst (λ u. Represents ss u ns) (sym others) (rest.1 h.1)),
    )

pub represents-pad : (ss : List System) (k : ℕ) (w ns : List ℕ) → AreSystems ss → Represents ss (zeros k ++ w) ns ↔ Represents ss w ns
represents-pad ss zero w ns are = (λ h. h, λ h. h)
represents-pad ss (suc k) w ns are =
    let one = represents-zero ss (zeros k ++ w) ns are in
    let rest = represents-pad ss k w ns are in
    (λ h. rest.0 (one.0 h), λ h. one.1 (rest.1 h))

-- a word without its leading zero letters represents the same
pub represents-without_zeros : (ss : List System) (w ns : List ℕ) → AreSystems ss → Represents ss w ns ↔ Represents ss (without_zeros w) ns
represents-without_zeros ss w ns are =
    let parts = zeros_then_rest w in
    let both = represents-pad ss (parts.0) (without_zeros w) ns are in
    (λ h. both.0 (subst (λ u. Represents ss u ns) parts.1 h), λ h. subst (λ u. Represents ss u ns) (sym parts.1) (both.1 h))

pub representations : RepresentationsArePaddings
representations ss w v ns are first second represented = (there, back)
  where
    there : Represents ss v ns → without_zeros v ≡ without_zeros w
    there also =
        let m : ℕ = length w in
        let n : ℕ = length v in
        let some : 0 < letters_in ss = letters_positive ss are in
        let one : length (zeros n ++ w) ≡ n + m = length-zeros n w in
        let two : length (zeros m ++ v) ≡ m + n = length-zeros m v in
        let equal : zeros m ++ v ≡ zeros n ++ w =
        represents-apart ss (zeros m ++ v) (zeros n ++ w) ns are (IsWord-zeros_before (letters_in ss) m v some second) (IsWord-zeros_before (letters_in ss) n w some first) (omega (arith, one, two))
        ((represents-pad ss m v ns are).1 also) ((represents-pad ss n w ns are).1 represented) in
        sym (without_zeros-zeros m v) ∙ ap without_zeros equal ∙ without_zeros-zeros n w

    back : without_zeros v ≡ without_zeros w → Represents ss v ns
    back same = (represents-without_zeros ss v ns are).1 (subst (λ u. Represents ss u ns) (sym same) ((represents-without_zeros ss w ns are).0 represented))

-- the word whose first track and other tracks are these
abbrev pub join : ℕ → List ℕ → List ℕ → List ℕ
join p [] w = []
join p (a ∷ x) [] = []
join p (a ∷ x) (b ∷ w) = (a * p + b) ∷ join p x w

pub join-first : (p : ℕ) (x w : List ℕ) → length x ≡ length w → IsWord p w → map (λ a. a / p) (join p x w) ≡ x
join-first p [] w long over = refl
join-first p (a ∷ x) [] long over = absurd (omega (arith, long))
join-first p (a ∷ x) (b ∷ w) long over = ap (λ c. c ∷ map (λ e. e / p) (join p x w)) (div-mul-add a p b over.0) ∙ ap (λ u. a ∷ u) (join-first p x w (omega (arith, long)) over.1)

pub join-others : (p : ℕ) (x w : List ℕ) → length x ≡ length w → IsWord p w → map (λ a. a % p) (join p x w) ≡ w
join-others p [] [] long over = refl
join-others p [] (b ∷ w) long over = absurd (omega (arith, long))
join-others p (a ∷ x) [] long over = absurd (omega (arith, long))
join-others p (a ∷ x) (b ∷ w) long over = ap (λ c. c ∷ map (λ e. e % p) (join p x w)) (mod-mul-add a p b over.0) ∙ ap (λ u. b ∷ u) (join-others p x w (omega (arith, long)) over.1)

pub IsWord-join : (d p : ℕ) (x w : List ℕ) → IsWord d x → IsWord p w → IsWord (d * p) (join p x w)
IsWord-join d p [] w first over = tt
IsWord-join d p (a ∷ x) [] first over = tt
IsWord-join d p (a ∷ x) (b ∷ w) first over =
    let one : a * p + b < p * d = mul-add-lt a p b d first.0 over.0 in
    let within : a * p + b < d * p = omega (arith, one) in
    (within, IsWord-join d p x w first.1 over.1)

pub representation : TuplesHaveRepresentations
representation [] [] are count = ([], tt, tt)
representation [] (n ∷ ns) are count = absurd (omega (arith, count))
representation (s ∷ ss) [] are count = absurd (omega (arith, count))
representation (s ∷ ss) (n ∷ ns) are count =
    let p : ℕ = letters_in ss in
    let found = rank-find s.digits s.test n are.0 in
    let rest = representation ss ns are.1 (omega (arith, count)) in
    let first : List ℕ = found.0 in
    let others : List ℕ = rest.0 in
    let x : List ℕ = zeros (length others) ++ first in
    let w : List ℕ = zeros (length first) ++ others in
    let one : length x ≡ length others + length first = length-zeros (length others) first in
    let two : length w ≡ length first + length others = length-zeros (length first) others in
    let long : length x ≡ length w = omega (arith, one, two) in
    let some : 0 < p = letters_positive ss are.1 in
    let valid : IsTrue (s.test x) = (valid-zeros s.digits s.test (length others) first are.0).1 found.1 in
    let is_representation : IsRepresentation s x n = (valid, rank-pad s.digits s.test (length others) first ∙ found.2) in
    let over : IsWord p w = IsWord-zeros_before p (length first) others some rest.1 in
    let represented : Represents ss w ns = (represents-pad ss (length first) others ns are.1).1 rest.2 in (
      join p x w,
      IsWord-join s.digits p x w (are.0.over x valid) over,
      (subst (λ u. IsRepresentation s u n) (sym (join-first p x w long over)) is_representation, subst (λ u. Represents ss u ns) (sym (join-others p x w long over)) represented),
    )
