-- A canonical automaton has no more states than sets of states that words lead to.
use Rattle.std.proofs.Common.{◌≡◌, ℕ, ◌≤◌, Bool, true, false, List, ◌++◌, IsTrue, ◌↔◌, refl, sym, ap, ◌∙◌, subst}
use Rattle.digit_tuple.specs.Automaton as branching
use Rattle.digit_tuple.specs.Automaton.{Branching, Path, Accepts}
use Rattle.digit_tuple.specs.Deterministic.{Automaton, letters_of, states_of, accepts_of}
use Rattle.digit_tuple.specs.Letters.{product, IsWord}
use Rattle.digit_tuple.specs.Width.{HasWidth}
use Rattle.digit_tuple.proofs.PathLemmas.{Path-append, Path-split}
use Rattle.digit_tuple.proofs.WordLemmas.{IsWord-append}
use Rattle.determinise.specs.Subsets.{Alike}
use Rattle.minimise.specs.Residuals.{SameLanguage}
use Rattle.minimise.specs.Canonical.{IsCanonical}
use Rattle.minimise.proofs.ApartLemmas.{apart_within_width, canonical_apart}

-- after words that lead to the same states the same words are accepted
accepts_after : (n : Branching) (w v u : List ℕ) → Alike n w v → Accepts n (w ++ u) → Accepts n (v ++ u)
accepts_after n w v u alike accepts =
    let direction = Path-split n w u 0 accepts.0 accepts.1 in
    (accepts.0, Path-append n v u 0 direction.0 accepts.0 ((alike direction.0).0 direction.1) direction.2, accepts.2)

same_truth : (a b : Bool) → (IsTrue a → IsTrue b) → (IsTrue b → IsTrue a) → a ≡ b
same_truth true true forth back = refl
same_truth true false forth back = sym (forth refl)
same_truth false true forth back = back refl
same_truth false false forth back = refl

-- a canonical automaton has no more states than sets of states that words lead to
pub size_within_width : (n : Branching) (d minimal : Automaton) (width : ℕ) → d.sizes ≡ n.sizes → minimal.sizes ≡ d.sizes
    → ((word : List ℕ) → IsWord (branching.letters_of n) word → IsTrue (accepts_of d word) ↔ Accepts n word)
    → SameLanguage d minimal → IsCanonical minimal → HasWidth (Alike n) (branching.letters_of n) width → states_of minimal ≤ width
size_within_width n d minimal width sizes sizes_too language same canonical counted =
    apart_within_width (Alike n) (letters_of minimal) (states_of minimal) width shared (canonical_apart minimal canonical (Alike n) kept)
    (subst (λ letters. HasWidth (Alike n) letters width) (sym letters) counted)
  where
    letters : letters_of minimal ≡ branching.letters_of n
    letters = ap product sizes_too ∙ ap product sizes

    shared : (w v u : List ℕ) → Alike n w u → Alike n v u → Alike n w v
    shared w v u one two q = ((λ path. (two q).1 ((one q).0 path)), (λ path. (one q).1 ((two q).0 path)))

    -- both automata accept the word or neither does
    agrees : (word : List ℕ) → IsWord (letters_of minimal) word → IsTrue (accepts_of minimal word) ↔ Accepts n word
    agrees word over =
        let over_d : IsWord (letters_of d) word = subst (λ k. IsWord k word) (ap product sizes_too) over in
        let over_n : IsWord (branching.letters_of n) word = subst (λ k. IsWord k word) letters over in
        let iff = language word over_n in
        ((λ is. iff.0 (same word over_d ∙ is)), (λ accepts. sym (same word over_d) ∙ iff.1 accepts))

    kept : (w v u : List ℕ) → IsWord (letters_of minimal) w → IsWord (letters_of minimal) v → IsWord (letters_of minimal) u → Alike n w v → accepts_of minimal (w ++ u) ≡ accepts_of minimal (v ++ u)
    kept w v u over too more alike =
        let one = agrees (w ++ u) (IsWord-append (letters_of minimal) w u over more) in
        let two = agrees (v ++ u) (IsWord-append (letters_of minimal) v u too more) in
        same_truth (accepts_of minimal (w ++ u)) (accepts_of minimal (v ++ u))
        (λ is. two.1 (accepts_after n w v u alike (one.0 is)))
        (λ is. one.1 (accepts_after n v w u (λ q. ((alike q).1, (alike q).0)) (two.0 is)))
