-- A canonical automaton has no more states than keys that words lead to, one more counted where some lead to none.
use Rattle.std.proofs.Common.{◌≡◌, ℕ, ◌≤◌, Bool, false, List, ◌++◌, Option, sym, ap, ◌∙◌}
use Rattle.std.specs.Option.{option_map_or}
use Rattle.digit_tuple.specs.Deterministic.{Automaton, letters_of, states_of, accepts_of}
use Rattle.digit_tuple.specs.Keys.{LeadAlike, key_accepts}
use Rattle.digit_tuple.specs.Letters.{IsWord}
use Rattle.digit_tuple.specs.Width.{HasWidth}
use Rattle.digit_tuple.proofs.WordLemmas.{IsWord-append}
use Rattle.digit_tuple.proofs.KeyLemmas.{key_accepts-append}
use Rattle.minimise.specs.Canonical.{IsCanonical}
use Rattle.minimise.proofs.ApartLemmas.{apart_within_width, canonical_apart}

pub states_within_width : (after : List ℕ → ℕ → Option (List ℕ)) (accepts : List ℕ → Bool) (start : List ℕ) (d : Automaton) → IsCanonical d
    → ((w : List ℕ) → IsWord (letters_of d) w → accepts_of d w ≡ key_accepts after accepts start w) → (width : ℕ) → HasWidth (LeadAlike after start) (letters_of d) width → states_of d ≤ width
states_within_width after accepts start d canonical language width has =
    apart_within_width (LeadAlike after start) (letters_of d) (states_of d) width (λ w v u one two. one ∙ sym two)
    (canonical_apart d canonical (LeadAlike after start) (λ w v u over there more alike.
    language (w ++ u) (IsWord-append (letters_of d) w u over more)
    ∙ key_accepts-append after accepts w u start
    ∙ ap (λ (o : Option (List ℕ)). option_map_or (λ k. key_accepts after accepts k u) o false) alike
    ∙ sym (key_accepts-append after accepts v u start)
    ∙ sym (language (v ++ u) (IsWord-append (letters_of d) v u there more))))
    has
