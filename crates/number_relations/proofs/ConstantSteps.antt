-- The construction of a number's automaton, as a step over a sealed system.
use Rattle.std.proofs.Common.{◌≡◌, ℕ, ◌+◌, ◌≤◌, List, [], ◌∷◌, refl, ap, sym, ◌∙◌, subst, arith, mul-one}
use Rattle.digit_tuple.specs.Deterministic.{Automaton}
use Rattle.digit_tuple.specs.Letters.{IsAlphabet, product}
use Rattle.digit_tuple.specs.StepResults.{ExceedsWidth, IsLineOf}
use Rattle.digit_tuple.specs.Width.{HasApart, HasWidth}
use Rattle.digit_tuple.specs.declared.direction.Direction.{Direction}
use Rattle.digit_tuple.specs.declared.kind.Kind.TheVariants as kinds
use Rattle.numeration.specs.Relations.{IsLanguageOf}
use Rattle.constants.specs.Constants.{ConstantAlike}
use Rattle.num_system.specs.Sealed.{SystemValue, system_of, IsSealed}
use Rattle.number_relations.specs.Constants.{relation_constant_step}

-- the language of a sealed system, seen in its parts
pub constant_language : (system seen : SystemValue) (direction : Direction) (d : Automaton) → IsSealed system → seen ≡ system → direction ≡ seen.direction → d ≡ seen.language → IsLanguageOf direction (system_of system) d
constant_language system seen direction d sealed same is_direction is =
    subst (λ (w : Direction). IsLanguageOf w (system_of system) d) (sym (is_direction ∙ ap (λ (v : SystemValue). v.direction) same))
    (subst (λ (e : Automaton). IsLanguageOf system.direction (system_of system) e) (sym (is ∙ ap (λ (v : SystemValue). v.language) same)) sealed.language)

module _ (system : SystemValue) (number : ℕ) (name : List ℕ) (direction : Direction) (is : direction ≡ system.direction) (alphabet : IsAlphabet (system.digits ∷ [])) where
  abbrev Alike : Direction → List ℕ → List ℕ → Type 0
  Alike w = ConstantAlike w (system_of system) number

  -- digits are the letters of one track
  one_track : system.digits ≡ product (system.digits ∷ [])
  one_track = sym (mul-one system.digits)

  pub constant_line : (limit width size states : ℕ) → HasWidth (Alike direction) system.digits width → states ≤ width → width ≤ limit → size ≡ states
      → IsLineOf limit (relation_constant_step system number name).step states (record { kind = kinds.Const; width = width; size = size })
  constant_line limit width size states counted small within size_is = record {
    alphabet = alphabet;
    kind_is = refl;
    width = subst (λ (letters : ℕ). HasWidth (Alike system.direction) letters width) one_track (subst (λ (w : Direction). HasWidth (Alike w) system.digits width) is counted);
    size_is = size_is;
    small = omega (arith, size_is, small);
    within = within;
  }

  pub constant_exceeds : (limit : ℕ) → HasApart (Alike direction) system.digits (limit + 1) → ExceedsWidth limit (relation_constant_step system number name).step
  constant_exceeds limit apart = record {
    alphabet = alphabet;
    apart = subst (λ (letters : ℕ). HasApart (Alike system.direction) letters (limit + 1)) one_track (subst (λ (w : Direction). HasApart (Alike w) system.digits (limit + 1)) is apart);
  }
