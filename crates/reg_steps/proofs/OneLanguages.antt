-- Systems have one list of canonical languages, which are those of tracks.
use Rattle.std.proofs.Common.{◌≡◌, ℕ, ◌<◌, List, [], ◌∷◌, length, get_or, sym, ◌∙◌, ap, arith}
use Rattle.std.proofs.lemmas.List.{ext_get_or, length-map, get_or-map}
use Rattle.digit_tuple.specs.Deterministic.{Automaton}
use Rattle.digit_tuple.specs.declared.direction.Direction.{Direction}
use Rattle.minimise.proofs.CanonicalLemmas.{canonical_forms}
use Rattle.product_op.specs.Validity.{AreLanguages, language_at, no_language}
use Rattle.numeration.specs.Systems.{System}
use Rattle.numeration.specs.Representation.{sizes_of}
use Rattle.reg_steps.specs.Relations.{IsSystemLanguage, AreSystemLanguages}
use Rattle.reg_steps.proofs.RepresentedWords.{no_system}

one_language : (direction : Direction) (s : System) (c d : Automaton) → IsSystemLanguage direction s c → IsSystemLanguage direction s d → c ≡ d
one_language direction s c d one other =
    canonical_forms c d one.canonical other.canonical (one.of_system.sizes ∙ sym other.of_system.sizes) (λ w over. one.of_system.accepts w ∙ sym (other.of_system.accepts w))

pub one_list_of_languages : (direction : Direction) (ss : List System) (a b : List Automaton) → AreSystemLanguages direction ss a → AreSystemLanguages direction ss b → a ≡ b
one_list_of_languages direction ss a b one other = ext_get_or no_language a b (one.count ∙ sym other.count) (λ k within.
    let inside : k < length ss = omega (arith, within, one.count) in
    one_language direction (get_or ss k no_system) (language_at a k) (language_at b k) (one.each k no_system inside) (other.each k no_system inside))

pub languages_of_tracks : (direction : Direction) (ss : List System) (languages : List Automaton) → AreSystemLanguages direction ss languages → AreLanguages (sizes_of ss) languages
languages_of_tracks direction ss languages are = record {
  count = are.count ∙ sym (length-map ss (λ (s : System). s.digits));
  each = λ track within.
      let inside : track < length ss = omega (arith, within, length-map ss (λ (s : System). s.digits)) in
      let each = are.each track no_system inside in
      (each.canonical, each.of_system.sizes ∙ ap (λ (n : ℕ). n ∷ []) (sym (get_or-map (λ (s : System). s.digits) ss track no_system 0 inside)));
}
