use Rattle.std.proofs.Common.{◌≡◌, ℕ, List, [], ◌∷◌, map, sym, ap, ◌∙◌, subst}
use Rattle.std.specs.Rc.{rc_value}
use Rattle.digit_tuple.specs.Deterministic.{Automaton, accepts_of, letters_of}
use Rattle.digit_tuple.specs.Letters.{IsWord}
use Rattle.numeration.specs.Relations.{HoldsOf}
use Rattle.validity.specs.ValidParts.{in_complement}
use Rattle.product_op.specs.Validity.{AreLanguages}
use Rattle.num_system.specs.Sealed.{SystemValue, system_of, IsSealed}
use Rattle.num_system.proofs.ValidityLinks.{complement_holds}
use Rattle.number_relations.specs.Relations.{HoldsOver}
use Rattle.number_relations.proofs.PairLemmas.{two_languages, two_languages_of}
use Rattle.number_relations.proofs.arithmetic.other_pairs.Goals as goal

pub complement_in-requires : goal.complement_in-requires
complement_in-requires c =
    let s = c.args.system.now.value in
    let sealed : IsSealed s = subst IsSealed c.as_ref-sealed.ensures c.is_sealed.ensures in
    let sizes : List ℕ = c.in_ok-pairs.pairs.automaton.sizes in
    let language : c.language-language.result.now.value ≡ s.language = c.language-language.ensures.value ∙ ap (λ (v : SystemValue). v.language) c.as_ref-sealed.ensures in
    let all : map rc_value c.deref.result.now ≡ s.language ∷ s.language ∷ [] =
    ap (map rc_value) (c.deref.ensures.value ∙ c.in_ok-languages.ensures.items)
    ∙ ap (λ (d : Automaton). d ∷ c.in_ok-second.second.value ∷ []) (c.in_ok-first.ensures.cases ∙ language)
    ∙ ap (λ (d : Automaton). s.language ∷ d ∷ []) (c.in_ok-second.ensures.cases ∙ language) in
    subst (AreLanguages sizes) (sym all) (two_languages s sealed sizes (ap (λ (d : Automaton). d.sizes) c.in_ok-pairs.ensures ∙ c.requires.closed.sizes))

pub returns-in-Ok-clause-holds : goal.returns-in-Ok-clause-holds
returns-in-Ok-clause-holds c =
    let s = c.args.system.now.value in
    let sealed : IsSealed s = subst IsSealed c.as_ref-sealed.ensures c.is_sealed.ensures in
    let pairs = c.in_ok-pairs.pairs in
    let other = c.in-Ok.stepped.result.automaton in
    let language : c.language-language.result.now.value ≡ s.language = c.language-language.ensures.value ∙ ap (λ (v : SystemValue). v.language) c.as_ref-sealed.ensures in
    let all : map rc_value c.deref.result.now ≡ s.language ∷ s.language ∷ [] =
    ap (map rc_value) (c.deref.ensures.value ∙ c.in_ok-languages.ensures.items)
    ∙ ap (λ (d : Automaton). d ∷ c.in_ok-second.second.value ∷ []) (c.in_ok-first.ensures.cases ∙ language)
    ∙ ap (λ (d : Automaton). s.language ∷ d ∷ []) (c.in_ok-second.ensures.cases ∙ language) in
    let holds = subst (λ (d : Automaton). HoldsOf s.direction (system_of s ∷ system_of s ∷ []) (HoldsOver (s ∷ s ∷ []) c.args.dfa.now) d) (sym c.in_ok-pairs.ensures) c.requires.closed in
    let says = subst (λ (ls : List Automaton). (w : List ℕ) → IsWord (letters_of pairs.automaton) w → accepts_of other w ≡ in_complement pairs ls w) all c.in-Ok.ensures.language in
    subst (λ (d : Automaton). HoldsOf s.direction (system_of s ∷ system_of s ∷ []) (λ ns. ¬ HoldsOver (s ∷ s ∷ []) c.args.dfa.now ns) d) (sym c.into_dfa.ensures.value)
    (complement_holds s.direction (system_of s ∷ system_of s ∷ []) (s.language ∷ s.language ∷ []) (two_languages_of s sealed) pairs other c.in-Ok.ensures.sizes (HoldsOver (s ∷ s ∷ []) c.args.dfa.now) holds says)
