-- Automata that accept words of zeros alone.
use Rattle.std.proofs.Common.{◌≡◌, ℕ, zero, suc, ◌+◌, Bool, true, false, cond, append-nil, List, [], ◌∷◌, ◌++◌, reverse, length, Option, None, Some, refl, ap, sym, ◌∙◌, subst, arith, ◌↔◌, IsTrue}
use Rattle.std.specs.Option.{option_map_or}
use Rattle.std.proofs.lemmas.Bool.{false≢true, and_right}
use Rattle.std.proofs.lemmas.List.{reverse-reverse}
use Rattle.digit_tuple.specs.Paddings.{zeros, without_zeros, in_order}
use Rattle.digit_tuple.specs.Deterministic.{Automaton, IsSet, with_state, states_of, accepting_of, step_of, accepts_from, accepts_of}
use Rattle.digit_tuple.specs.declared.direction.Direction.{Direction}
use Rattle.digit_tuple.specs.declared.direction.Direction.TheVariants.{Msd, Lsd}
use Rattle.numeration.specs.Words.{rank}
use Rattle.numeration.specs.Systems.{System, IsSystem, IsRep}
use Rattle.numeration.specs.Relations.{IsZeroOf}
use Rattle.digit_tuple.proofs.PaddingLemmas.{zeros_then_rest, reverse-zeros}
use Rattle.numeration.proofs.ConstantLemmas.{constant_holds}

-- the empty word is that of 0
zero_rep : (s : System) → IsSystem s → IsRep s.digits s.test 0 []
zero_rep s is = record { valid = is.empty; plain = refl; ranked = none }
  where
    none : rank s.digits s.test [] ≡ 0
    none = ap (λ (b : Bool). 0 + cond {A = ℕ} b 1 0) (and_right (s.test []) false refl)

only_zeros : (k : ℕ) → without_zeros (zeros k) ≡ []
only_zeros zero = refl
only_zeros (suc k) = only_zeros k

-- a word is zeros alone where nothing is left without its leading zeros
zeros_of : (w : List ℕ) → without_zeros w ≡ [] → (k : ℕ) × (w ≡ zeros k)
zeros_of w none =
    let parts = zeros_then_rest w in
    (parts.0, parts.1 ∙ ap (λ v. zeros (parts.0) ++ v) none ∙ append-nil (zeros (parts.0)))

turned : (w : List ℕ) → without_zeros w ≡ [] → without_zeros (reverse w) ≡ []
turned w none =
    let all = zeros_of w none in
    ap (λ v. without_zeros (reverse v)) all.1 ∙ ap without_zeros (reverse-zeros (all.0)) ∙ only_zeros (all.0)

-- an automaton that stays by 0 alone
pub record StaysByZero (d : Automaton) : Type 0 where
  pub accepting : accepting_of d 0 ≡ true
  pub stays : step_of d 0 0 ≡ Some 0
  pub stops : (a : ℕ) → step_of d 0 (suc a) ≡ None

zeros_accepted : (d : Automaton) (w : List ℕ) → StaysByZero d → IsTrue (accepts_of d w) ↔ (without_zeros w ≡ [])
zeros_accepted d [] stays = (λ h. refl, λ h. stays.accepting)
zeros_accepted d (zero ∷ w) stays =
    let rest = zeros_accepted d w stays in
    let step : accepts_of d (0 ∷ w) ≡ accepts_of d w = ap (λ (o : Option ℕ). option_map_or (λ p. accepts_from d p w) o false) stays.stays in
    (λ h. rest.0 (sym step ∙ h), λ h. step ∙ rest.1 h)
zeros_accepted d (suc a ∷ w) stays =
    let step : accepts_of d (suc a ∷ w) ≡ false = ap (λ (o : Option ℕ). option_map_or (λ p. accepts_from d p w) o false) (stays.stops a) in
    (λ h. absurd (false≢true (sym step ∙ h)), λ h. absurd (let e : suc (length w) ≡ 0 = ap length h in omega (arith, e)))

in_order_accepted : (direction : Direction) (d : Automaton) (w : List ℕ) → StaysByZero d → IsTrue (accepts_of d w) ↔ (without_zeros (in_order direction w) ≡ [])
in_order_accepted Msd d w stays = zeros_accepted d w stays
in_order_accepted Lsd d w stays =
    let both = zeros_accepted d w stays in
    (λ h. turned w (both.0 h), λ h. both.1 (subst (λ v. without_zeros v ≡ []) (reverse-reverse w) (turned (reverse w) h)))

pub zero_holds : (direction : Direction) (s : System) (d : Automaton) → IsSystem s → d.sizes ≡ s.digits ∷ [] → StaysByZero d → IsZeroOf direction s d
zero_holds direction s d is sizes stays = constant_holds direction s 0 [] d is (zero_rep s is) sizes (λ w. in_order_accepted direction d w stays)

-- an automaton of one state to which the letter 0 was given
pub set_by_zero : (sizes : List ℕ) (empty one made : Automaton) (q : ℕ) → empty ≡ record { sizes = sizes; states = [] } → one ≡ with_state empty true → q ≡ states_of empty → IsSet one made q 0 q
    → StaysByZero made × (made.sizes ≡ sizes)
set_by_zero sizes empty one made q empty_is one_is q_is set = (record { accepting = at.accepting 0; stays = at.there; stops = λ a. at.elsewhere 0 (suc a) (λ h. absurd (omega (arith, h.1))) }, at.sizes)
  where
    start : Automaton
    start = with_state (record { sizes = sizes; states = [] }) true

    same : one ≡ start
    same = one_is ∙ ap (λ (d : Automaton). with_state d true) empty_is

    zero_is : q ≡ 0
    zero_is = q_is ∙ ap states_of empty_is

    at : IsSet start made 0 0 0
    at = subst (λ (d : Automaton). IsSet d made 0 0 0) same (subst (λ m. IsSet one made m 0 m) zero_is set)
