-- The lengths of accepted words.
use Rattle.std.proofs.Common.{◌≡◌, ℕ, zero, suc, ◌+◌, ◌<◌, ◌≤◌, true, false, List, ◌++◌, length, get_or, Option, None, Some, ◌⊎◌, inl, inr, refl, sym, ap, ◌∙◌, subst, arith}
use Rattle.std.specs.Option.{option_map_or}
use Rattle.std.proofs.lemmas.Bool.{false≢true, true≢false, cases_Bool, cases_lt, cases_order}
use Rattle.std.proofs.lemmas.List.Folds.{list_any_none}
use Rattle.digit_tuple.specs.Deterministic.{Automaton, IsTable, letters_of, states_of, transitions_of, run_of, accepts_from, accepts_of}
use Rattle.digit_tuple.specs.Shortlex.{IsBefore, IsLetterwiseBefore}
use Rattle.digit_tuple.proofs.DfaLemmas.{row_at}
use Rattle.digit_tuple.proofs.WordLemmas.{accepts_from-append}
use Rattle.determinise.proofs.ReversalLemmas.{run_of-in_range}
use Rattle.word_walk.specs.Levels.{lives, least_word}
use Rattle.word_walk.specs.Lengths.{HasNoLength, IsFirstLength}
use Rattle.word_walk.proofs.CutLemmas.{HasKinds, near}
use Rattle.word_walk.proofs.LevelLemmas.{IsLeastFrom, least_word-least, lives-accepted}

-- where a prefix leads, or the number of states if it leads to none
abbrev pub state_kind : Automaton → List ℕ → ℕ
state_kind d u = option_map_or (λ q. q) (run_of d 0 u) (states_of d)

module _ (d : Automaton) (table : IsTable (letters_of d) d.states) where
  pub leads_on : (u v : List ℕ) → accepts_of d (u ++ v) ≡ true → (p : ℕ) × (run_of d 0 u ≡ Some p) × (p < states_of d) × (accepts_from d p v ≡ true)
  leads_on u v accepted = by (run_of d 0 u) refl (sym (accepts_from-append d 0 u v) ∙ accepted)
    where
      by : (o : Option ℕ) → run_of d 0 u ≡ o → option_map_or (λ p. accepts_from d p v) o false ≡ true → (p : ℕ) × (run_of d 0 u ≡ Some p) × (p < states_of d) × (accepts_from d p v ≡ true)
      by None leads nothing = absurd (false≢true nothing)
      by (Some p) leads is = (p, leads, run_of-in_range d table u 0 p table.initial leads, is)

  pub states_are_kinds : HasKinds (accepts_of d) (states_of d) (state_kind d)
  states_are_kinds = record { small = small; alike = alike }
    where
      small : (u v : List ℕ) → accepts_of d (u ++ v) ≡ true → state_kind d u < states_of d
      small u v accepted = let on = leads_on u v accepted in omega (arith, ap (λ (o : Option ℕ). option_map_or (λ q. q) o (states_of d)) on.1, on.2)

      alike : (u v x y : List ℕ) → state_kind d u ≡ state_kind d v → accepts_of d (u ++ x) ≡ true → accepts_of d (v ++ y) ≡ true → accepts_of d (u ++ y) ≡ true
      alike u v x y same first second =
          let one = leads_on u x first in
          let two = leads_on v y second in
          let states : one.0 ≡ two.0 = omega (arith, same, ap (λ (o : Option ℕ). option_map_or (λ q. q) o (states_of d)) one.1, ap (λ (o : Option ℕ). option_map_or (λ q. q) o (states_of d)) two.1) in
          accepts_from-append d 0 u y ∙ ap (λ (o : Option ℕ). option_map_or (λ p. accepts_from d p y) o false) one.1 ∙ ap (λ p. accepts_from d p y) states ∙ two.3

  -- if no word of so many lengths is accepted, no longer one is
  pub HasNoLength-states : (least : ℕ) → ((k : ℕ) → least ≤ k → k < least + states_of d → lives d k 0 ≡ false) → HasNoLength d least
  HasNoLength-states least none m enough = by (cases_Bool (lives d m 0))
    where
      by : (lives d m 0 ≡ true) ⊎ (lives d m 0 ≡ false) → lives d m 0 ≡ false
      by (inr is) = is
      by (inl live) =
          let word = least_word-least d table m 0 table.initial live in
          let found = near (accepts_of d) (states_of d) (state_kind d) states_are_kinds least (least_word d m 0) word.accepted (omega (arith, word.size)) in
          absurd (true≢false (sym (lives-accepted d 0 found.0 found.1) ∙ none (length found.0) found.2 found.3))

  -- if no word of a length is accepted from any state, no longer one is
  pub none_after : (m : ℕ) → ((q : ℕ) → q < states_of d → lives d m q ≡ false) → (k q : ℕ) → m ≤ k → q < states_of d → lives d k q ≡ false
  none_after m none zero q enough within = let same : m ≡ 0 = omega (arith, enough) in subst (λ (n : ℕ). lives d n q ≡ false) same (none q within)
  none_after m none (suc k) q enough within = by (cases_lt k m) (none_after m none k)
    where
      by : (k < m) ⊎ (m ≤ k) → ((p : ℕ) → m ≤ k → p < states_of d → lives d k p ≡ false) → lives d (suc k) q ≡ false
      by (inl less) rest = let same : m ≡ suc k = omega (arith, less, enough) in subst (λ (n : ℕ). lives d n q ≡ false) same (none q within)
      by (inr more) rest = list_any_none (λ e. lives d k e.target) (transitions_of d q) (λ i e inside. rest (get_or (transitions_of d q) i e).target more ((row_at d q table within).in_range i e inside).1)

  pub HasNoLength-empty : (least m : ℕ) → ((k : ℕ) → least ≤ k → k < m → lives d k 0 ≡ false) → ((q : ℕ) → q < states_of d → lives d m q ≡ false) → HasNoLength d least
  HasNoLength-empty least m before none k enough = by (cases_lt k m)
    where
      by : (k < m) ⊎ (m ≤ k) → lives d k 0 ≡ false
      by (inl less) = before k enough less
      by (inr more) = none_after m none k 0 more table.initial

  -- the first word of the least length is before all others that are so long
  pub first_longer : (least m : ℕ) → IsFirstLength d least m → (u : List ℕ) → accepts_of d u ≡ true → least ≤ length u → (least_word d m 0 ≡ u) ⊎ IsBefore (least_word d m 0) u
  first_longer least m first u accepted enough = by (cases_order (length u) m)
    where
      word : IsLeastFrom d m 0 (least_word d m 0)
      word = least_word-least d table m 0 table.initial first.live

      at : length u ≡ m → (least_word d m 0 ≡ u) ⊎ IsLetterwiseBefore (least_word d m 0) u → (least_word d m 0 ≡ u) ⊎ IsBefore (least_word d m 0) u
      at size (inl same) = inl same
      at size (inr before) = inr (inr (omega (arith, word.size, size), before))

      by : (length u ≡ m) ⊎ ((length u < m) ⊎ (m < length u)) → (least_word d m 0 ≡ u) ⊎ IsBefore (least_word d m 0) u
      by (inl size) = at size (word.least u accepted size)
      by (inr (inl less)) = absurd (true≢false (sym (lives-accepted d 0 u accepted) ∙ first.none (length u) enough less))
      by (inr (inr more)) = inr (inl (omega (arith, word.size, more)))
