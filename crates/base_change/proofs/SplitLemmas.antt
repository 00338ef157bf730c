-- Where words lead by the step `split`: the state that the whole groups lead to, with the digits after them.
use Rattle.std.proofs.Common.{◌≡◌, ℕ, zero, suc, ◌+◌, ◌-◌, ◌*◌, ◌/◌, ◌^◌, ◌<◌, ◌≤◌, ◌⊎◌, inl, inr, Bool, List, [], ◌∷◌, ◌++◌, length, take, drop, Option, None, Some, refl, sym, ap, ◌∙◌, subst, arith, if◌then◌else◌}
use Rattle.std.specs.Option.{option_and_then}
use Rattle.std.proofs.lemmas.Bool.{eq-eqb, ne_eqb}
use Rattle.std.proofs.lemmas.List.{append-nil, append_assoc, drop-drop, drop_all, length-append, length-drop, length-take-le, length_push, take-append-drop}
use Rattle.std.proofs.lemmas.Option.{same_Some}
use Rattle.digit_tuple.specs.Deterministic.{Automaton, letters_of, states_of}
use Rattle.digit_tuple.specs.Explored.{IsExplored}
use Rattle.digit_tuple.specs.Keys.{LeadAlike, key_run}
use Rattle.digit_tuple.specs.Letters.{IsWord, product}
use Rattle.digit_tuple.specs.Paddings.{zeros}
use Rattle.residual_classes.specs.Classes.{first_of, next_of}
use Rattle.minimise.proofs.LeadLemmas.{lead}
use Rattle.word_output.specs.LetterFunctions.{IsLetterFunction, LetterFunctionValue, letter_after}
use Rattle.word_output.specs.StateLetters.{letter_led, letter_of_state}
use Rattle.word_output.proofs.LetterLeads.{led, letter_after-lead, one_led, same_letters}
use Rattle.word_output.proofs.LsdLetterLemmas.{letter_led-explored}
use Rattle.base_change.specs.Digits.{expanded, first_groups, grouped, remaining, value_lsd}
use Rattle.base_change.specs.GroupKeys.{key_letter, key_letters, split_after, split_next}
use Rattle.base_change.specs.Splits.{SplitAlike}
use Rattle.base_change.proofs.DigitLemmas.{length-expanded, value-padded}
use Rattle.base_change.proofs.GroupLemmas.{groups-expanded, groups-inside, groups-most, groups-over, padding-one}

-- where a word and then another lead
pub key_run-append : (after : List ℕ → ℕ → Option (List ℕ)) (w u key : List ℕ) → key_run after key (w ++ u) ≡ option_and_then (λ next. key_run after next u) (key_run after key w)
key_run-append after [] u key = refl
key_run-append after (a ∷ w) u key = by (after key a) (λ next. key_run-append after w u next)
  where
    by : (o : Option (List ℕ)) → ((next : List ℕ) → key_run after next (w ++ u) ≡ option_and_then (λ k. key_run after k u) (key_run after next w))
        → option_and_then (λ next. key_run after next (w ++ u)) o ≡ option_and_then (λ k. key_run after k u) (option_and_then (λ next. key_run after next w) o)
    by None rest = refl
    by (Some next) rest = rest next

length-zeros : (n : ℕ) → length (zeros n) ≡ n
length-zeros zero = refl
length-zeros (suc n) = ap suc (length-zeros n)

module _ (d : Automaton) (r b : ℕ) where
  -- a digit that does not fill the group, and one that does
  next-kept : (q a : ℕ) (ds : List ℕ) → length ds + 1 < b → split_next d r b (q ∷ ds) a ≡ q ∷ (ds ++ a ∷ [])
  next-kept q a ds few =
      ap (λ (whole : Bool). if whole then next_of d q (value_lsd r (ds ++ a ∷ [])) ∷ [] else q ∷ (ds ++ a ∷ []))
      (ne_eqb (length (ds ++ a ∷ [])) b (λ same. omega (arith, same, few, length_push ds a)))

  next-whole : (q a : ℕ) (ds : List ℕ) → length ds + 1 ≡ b → split_next d r b (q ∷ ds) a ≡ next_of d q (value_lsd r (ds ++ a ∷ [])) ∷ []
  next-whole q a ds full =
      ap (λ (whole : Bool). if whole then next_of d q (value_lsd r (ds ++ a ∷ [])) ∷ [] else q ∷ (ds ++ a ∷ []))
      (eq-eqb (length (ds ++ a ∷ [])) b (length_push ds a ∙ full))

  -- digits that do not fill the group
  run-kept : (x ds : List ℕ) (q : ℕ) → length ds + length x < b → key_run (split_after d r b) (q ∷ ds) x ≡ Some (q ∷ (ds ++ x))
  run-kept [] ds q few = ap (λ xs. Some (q ∷ xs)) (sym (append-nil ds))
  run-kept (a ∷ x) ds q few =
      ap (λ key. key_run (split_after d r b) key x) (next-kept q a ds (omega (arith, few)))
      ∙ run-kept x (ds ++ a ∷ []) q (omega (arith, few, length_push ds a))
      ∙ ap (λ xs. Some (q ∷ xs)) (append_assoc ds (a ∷ []) x)

  -- digits that fill the group
  run-whole : (x ds : List ℕ) (q : ℕ) → 0 < length x → length ds + length x ≡ b → key_run (split_after d r b) (q ∷ ds) x ≡ Some (next_of d q (value_lsd r (ds ++ x)) ∷ [])
  run-whole [] ds q some full = absurd (omega (arith, some))
  run-whole (a ∷ []) ds q some full = ap Some (next-whole q a ds (omega (arith, full)))
  run-whole (a ∷ c ∷ x) ds q some full =
      ap (λ key. key_run (split_after d r b) key (c ∷ x)) (next-kept q a ds (omega (arith, full)))
      ∙ run-whole (c ∷ x) (ds ++ a ∷ []) q (omega arith) (omega (arith, full, length_push ds a))
      ∙ ap (λ xs. Some (next_of d q (value_lsd r xs) ∷ [])) (append_assoc ds (a ∷ []) (c ∷ x))

  module _ (some : 1 ≤ b) where
    -- a word whose whole groups are so many
    pub run-groups : (n : ℕ) (w : List ℕ) (q : ℕ) → n * b ≤ length w → length w < n * b + b → key_run (split_after d r b) (q ∷ []) w ≡ Some (lead d q (first_groups r b n w) ∷ drop (n * b) w)
    run-groups zero w q inside most = run-kept w [] q (omega (arith, most)) ∙ ap (λ k. Some (q ∷ drop k w)) (let none : 0 ≡ 0 * b = omega arith in none)
    run-groups (suc n) w q inside most =
        let group : List ℕ = take b w in
        let rest : List ℕ = drop b w in
        let count : length group ≡ b = length-take-le b w (omega (arith, inside)) in
        let next : ℕ = next_of d q (value_lsd r group) in
        ap (key_run (split_after d r b) (q ∷ [])) (sym (take-append-drop b w))
        ∙ key_run-append (split_after d r b) group rest (q ∷ [])
        ∙ ap (λ (o : Option (List ℕ)). option_and_then (λ key. key_run (split_after d r b) key rest) o) (run-whole group [] q (omega (arith, count, some)) (omega (arith, count)))
        ∙ run-groups n rest next (omega (arith, inside, length-drop b w)) (omega (arith, most, inside, length-drop b w))
        ∙ ap (λ u. Some (lead d next (first_groups r b n rest) ∷ u)) (drop-drop (n * b) b w ∙ ap (λ k. drop k w) (let at : b + n * b ≡ suc n * b = omega arith in at))

    -- any word
    pub run-split : (w : List ℕ) (q : ℕ) → key_run (split_after d r b) (q ∷ []) w ≡ Some (lead d q (grouped r b w) ∷ remaining b w)
    run-split w q = run-groups (length w / b) w q (groups-inside b some (length w)) (groups-most b some (length w))

    -- an expanded one
    pub run-expanded : (v : List ℕ) (q : ℕ) → 1 ≤ r → IsWord (r ^ b) v → key_run (split_after d r b) (q ∷ []) (expanded r b v) ≡ Some (lead d q v ∷ [])
    run-expanded v q base over =
        let long = length-expanded r b v in
        run-groups (length v) (expanded r b v) q (omega (arith, long)) (omega (arith, long, some))
        ∙ ap (λ u. Some (lead d q u ∷ drop (length v * b) (expanded r b v))) (groups-expanded r b v base over)
        ∙ ap (λ u. Some (lead d q v ∷ u)) (drop_all (length v * b) (expanded r b v) (omega (arith, long)))

module _ (f : LetterFunctionValue) (is : IsLetterFunction f) (r b : ℕ) (base : 1 ≤ r) (some : 1 ≤ b) (sizes : f.automaton.sizes ≡ r ^ b ∷ []) where
  abbrev d : Automaton
  d = f.automaton

  abbrev after : List ℕ → ℕ → Option (List ℕ)
  after = split_after d r b

  abbrev start : List ℕ
  start = first_of d ∷ []

  letters-are : letters_of d ≡ r ^ b
  letters-are = ap product sizes ∙ (let unit : r ^ b * 1 ≡ r ^ b = omega arith in unit)

  -- the digits that the groups are
  groups-over-letters : (w : List ℕ) → IsWord (product (r ∷ [])) w → IsWord (letters_of d) (grouped r b w)
  groups-over-letters w over =
      subst (λ n. IsWord n (grouped r b w)) (sym letters-are)
      (groups-over r b (length w / b) w (subst (λ n. IsWord n w) (let unit : r * 1 ≡ r = omega arith in unit) over) (groups-inside b some (length w)))

  pub alike_from_leads : (w v : List ℕ) → IsWord (product (r ∷ [])) w → IsWord (product (r ∷ [])) v → LeadAlike after start w v → SplitAlike r b f w v
  alike_from_leads w v over there same =
      let keys : (lead d (first_of d) (grouped r b w) ∷ remaining b w) ≡ (lead d (first_of d) (grouped r b v) ∷ remaining b v) = same_Some _ _ (sym (run-split d r b some w (first_of d)) ∙ same ∙ run-split d r b some v (first_of d)) in
      let state : lead d (first_of d) (grouped r b w) ≡ lead d (first_of d) (grouped r b v) = cc in
      let rest : remaining b w ≡ remaining b v = cc in
      record { left = rest; letters = same_letters f is (grouped r b w) (grouped r b v) (groups-over-letters w over) (groups-over-letters v there) state }

  pub leads_from_alike : (w v : List ℕ) → IsWord (product (r ∷ [])) w → IsWord (product (r ∷ [])) v → SplitAlike r b f w v → LeadAlike after start w v
  leads_from_alike w v over there alike =
      let state = one_led f is (grouped r b w) (grouped r b v) (groups-over-letters w over) (groups-over-letters v there) alike.letters in
      run-split d r b some w (first_of d)
      ∙ ap (λ (q : ℕ). Some (q ∷ remaining b w)) state
      ∙ ap (λ (u : List ℕ). Some (led f is (grouped r b v) ∷ u)) alike.left
      ∙ sym (run-split d r b some v (first_of d))

  -- the letter of a key is that of the state to which zeros lead from it that fill its group
  letter-filled : (q p : ℕ) (ds : List ℕ) (more : ℕ) → length ds < b → more < b → (length ds + more ≡ 0) ⊎ (length ds + more ≡ b) → key_run after (q ∷ ds) (zeros more) ≡ Some (p ∷ []) → key_letter f r (q ∷ ds) ≡ letter_of_state f p
  letter-filled q p [] zero few less cases leads = ap (letter_of_state f) (let keys : (q ∷ []) ≡ (p ∷ []) = same_Some _ _ leads in let state : q ≡ p = cc in state)
  letter-filled q p [] (suc more) few less (inl none) leads = absurd (omega (arith, none))
  letter-filled q p [] (suc more) few less (inr whole) leads = absurd (omega (arith, whole, less))
  letter-filled q p (c ∷ cs) more few less (inl none) leads = absurd (omega (arith, none))
  letter-filled q p (c ∷ cs) more few less (inr whole) leads =
      let keys : (next_of d q (value_lsd r ((c ∷ cs) ++ zeros more)) ∷ []) ≡ (p ∷ []) =
      same_Some _ _ (sym (run-whole d r b (zeros more) (c ∷ cs) q (omega (arith, whole, few, length-zeros more)) (omega (arith, whole, length-zeros more))) ∙ leads) in
      let state : next_of d q (value_lsd r ((c ∷ cs) ++ zeros more)) ≡ p = cc in
      ap (λ n. letter_of_state f (next_of d q n)) (sym (value-padded r more (c ∷ cs))) ∙ ap (letter_of_state f) state

  -- the letter of the key of a word
  letter-padded : (w v : List ℕ) (more : ℕ) → IsWord (r ^ b) v → expanded r b v ≡ w ++ zeros more → more < b → key_letter f r (lead d (first_of d) (grouped r b w) ∷ remaining b w) ≡ letter_after f v
  letter-padded w v more over padded few =
      let n : ℕ = length w / b in
      let inside = groups-inside b some (length w) in
      let most = groups-most b some (length w) in
      let q : ℕ = lead d (first_of d) (grouped r b w) in
      let left : length (remaining b w) ≡ length w - n * b = length-drop (n * b) w in
      let whole : length w + more ≡ length v * b = omega (arith, ap length padded, length-append w (zeros more), length-zeros more, length-expanded r b v) in
      let leads : key_run after (q ∷ remaining b w) (zeros more) ≡ Some (lead d (first_of d) v ∷ []) =
      ap (λ (o : Option (List ℕ)). option_and_then (λ key. key_run after key (zeros more)) o) (sym (run-split d r b some w (first_of d)))
      ∙ sym (key_run-append after w (zeros more) start)
      ∙ ap (key_run after start) (sym padded)
      ∙ run-expanded d r b some v (first_of d) base over in
      letter-filled q (lead d (first_of d) v) (remaining b w) more (omega (arith, left, inside, most)) few
      (subst (λ k. (k + more ≡ 0) ⊎ (k + more ≡ b)) (sym left) (padding-one b some n (length v) (length w) more inside most few whole)) leads
      ∙ sym (letter_after-lead f is v)

  pub letters-split : (letters : ℕ) (accepts : List ℕ → Bool) (keys : List (List ℕ)) (e : Automaton) → IsExplored letters start after accepts keys e → 0 < states_of e
      → (w v : List ℕ) (more : ℕ) → IsWord letters w → IsWord (r ^ b) v → expanded r b v ≡ w ++ zeros more → more < b → letter_led e (key_letters f r keys) w ≡ letter_after f v
  letters-split letters accepts keys e explored initial w v more inside over padded few =
      letter_led-explored letters start after accepts keys e explored initial (key_letter f r) w inside
      ∙ ap (option_and_then (key_letter f r)) (run-split d r b some w (first_of d))
      ∙ letter-padded w v more over padded few
