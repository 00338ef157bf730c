-- The transitions by letters that lead to keys.
use Rattle.std.proofs.Common.{◌≡◌, ◌≢◌, ◌==◌, ℕ, ◌+◌, ◌<◌, Bool, true, false, List, [], ◌∷◌, ◌++◌, length, take, get_or, Option, None, Some, ◌⊎◌, inl, inr, refl, sym, ap, ◌∙◌, subst, arith, if◌then◌else◌}
use Rattle.std.specs.List.{AllPairs, Contains, filter_map, cons_option}
use Rattle.std.specs.Option.{option_map, option_to_list}
use Rattle.std.proofs.lemmas.Bool.{cases_eq, eqb-false}
use Rattle.std.proofs.lemmas.Bool.Decides.{Decides-eqb}
use Rattle.std.proofs.lemmas.List.{take_more}
use Rattle.std.proofs.lemmas.List.Elements.{filter_map-append, All-contains, All-contains_itself, All-weaker}
use Rattle.std.proofs.lemmas.List.Kept.{AllPairs-cons}
use Rattle.digit_tuple.specs.Keys.{KeyTransition, AreKeyTransitions, IsByEarlier, key_by}
use Rattle.digit_tuple.proofs.MemberLemmas.{Contains-head, Contains-tail, Contains-cases, Contains-none, AllPairs-head, AllPairs-tail}
use Rattle.product_op.specs.LeadingLetters.{AreLeading, key_transition}

module _ (after : ℕ → Option (List ℕ)) where
  -- the transitions by these letters
  abbrev pub transitions_by : List ℕ → List KeyTransition
  transitions_by some = filter_map (λ a. option_map (key_transition a) (after a)) some

  -- one letter more
  pub transitions_by_more : (some : List ℕ) (i : ℕ) → i < length some → transitions_by (take (i + 1) some) ≡ transitions_by (take i some) ++ option_to_list (option_map (key_transition (get_or some i 0)) (after (get_or some i 0)))
  transitions_by_more some i inside =
      ap transitions_by (take_more some i 0 inside) ∙ filter_map-append (λ a. option_map (key_transition a) (after a)) (take i some) (get_or some i 0 ∷ []) ∙ ap (λ es. transitions_by (take i some) ++ es) (by (option_map (key_transition (get_or some i 0)) (after (get_or some i 0))))
    where
      by : (o : Option KeyTransition) → cons_option o [] ≡ option_to_list o
      by None = refl
      by (Some e) = refl

  -- each transition is by one of the letters
  transitions_by-letters : (some : List ℕ) (e : KeyTransition) → Contains (transitions_by some) e → Contains some e.letter
  transitions_by-letters [] e there = absurd (Contains-none e there)
  transitions_by-letters (a ∷ some) e there = by (after a) there (transitions_by-letters some e)
    where
      first : (key : List ℕ) → (key_transition a key ≡ e) ⊎ Contains (transitions_by some) e → (Contains (transitions_by some) e → Contains some e.letter) → Contains (a ∷ some) e.letter
      first key (inl same) rest = subst (λ (f : KeyTransition). Contains (a ∷ some) f.letter) same (Contains-head a some)
      first key (inr later) rest = Contains-tail a some e.letter (rest later)

      by : (o : Option (List ℕ)) → Contains (cons_option (option_map (key_transition a) o) (transitions_by some)) e → (Contains (transitions_by some) e → Contains some e.letter) → Contains (a ∷ some) e.letter
      by None inside rest = Contains-tail a some e.letter (rest inside)
      by (Some key) inside rest = first key (Contains-cases (key_transition a key) (transitions_by some) e inside) rest

  transitions_by-ascending : (some : List ℕ) → AllPairs (λ a b. a < b) some → AllPairs IsByEarlier (transitions_by some)
  transitions_by-ascending [] up = λ i j d before within. absurd (omega arith)
  transitions_by-ascending (a ∷ some) up = by (after a) (transitions_by-ascending some (AllPairs-tail (λ b c. b < c) a some up))
    where
      by : (o : Option (List ℕ)) → AllPairs IsByEarlier (transitions_by some) → AllPairs IsByEarlier (cons_option (option_map (key_transition a) o) (transitions_by some))
      by None rest = rest
      by (Some key) rest = AllPairs-cons IsByEarlier (key_transition a key) (transitions_by some)
          (All-weaker (Contains (transitions_by some)) (IsByEarlier (key_transition a key)) (λ e there. AllPairs-head (λ b c. b < c) a some e.letter up (transitions_by-letters some e there)) (transitions_by some) (All-contains_itself (transitions_by some)))
          rest

  -- a letter that leads to no key has no transition
  transitions_by-none : (some : List ℕ) (a : ℕ) → after a ≡ None → key_by (transitions_by some) a ≡ None
  transitions_by-none [] a none = refl
  transitions_by-none (b ∷ some) a none = by (after b) refl (transitions_by-none some a none)
    where
      first : (key : List ℕ) → after b ≡ Some key → (c : Bool) → (b == a) ≡ c → key_by (transitions_by some) a ≡ None → (if c then Some key else key_by (transitions_by some) a) ≡ None
      first key is true same rest = sym is ∙ ap after ((Decides-eqb b a).0 same) ∙ none
      first key is false differ rest = rest

      by : (o : Option (List ℕ)) → after b ≡ o → key_by (transitions_by some) a ≡ None → key_by (cons_option (option_map (key_transition b) o) (transitions_by some)) a ≡ None
      by None is rest = rest
      by (Some key) is rest = first key is (b == a) refl rest

  -- a letter among them leads where its transition does
  transitions_by-contained : (some : List ℕ) (a : ℕ) → Contains some a → key_by (transitions_by some) a ≡ after a
  transitions_by-contained [] a there = absurd (Contains-none a there)
  transitions_by-contained (b ∷ some) a there = by (after b) refl (Contains-cases b some a there) (transitions_by-contained some a)
    where
      first : (key : List ℕ) → after b ≡ Some key → (c : Bool) → (b == a) ≡ c → (b ≡ a) ⊎ Contains some a → (Contains some a → key_by (transitions_by some) a ≡ after a) → (if c then Some key else key_by (transitions_by some) a) ≡ after a
      first key is true same cases rest = sym is ∙ ap after ((Decides-eqb b a).0 same)
      first key is false differ (inl same) rest = absurd (eqb-false b a differ same)
      first key is false differ (inr later) rest = rest later

      by : (o : Option (List ℕ)) → after b ≡ o → (b ≡ a) ⊎ Contains some a → (Contains some a → key_by (transitions_by some) a ≡ after a) → key_by (cons_option (option_map (key_transition b) o) (transitions_by some)) a ≡ after a
      by None is (inl same) rest = let none : after a ≡ None = ap after (sym same) ∙ is in transitions_by-none some a none ∙ sym none
      by None is (inr later) rest = rest later
      by (Some key) is cases rest = first key is (b == a) refl cases rest

-- a number is in a list, or is not
pub contained : (some : List ℕ) (a : ℕ) → Contains some a ⊎ ¬ Contains some a
contained [] a = inr (Contains-none a)
contained (b ∷ some) a = by (cases_eq b a) (contained some a)
  where
    by : (b ≡ a) ⊎ (b ≢ a) → Contains some a ⊎ ¬ Contains some a → Contains (b ∷ some) a ⊎ ¬ Contains (b ∷ some) a
    by (inl same) rest = inl (subst (Contains (b ∷ some)) same (Contains-head b some))
    by (inr other) (inl later) = inl (Contains-tail b some a later)
    by (inr other) (inr missing) = inr (λ there. no (Contains-cases b some a there))
      where
        no : (b ≡ a) ⊎ Contains some a → ⊥
        no (inl same) = other same
        no (inr later) = missing later

-- they are the transitions from a key
pub AreKeyTransitions-leading : (letters : ℕ) (after : ℕ → Option (List ℕ)) (some : List ℕ) → AreLeading letters after some → AreKeyTransitions letters after (transitions_by after some)
AreKeyTransitions-leading letters after some are = record {
  in_range = All-weaker (Contains (transitions_by after some)) (λ e. e.letter < letters) (λ e there. All-contains (λ a. a < letters) some e.letter are.in_range (transitions_by-letters after some e there)) (transitions_by after some) (All-contains_itself (transitions_by after some));
  ascending = transitions_by-ascending after some are.ascending;
  lead = λ a small. lead a small (contained some a);
}
  where
    lead : (a : ℕ) → a < letters → Contains some a ⊎ ¬ Contains some a → key_by (transitions_by after some) a ≡ after a
    lead a small (inl there) = transitions_by-contained after some a there
    lead a small (inr missing) = let none = are.others a small missing in transitions_by-none after some a none ∙ sym none
