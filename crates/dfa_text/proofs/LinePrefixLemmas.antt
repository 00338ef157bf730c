-- Lines made of prefixes and targets.
use Rattle.std.proofs.Common.{◌≡◌, ℕ, suc, ◌+◌, ◌<◌, List, [], ◌∷◌, ◌++◌, take, map, length, get_or, ℤ, refl, sym, ap, ◌∙◌, append_assoc, length-append, subst, arith, codes, decimal}
use Rattle.std.specs.Fmt.{signed_decimal}
use Rattle.std.specs.List.{All, flat_map, join_by, range_with_len}
use Rattle.std.proofs.lemmas.List.{take_all}
use Rattle.std.proofs.lemmas.List.FromFn.{get_or-map-range_with_len, map-range_with_len_more}
use Rattle.digit_tuple.specs.declared.transitions.Transition.{Transition}
use Rattle.digit_tuple.specs.KeyParts.{AreEnds, parts_from}
use Rattle.digit_tuple.specs.Letters.{product}
use Rattle.digit_tuple.specs.Sets.{sizes_of}
use Rattle.digit_tuple.proofs.KeyPartLemmas.{AreEnds-push, parts_from-push}
use Rattle.dfa_text.specs.LinePrefixes.{letter_prefix, prefixes_of, target_text, prefixed_text}
use Rattle.dfa_text.specs.RelationText.{tuple_of, transition_text}

-- prefixes of the first letters in one buffer, which the last one fills
pub record AreFirstPrefixes (sets : List (List ℤ)) (bytes ends : List ℕ) (letters : ℕ) : Type 0 where
  pub prefixes : parts_from bytes 0 ends ≡ map (letter_prefix sets) (range_with_len 0 letters)
  pub are : AreEnds (length bytes) 0 ends
  pub last : get_or (0 ∷ ends) (length ends) 0 ≡ length bytes

-- the last of a list to which a number was added
last_pushed : (start end : ℕ) (ends : List ℕ) → get_or (start ∷ ends ++ end ∷ []) (length (ends ++ end ∷ [])) 0 ≡ end
last_pushed start end [] = refl
last_pushed start end (e ∷ es) = last_pushed e end es

-- one prefix more
pub prefixes_more : (sets : List (List ℤ)) (bytes ends prefix more after : List ℕ) (letter end : ℕ) → AreFirstPrefixes sets bytes ends letter → prefix ≡ letter_prefix sets letter
    → more ≡ bytes ++ prefix → end ≡ length more → after ≡ ends ++ end ∷ [] → AreFirstPrefixes sets more after (letter + 1)
prefixes_more sets bytes ends prefix more after letter end are is grown total pushed =
    let whole : take (length bytes) bytes ≡ bytes = take_all (length bytes) bytes (omega arith) in
    let kept : more ≡ take (length bytes) bytes ++ prefix = grown ∙ ap (λ bs. bs ++ prefix) (sym whole) in
    let last : length bytes ≡ get_or (0 ∷ ends) (length ends) 0 = sym are.last in
    record {
      prefixes = ap (λ bs. parts_from bs 0 after) kept ∙ ap (parts_from (take (length bytes) bytes ++ prefix) 0) pushed
          ∙ parts_from-push bytes prefix 0 (length bytes) end ends are.are last (total ∙ ap length kept)
          ∙ ap (λ fs. fs ++ prefix ∷ []) are.prefixes ∙ ap (λ f. map (letter_prefix sets) (range_with_len 0 letter) ++ f ∷ []) is
          ∙ sym (map-range_with_len_more (letter_prefix sets) 0 letter letter (omega arith));
      are = subst (λ es. AreEnds (length more) 0 es) (sym pushed) (subst (λ n. AreEnds n 0 (ends ++ end ∷ [])) total (AreEnds-push (length bytes) 0 end ends are.are (omega (arith, are.last, total, ap length grown, length-append bytes prefix))));
      last = ap (λ es. get_or (0 ∷ es) (length es) 0) pushed ∙ last_pushed 0 end ends ∙ total;
    }

-- the line of a transition is its letter's prefix and its target
prefixed_same : (sets : List (List ℤ)) (e : Transition) → e.letter < product (sizes_of sets) → prefixed_text (prefixes_of sets) e ≡ transition_text sets e
prefixed_same sets e below =
    let tuple = join_by signed_decimal (codes " ") (tuple_of sets e.letter) in
    let arrow = codes " -> " in
    let target = decimal e.target in
    let end = codes "\n" in
    ap (λ f. f ++ target_text e.target) (get_or-map-range_with_len (letter_prefix sets) 0 (product (sizes_of sets)) e.letter e.letter [] below (omega arith))
    ∙ append_assoc tuple arrow (target ++ end)
    ∙ ap (λ t. tuple ++ t) (sym (append_assoc arrow target end))
    ∙ sym (append_assoc tuple (arrow ++ target) end)

-- the lines of transitions are their letters' prefixes and their targets
pub prefixed_lines : (sets : List (List ℤ)) (transitions : List Transition) → All (λ e. e.letter < product (sizes_of sets)) transitions → flat_map (prefixed_text (prefixes_of sets)) transitions ≡ flat_map (transition_text sets) transitions
prefixed_lines sets [] below = refl
prefixed_lines sets (e ∷ es) below =
    ap (λ t. t ++ flat_map (prefixed_text (prefixes_of sets)) es) (prefixed_same sets e (below 0 e (omega arith)))
    ∙ ap (λ t. transition_text sets e ++ t) (prefixed_lines sets es (λ k d lt. below (suc k) d (omega arith)))
