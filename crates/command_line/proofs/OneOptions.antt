-- The words of the command line name each option in one way, and give one answer.
use Rattle.std.proofs.Common.{◌≡◌, ℕ, ◌<◌, ◌≤◌, ◌^◌, Bool, true, false, if◌then◌else◌, List, [], ◌∷◌, ◌++◌, drop, get_or, Option, None, Some, Result, Ok, Err, refl, sym, ap, ◌∙◌, subst, inl, inr, arith, codes, decimal}
use Rattle.std.specs.Borrow.{Bor}
use Rattle.std.specs.Option.{option_map}
use Rattle.std.specs.Prelude.{slice_get, is_some, ◌==◌}
use Rattle.std.specs.Str.{bytes_eq}
use Rattle.std.specs.Str.Parse.{ParsesUnsigned}
use Rattle.std.proofs.lemmas.Fmt.{decimal_injective, parse-decimal}
use Rattle.std.proofs.lemmas.List.{append_assoc}
use Rattle.std.proofs.lemmas.Slice.Eq.{bytes_eq-Decides}
use Rattle.command_line.specs.declared.options.Options.{Options}
use Rattle.command_line.specs.Words.{Given, states, stop, make, AreWordsOf, AreWordsOfAll, IsEnd, Names, states_in, seeds_in, stops_in, at_most_one, IsLimit, IsSeed, GivesOptions, GivesNone}
use Rattle.command_line.specs.WordReading.{ReadsLimit, ReadsNumber}

-- whether an option waits for its value, and which
data Awaits : Type 0 where
  for_none : Awaits
  for_states : Awaits
  for_make : Awaits

-- an option in one word, and those after it
abbrev alone : List ℕ → List Given → List Given
alone word more =
    if bytes_eq word (codes "--") then []
    else (if bytes_eq word (codes "--stop") then stop ∷ more
    else (if get_or word 2 0 == 109 then make (drop 7 word) ∷ more else states (drop 9 word) ∷ more))

-- the options that words name
abbrev given_in : Awaits → List (List ℕ) → List Given
given_in for_none [] = []
given_in for_none (word ∷ rest) =
    if bytes_eq word (codes "--states") then given_in for_states rest
    else (if bytes_eq word (codes "--make") then given_in for_make rest else alone word (given_in for_none rest))
given_in for_states [] = []
given_in for_states (word ∷ rest) = states word ∷ given_in for_none rest
given_in for_make [] = []
given_in for_make (word ∷ rest) = make word ∷ given_in for_none rest

one_given : (given : List Given) (options end : List (List ℕ)) → AreWordsOfAll given options → IsEnd end → given_in for_none (options ++ end) ≡ given
one_given [] options end none (inl nothing_after) = rw (none, nothing_after) refl
one_given [] options end none (inr mark) = rw (none, mark) refl
one_given (given ∷ more) options end (first, rest, split, spelled, others) is_end =
    ap (λ (xs : List (List ℕ)). given_in for_none (xs ++ end)) split ∙ (ap (given_in for_none) (append_assoc first rest end) ∙ by_first given spelled (one_given more rest end others is_end))
  where
    by_first : (g : Given) → AreWordsOf g first → given_in for_none (rest ++ end) ≡ more → given_in for_none (first ++ (rest ++ end)) ≡ g ∷ more
    by_first (states value) (inl two) ending = rw two (ap (λ (gs : List Given). states value ∷ gs) ending)
    by_first (states value) (inr one) ending = rw one (ap (λ (gs : List Given). states value ∷ gs) ending)
    by_first stop is ending = rw is (ap (λ (gs : List Given). stop ∷ gs) ending)
    by_first (make value) (inl two) ending = rw two (ap (λ (gs : List Given). make value ∷ gs) ending)
    by_first (make value) (inr one) ending = rw one (ap (λ (gs : List Given). make value ∷ gs) ending)

abbrev as_one : Bool → ℕ
as_one has = if has then 1 else 0

pub one_naming : (words : List (List ℕ)) (limit seed limit' seed' : Option (List ℕ)) (is_stop is_stop' : Bool) → Names words limit is_stop seed → Names words limit' is_stop' seed' → (limit ≡ limit') × (is_stop ≡ is_stop') × (seed ≡ seed')
one_naming words limit seed limit' seed' is_stop is_stop' a b =
    let same : a.given ≡ b.given = sym (one_given a.given a.options a.end a.are_words a.is_end) ∙ (ap (given_in for_none) (sym a.split ∙ b.split) ∙ one_given b.given b.options b.end b.are_words b.is_end) in
    (one_value limit limit' (sym a.limits ∙ (ap states_in same ∙ b.limits)), one_flag is_stop is_stop' (sym a.stops ∙ (ap stops_in same ∙ b.stops)), one_value seed seed' (sym a.seeds ∙ (ap seeds_in same ∙ b.seeds)))
  where
    one_value : (value other : Option (List ℕ)) → at_most_one value ≡ at_most_one other → value ≡ other
    one_value value other same = sym (value_is value) ∙ (ap (λ (xs : List (List ℕ)). slice_get xs 0) same ∙ value_is other)
      where
        value_is : (v : Option (List ℕ)) → slice_get (at_most_one v) 0 ≡ v
        value_is None = refl
        value_is (Some v) = refl

    one_flag : (b c : Bool) → as_one b ≡ as_one c → b ≡ c
    one_flag true true same = refl
    one_flag true false same = absurd (omega arith)
    one_flag false true same = absurd (omega arith)
    one_flag false false same = refl

limit_of_value : (value : Option (List ℕ)) (limit other : ℕ) → IsLimit value limit → IsLimit value other → limit ≡ other
limit_of_value None limit other a b = a ∙ sym b
limit_of_value (Some text) limit other (is, least, most) (is', least', most') = decimal_injective limit other (below limit most) (below other most') (sym is ∙ is')
  where
    below : (n : ℕ) → n ≤ 1000000 → n < 2 ^ 64
    below n most = omega arith

seed_of_value : (value : Option (List ℕ)) (seed other : Option ℕ) → IsSeed value seed → IsSeed value other → seed ≡ other
seed_of_value None None None a b = refl
seed_of_value None None (Some other) a b = absurd b
seed_of_value None (Some seed) other a b = absurd a
seed_of_value (Some text) None other a b = absurd a
seed_of_value (Some text) (Some seed) None a b = absurd b
seed_of_value (Some text) (Some seed) (Some other) (is, small) (is', small') = ap (λ (n : ℕ). let o : Option ℕ = Some n in o) (decimal_injective seed other small small' (sym is ∙ is'))

-- the words give one answer
pub one_options : (words : List (List ℕ)) (options other : Options) → GivesOptions words options → GivesOptions words other → options ≡ other
one_options words options other (value, seed, names, is_limit, is_seed) (value', seed', names', is_limit', is_seed') =
    let same = one_naming words value seed value' seed' options.stop other.stop names names' in
    let P : Option (List ℕ) → Type 0 = λ v. IsLimit v other.limit in
    let Q : Option (List ℕ) → Type 0 = λ v. IsSeed v other.seed in
    let limits : options.limit ≡ other.limit = limit_of_value value options.limit other.limit is_limit (subst P (sym same.0) is_limit') in
    let seeds : options.seed ≡ other.seed = seed_of_value seed options.seed other.seed is_seed (subst Q (sym same.2) is_seed') in
    λ i. record { limit = limits i; stop = same.1 i; seed = seeds i }

-- where a value is no number in range, the words give none
pub no_limit : (words : List (List ℕ)) (named : Option (Bor (List ℕ))) (seed : Option (List ℕ)) (is_stop : Bool) (text : Bor (List ℕ)) (read : Option ℕ) → Names words (option_map (λ t. t.now) named) is_stop seed → named ≡ Some text
    → ReadsLimit text.now read → is_some read ≡ false → GivesNone words
no_limit words named seed is_stop text (Some number) names is reads none = cc
no_limit words named seed is_stop text None names is reads none = λ options gives.
    let same = one_naming words (option_map (λ t. t.now) named) seed gives.0 gives.1 is_stop options.stop names gives.2 in
    let value : Some text.now ≡ gives.0 = sym (ap (option_map (λ (t : Bor (List ℕ)). t.now)) is) ∙ same.0 in
    let P : Option (List ℕ) → Type 0 = λ v. IsLimit v options.limit in
    reads options.limit (subst P (sym value) gives.3)

pub no_seed : (words : List (List ℕ)) (limit : Option (List ℕ)) (named : Option (Bor (List ℕ))) (is_stop : Bool) (text : Bor (List ℕ)) (read : Option ℕ) → Names words limit is_stop (option_map (λ t. t.now) named) → named ≡ Some text
    → ReadsNumber text.now read → is_some read ≡ false → GivesNone words
no_seed words limit named is_stop text (Some number) names is reads none = cc
no_seed words limit named is_stop text None names is reads none = λ options gives.
    let same = one_naming words limit (option_map (λ t. t.now) named) gives.0 gives.1 is_stop options.stop names gives.2 in
    let value : Some text.now ≡ gives.1 = sym (ap (option_map (λ (t : Bor (List ℕ)). t.now)) is) ∙ same.2 in
    let P : Option (List ℕ) → Type 0 = λ v. IsSeed v options.seed in
    by_seed options.seed (subst P (sym value) gives.4)
  where
    by_seed : (seed : Option ℕ) → IsSeed (Some text.now) seed → ⊥
    by_seed None is = is
    by_seed (Some number) (is, small) = reads number small is

-- a text that no number is read from is none
pub not_read : {E : Type 0} (text : List ℕ) (e : E) → ParsesUnsigned 64 10 text (Err e) → (number : ℕ) → number < 2 ^ 64 → text ≡ decimal number → ⊥
not_read {E} text e parses number small is =
    let r : Result ℕ E = Err e in
    let same : r ≡ Ok number = parse-decimal 64 number text r small small is parses in cc

-- and the number that is read is the one
pub number_read : {E : Type 0} (text : List ℕ) (number : ℕ) (r : Result ℕ E) → r ≡ Ok number → ParsesUnsigned 64 10 text r → (other : ℕ) → other < 2 ^ 64 → text ≡ decimal other → number ≡ other
number_read {E} text number r was parses other small is =
    let same : r ≡ Ok other = parse-decimal 64 other text r small small is parses in
    let start : Result ℕ E = Ok number in
    let same' : start ≡ Ok other = sym was ∙ same in cc

pub equal_texts : (xs ys : List ℕ) → xs ≡ ys → false ≡ bytes_eq xs ys → ⊥
equal_texts xs ys same unlike = let alike : bytes_eq xs ys ≡ true = (bytes_eq-Decides xs ys).1 same in cc
