-- A name determines the system of a user, and is that of none that is built in.
use Rattle.std.proofs.Common.{◌≡◌, ℕ, ◌+◌, ◌%◌, ◌<◌, ◌≤◌, ◌^◌, true, false, ◌&&◌, List, [], ◌∷◌, ◌++◌, take, drop, decimal, refl, sym, ap, ◌∙◌, subst, true≢false, arith, tests}
use Rattle.std.specs.List.{list_all}
use Rattle.std.proofs.lemmas.Bool.{and_parts}
use Rattle.std.proofs.lemmas.Fmt.{decimal_by_steps}
use Rattle.text_grammar.specs.Bytes.{is_letter, is_alphanumeric}
use Rattle.digit_tuple.specs.declared.direction.Direction.{Direction}
use Rattle.digit_tuple.specs.declared.direction.Direction.TheVariants.{Msd, Lsd}
use Rattle.system_names.specs.declared.system_kind.SystemKind.{SystemKind}
use Rattle.system_names.specs.declared.system_kind.SystemKind.TheVariants.{Base, Fibonacci}
use Rattle.system_names.specs.Names.{direction_part, kind_part, IsBuiltIn}
use Rattle.system_names.specs.UserNames.{is_word_of_letters, IsUserPart, user_name, UserNamesDetermineSystems, UserNamesAreNotBuiltIn}
use Rattle.system_names.proofs.OneSystem.{one_direction, rest_of}

-- the prefix of a name says the direction, and what follows it the part
pub user_prefix : (direction : Direction) (part : List ℕ) → take 4 (user_name direction part) ≡ direction_part direction
user_prefix Msd part = refl
user_prefix Lsd part = refl

pub user_rest : (direction : Direction) (part : List ℕ) → drop 4 (user_name direction part) ≡ part
user_rest Msd part = refl
user_rest Lsd part = refl

-- a prefix determines its direction
pub one_user_name : (direction other : Direction) (part another : List ℕ) → user_name direction part ≡ user_name other another → (direction ≡ other) × (part ≡ another)
one_user_name direction other part another same = (
  one_direction direction other (sym (user_prefix direction part) ∙ (ap (λ (xs : List ℕ). take 4 xs) same ∙ user_prefix other another)),
  sym (user_rest direction part) ∙ (ap (λ (xs : List ℕ). drop 4 xs) same ∙ user_rest other another),
)

pub one_user_system : UserNamesDetermineSystems
one_user_system direction other part another name (is, named) (is', named') = one_user_name direction other part another (sym named ∙ named')

-- a number begins with a digit
record BeginsWithDigit (bytes : List ℕ) : Type 0 where
  first : ℕ
  others : List ℕ
  begins : bytes ≡ first ∷ others
  digit : is_letter first ≡ false

no_letter : (digit : ℕ) → digit < 10 → is_letter (48 + digit) ≡ false
no_letter digit low = grind (arith, tests)

decimal_begins : (k : ℕ) → k < 2 ^ 64 → BeginsWithDigit (decimal k)
decimal_begins k small =
    decimal_by_steps (λ (n : ℕ) (ds : List ℕ). BeginsWithDigit ds) (λ n low. record { first = 48 + n; others = []; begins = refl; digit = no_letter n low })
    (λ n ds more prefix. record { first = prefix.first; others = prefix.others ++ (48 + n % 10) ∷ []; begins = ap (λ (l : List ℕ). l ++ (48 + n % 10) ∷ []) prefix.begins; digit = prefix.digit }) k small

-- so it is no part of a user's name
no_number : (k : ℕ) → k ≤ 40 → is_word_of_letters (decimal k) ≡ true → ⊥
no_number k most letters =
    let prefix = decimal_begins k (omega (arith, most)) in
    let first : (is_letter prefix.first && list_all is_alphanumeric prefix.others) ≡ true = subst (λ (l : List ℕ). is_word_of_letters l ≡ true) prefix.begins letters in
    true≢false (sym (and_parts (is_letter prefix.first) (list_all is_alphanumeric prefix.others) first).0 ∙ prefix.digit)

no_kind : (kind : SystemKind) (part : List ℕ) (direction : Direction) (name : List ℕ) → IsBuiltIn direction kind name → IsUserPart part → part ≡ kind_part kind → ⊥
no_kind (Base k) part direction name is user same = no_number k is.0.most (subst (λ (l : List ℕ). is_word_of_letters l ≡ true) same user.letters)
no_kind Fibonacci part direction name is user same = user.other same

pub none_is_built_in : UserNamesAreNotBuiltIn
none_is_built_in name (direction, part, (user, named)) (other, kind, is) =
    no_kind kind part other name is user (sym (user_rest direction part) ∙ (ap (λ (xs : List ℕ). drop 4 xs) (sym named ∙ is.1) ∙ rest_of other kind))
