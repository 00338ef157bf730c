-- The names of users' systems, as headers have them.
use Rattle.std.proofs.Common.{◌≡◌, ℕ, ◌+◌, ◌≤◌, ◌^◌, true, ◌&&◌, nat_le, List, [], ◌∷◌, length, take, drop, refl, sym, ap, ◌∙◌, subst, arith}
use Rattle.std.specs.List.{list_all}
use Rattle.std.proofs.lemmas.Bool.{and_parts, le-leb}
use Rattle.text_grammar.specs.Bytes.{is_letter, is_alphanumeric}
use Rattle.digit_tuple.specs.declared.direction.Direction.{Direction}
use Rattle.digit_tuple.specs.declared.direction.Direction.TheVariants.{Msd, Lsd}
use Rattle.system_names.specs.UserNames.{is_word_of_letters, IsUserPart, IsUsersName, user_name}
use Rattle.system_names.specs.Names.{direction_part}
use Rattle.system_names.proofs.UserSystems.{user_prefix, user_rest, none_is_built_in}
use Rattle.text_grammar.specs.Systems.{is_direction, is_system}
use Rattle.dfa_reading.specs.Systems.{digit_limit}
use Rattle.dfa_reading.proofs.SystemNames.{digit_limit-other}
use Rattle.dfa_reading.proofs.ConflictLemmas.{both_hold}

-- a word of letters has a byte, and all are letters and digits
some_letter : (part : List ℕ) → is_word_of_letters part ≡ true → 1 ≤ length part
some_letter [] h = absurd (cc)
some_letter (b ∷ part) h = omega arith

all_letters : (part : List ℕ) → is_word_of_letters part ≡ true → list_all is_alphanumeric part ≡ true
all_letters [] h = refl
all_letters (b ∷ part) h =
    let parts = and_parts (is_letter b) (list_all is_alphanumeric part) h in
    both_hold (is_alphanumeric b) (list_all is_alphanumeric part) (rw parts.0 refl) parts.1

-- so the name has the form of a system's
name_length : (direction : Direction) (part : List ℕ) → length (user_name direction part) ≡ length part + 4
name_length Msd part = omega arith
name_length Lsd part = omega arith

directs : (direction : Direction) → is_direction (direction_part direction) ≡ true
directs Msd = refl
directs Lsd = refl

user_name_passes : (direction : Direction) (part : List ℕ) → IsUserPart part → is_system (user_name direction part) ≡ true
unfolding is_system
user_name_passes direction part is =
    let name = user_name direction part in
    let long : 5 ≤ length name = omega (arith, some_letter part is.letters, name_length direction part) in
    let short : length name ≤ 62 = omega (arith, is.short, name_length direction part) in
    both_hold (nat_le 5 (length name)) (nat_le (length name) 62 && (is_direction (take 4 name) && list_all is_alphanumeric (drop 4 name))) (le-leb 5 (length name) long)
    (both_hold (nat_le (length name) 62) (is_direction (take 4 name) && list_all is_alphanumeric (drop 4 name)) (le-leb (length name) 62 short)
    (both_hold (is_direction (take 4 name)) (list_all is_alphanumeric (drop 4 name)) (ap is_direction (user_prefix direction part) ∙ directs direction) (ap (list_all is_alphanumeric) (user_rest direction part) ∙ all_letters part is.letters)))

-- a header's format takes the name of a user's system
pub users_name_passes : (name : List ℕ) → IsUsersName name → is_system name ≡ true
users_name_passes name (direction, part, (is, named)) = subst (λ (n : List ℕ). is_system n ≡ true) (sym named) (user_name_passes direction part is)

-- and any digit of 32 bits on its tracks
pub users_digit_limit : (name : List ℕ) → IsUsersName name → digit_limit name ≡ 2 ^ 32
users_digit_limit name is = digit_limit-other name (none_is_built_in name is)
