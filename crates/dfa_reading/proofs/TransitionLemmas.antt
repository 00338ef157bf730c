-- Transitions that share a tuple are found by the tables.
use Rattle.std.proofs.Common.{◌≡◌, ℕ, zero, suc, ◌+◌, ◌<◌, Bool, true, false, cond, not, ◌&&◌, ◌||◌, eqb, List, [], ◌∷◌, ◌++◌, map, set, length, take, drop, get_or, Option, None, Some, refl, sym, ap, ◌∙◌, true≢false, arith}
use Rattle.std.specs.List.{fold, list_any, position}
use Rattle.std.proofs.lemmas.Bool.{and_parts, eqb-true, eq-eqb}
use Rattle.std.proofs.lemmas.List.{get_or_push, length_push}
use Rattle.std.proofs.lemmas.List.Elements.{All-contains, All-push, All-map, All-get_or, Contains-get_or}
use Rattle.std.proofs.lemmas.List.Folds.{list_any-append}
use Rattle.std.proofs.lemmas.List.Quantifiers.{position-Some}
use Rattle.std.proofs.lemmas.List.Sums.{fold_push}
use Rattle.digit_tuple.proofs.MemberLemmas.{list_any-contains, contains_from_list_any}
use Rattle.dfa_reading.specs.Conflicts.{share_digit, share_tuple}
use Rattle.dfa_reading.specs.declared.star_table.Targets.{Targets}
use Rattle.dfa_reading.specs.declared.star_table.Targets.TheVariants.{One, Several}
use Rattle.dfa_reading.specs.StarTables.{kept_digit, masked, alike, same_stars, same_digits, targets_at, joined, differs_from, with_target, StarTable, no_table}
use Rattle.dfa_reading.specs.Transitions.{Transition, with_transition, targets_over, IsTableOf, AreIndexed, IsOwnTable}
use Rattle.dfa_reading.proofs.ConflictLemmas.{both_hold}
use Rattle.dfa_reading.proofs.StarTableLemmas.{same_digits-Decides, targets_at-insert}

-- where stars are alike, the digits on the tracks that both have are the same if and only if a tuple is shared
kept_alike : (d p t q : Option ℕ) → share_digit d t ≡ true → alike d p ≡ true → alike t q ≡ true → kept_digit d q ≡ kept_digit t p
kept_alike None None None None share one two = refl
kept_alike None None (Some t) (Some q) share one two = refl
kept_alike (Some d) (Some p) None None share one two = refl
kept_alike (Some d) (Some p) (Some t) (Some q) share one two = ap Some (eqb-true d t share)
kept_alike None (Some p) t q share one two = absurd (cc)
kept_alike (Some d) None t q share one two = absurd (cc)
kept_alike None None None (Some q) share one two = absurd (cc)
kept_alike None None (Some t) None share one two = absurd (cc)
kept_alike (Some d) (Some p) None (Some q) share one two = absurd (cc)
kept_alike (Some d) (Some p) (Some t) None share one two = absurd (cc)

masked_alike : (digits pattern others other_pattern : List (Option ℕ)) → share_tuple digits others ≡ true → same_stars digits pattern ≡ true → same_stars others other_pattern ≡ true → masked digits other_pattern ≡ masked others pattern
masked_alike [] pattern [] other_pattern share one two = refl
masked_alike [] pattern (t ∷ others) other_pattern share one two = absurd (cc)
masked_alike (d ∷ digits) pattern [] other_pattern share one two = absurd (cc)
masked_alike (d ∷ digits) [] (t ∷ others) other_pattern share one two = absurd (cc)
masked_alike (d ∷ digits) (p ∷ pattern) (t ∷ others) [] share one two = absurd (cc)
masked_alike (d ∷ digits) (p ∷ pattern) (t ∷ others) (q ∷ other_pattern) share one two =
    let shared = and_parts (share_digit d t) (share_tuple digits others) share in
    let ones = and_parts (alike d p) (same_stars digits pattern) one in
    let twos = and_parts (alike t q) (same_stars others other_pattern) two in
    ap (λ k. k ∷ masked digits other_pattern) (kept_alike d p t q shared.0 ones.0 twos.0)
    ∙ ap (λ ks. kept_digit t p ∷ ks) (masked_alike digits pattern others other_pattern shared.1 ones.1 twos.1)

head_is : {X : Type 0} (x y : X) (xs ys : List X) → x ∷ xs ≡ y ∷ ys → (x ≡ y) × (xs ≡ ys)
head_is x y xs ys h = (cc, cc)

shared_kept : (d p t q : Option ℕ) → alike d p ≡ true → kept_digit d q ≡ kept_digit t p → share_digit d t ≡ true
shared_kept None p t q one same = refl
shared_kept (Some d) p None q one same = refl
shared_kept (Some d) None (Some t) q one same = absurd (cc)
shared_kept (Some d) (Some p) (Some t) None one same = absurd (cc)
shared_kept (Some d) (Some p) (Some t) (Some q) one same = eq-eqb d t (let e : Some d ≡ Some t = same in cc)

pub shared_masked : (digits pattern others other_pattern : List (Option ℕ)) → same_stars digits pattern ≡ true → masked digits other_pattern ≡ masked others pattern → share_tuple digits others ≡ true
shared_masked [] pattern [] other_pattern one same = refl
shared_masked [] [] (t ∷ others) other_pattern one same = absurd (cc)
shared_masked [] (p ∷ pattern) (t ∷ others) other_pattern one same = absurd (cc)
shared_masked (d ∷ digits) [] others other_pattern one same = absurd (cc)
shared_masked (d ∷ digits) (p ∷ pattern) [] [] one same = absurd (cc)
shared_masked (d ∷ digits) (p ∷ pattern) [] (q ∷ other_pattern) one same = absurd (cc)
shared_masked (d ∷ digits) (p ∷ pattern) (t ∷ others) [] one same =
    let parts = head_is None (kept_digit t p) (masked digits []) (masked others pattern) same in
    let ones = and_parts (alike d p) (same_stars digits pattern) one in
    both_hold (share_digit d t) (share_tuple digits others) (shared_kept d p t None ones.0 parts.0) (shared_masked digits pattern others [] ones.1 parts.1)
shared_masked (d ∷ digits) (p ∷ pattern) (t ∷ others) (q ∷ other_pattern) one same =
    let parts = head_is (kept_digit d q) (kept_digit t p) (masked digits other_pattern) (masked others pattern) same in
    let ones = and_parts (alike d p) (same_stars digits pattern) one in
    both_hold (share_digit d t) (share_tuple digits others) (shared_kept d p t q ones.0 parts.0) (shared_masked digits pattern others other_pattern ones.1 parts.1)

-- stars are where they are
pub same_stars-self : (digits : List (Option ℕ)) → same_stars digits digits ≡ true
same_stars-self [] = refl
same_stars-self (None ∷ digits) = same_stars-self digits
same_stars-self (Some d ∷ digits) = same_stars-self digits

-- a table with a transition more
pub IsTableOf-push : (list : List Transition) (table : StarTable) (t : Transition) → IsTableOf list table → IsTableOf (list ++ t ∷ []) (with_target table (masked t.0 table.pattern) t.1)
IsTableOf-push list table t is digits =
    targets_at-insert table.entries (masked t.0 table.pattern) (joined (targets_at table.entries (masked t.0 table.pattern)) t.1) digits
    ∙ by (same_digits digits (masked t.0 table.pattern)) refl
    ∙ sym (fold_push (with_transition table.pattern digits) None list t)
  where
    by : (b : Bool) → same_digits digits (masked t.0 table.pattern) ≡ b
        → cond b (Some (joined (targets_at table.entries (masked t.0 table.pattern)) t.1)) (targets_at table.entries digits) ≡ cond b (Some (joined (targets_over list table.pattern digits) t.1)) (targets_over list table.pattern digits)
    by true h = ap (λ o. Some (joined o t.1)) (ap (targets_at table.entries) (sym ((same_digits-Decides digits (masked t.0 table.pattern)).0 h)) ∙ is digits)
    by false h = is digits

-- a table says whether there is another target
joined_differs : (found : Option Targets) (q target : ℕ) → differs_from (Some (joined found q)) target ≡ (differs_from found target || not (eqb q target))
joined_differs None q target = refl
joined_differs (Some (One only)) q target = by (eqb only q) refl
  where
    by : (b : Bool) → eqb only q ≡ b → differs_from (Some (cond b (One only) Several)) target ≡ (not (eqb only target) || not (eqb q target))
    by true same = or_same (not (eqb only target)) (not (eqb q target)) (ap (λ (n : ℕ). not (eqb n target)) (eqb-true only q same))
      where
        or_same : (b c : Bool) → b ≡ c → b ≡ (b || c)
        or_same true c h = refl
        or_same false c h = h
    by false apart = differ (eqb only target) (eqb q target) refl refl
      where
        differ : (b c : Bool) → eqb only target ≡ b → eqb q target ≡ c → true ≡ (not b || not c)
        differ true true one two = absurd (true≢false (sym (eq-eqb only q (eqb-true only target one ∙ sym (eqb-true q target two))) ∙ apart))
        differ true false one two = refl
        differ false c one two = refl
joined_differs (Some Several) q target = refl

abbrev pub has_other : List (Option ℕ) → List (Option ℕ) → ℕ → Transition → Bool
has_other pattern digits target t = same_digits digits (masked t.0 pattern) && not (eqb t.1 target)

differs_from-fold : (list : List Transition) (pattern digits : List (Option ℕ)) (found : Option Targets) (target : ℕ) → differs_from (fold (with_transition pattern digits) found list) target ≡ (differs_from found target || list_any (has_other pattern digits target) list)
differs_from-fold [] pattern digits found target = or_false (differs_from found target)
  where
    or_false : (b : Bool) → b ≡ (b || false)
    or_false true = refl
    or_false false = refl
differs_from-fold (t ∷ list) pattern digits found target =
    differs_from-fold list pattern digits (with_transition pattern digits found t) target ∙ by (same_digits digits (masked t.0 pattern))
  where
    or_assoc : (a b c : Bool) → ((a || b) || c) ≡ (a || (b || c))
    or_assoc true b c = refl
    or_assoc false b c = refl

    by : (b : Bool) → (differs_from (cond b (Some (joined found t.1)) found) target || list_any (has_other pattern digits target) list) ≡ (differs_from found target || ((b && not (eqb t.1 target)) || list_any (has_other pattern digits target) list))
    by true =
        ap (λ d. d || list_any (has_other pattern digits target) list) (joined_differs found t.1 target)
        ∙ or_assoc (differs_from found target) (not (eqb t.1 target)) (list_any (has_other pattern digits target) list)
    by false = refl

pub differs_from-over : (list : List Transition) (pattern digits : List (Option ℕ)) (target : ℕ) → differs_from (targets_over list pattern digits) target ≡ list_any (has_other pattern digits target) list
differs_from-over list pattern digits target = differs_from-fold list pattern digits None target

-- tests that hold of some element or of none alike
any_same : {X Y : Type 0} (p : X → Bool) (xs : List X) (q : Y → Bool) (ys : List Y) → (list_any p xs ≡ true → list_any q ys ≡ true) → (list_any q ys ≡ true → list_any p xs ≡ true) → list_any p xs ≡ list_any q ys
any_same p xs q ys there back = by (list_any p xs) (list_any q ys) there back
  where
    by : (b c : Bool) → (b ≡ true → c ≡ true) → (c ≡ true → b ≡ true) → b ≡ c
    by true c h k = sym (h refl)
    by false true h k = k refl
    by false false h k = refl

-- by the tables a transition leads elsewhere if and only if it does not agree with the others
module _ (list : List Transition) (tables : List StarTable) (digits : List (Option ℕ)) (target own : ℕ) (are : AreIndexed list tables) (is : IsOwnTable digits tables own) where
  own_targets : (key : List (Option ℕ)) → differs_from (targets_at (get_or tables own no_table).entries key) target ≡ list_any (has_other (get_or tables own no_table).pattern key target) list
  own_targets key =
      ap (λ o. differs_from o target) (All-get_or (IsTableOf list) tables own no_table is.within are.tables_of key)
      ∙ differs_from-over list (get_or tables own no_table).pattern key target

  leads_to_other : list_any (λ (table : StarTable). differs_from (targets_at (get_or tables own no_table).entries (masked digits table.pattern)) target) tables ≡ true → list_any (λ t. share_tuple digits t.0 && not (eqb t.1 target)) list ≡ true
  leads_to_other h =
      let (table, among, differs) = contains_from_list_any (λ (u : StarTable). differs_from (targets_at (get_or tables own no_table).entries (masked digits u.pattern)) target) tables h in
      let key = masked digits table.pattern in
      let (t, there, other) = contains_from_list_any (has_other (get_or tables own no_table).pattern key target) list (sym (own_targets key) ∙ differs) in
      let parts = and_parts (same_digits key (masked t.0 (get_or tables own no_table).pattern)) (not (eqb t.1 target)) other in
      let same = (same_digits-Decides key (masked t.0 (get_or tables own no_table).pattern)).0 parts.0 in
      list_any-contains (λ u. share_tuple digits u.0 && not (eqb u.1 target)) list t there
      (both_hold (share_tuple digits t.0) (not (eqb t.1 target)) (shared_masked digits (get_or tables own no_table).pattern t.0 table.pattern is.stars same) parts.1)

  other_leads : list_any (λ t. share_tuple digits t.0 && not (eqb t.1 target)) list ≡ true → list_any (λ (table : StarTable). differs_from (targets_at (get_or tables own no_table).entries (masked digits table.pattern)) target) tables ≡ true
  other_leads h =
      let (t, there, other) = contains_from_list_any (λ u. share_tuple digits u.0 && not (eqb u.1 target)) list h in
      let parts = and_parts (share_tuple digits t.0) (not (eqb t.1 target)) other in
      let (table, among, stars) = contains_from_list_any (λ (u : StarTable). same_stars t.0 u.pattern) tables (All-contains (λ u. list_any (λ (v : StarTable). same_stars u.0 v.pattern) tables ≡ true) list t are.covered there) in
      let key = masked digits table.pattern in
      let same : key ≡ masked t.0 (get_or tables own no_table).pattern = masked_alike digits (get_or tables own no_table).pattern t.0 table.pattern parts.0 is.stars stars in
      list_any-contains (λ (u : StarTable). differs_from (targets_at (get_or tables own no_table).entries (masked digits u.pattern)) target) tables table among
      (own_targets key
      ∙ list_any-contains (has_other (get_or tables own no_table).pattern key target) list t there
      (both_hold (same_digits key (masked t.0 (get_or tables own no_table).pattern)) (not (eqb t.1 target)) ((same_digits-Decides key (masked t.0 (get_or tables own no_table).pattern)).1 same) parts.1))

  pub leads_elsewhere_is : list_any (λ (table : StarTable). differs_from (targets_at (get_or tables own no_table).entries (masked digits table.pattern)) target) tables ≡ list_any (λ t. share_tuple digits t.0 && not (eqb t.1 target)) list
  leads_elsewhere_is =
      any_same (λ (table : StarTable). differs_from (targets_at (get_or tables own no_table).entries (masked digits table.pattern)) target) tables
      (λ t. share_tuple digits t.0 && not (eqb t.1 target)) list leads_to_other other_leads

  -- and with it the tables are those of the transitions with it
  abbrev pub added : StarTable → StarTable
  added table = with_target table (masked digits table.pattern) target

  still_covered : (stars : List (Option ℕ)) (us : List StarTable) → list_any (λ (table : StarTable). same_stars stars table.pattern) (map added us) ≡ list_any (λ (table : StarTable). same_stars stars table.pattern) us
  still_covered stars [] = refl
  still_covered stars (u ∷ us) = ap (λ b. same_stars stars u.pattern || b) (still_covered stars us)

  pub AreIndexed-added : AreIndexed (list ++ (digits, target) ∷ []) (map (λ (table : StarTable). with_target table (masked digits table.pattern) target) tables)
  AreIndexed-added = record {
    tables_of = All-map (IsTableOf (list ++ (digits, target) ∷ [])) added tables (λ k d lt. IsTableOf-push list (get_or tables k d) (digits, target) (are.tables_of k d lt));
    covered = All-push (λ t. list_any (λ (table : StarTable). same_stars t.0 table.pattern) (map added tables) ≡ true) list (digits, target)
        (λ k d lt. still_covered (get_or list k d).0 tables ∙ are.covered k d lt)
        (still_covered digits tables ∙ list_any-contains (λ (table : StarTable). same_stars digits table.pattern) tables (get_or tables own no_table) (Contains-get_or tables own no_table is.within) is.stars);
  }

-- a table more
any_more : {X : Type 0} (p : X → Bool) (xs ys : List X) → list_any p xs ≡ true → list_any p (xs ++ ys) ≡ true
any_more p xs ys h = list_any-append p xs ys ∙ ap (λ b. b || list_any p ys) h

pub AreIndexed-more : (list : List Transition) (tables : List StarTable) (table : StarTable) → AreIndexed list tables → IsTableOf list table → AreIndexed list (tables ++ table ∷ [])
AreIndexed-more list tables table are is = record {
  tables_of = All-push (IsTableOf list) tables table are.tables_of is;
  covered = λ k d lt. any_more (λ (u : StarTable). same_stars (get_or list k d).0 u.pattern) tables (table ∷ []) (are.covered k d lt);
}

pub IsOwnTable-last : (digits : List (Option ℕ)) (tables : List StarTable) (table : StarTable) (place : ℕ) → place ≡ length tables → table.pattern ≡ digits → IsOwnTable digits (tables ++ table ∷ []) place
IsOwnTable-last digits tables table place last pattern = record {
  within = omega (arith, last, length_push tables table);
  stars = ap (λ (u : StarTable). same_stars digits u.pattern) (get_or_push tables table no_table place (sym last)) ∙ ap (same_stars digits) pattern ∙ same_stars-self digits;
}

pub IsOwnTable-found : (digits : List (Option ℕ)) (tables : List StarTable) (place : ℕ) → position (λ (table : StarTable). same_stars digits table.pattern) tables ≡ Some place → IsOwnTable digits tables place
IsOwnTable-found digits tables place h = let found = position-Some (λ (table : StarTable). same_stars digits table.pattern) tables place no_table h in record { within = found.0; stars = found.1 }

-- a list whose first elements are changed, with one more
pub set_prefix : {X : Type 0} (f : X → X) (xs : List X) (i : ℕ) (d y : X) → i < length xs → y ≡ f (get_or xs i d) → set (map f (take i xs) ++ drop i xs) i y ≡ map f (take (i + 1) xs) ++ drop (i + 1) xs
set_prefix f [] i d y within is = absurd (omega arith)
set_prefix f (x ∷ xs) zero d y within is = ap (λ z. z ∷ xs) is
set_prefix f (x ∷ xs) (suc i) d y within is = ap (λ zs. f x ∷ zs) (set_prefix f xs i d y (omega arith) is) ∙ let e : suc i + 1 ≡ suc (i + 1) = omega arith in rw e refl

pub get_or-prefix : {X : Type 0} (f : X → X) (xs : List X) (i : ℕ) (d : X) → get_or (map f (take i xs) ++ drop i xs) i d ≡ get_or xs i d
get_or-prefix f [] zero d = refl
get_or-prefix f [] (suc i) d = refl
get_or-prefix f (x ∷ xs) zero d = refl
get_or-prefix f (x ∷ xs) (suc i) d = get_or-prefix f xs i d

pub length-prefix : {X : Type 0} (f : X → X) (xs : List X) (i : ℕ) → length (map f (take i xs) ++ drop i xs) ≡ length xs
length-prefix f [] zero = refl
length-prefix f [] (suc i) = refl
length-prefix f (x ∷ xs) zero = refl
length-prefix f (x ∷ xs) (suc i) = ap suc (length-prefix f xs i)
