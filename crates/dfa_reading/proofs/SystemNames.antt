-- Names of systems.
use Rattle.std.proofs.Common.{◌≡◌, ℕ, zero, suc, ◌<◌, ◌≤◌, ◌^◌, Bool, true, false, cond, ◌||◌, ◌&&◌, nat_le, List, [], ◌∷◌, ◌++◌, IsAscii, length, take, drop, refl, sym, ◌∙◌, ap, subst, true≢false, arith, tests, codes, bytes_eq, ◌⊎◌, inl, inr, ⊎_elim}
use Rattle.std.specs.List.{AllByRecursion, list_all}
use Rattle.std.proofs.lemmas.List.{take-append-drop}
use Rattle.std.proofs.lemmas.Slice.Eq.{bytes_eq-Decides}
use Rattle.std.proofs.lemmas.Bool.{and_parts, or_cases, leb-true, cases_lt}
use Rattle.digit_tuple.specs.declared.direction.Direction.{Direction}
use Rattle.digit_tuple.specs.declared.direction.Direction.TheVariants.{Msd, Lsd}
use Rattle.system_names.specs.declared.system_kind.SystemKind.{SystemKind}
use Rattle.system_names.specs.declared.system_kind.SystemKind.TheVariants.{Base, Fibonacci}
use Rattle.system_names.specs.Names.{system_name, digit_count, IsBase, IsBuiltIn, IsBuiltInName}
use Rattle.system_names.proofs.OneSystem.{one_system}
use Rattle.text_grammar.specs.Bytes.{is_alphanumeric}
use Rattle.text_grammar.specs.Systems.{is_direction, is_system}
use Rattle.dfa_reading.specs.Systems.{is_base_name, is_fibonacci_name, limit_up_to, digit_limit}

-- names of systems are ASCII
alphanumeric-low : (b : ℕ) → is_alphanumeric b ≡ true → b < 128
alphanumeric-low b h = grind (arith, tests)

all-append : (P : ℕ → Type 0) (xs ys : List ℕ) → AllByRecursion P xs → AllByRecursion P ys → AllByRecursion P (xs ++ ys)
all-append P [] ys a b = b
all-append P (x ∷ xs) ys a b = (a.0, all-append P xs ys a.1 b)

low : (bytes : List ℕ) → AllByRecursion (λ b. b < 128) bytes → IsAscii bytes
low [] all i = omega arith
low (b ∷ bs) all zero = all.0
low (b ∷ bs) all (suc i) = low bs all.1 i

alphanumeric_all : (bytes : List ℕ) → list_all is_alphanumeric bytes ≡ true → AllByRecursion (λ b. b < 128) bytes
alphanumeric_all [] h = tt
alphanumeric_all (b ∷ bs) h = let p = and_parts (is_alphanumeric b) (list_all is_alphanumeric bs) h in (alphanumeric-low b p.0, alphanumeric_all bs p.1)

direction_is : (bytes : List ℕ) → is_direction bytes ≡ true → (bytes ≡ codes "msd_") ⊎ (bytes ≡ codes "lsd_")
direction_is bytes h = ⊎_elim (λ e. inl ((bytes_eq-Decides bytes (codes "msd_")).0 e)) (λ e. inr ((bytes_eq-Decides bytes (codes "lsd_")).0 e))
    (or_cases (bytes_eq bytes (codes "msd_")) (bytes_eq bytes (codes "lsd_")) h)

direction_low : (bytes : List ℕ) → is_direction bytes ≡ true → AllByRecursion (λ b. b < 128) bytes
direction_low bytes h =
    let P : List ℕ → Type 0 = λ l. AllByRecursion (λ b. b < 128) l in
    ⊎_elim (λ e. subst P (sym e) (omega arith, (omega arith, (omega arith, (omega arith, tt))))) (λ e. subst P (sym e) (omega arith, (omega arith, (omega arith, (omega arith, tt))))) (direction_is bytes h)

pub ascii_system : (part : List ℕ) → is_system part ≡ true → IsAscii part
unfolding is_system
ascii_system part h =
    let p = and_parts (nat_le 5 (length part)) (nat_le (length part) 62 && (is_direction (take 4 part) && list_all is_alphanumeric (drop 4 part))) h in
    let q = and_parts (nat_le (length part) 62) (is_direction (take 4 part) && list_all is_alphanumeric (drop 4 part)) p.1 in
    let r = and_parts (is_direction (take 4 part)) (list_all is_alphanumeric (drop 4 part)) q.1 in
    let all = all-append (λ b. b < 128) (take 4 part) (drop 4 part) (direction_low (take 4 part) r.0) (alphanumeric_all (drop 4 part) r.1) in
    low part (subst (λ (l : List ℕ). AllByRecursion (λ b. b < 128) l) (take-append-drop 4 part) all)

-- a name that passes the test of a base is built in
named_base : (name : List ℕ) (k : ℕ) → k ≤ 40 → is_base_name name k ≡ true → (direction : Direction) × IsBuiltIn direction (Base k) name
named_base name k most h =
    let p = and_parts (nat_le 2 k) (bytes_eq name (system_name Msd (Base k)) || bytes_eq name (system_name Lsd (Base k))) h in
    let base : IsBase k = record { least = leb-true 2 k p.0; most = most } in
    ⊎_elim (λ e. (Msd, (base, (bytes_eq-Decides name (system_name Msd (Base k))).0 e))) (λ e. (Lsd, (base, (bytes_eq-Decides name (system_name Lsd (Base k))).0 e)))
    (or_cases (bytes_eq name (system_name Msd (Base k))) (bytes_eq name (system_name Lsd (Base k))) p.1)

or_true : (a : Bool) → (a || true) ≡ true
or_true true = refl
or_true false = refl

-- and the name of a base passes it
passes_base : (direction : Direction) (k : ℕ) (name : List ℕ) → IsBuiltIn direction (Base k) name → is_base_name name k ≡ true
passes_base Msd k name (is, named) =
    let least : nat_le 2 k ≡ true = grind (arith, tests, is.least) in
    rw (least, (bytes_eq-Decides name (system_name Msd (Base k))).1 named) refl
passes_base Lsd k name (is, named) =
    let least : nat_le 2 k ≡ true = grind (arith, tests, is.least) in
    rw (least, (bytes_eq-Decides name (system_name Lsd (Base k))).1 named) (or_true (bytes_eq name (system_name Msd (Base k))))

-- a name that passes the test of the Fibonacci system is built in, and its names pass it
named_fibonacci : (name : List ℕ) → is_fibonacci_name name ≡ true → (direction : Direction) × IsBuiltIn direction Fibonacci name
named_fibonacci name h =
    ⊎_elim (λ e. (Msd, (tt, (bytes_eq-Decides name (system_name Msd Fibonacci)).0 e))) (λ e. (Lsd, (tt, (bytes_eq-Decides name (system_name Lsd Fibonacci)).0 e)))
    (or_cases (bytes_eq name (system_name Msd Fibonacci)) (bytes_eq name (system_name Lsd Fibonacci)) h)

passes_fibonacci : (direction : Direction) (name : List ℕ) → IsBuiltIn direction Fibonacci name → is_fibonacci_name name ≡ true
passes_fibonacci Msd name is = rw ((bytes_eq-Decides name (system_name Msd Fibonacci)).1 is.1) refl
passes_fibonacci Lsd name is = rw ((bytes_eq-Decides name (system_name Lsd Fibonacci)).1 is.1) (or_true (bytes_eq name (system_name Msd Fibonacci)))

at_or_below : (k n : ℕ) → k ≤ suc n → (k ≡ suc n → ⊥) → k ≤ n
at_or_below k n most other = elim (cases_lt n k) [ inl more ↦ absurd (other (omega arith)) | inr less ↦ less ]

limit_here : (direction : Direction) (k n : ℕ) (name : List ℕ) → IsBuiltIn direction (Base k) name → n ≤ 40 → k ≤ n → limit_up_to name n ≡ k
limit_here direction k zero name is most within = let least : 2 ≤ k = is.0.least in absurd (omega arith)
limit_here direction k (suc n) name is most within = by (is_base_name name (suc n)) refl (λ less. limit_here direction k n name is (omega arith) less)
  where
    by : (b : Bool) → is_base_name name (suc n) ≡ b → (k ≤ n → limit_up_to name n ≡ k) → cond b (suc n) (limit_up_to name n) ≡ k
    by true passes rest = let found = named_base name (suc n) most passes in sym (ap digit_count (one_system direction found.0 (Base k) (Base (suc n)) name is found.1).1)
    by false fails rest = rest (at_or_below k n within (λ same. true≢false (sym (passes_base direction k name is) ∙ ap (is_base_name name) same ∙ fails)))

abbrev is_base : SystemKind → Bool
is_base (Base k) = true
is_base Fibonacci = false

limit_fibonacci : (direction : Direction) (n : ℕ) (name : List ℕ) → IsBuiltIn direction Fibonacci name → n ≤ 40 → limit_up_to name n ≡ 2
limit_fibonacci direction zero name is most = ap (λ (b : Bool). cond b 2 (2 ^ 32)) (passes_fibonacci direction name is)
limit_fibonacci direction (suc n) name is most = by (is_base_name name (suc n)) refl (limit_fibonacci direction n name is (omega arith))
  where
    by : (b : Bool) → is_base_name name (suc n) ≡ b → limit_up_to name n ≡ 2 → cond b (suc n) (limit_up_to name n) ≡ 2
    by true passes rest = let found = named_base name (suc n) most passes in absurd (true≢false (sym (ap is_base (one_system direction found.0 Fibonacci (Base (suc n)) name is found.1).1)))
    by false fails rest = rest

limit_other : (n : ℕ) (name : List ℕ) → ¬ IsBuiltInName name → n ≤ 40 → limit_up_to name n ≡ 2 ^ 32
limit_other zero name none most = by (is_fibonacci_name name) refl
  where
    by : (b : Bool) → is_fibonacci_name name ≡ b → cond b 2 (2 ^ 32) ≡ 2 ^ 32
    by true passes = let found = named_fibonacci name passes in absurd (none (found.0, Fibonacci, found.1))
    by false fails = refl
limit_other (suc n) name none most = by (is_base_name name (suc n)) refl (limit_other n name none (omega arith))
  where
    by : (b : Bool) → is_base_name name (suc n) ≡ b → limit_up_to name n ≡ 2 ^ 32 → cond b (suc n) (limit_up_to name n) ≡ 2 ^ 32
    by true passes rest = let found = named_base name (suc n) most passes in absurd (none (found.0, Base (suc n), found.1))
    by false fails rest = rest

-- the limit of a system that is built in is its number of digits
pub digit_limit-built : (direction : Direction) (kind : SystemKind) (name : List ℕ) → IsBuiltIn direction kind name → digit_limit name ≡ digit_count kind
unfolding digit_limit
digit_limit-built direction (Base k) name is = limit_here direction k 40 name is (omega arith) is.0.most
digit_limit-built direction Fibonacci name is = limit_fibonacci direction 40 name is (omega arith)

-- and that of another system 2^32
pub digit_limit-other : (name : List ℕ) → ¬ IsBuiltInName name → digit_limit name ≡ 2 ^ 32
unfolding digit_limit
digit_limit-other name none = limit_other 40 name none (omega arith)

limit_most : (n : ℕ) (name : List ℕ) → n ≤ 40 → limit_up_to name n ≤ 2 ^ 32
limit_most zero name most = by (is_fibonacci_name name)
  where
    by : (b : Bool) → cond b 2 (2 ^ 32) ≤ 2 ^ 32
    by true = omega arith
    by false = omega arith
limit_most (suc n) name most = by (is_base_name name (suc n)) (limit_most n name (omega arith))
  where
    by : (b : Bool) → limit_up_to name n ≤ 2 ^ 32 → cond b (suc n) (limit_up_to name n) ≤ 2 ^ 32
    by true rest = omega arith
    by false rest = rest

pub limit_small : (name : List ℕ) → digit_limit name ≤ 2 ^ 32
unfolding digit_limit
limit_small name = limit_most 40 name (omega arith)

-- bytes that no letter and no digit is are in no name but for `_`
module _ (p : ℕ → Bool) (spared : (b : ℕ) → is_alphanumeric b ≡ true → p b ≡ false) (underscore : p 95 ≡ false) where
  alphanumeric_avoids : (bytes : List ℕ) → list_all is_alphanumeric bytes ≡ true → AllByRecursion (λ b. p b ≡ false) bytes
  alphanumeric_avoids [] h = tt
  alphanumeric_avoids (b ∷ bs) h = let parts = and_parts (is_alphanumeric b) (list_all is_alphanumeric bs) h in (spared b parts.0, alphanumeric_avoids bs parts.1)

  direction_avoids : (bytes : List ℕ) → is_direction bytes ≡ true → AllByRecursion (λ b. p b ≡ false) bytes
  direction_avoids bytes h =
      let P : List ℕ → Type 0 = λ l. AllByRecursion (λ b. p b ≡ false) l in
      ⊎_elim (λ e. subst P (sym e) (spared 109 refl, (spared 115 refl, (spared 100 refl, (underscore, tt))))) (λ e. subst P (sym e) (spared 108 refl, (spared 115 refl, (spared 100 refl, (underscore, tt))))) (direction_is bytes h)

  pub system_avoids : (part : List ℕ) → is_system part ≡ true → AllByRecursion (λ b. p b ≡ false) part
  unfolding is_system
  system_avoids part h =
      let q = and_parts (nat_le 5 (length part)) (nat_le (length part) 62 && (is_direction (take 4 part) && list_all is_alphanumeric (drop 4 part))) h in
      let r = and_parts (nat_le (length part) 62) (is_direction (take 4 part) && list_all is_alphanumeric (drop 4 part)) q.1 in
      let s = and_parts (is_direction (take 4 part)) (list_all is_alphanumeric (drop 4 part)) r.1 in
      subst (λ (l : List ℕ). AllByRecursion (λ b. p b ≡ false) l) (take-append-drop 4 part)
      (all-append (λ b. p b ≡ false) (take 4 part) (drop 4 part) (direction_avoids (take 4 part) s.0) (alphanumeric_avoids (drop 4 part) s.1))

-- a name has five bytes at least
pub system_some : (part : List ℕ) → is_system part ≡ true → 0 < length part
unfolding is_system
system_some part h =
    let q = and_parts (nat_le 5 (length part)) (nat_le (length part) 62 && (is_direction (take 4 part) && list_all is_alphanumeric (drop 4 part))) h in
    let long = leb-true 5 (length part) q.0 in omega arith

and_false : (a b : Bool) → (a && (b && false)) ≡ false
and_false true true = refl
and_false true false = refl
and_false false b = refl

-- what begins with a brace is none
pub brace_no_system : (bytes : List ℕ) → is_system (123 ∷ bytes) ≡ false
unfolding is_system
brace_no_system bytes = and_false (nat_le 5 (length (123 ∷ bytes))) (nat_le (length (123 ∷ bytes)) 62)

-- nor are `true` and `false`
pub system_no_truth : (part : List ℕ) → is_system part ≡ true → (bytes_eq part (codes "true") ≡ false) × (bytes_eq part (codes "false") ≡ false)
unfolding is_system
system_no_truth part h = (by (bytes_eq part (codes "true")) refl, by' (bytes_eq part (codes "false")) refl)
  where
    by : (b : Bool) → bytes_eq part (codes "true") ≡ b → b ≡ false
    by true e = sym h ∙ ap is_system ((bytes_eq-Decides part (codes "true")).0 e)
    by false e = refl

    by' : (b : Bool) → bytes_eq part (codes "false") ≡ b → b ≡ false
    by' true e = sym h ∙ ap is_system ((bytes_eq-Decides part (codes "false")).0 e)
    by' false e = refl
