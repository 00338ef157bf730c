-- How many items of a list have a property, and how counts add up.
use Rattle.std.proofs.Common.{◌≡◌, ℕ, ◌+◌, ◌^◌, ◌<◌, ◌≤◌, Bool, true, false, cond, List, [], ◌∷◌, ◌++◌, length, arith}
use Rattle.std.specs.List.{count_by}
use Rattle.std.proofs.lemmas.List.Sums.{sum_by-append, sum_by-cons, count_by-le-length}
use Rattle.script_runs.specs.Tallies.{Adds, one_more_if}

module _ {X : Type 0} (p : X → Bool) where
  pub count_by-append : (xs ys : List X) → count_by p (xs ++ ys) ≡ count_by p xs + count_by p ys
  count_by-append xs ys = sum_by-append (λ (x : X). cond (p x) 1 0) xs ys

  pub count_by-cons : (x : X) (xs : List X) → count_by p (x ∷ xs) ≡ cond (p x) 1 0 + count_by p xs
  count_by-cons x xs = sum_by-cons (λ (x : X). cond (p x) 1 0) x xs

  -- none more
  pub adds_none : (old : ℕ) → Adds old (count_by p []) old
  adds_none old = λ few. omega arith

  -- some, and then more
  pub adds_then : (old mid new : ℕ) (prefix more : List X) → Adds old (count_by p prefix) mid → Adds mid (count_by p more) new → Adds old (count_by p (prefix ++ more)) new
  adds_then old mid new prefix more a b few =
      let all : count_by p (prefix ++ more) ≡ count_by p prefix + count_by p more = count_by-append prefix more in
      let first : mid ≡ old + count_by p prefix = a (omega (arith, few, all)) in
      let second : new ≡ mid + count_by p more = b (omega (arith, few, all, first)) in
      omega (arith, all, first, second)

  -- one more
  pub adds_one : (old new : ℕ) (x : X) → new ≡ one_more_if (p x) old → Adds old (count_by p (x ∷ [])) new
  adds_one old new x is few =
      let one : count_by p (x ∷ []) ≡ cond (p x) 1 0 + count_by p [] = count_by-cons x [] in
      by_case (p x) one is
    where
      by_case : (v : Bool) → count_by p (x ∷ []) ≡ cond v 1 0 + count_by p [] → new ≡ one_more_if v old → new ≡ old + count_by p (x ∷ [])
      by_case true one is = omega (arith, one, is, few)
      by_case false one is = omega (arith, one, is)

  -- what was counted from the start on is the number, where that is of 64 bits
  pub adds_all : (new : ℕ) (xs : List X) → Adds 0 (count_by p xs) new → length xs < 2 ^ 64 → new ≡ count_by p xs
  adds_all new xs adds few =
      let most : count_by p xs ≤ length xs = count_by-le-length p xs in
      let is : new ≡ 0 + count_by p xs = adds (omega (arith, most, few)) in
      omega (arith, is)
