-- Hashes of keys.
use Rattle.std.proofs.Common.{◌≡◌, ℕ, suc, ◌+◌, ◌*◌, ◌^◌, ◌<◌, List, ◌∷◌, drop, get_or, length, ap, ◌∙◌, drop-cons, arith}
use Rattle.std.proofs.lemmas.List.{drop_all}
use Rattle.digit_tuple.specs.KeyHashes.{hash_from, mixed}

module _ (hash : ℕ) (key : List ℕ) (n : ℕ) where
  -- two more numbers
  pub hash_from-two : (next x y : ℕ) → n + 1 < length key → next ≡ n + 2 → x ≡ get_or key n 0 → y ≡ get_or key (n + 1) 0
      → hash_from hash (drop n key) ≡ hash_from (mixed hash (y * 2 ^ 32 + x)) (drop next key)
  hash_from-two next x y within to first second =
      let one : n + 1 ≡ suc n = omega arith in
      let two : next ≡ suc (suc n) = omega arith in
      rw (two, first, second, one) (ap (hash_from hash) (drop-cons key n 0 (omega arith) ∙ ap (λ (ks : List ℕ). get_or key n 0 ∷ ks) (drop-cons key (suc n) 0 (omega arith))))

  -- the last number, where it is alone
  pub hash_from-last : (x : ℕ) → n + 1 ≡ length key → x ≡ get_or key n 0 → hash_from hash (drop n key) ≡ mixed hash x
  hash_from-last x last is =
      rw is (ap (hash_from hash) (drop-cons key n 0 (omega arith) ∙ ap (λ (ks : List ℕ). get_or key n 0 ∷ ks) (drop_all (suc n) key (omega arith))))

  -- no more numbers
  pub hash_from-end : n ≡ length key → hash_from hash (drop n key) ≡ hash
  hash_from-end last = ap (hash_from hash) (drop_all n key (omega arith))
