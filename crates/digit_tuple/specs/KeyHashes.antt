-- Hashes of keys: one number for each key, mostly different ones for different keys.
use Rattle.std.specs.Prelude.{ℕ, ◌+◌, ◌*◌, ◌/◌, ◌%◌, ◌^◌, bit_xor, List, [], ◌∷◌, length}

-- the product with a large odd number, whose halves are mixed
abbrev pub scrambled : ℕ → ℕ
scrambled n = let product = (n * 0x9E3779B97F4A7C15) % 2 ^ 64 in bit_xor product (product / 2 ^ 32)

-- the hash with one more number
unfoldable pub mixed : ℕ → ℕ → ℕ
mixed hash n = scrambled (bit_xor hash n)

-- the hash with more numbers, two at a time
abbrev pub hash_from : ℕ → List ℕ → ℕ
hash_from hash [] = hash
hash_from hash (x ∷ []) = mixed hash x
hash_from hash (x ∷ y ∷ rest) = hash_from (mixed hash (y * 2 ^ 32 + x)) rest

-- the hash of a key
abbrev pub hash_of : List ℕ → ℕ
hash_of key = mixed (hash_from (length key) key) 0 / 2 ^ 32
