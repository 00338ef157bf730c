-- A name determines its system.
use Rattle.std.proofs.Common.{◌≡◌, ℕ, ◌≤◌, List, length, take, drop, get_or, codes, decimal, refl, sym, ap, ◌∙◌, arith}
use Rattle.std.proofs.lemmas.Fmt.{decimal_injective, length-decimal-le}
use Rattle.digit_tuple.specs.declared.direction.Direction.{Direction}
use Rattle.digit_tuple.specs.declared.direction.Direction.TheVariants.{Msd, Lsd}
use Rattle.system_names.specs.declared.system_kind.SystemKind.{SystemKind}
use Rattle.system_names.specs.declared.system_kind.SystemKind.TheVariants.{Base, Fibonacci}
use Rattle.system_names.specs.Names.{direction_part, kind_part, system_name, IsBase, IsSystemKind, NamesDetermineSystems}

-- the prefix of a name says the direction, and what follows it the kind
pub prefix_of : (direction : Direction) (kind : SystemKind) → take 4 (system_name direction kind) ≡ direction_part direction
prefix_of Msd kind = refl
prefix_of Lsd kind = refl

pub rest_of : (direction : Direction) (kind : SystemKind) → drop 4 (system_name direction kind) ≡ kind_part kind
rest_of Msd kind = refl
rest_of Lsd kind = refl

-- directions differ in their names
pub one_direction : (direction other : Direction) → direction_part direction ≡ direction_part other → direction ≡ other
one_direction Msd Msd same = refl
one_direction Lsd Lsd same = refl
one_direction Msd Lsd same = let first : 109 ≡ 108 = ap (λ (xs : List ℕ). get_or xs 0 0) same in absurd (omega (arith, first))
one_direction Lsd Msd same = let first : 108 ≡ 109 = ap (λ (xs : List ℕ). get_or xs 0 0) same in absurd (omega (arith, first))

-- a base has at most two digits
base_is_short : (k : ℕ) → IsBase k → decimal k ≡ codes "fib" → ⊥
base_is_short k is same =
    let short : length (decimal k) ≤ 2 = length-decimal-le 2 k (omega arith) (omega (arith, is.most)) (omega (arith, is.most)) in
    let long : length (decimal k) ≡ 3 = ap length same in
    omega (arith, short, long)

-- kinds differ in their names
one_kind : (kind another : SystemKind) → IsSystemKind kind → IsSystemKind another → kind_part kind ≡ kind_part another → kind ≡ another
one_kind (Base k) (Base n) one two same = ap Base (decimal_injective k n (omega (arith, one.most)) (omega (arith, two.most)) same)
one_kind (Base k) Fibonacci one two same = absurd (base_is_short k one same)
one_kind Fibonacci (Base n) one two same = absurd (base_is_short n two (sym same))
one_kind Fibonacci Fibonacci one two same = refl

pub one_system : NamesDetermineSystems
one_system direction other kind another name (is, named) (is', named') =
    let same : system_name direction kind ≡ system_name other another = sym named ∙ named' in (
      one_direction direction other (sym (prefix_of direction kind) ∙ (ap (λ (xs : List ℕ). take 4 xs) same ∙ prefix_of other another)),
      one_kind kind another is is' (sym (rest_of direction kind) ∙ (ap (λ (xs : List ℕ). drop 4 xs) same ∙ rest_of other another)),
    )
