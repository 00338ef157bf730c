-- Places kept by their distances from bases.
use Rattle.std.proofs.Common.{◌≡◌, ℕ, zero, suc, ◌+◌, ◌-◌, ◌<◌, ◌≤◌, Bool, List, [], ◌∷◌, ◌++◌, length, get_or, take, refl, ap, ◌∙◌, arith}
use Rattle.std.proofs.lemmas.List.{take_more}
use Rattle.std.proofs.lemmas.Bool.{le-ltb, lt-ltb}
use Rattle.std.specs.Prelude.{nat_lt, if◌then◌else◌}
use Rattle.digit_tuple.specs.Starts.{base_at, places_from}
use Rattle.digit_tuple.specs.declared.starts.Base.{Base}

-- one more base
base_at-push : (place : ℕ) (bases : List Base) (b : Base) (index : ℕ) → base_at place (bases ++ b ∷ []) index ≡ (if nat_lt index b.first then base_at place bases index else b.place)
base_at-push place [] b index = refl
base_at-push place (c ∷ bases) b index = base_at-push (if nat_lt index c.first then place else c.place) bases b index

-- it is the base from its index on
pub base_at-here : (place : ℕ) (bases : List Base) (b : Base) (index : ℕ) → b.first ≤ index → base_at place (bases ++ b ∷ []) index ≡ b.place
base_at-here place bases b index within = base_at-push place bases b index ∙ ap (λ (t : Bool). if t then base_at place bases index else b.place) (le-ltb index b.first within)

-- and not before
pub base_at-before : (place : ℕ) (bases : List Base) (b : Base) (index : ℕ) → index < b.first → base_at place (bases ++ b ∷ []) index ≡ base_at place bases index
base_at-before place bases b index less = base_at-push place bases b index ∙ ap (λ (t : Bool). if t then base_at place bases index else b.place) (lt-ltb index b.first less)

-- one more of the bases
pub base_at-more : (place : ℕ) (bases : List Base) (k : ℕ) (d : Base) (index : ℕ) → k < length bases → (get_or bases k d).first ≤ index → base_at place (take (k + 1) bases) index ≡ (get_or bases k d).place
base_at-more place bases k d index within low = ap (λ (bs : List Base). base_at place bs index) (take_more bases k d within) ∙ base_at-here place (take k bases) (get_or bases k d) index low

pub base_at-same : (place : ℕ) (bases : List Base) (k : ℕ) (d : Base) (index : ℕ) → k < length bases → index < (get_or bases k d).first → base_at place (take (k + 1) bases) index ≡ base_at place (take k bases) index
base_at-same place bases k d index within high = ap (λ (bs : List Base). base_at place bs index) (take_more bases k d within) ∙ base_at-before place (take k bases) (get_or bases k d) index high

pub length-places_from : (index : ℕ) (offsets : List ℕ) (bases : List Base) → length (places_from index offsets bases) ≡ length offsets
length-places_from index [] bases = refl
length-places_from index (o ∷ os) bases = ap suc (length-places_from (suc index) os bases)

-- a base after all places changes none
pub places_from-base : (index : ℕ) (offsets : List ℕ) (bases : List Base) (b : Base) → index + length offsets ≤ b.first → places_from index offsets (bases ++ b ∷ []) ≡ places_from index offsets bases
places_from-base index [] bases b after_digit = refl
places_from-base index (o ∷ os) bases b after_digit =
    ap (λ n. (n + o) ∷ places_from (suc index) os (bases ++ b ∷ [])) (base_at-before 0 bases b index (omega arith))
    ∙ ap (λ (ps : List ℕ). (base_at 0 bases index + o) ∷ ps) (places_from-base (suc index) os bases b (omega arith))

-- one more place
pub places_from-push : (index : ℕ) (offsets : List ℕ) (bases : List Base) (o n : ℕ) → n ≡ index + length offsets → places_from index (offsets ++ o ∷ []) bases ≡ places_from index offsets bases ++ (base_at 0 bases n + o) ∷ []
places_from-push index [] bases o n same =
    let here : index ≡ n = omega arith in
    ap (λ m. (base_at 0 bases m + o) ∷ []) here
places_from-push index (p ∷ ps) bases o n same = ap (λ (ls : List ℕ). (base_at 0 bases index + p) ∷ ls) (places_from-push (suc index) ps bases o n (omega arith))

-- the place at an index
pub places_from-read : (index : ℕ) (offsets : List ℕ) (bases : List Base) (q n : ℕ) → q < length offsets → n ≡ index + q → get_or (places_from index offsets bases) q 0 ≡ base_at 0 bases n + get_or offsets q 0
places_from-read index [] bases q n within same = absurd (omega arith)
places_from-read index (o ∷ os) bases zero n within same =
    let here : index ≡ n = omega arith in
    ap (λ m. base_at 0 bases m + o) here
places_from-read index (o ∷ os) bases (suc q) n within same = places_from-read (suc index) os bases q n (omega arith) (omega arith)

-- a place near the base at its index
pub places_from-near : (offsets : List ℕ) (bases : List Base) (n b place : ℕ) → n ≡ length offsets → b ≡ base_at 0 bases n → b ≤ place → places_from 0 (offsets ++ (place - b) ∷ []) bases ≡ places_from 0 offsets bases ++ place ∷ []
places_from-near offsets bases n b place end is low =
    let whole : base_at 0 bases n + (place - b) ≡ place = omega (arith, is, low) in
    places_from-push 0 offsets bases (place - b) n (omega arith) ∙ ap (λ m. places_from 0 offsets bases ++ m ∷ []) whole

-- a place that is a base itself
pub places_from-far : (offsets : List ℕ) (bases : List Base) (n place : ℕ) → n ≡ length offsets → places_from 0 (offsets ++ 0 ∷ []) (bases ++ record { first = n; place = place } ∷ []) ≡ places_from 0 offsets bases ++ place ∷ []
places_from-far offsets bases n place end =
    let b : Base = record { first = n; place = place } in
    let here = base_at-here 0 bases b n (omega arith) in
    let whole : base_at 0 (bases ++ b ∷ []) n + 0 ≡ place = omega (arith, here) in
    places_from-push 0 offsets (bases ++ b ∷ []) 0 n (omega arith)
    ∙ ap (λ m. places_from 0 offsets (bases ++ b ∷ []) ++ m ∷ []) whole
    ∙ ap (λ (ps : List ℕ). ps ++ place ∷ []) (places_from-base 0 offsets bases b (omega arith))
