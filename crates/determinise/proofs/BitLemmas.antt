-- Bits of words.
use Rattle.std.proofs.Common.{◌≡◌, ◌≢◌, ℕ, ◌+◌, ◌^◌, ◌<◌, ◌≤◌, max, min, List, [], ◌∷◌, take, set, replicate, length, get_or, ◌↔◌, ◌⊎◌, inl, inr, refl, sym, ap, ◌∙◌, subst, arith, get_or-set_same, get_or-set_other}
use Rattle.std.specs.Prelude.{bit_or, bit_and}
use Rattle.std.specs.Int.{bit_at, trailing_zeros}
use mir.Syntax.{w32}
use Rattle.std.specs.List.{Contains}
use Rattle.std.proofs.lemmas.Bool.{cases_eq, cases_lt}
use Rattle.std.proofs.lemmas.List.{take_more, get_or_past, length-replicate, get_or-replicate}
use Rattle.std.proofs.lemmas.List.Elements.{Contains-append_left, Contains-push, Contains-push_cases}
use Rattle.std.proofs.lemmas.Nat.Bits.{bit_at_or, bit_at_and, bit_at-lt, bit_at-zero, bit_at-trailing_zeros}
use Rattle.std.proofs.lemmas.Nat.{and_le_l}
use Rattle.determinise.specs.declared.bit_words.BitWord.{BitWord}
use Rattle.determinise.specs.Bits.{HasBit, RowHas, AreSet}

one_of_max : (x y : ℕ) → x < 2 → y < 2 → (max x y ≡ 1) ↔ ((x ≡ 1) ⊎ (y ≡ 1))
one_of_max x y small few = ((λ is. forth is (cases_eq x 1)), back)
  where
    forth : max x y ≡ 1 → (x ≡ 1) ⊎ (x ≡ 1 → ⊥) → (x ≡ 1) ⊎ (y ≡ 1)
    forth is (inl one) = inl one
    forth is (inr other) = inr (omega (arith, is, other))

    back : (x ≡ 1) ⊎ (y ≡ 1) → max x y ≡ 1
    back (inl one) = omega (arith, one)
    back (inr one) = omega (arith, one)

-- the bits of two numbers together
pub bit_at_or_iff : (a b i : ℕ) → (bit_at (bit_or a b) i ≡ 1) ↔ ((bit_at a i ≡ 1) ⊎ (bit_at b i ≡ 1))
bit_at_or_iff a b i =
    let both = one_of_max (bit_at a i) (bit_at b i) (bit_at-lt a i) (bit_at-lt b i) in
    ((λ is. both.0 (sym (bit_at_or a b i) ∙ is)), (λ one. bit_at_or a b i ∙ both.1 one))

-- a word with more bits
pub HasBit-or : (words : List ℕ) (place bits : ℕ) → place < length words → (p i : ℕ)
    → HasBit (set words place (bit_or (get_or words place 0) bits)) p i ↔ (HasBit words p i ⊎ ((place ≡ p) × (bit_at bits i ≡ 1)))
HasBit-or words place bits within p i = by (cases_eq p place)
  where
    word : ℕ
    word = bit_or (get_or words place 0) bits

    by : (p ≡ place) ⊎ (p ≡ place → ⊥) → HasBit (set words place (bit_or (get_or words place 0) bits)) p i ↔ (HasBit words p i ⊎ ((place ≡ p) × (bit_at bits i ≡ 1)))
    by (inr other) =
        let same = ap (λ w. bit_at w i) (get_or-set_other words place p (bit_or (get_or words place 0) bits) 0 other) in
        ((λ is. inl (sym same ∙ is)), none same)
      where
        none : bit_at (get_or (set words place (bit_or (get_or words place 0) bits)) p 0) i ≡ bit_at (get_or words p 0) i → HasBit words p i ⊎ ((place ≡ p) × (bit_at bits i ≡ 1)) → HasBit (set words place (bit_or (get_or words place 0) bits)) p i
        none same (inl is) = same ∙ is
        none same (inr here) = absurd (other (sym here.0))
    by (inl same) = subst (λ r. HasBit (set words place (bit_or (get_or words place 0) bits)) r i ↔ (HasBit words r i ⊎ ((place ≡ r) × (bit_at bits i ≡ 1)))) (sym same)
        (forth, back)
      where
        read : get_or (set words place (bit_or (get_or words place 0) bits)) place 0 ≡ bit_or (get_or words place 0) bits
        read = get_or-set_same words place (bit_or (get_or words place 0) bits) 0 within

        forth : HasBit (set words place (bit_or (get_or words place 0) bits)) place i → HasBit words place i ⊎ ((place ≡ place) × (bit_at bits i ≡ 1))
        forth is = cases ((bit_at_or_iff (get_or words place 0) bits i).0 (ap (λ w. bit_at w i) (sym read) ∙ is))
          where
            cases : (bit_at (get_or words place 0) i ≡ 1) ⊎ (bit_at bits i ≡ 1) → HasBit words place i ⊎ ((place ≡ place) × (bit_at bits i ≡ 1))
            cases (inl old) = inl old
            cases (inr new) = inr (refl, new)

        back : HasBit words place i ⊎ ((place ≡ place) × (bit_at bits i ≡ 1)) → HasBit (set words place (bit_or (get_or words place 0) bits)) place i
        back (inl old) = ap (λ w. bit_at w i) read ∙ (bit_at_or_iff (get_or words place 0) bits i).1 (inl old)
        back (inr new) = ap (λ w. bit_at w i) read ∙ (bit_at_or_iff (get_or words place 0) bits i).1 (inr new.1)

-- no word that is not there has a bit
pub HasBit-within : (words : List ℕ) (place bit : ℕ) → HasBit words place bit → place < length words
HasBit-within words place bit is = by (cases_lt place (length words))
  where
    by : (place < length words) ⊎ (length words ≤ place) → place < length words
    by (inl within) = within
    by (inr past) = absurd (omega (arith, sym is ∙ ap (λ w. bit_at w bit) (get_or_past words place 0 past) ∙ bit_at-zero bit))

-- no word of zeros has a bit
pub HasBit-replicate : (width place bit : ℕ) → HasBit (replicate width 0) place bit → ⊥
HasBit-replicate width place bit is =
    let within : place < width = omega (arith, HasBit-within (replicate width 0) place bit is, length-replicate {A = ℕ} width 0) in
    omega (arith, sym is ∙ ap (λ w. bit_at w bit) (get_or-replicate width place 0 0 within) ∙ bit_at-zero bit)

-- a row with one word more
RowHas-more : (row : List BitWord) (k : ℕ) (d : BitWord) → k < length row → (place bit : ℕ)
    → RowHas (take (k + 1) row) place bit ↔ (RowHas (take k row) place bit ⊎ (((get_or row k d).place ≡ place) × (bit_at (get_or row k d).bits bit ≡ 1)))
RowHas-more row k d within place bit = ((λ there. forth there (Contains-push_cases (take k row) (get_or row k d) there.0 (subst (λ ws. Contains ws there.0) (take_more row k d within) there.1))), back)
  where
    forth : (there : RowHas (take (k + 1) row) place bit) → Contains (take k row) there.0 ⊎ (get_or row k d ≡ there.0) → RowHas (take k row) place bit ⊎ (((get_or row k d).place ≡ place) × (bit_at (get_or row k d).bits bit ≡ 1))
    forth there (inl before) = inl (there.0, before, there.2, there.3)
    forth there (inr last) = inr (ap (λ (w : BitWord). w.place) last ∙ there.2, ap (λ (w : BitWord). bit_at w.bits bit) last ∙ there.3)

    back : RowHas (take k row) place bit ⊎ (((get_or row k d).place ≡ place) × (bit_at (get_or row k d).bits bit ≡ 1)) → RowHas (take (k + 1) row) place bit
    back (inl there) = (there.0, subst (λ ws. Contains ws there.0) (sym (take_more row k d within)) (Contains-append_left (take k row) (get_or row k d ∷ []) there.0 there.1), there.2, there.3)
    back (inr last) = (get_or row k d, subst (λ ws. Contains ws (get_or row k d)) (sym (take_more row k d within)) (Contains-push (take k row) (get_or row k d)), last.0, last.1)

-- the bits of no words set
pub AreSet-none : (words : List ℕ) → AreSet words [] words
AreSet-none words place bit = ((λ is. inl is), back)
  where
    back : HasBit words place bit ⊎ RowHas [] place bit → HasBit words place bit
    back (inl is) = is
    back (inr there) = absurd (omega (arith, there.1.1))

-- those of one word more
pub AreSet-more : (old words : List ℕ) (row : List BitWord) (k : ℕ) (d : BitWord) → k < length row → (get_or row k d).place < length words → AreSet old (take k row) words
    → AreSet old (take (k + 1) row) (set words (get_or row k d).place (bit_or (get_or words (get_or row k d).place 0) (get_or row k d).bits))
AreSet-more old words row k d within room are place bit =
    let one = HasBit-or words (get_or row k d).place (get_or row k d).bits room place bit in
    let more = RowHas-more row k d within place bit in
    ((λ is. forth more.1 (one.0 is)), (λ is. one.1 (back more.0 is)))
  where
    forth : (RowHas (take k row) place bit ⊎ (((get_or row k d).place ≡ place) × (bit_at (get_or row k d).bits bit ≡ 1)) → RowHas (take (k + 1) row) place bit)
        → HasBit words place bit ⊎ (((get_or row k d).place ≡ place) × (bit_at (get_or row k d).bits bit ≡ 1)) → HasBit old place bit ⊎ RowHas (take (k + 1) row) place bit
    forth into (inl is) = by ((are place bit).0 is)
      where
        by : HasBit old place bit ⊎ RowHas (take k row) place bit → HasBit old place bit ⊎ RowHas (take (k + 1) row) place bit
        by (inl before) = inl before
        by (inr there) = inr (into (inl there))
    forth into (inr last) = inr (into (inr last))

    back : (RowHas (take (k + 1) row) place bit → RowHas (take k row) place bit ⊎ (((get_or row k d).place ≡ place) × (bit_at (get_or row k d).bits bit ≡ 1)))
        → HasBit old place bit ⊎ RowHas (take (k + 1) row) place bit → HasBit words place bit ⊎ (((get_or row k d).place ≡ place) × (bit_at (get_or row k d).bits bit ≡ 1))
    back from (inl before) = inl ((are place bit).1 (inl before))
    back from (inr there) = by (from there)
      where
        by : RowHas (take k row) place bit ⊎ (((get_or row k d).place ≡ place) × (bit_at (get_or row k d).bits bit ≡ 1)) → HasBit words place bit ⊎ (((get_or row k d).place ≡ place) × (bit_at (get_or row k d).bits bit ≡ 1))
        by (inl early) = inl ((are place bit).1 (inr early))
        by (inr last) = inr last

-- two words have a bit in common where their bits together are not 0
pub common_bit : (a b : ℕ) → a < 2 ^ 32 → bit_and a b ≢ 0 → (bit : ℕ) × (bit_at a bit ≡ 1) × (bit_at b bit ≡ 1)
common_bit a b small some =
    let word : ℕ = bit_and a b in
    let below : bit_and a b < 2 ^ 32 = omega (arith, and_le_l a b, small) in
    let low = bit_at-trailing_zeros w32 (bit_and a b) (omega (arith, some)) below in
    let both : min (bit_at a (trailing_zeros w32 (bit_and a b))) (bit_at b (trailing_zeros w32 (bit_and a b))) ≡ 1 = sym (bit_at_and a b (trailing_zeros w32 (bit_and a b))) ∙ low.1 in
    (trailing_zeros w32 (bit_and a b), omega (arith, both, bit_at-lt a (trailing_zeros w32 (bit_and a b))), omega (arith, both, bit_at-lt b (trailing_zeros w32 (bit_and a b))))

pub no_common_bit : (a b bit : ℕ) → bit_and a b ≡ 0 → bit_at a bit ≡ 1 → bit_at b bit ≡ 1 → ⊥
no_common_bit a b bit none one two =
    let both : bit_at (bit_and a b) bit ≡ 0 = ap (λ w. bit_at w bit) none ∙ bit_at-zero bit in
    omega (arith, sym (bit_at_and a b bit) ∙ both, one, two)
