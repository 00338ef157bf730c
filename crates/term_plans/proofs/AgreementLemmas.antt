-- What a plan means depends on the numbers on its tracks alone.
use Rattle.std.proofs.Common.{◌≡◌, ◌↔◌, ℕ, ◌+◌, Bool, true, false, ◌||◌, not, cond, if◌then◌else◌, List, [], ◌∷◌, ◌++◌, map, refl, sym, ◌∙◌, ap, subst}
use Rattle.std.proofs.lemmas.Bool.{false≢true}
use Rattle.formula_truth.specs.Truth.{Meanings, Compares}
use Rattle.formula_truth.proofs.MeaningLemmas.{joined_same}
use Rattle.term_plans.specs.Tracks.{Track, same_track, Numbers, with_number, has_track, without}
use Rattle.term_plans.specs.Plans.{Plan, compared, added, number, called, lettered, renamed, constant, joined, paired, complement, projected, tracks}
use Rattle.term_plans.specs.Means.{Means}
use Rattle.term_plans.proofs.TrackLemmas.{same_is, or_left, or_right, later_is, first_is}

-- the same numbers on these tracks
abbrev pub Agree : List Track → Numbers → Numbers → Type 0
Agree ts a b = (t : Track) → has_track ts t ≡ true → a t ≡ b t

pub agree_back : (ts : List Track) (a b : Numbers) → Agree ts a b → Agree ts b a
agree_back ts a b agree t is = sym (agree t is)

has_first_by : (u : Track) (ts us : List Track) (t : Track) (b : Bool) → same_track u t ≡ b → (has_track ts t ≡ true → has_track (ts ++ us) t ≡ true)
    → has_track (u ∷ ts) t ≡ true → has_track (u ∷ (ts ++ us)) t ≡ true
has_first_by u ts us t true same rest is = or_left (same_track u t) (has_track (ts ++ us) t) same
has_first_by u ts us t false apart rest is = or_right (same_track u t) (has_track (ts ++ us) t) (rest (sym (ap (λ c. c || has_track ts t) apart) ∙ is))

pub has_first : (ts us : List Track) (t : Track) → has_track ts t ≡ true → has_track (ts ++ us) t ≡ true
has_first [] us t is = absurd (false≢true is)
has_first (u ∷ ts) us t is = has_first_by u ts us t (same_track u t) refl (has_first ts us t) is

pub has_second : (ts us : List Track) (t : Track) → has_track us t ≡ true → has_track (ts ++ us) t ≡ true
has_second [] us t is = is
has_second (u ∷ ts) us t is = later_is u (ts ++ us) t (has_second ts us t is)

stays_by : (s u t : Track) (ts : List Track) (b c : Bool) → same_track s u ≡ b → same_track u t ≡ c → same_track s t ≡ false
    → (has_track ts t ≡ true → has_track (without s ts) t ≡ true) → has_track (u ∷ ts) t ≡ true
    → has_track (cond (not b) (u ∷ without s ts) (without s ts)) t ≡ true
stays_by s u t ts false true left same apart rest is = or_left (same_track u t) (has_track (without s ts) t) same
stays_by s u t ts false false left other apart rest is = or_right (same_track u t) (has_track (without s ts) t) (rest (sym (ap (λ c. c || has_track ts t) other) ∙ is))
stays_by s u t ts true true left same apart rest is = absurd (false≢true (sym apart ∙ ap (λ v. same_track s v) (sym (same_is u t same)) ∙ left))
stays_by s u t ts true false left other apart rest is = rest (sym (ap (λ c. c || has_track ts t) other) ∙ is)

-- a track other than the one left out stays
pub stays : (s : Track) (ts : List Track) (t : Track) → same_track s t ≡ false → has_track ts t ≡ true → has_track (without s ts) t ≡ true
stays s [] t apart is = absurd (false≢true is)
stays s (u ∷ ts) t apart is = stays_by s u t ts (same_track s u) (same_track u t) refl refl apart (stays s ts t apart) is

-- numbers that agree but for one track agree once that has one number
with_number_agrees : (s : Track) (ts : List Track) (a b : Numbers) (k : ℕ) → Agree (without s ts) a b → Agree ts (with_number s k a) (with_number s k b)
with_number_agrees s ts a b k agree t is = by (same_track s t) refl
  where
    by : (c : Bool) → same_track s t ≡ c → (if c then k else a t) ≡ (if c then k else b t)
    by true same = refl
    by false apart = agree t (stays s ts t apart is)

map_agrees : (ts : List Track) (a b : Numbers) → Agree ts a b → map a ts ≡ map b ts
map_agrees [] a b agree = refl
map_agrees (t ∷ ts) a b agree = ap (λ n. n ∷ map a ts) (agree t (first_is t ts)) ∙ ap (λ ns. b t ∷ ns) (map_agrees ts a b (λ u is. agree u (later_is t ts u is)))

pub agrees : (p : Plan) (m : Meanings) (a b : Numbers) → Agree (tracks p) a b → Means m p a → Means m p b
agrees (compared y r s t) m a b agree h =
    subst (λ n. Compares r n (b t)) (agree s (first_is s (t ∷ []))) (subst (λ n. Compares r (a s) n) (agree t (later_is s (t ∷ []) t (first_is t []))) h)
agrees (added y s t u) m a b agree h =
    let one = agree s (first_is s (t ∷ u ∷ [])) in
    let two = agree t (later_is s (t ∷ u ∷ []) t (first_is t (u ∷ []))) in
    let three = agree u (later_is s (t ∷ u ∷ []) u (later_is t (u ∷ []) u (first_is u []))) in
    ap (λ n. n + b t) (sym one) ∙ ap (λ n. a s + n) (sym two) ∙ h ∙ three
agrees (number y t) m a b agree h = tt
agrees (called n ts) m a b agree h = subst (λ ns. m.holds_of n ns) (map_agrees ts a b agree) h
agrees (lettered n ts r l) m a b agree h = (h.0, subst (λ ns. m.has_letter n ns h.0) (map_agrees ts a b agree) h.1, h.2)
agrees (renamed s t p) m a b agree h =
    agrees p m (with_number s (a t) a) (with_number s (b t) b)
    (λ u is. with_number_agrees s (tracks p) a b (a t) (λ v there. agree v (later_is t (without s (tracks p)) v there)) u is
    ∙ ap (λ n. with_number s n b u) (agree t (first_is t (without s (tracks p)))))
    h
agrees (constant y c t) m a b agree h = sym (agree t (first_is t [])) ∙ h
agrees (joined j p q) m a b agree h =
    joined_same j (Means m p a) (Means m q a) (Means m p b) (Means m q b)
    (agrees p m a b (λ t is. agree t (has_first (tracks p) (tracks q) t is)))
    (agrees p m b a (λ t is. sym (agree t (has_first (tracks p) (tracks q) t is))))
    (agrees q m a b (λ t is. agree t (has_second (tracks p) (tracks q) t is)))
    (agrees q m b a (λ t is. sym (agree t (has_second (tracks p) (tracks q) t is))))
    h
agrees (paired n ts r w us) m a b agree h = (
  h.0,
  h.1,
  subst (λ ns. m.has_letter n ns h.0) (map_agrees ts a b (λ t is. agree t (has_first ts us t is))) h.2,
  subst (λ ns. m.has_letter w ns h.1) (map_agrees us a b (λ t is. agree t (has_second ts us t is))) h.3,
  h.4,
)
agrees (complement p) m a b agree h = λ held. h (agrees p m b a (agree_back (tracks p) a b agree) held)
agrees (projected t p) m a b agree h = (h.0, agrees p m (with_number t h.0 a) (with_number t h.0 b) (with_number_agrees t (tracks p) a b h.0 agree) h.1)

-- a number on a track that is none of the plan's changes nothing
pub unused : (p : Plan) (m : Meanings) (t : Track) (k : ℕ) (a : Numbers) → has_track (tracks p) t ≡ false → Means m p a ↔ Means m p (with_number t k a)
unused p m t k a none = (agrees p m a (with_number t k a) same, agrees p m (with_number t k a) a (agree_back (tracks p) a (with_number t k a) same))
  where
    same : Agree (tracks p) a (with_number t k a)
    same u is = by (same_track t u) refl
      where
        by : (c : Bool) → same_track t u ≡ c → a u ≡ (if c then k else a u)
        by true here = absurd (false≢true (sym none ∙ ap (has_track (tracks p)) (same_is t u here) ∙ is))
        by false apart = refl
