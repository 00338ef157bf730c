-- After a token that the machine reads there is a derivation of it.
use Rattle.std.proofs.Common.{◌≡◌, refl, sym, ◌∙◌, subst, ℕ, Bool, true, false, List, [], ◌∷◌, length, map, Option, None, Some, arith}
use Rattle.std.specs.Prelude.{ℤ, nat_lt, ◌==◌, ⊤}
use Rattle.std.proofs.lemmas.List.{length-append}
use Rattle.std.proofs.lemmas.Bool.Decides.{nat_tests}
use Rattle.regex_build.specs.declared.reading.Stage.TheVariants.{AtPost, After}
use Rattle.regex_build.specs.Tokens.{Token, bar, star, plus, optional, dot, opening, closing, bracket, comma, unbracket, digit, number, other}
use Rattle.regex_build.specs.Grammar as grammar
use Rattle.regex_build.specs.Grammar.{Numbers, one, more, Post, Cat, Alt, bare, list_of}
use Rattle.regex_build.specs.Machine.{State, gate, enter, followed, joined, step}
use Rattle.regex_build.proofs.Zippers.{Prefix, Position, at_post, after_token, at_number, after_number, Zipper, no_prefix, cat_with, alt_with, numbers_with, group_of, state_of, zipper_then, AltsFit, CatsFit, PositionFits, ZipperFits}

pub record Extends (tracks : ℕ) (z : Zipper) (t : Token) (s : State) : Type 0 where
  pub next : Zipper
  pub state_is : state_of next ≡ s
  pub derives : (r : List Token) → zipper_then next r ≡ zipper_then z (t ∷ r)
  pub fits : ZipperFits tracks z → ZipperFits tracks next

abbrev pub Leads : ℕ → Zipper → Token → Option State → Type 0
Leads tracks z t None = ⊤
Leads tracks z t (Some s) = Extends tracks z t s

abbrev pub zip : List Prefix → Prefix → Position → Zipper
zip fs f p = record { outer = fs; prefix = f; position = p }

abbrev pub pair : Option Alt → Option Cat → Prefix
pair a c = record { alternatives = a; sequence = c }

-- the position that follows in the same group
moves : (tracks : ℕ) (z : Zipper) (t : Token) (p : Position) → ((r : List Token) → zipper_then (record z { position = p }) r ≡ zipper_then z (t ∷ r)) → (ZipperFits tracks z → PositionFits tracks p) → Extends tracks z t (state_of (record z { position = p }))
moves tracks z t p e f = record { next = record z { position = p }; state_is = refl; derives = e; fits = λ h. record { outer = h.outer; prefix = h.prefix; position = f h } }

gated : (tracks : ℕ) (z : Zipper) (t : Token) (b : Bool) (o : Option State) → (b ≡ true → Leads tracks z t o) → Leads tracks z t (gate b o)
gated tracks z t true o h = h refl
gated tracks z t false o h = tt

module _ (tracks : ℕ) where
  enters : (fs : List Prefix) (f : Prefix) (t : Token) → Leads tracks (zip fs f at_post) t (enter tracks (state_of (zip fs f at_post)) t)
  enters fs f (digit d) =
      gated tracks (zip fs f at_post) (digit d) (tracks == 1) _
      (λ e. gated tracks (zip fs f at_post) (digit d) (nat_lt d 10) _ (λ l. moves tracks (zip fs f at_post) (digit d) (after_token (bare (grammar.digit d))) (λ r. refl) (λ h. (grind (arith, nat_tests), grind (arith, nat_tests)))))
  enters fs f dot = moves tracks (zip fs f at_post) dot (after_token (bare grammar.any)) (λ r. refl) (λ h. tt)
  enters fs f opening = record {
    next = zip (f ∷ fs) no_prefix at_post;
    state_is = refl;
    derives = λ r. refl;
    fits = λ h. record { outer = (h.prefix, h.outer); prefix = (tt, tt); position = tt };
  }
  enters fs f bracket =
      gated tracks (zip fs f at_post) bracket (nat_lt 0 tracks) _ (λ l. moves tracks (zip fs f at_post) bracket (at_number None) (λ r. refl) (λ h. grind (arith, nat_tests)))
  enters fs f bar = tt
  enters fs f star = tt
  enters fs f plus = tt
  enters fs f optional = tt
  enters fs f closing = tt
  enters fs f comma = tt
  enters fs f unbracket = tt
  enters fs f (number z) = tt
  enters fs f other = tt

  -- a `)` where nothing has come in its parentheses
  closes_empty : (fs : List Prefix) (a : Option Alt) (c : Option Cat) → Leads tracks (zip fs (pair a c) at_post) closing (step tracks (state_of (zip fs (pair a c) at_post)) closing)
  closes_empty [] None None = tt
  closes_empty (g ∷ fs) None None = record {
    next = zip fs g (after_token (bare grammar.empty));
    state_is = refl;
    derives = λ r. refl;
    fits = λ h. record { outer = h.outer.1; prefix = h.outer.0; position = tt };
  }
  closes_empty fs (Some a) c = tt
  closes_empty fs None (Some c) = tt

  at_begin : (fs : List Prefix) (f : Prefix) (t : Token) → Leads tracks (zip fs f at_post) t (step tracks (state_of (zip fs f at_post)) t)
  at_begin fs f closing = closes_empty fs f.alternatives f.sequence
  at_begin fs f (digit d) = enters fs f (digit d)
  at_begin fs f dot = enters fs f dot
  at_begin fs f opening = enters fs f opening
  at_begin fs f bracket = enters fs f bracket
  at_begin fs f bar = tt
  at_begin fs f star = tt
  at_begin fs f plus = tt
  at_begin fs f optional = tt
  at_begin fs f comma = tt
  at_begin fs f unbracket = tt
  at_begin fs f (number z) = tt
  at_begin fs f other = tt

  -- the last post ends the sequence
  enters_after : (fs : List Prefix) (a : Option Alt) (c : Option Cat) (p : Post) (t : Token) → enter tracks (followed (state_of (zip fs (pair a c) (after_token p)))) t ≡ enter tracks (state_of (zip fs (pair a (Some (cat_with c p))) at_post)) t
  enters_after fs a None p (digit d) = refl
  enters_after fs a None p _ = refl
  enters_after fs a (Some c) p (digit d) = refl
  enters_after fs a (Some c) p _ = refl

  derives_after : (fs : List Prefix) (a : Option Alt) (c : Option Cat) (p : Post) (r : List Token) → zipper_then (zip fs (pair a (Some (cat_with c p))) at_post) r ≡ zipper_then (zip fs (pair a c) (after_token p)) r
  derives_after fs a None p r = refl
  derives_after fs a (Some c) p r = refl

  pub cat_fits : (c : Option Cat) (p : Post) → CatsFit tracks c → grammar.PostFits tracks p → grammar.CatFits tracks (cat_with c p)
  cat_fits None p h k = k
  cat_fits (Some c) p h k = (h, k)

  pub alt_fits : (a : Option Alt) (c : Cat) → AltsFit tracks a → grammar.CatFits tracks c → grammar.AltFits tracks (alt_with a c)
  alt_fits None c h k = k
  alt_fits (Some a) c h k = (h, k)

  from_ended : (fs : List Prefix) (a : Option Alt) (c : Option Cat) (p : Post) (t : Token) (o : Option State) → Leads tracks (zip fs (pair a (Some (cat_with c p))) at_post) t o → Leads tracks (zip fs (pair a c) (after_token p)) t o
  from_ended fs a c p t None h = tt
  from_ended fs a c p t (Some s) h = record {
    next = h.next;
    state_is = h.state_is;
    derives = λ r. h.derives r ∙ derives_after fs a c p (t ∷ r);
    fits = λ k. h.fits (record { outer = k.outer; prefix = (k.prefix.0, cat_fits c p k.prefix.1 k.position); position = tt });
  }

  new_post : (fs : List Prefix) (a : Option Alt) (c : Option Cat) (p : Post) (t : Token) → Leads tracks (zip fs (pair a c) (after_token p)) t (enter tracks (followed (state_of (zip fs (pair a c) (after_token p)))) t)
  new_post fs a c p t =
      subst (Leads tracks (zip fs (pair a c) (after_token p)) t) (sym (enters_after fs a c p t)) (from_ended fs a c p t _ (enters fs (pair a (Some (cat_with c p))) t))

  new_cat : (fs : List Prefix) (a : Option Alt) (c : Option Cat) (p : Post) → Leads tracks (zip fs (pair a c) (after_token p)) bar (step tracks (state_of (zip fs (pair a c) (after_token p))) bar)
  new_cat fs a c p = record {
    next = zip fs (pair (Some (alt_with a (cat_with c p))) None) at_post;
    state_is = state_joined a c;
    derives = derives_joined a c;
    fits = λ h. record { outer = h.outer; prefix = (alt_fits a (cat_with c p) h.prefix.0 (cat_fits c p h.prefix.1 h.position), tt); position = tt };
  }
    where
      state_joined : (a : Option Alt) (c : Option Cat) → state_of (zip fs (pair (Some (alt_with a (cat_with c p))) None) at_post) ≡ record (joined (state_of (zip fs (pair a c) (after_token p)))) { stage = AtPost }
      state_joined None None = refl
      state_joined None (Some c) = refl
      state_joined (Some a) None = refl
      state_joined (Some a) (Some c) = refl

      derives_joined : (a : Option Alt) (c : Option Cat) (r : List Token) → zipper_then (zip fs (pair (Some (alt_with a (cat_with c p))) None) at_post) r ≡ zipper_then (zip fs (pair a c) (after_token p)) (bar ∷ r)
      derives_joined None None r = refl
      derives_joined None (Some c) r = refl
      derives_joined (Some a) None r = refl
      derives_joined (Some a) (Some c) r = refl

  closes : (fs : List Prefix) (a : Option Alt) (c : Option Cat) (p : Post) → Leads tracks (zip fs (pair a c) (after_token p)) closing (step tracks (state_of (zip fs (pair a c) (after_token p))) closing)
  closes [] a c p = tt
  closes (g ∷ fs) a c p = record {
    next = zip fs g (after_token (bare (grammar.group (alt_with a (cat_with c p)))));
    state_is = state_closed a c;
    derives = derives_closed a c;
    fits = λ h. record { outer = h.outer.1; prefix = h.outer.0; position = alt_fits a (cat_with c p) h.prefix.0 (cat_fits c p h.prefix.1 h.position) };
  }
    where
      state_closed : (a : Option Alt) (c : Option Cat) → state_of (zip fs g (after_token (bare (grammar.group (alt_with a (cat_with c p)))))) ≡ record (joined (state_of (zip (g ∷ fs) (pair a c) (after_token p)))) { outer = map group_of fs; group = group_of g; stage = After }
      state_closed None None = refl
      state_closed None (Some c) = refl
      state_closed (Some a) None = refl
      state_closed (Some a) (Some c) = refl

      derives_closed : (a : Option Alt) (c : Option Cat) (r : List Token) → zipper_then (zip fs g (after_token (bare (grammar.group (alt_with a (cat_with c p)))))) r ≡ zipper_then (zip (g ∷ fs) (pair a c) (after_token p)) (closing ∷ r)
      derives_closed None None r = refl
      derives_closed None (Some c) r = refl
      derives_closed (Some a) None r = refl
      derives_closed (Some a) (Some c) r = refl

  after_post : (fs : List Prefix) (f : Prefix) (p : Post) (t : Token) → Leads tracks (zip fs f (after_token p)) t (step tracks (state_of (zip fs f (after_token p))) t)
  after_post fs f p star = moves tracks (zip fs f (after_token p)) star (after_token (grammar.star p)) (λ r. refl) (λ h. h.position)
  after_post fs f p plus = moves tracks (zip fs f (after_token p)) plus (after_token (grammar.plus p)) (λ r. refl) (λ h. h.position)
  after_post fs f p optional = moves tracks (zip fs f (after_token p)) optional (after_token (grammar.optional p)) (λ r. refl) (λ h. h.position)
  after_post fs f p bar = new_cat fs f.alternatives f.sequence p
  after_post fs f p closing = closes fs f.alternatives f.sequence p
  after_post fs f p (digit d) = new_post fs f.alternatives f.sequence p (digit d)
  after_post fs f p dot = new_post fs f.alternatives f.sequence p dot
  after_post fs f p opening = new_post fs f.alternatives f.sequence p opening
  after_post fs f p bracket = new_post fs f.alternatives f.sequence p bracket
  after_post fs f p comma = tt
  after_post fs f p unbracket = tt
  after_post fs f p (number z) = tt
  after_post fs f p other = tt

  at_first : (fs : List Prefix) (f : Prefix) (o : Option Numbers) (z : ℤ) → Extends tracks (zip fs f (at_number o)) (number z) (state_of (zip fs f (after_number (numbers_with o z))))
  at_first fs f None z = moves tracks (zip fs f (at_number None)) (number z) (after_number (one z)) (λ r. refl) (λ h. let l = h.position in omega (arith, l))
  at_first fs f (Some ns) z =
      moves tracks (zip fs f (at_number (Some ns))) (number z) (after_number (more ns z)) (λ r. refl)
      (λ h. let l = h.position in let e = length-append (list_of ns) (z ∷ []) in omega (arith, l, e))

  numbers_begin : (fs : List Prefix) (f : Prefix) (o : Option Numbers) (t : Token) → Leads tracks (zip fs f (at_number o)) t (step tracks (state_of (zip fs f (at_number o))) t)
  numbers_begin fs f None (number z) = at_first fs f None z
  numbers_begin fs f (Some ns) (number z) = at_first fs f (Some ns) z
  numbers_begin fs f None _ = tt
  numbers_begin fs f (Some ns) _ = tt

  numbers_go_on : (fs : List Prefix) (f : Prefix) (ns : Numbers) (t : Token) → Leads tracks (zip fs f (after_number ns)) t (step tracks (state_of (zip fs f (after_number ns))) t)
  numbers_go_on fs f ns comma =
      gated tracks (zip fs f (after_number ns)) comma (nat_lt (length (list_of ns)) tracks) _
      (λ l. moves tracks (zip fs f (after_number ns)) comma (at_number (Some ns)) (λ r. refl) (λ h. grind (arith, nat_tests)))
  numbers_go_on fs f ns unbracket =
      gated tracks (zip fs f (after_number ns)) unbracket (length (list_of ns) == tracks) _
      (λ l. moves tracks (zip fs f (after_number ns)) unbracket (after_token (bare (grammar.letter ns))) (λ r. refl) (λ h. grind (arith, nat_tests)))
  numbers_go_on fs f ns _ = tt

  extends_at : (fs : List Prefix) (f : Prefix) (p : Position) (t : Token) → Leads tracks (zip fs f p) t (step tracks (state_of (zip fs f p)) t)
  extends_at fs f at_post t = at_begin fs f t
  extends_at fs f (after_token p) t = after_post fs f p t
  extends_at fs f (at_number o) t = numbers_begin fs f o t
  extends_at fs f (after_number ns) t = numbers_go_on fs f ns t

pub extends : (tracks : ℕ) (z : Zipper) (t : Token) → Leads tracks z t (step tracks (state_of z) t)
extends tracks z t = extends_at tracks z.outer z.prefix z.position t
