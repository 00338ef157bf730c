-- What is there, step after step.
use Rattle.std.proofs.Common.{◌≡◌, ℕ, ◌+◌, ◌<◌, Bool, true, false, cond, List, [], ◌∷◌, ◌++◌, length, drop, get_or, Option, None, Some, refl, subst, sym, ap, ◌∙◌, append-nil}
use Rattle.std.proofs.lemmas.List.{drop_more}
use Rattle.std.specs.List.{AllByRecursion}
use Rattle.std.specs.Prelude.{option_map}
use Rattle.dfa_reading.specs.Lines.{◌>>=◌, each_of}
use Rattle.dfa_reading.proofs.ReadHeaders.{with_prefix, with_prefix-more}

-- what a step gives comes of what was there
pub bind_some : {A B : Type 0} (o : Option A) (f : A → Option B) (y : B) → (o >>= f) ≡ Some y → (x : A) × (o ≡ Some x) × (f x ≡ Some y)
bind_some None f y h = absurd (cc)
bind_some (Some x) f y h = (x, refl, h)

pub map_some : {A B : Type 0} (o : Option A) (f : A → B) (y : B) → option_map f o ≡ Some y → (x : A) × (o ≡ Some x) × (f x ≡ y)
map_some None f y h = absurd (cc)
map_some (Some x) f y h = (x, refl, cc)

pub cond_some : {A : Type 0} (b : Bool) (o : Option A) (y : A) → cond b None o ≡ Some y → (b ≡ false) × (o ≡ Some y)
cond_some true o y h = absurd (cc)
cond_some false o y h = (refl, h)

pub cond_some-then : {A : Type 0} (b : Bool) (o : Option A) (y : A) → cond b o None ≡ Some y → (b ≡ true) × (o ≡ Some y)
cond_some-then true o y h = (refl, h)
cond_some-then false o y h = absurd (cc)

-- elements of which a function gives something, one after another
each_of-first : {A B : Type 0} (f : A → Option B) (x : A) (xs : List A) (y : B) → f x ≡ Some y → each_of f (x ∷ xs) ≡ option_map (λ ys. y ∷ ys) (each_of f xs)
each_of-first {B = B} f x xs y h = ap (λ o. o >>= (λ z. each_of f xs >>= (λ zs. Some (z ∷ zs)))) h ∙ by (each_of f xs)
  where
    by : (o : Option (List B)) → (o >>= (λ zs. Some (y ∷ zs))) ≡ option_map (λ ys. y ∷ ys) o
    by None = refl
    by (Some ys) = refl

pub each_more : {A B : Type 0} (f : A → Option B) (xs : List A) (i : ℕ) (d : A) (y : B) (done : List B) (total : Option (List B)) → i < length xs → f (get_or xs i d) ≡ Some y → with_prefix done (each_of f (drop i xs)) ≡ total → with_prefix (done ++ y ∷ []) (each_of f (drop (i + 1) xs)) ≡ total
each_more f xs i d y done total lt is h =
    sym (with_prefix-more done y (each_of f (drop (i + 1) xs)))
    ∙ sym (ap (λ l. with_prefix done (each_of f l)) (drop_more xs i d lt) ∙ ap (with_prefix done) (each_of-first f (get_or xs i d) (drop (i + 1) xs) y is)) ∙ h

pub each_fails : {A B : Type 0} (f : A → Option B) (xs : List A) (i : ℕ) (d : A) (done : List B) (total : Option (List B)) → i < length xs → f (get_or xs i d) ≡ None → with_prefix done (each_of f (drop i xs)) ≡ total → None ≡ total
each_fails f xs i d done total lt is h =
    sym (ap (λ l. with_prefix done (each_of f l)) (drop_more xs i d lt) ∙ ap (λ o. with_prefix done (o >>= (λ z. each_of f (drop (i + 1) xs) >>= (λ zs. Some (z ∷ zs))))) is) ∙ h

-- and where they are read from the front of a list
pub each_next : {A B : Type 0} (f : A → Option B) (all rest : List A) (x : A) (y : B) (done next : List B) (total : Option (List B)) → all ≡ x ∷ rest → f x ≡ Some y → next ≡ done ++ y ∷ [] → with_prefix done (each_of f all) ≡ total → with_prefix next (each_of f rest) ≡ total
each_next f all rest x y done next total first is more h =
    ap (λ ys. with_prefix ys (each_of f rest)) more ∙ sym (with_prefix-more done y (each_of f rest))
    ∙ sym (ap (λ l. with_prefix done (each_of f l)) first ∙ ap (with_prefix done) (each_of-first f x rest y is)) ∙ h

pub each_missing : {A B : Type 0} (f : A → Option B) (all rest : List A) (x : A) (done : List B) (total : Option (List B)) → all ≡ x ∷ rest → f x ≡ None → with_prefix done (each_of f all) ≡ total → None ≡ total
each_missing f all rest x done total first is h =
    sym (ap (λ l. with_prefix done (each_of f l)) first ∙ ap (λ o. with_prefix done (o >>= (λ z. each_of f rest >>= (λ zs. Some (z ∷ zs))))) is) ∙ h

pub each_all : {A B : Type 0} (f : A → Option B) (rest : List A) (done : List B) (total : Option (List B)) → rest ≡ [] → with_prefix done (each_of f rest) ≡ total → Some done ≡ total
each_all f rest done total none h = ap Some (sym (append-nil done)) ∙ sym (ap (λ r. with_prefix done (each_of f r)) none) ∙ h

-- what holds of each that a function gives
pub each_holds : {A B : Type 0} (f : A → Option B) (P : B → Type 0) → ((x : A) (y : B) → f x ≡ Some y → P y) → (xs : List A) (ys : List B) → each_of f xs ≡ Some ys → AllByRecursion P ys
each_holds f P holds [] ys h = let none : ys ≡ [] = cc in subst (AllByRecursion P) (sym none) tt
each_holds f P holds (x ∷ xs) ys h =
    let first = bind_some (f x) (λ y. each_of f xs >>= (λ zs. Some (y ∷ zs))) ys h in
    let rest = bind_some (each_of f xs) (λ zs. Some (first.0 ∷ zs)) ys first.2 in
    let is : first.0 ∷ rest.0 ≡ ys = let e : Some (first.0 ∷ rest.0) ≡ Some ys = rest.2 in cc in
    subst (AllByRecursion P) is (holds x first.0 first.1, each_holds f P holds xs rest.0 rest.1)
