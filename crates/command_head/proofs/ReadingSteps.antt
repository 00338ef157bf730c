-- Readings one after another, and faults that are handed on.
use Rattle.std.proofs.Common.{◌≡◌, Bool, true, false, cond, Result, Ok, Err, refl, ◌⊎◌, inl, inr}
use Rattle.command_head.specs.declared.fault.HeadFault.{HeadFault}
use Rattle.command_head.specs.declared.fault.HeadFault.TheVariants.{Syntax, Number, Memory}
use Rattle.command_head.specs.Readings.{Fails}
use Rattle.text_grammar.specs.Results.{◌>>=◌}

-- a fault is that of a reading where each fault of a part is one of the whole
pub Fails-handed_on : {Y W : Type 0} (fault : HeadFault) (part : Result Y HeadFault) (whole : Result W HeadFault) →
    ((e : HeadFault) → part ≡ Err e → whole ≡ Err e) → Fails fault part → Fails fault whole
Fails-handed_on (Syntax at) part whole on h = on (Syntax at) h
Fails-handed_on (Number at) part whole on h = on (Number at) h
Fails-handed_on Memory part whole on h = tt

-- both of two readings went well
pub bind_ok : {A B E : Type 0} (r : Result A E) (f : A → Result B E) (y : B) → (r >>= f) ≡ Ok y → (x : A) × (r ≡ Ok x) × (f x ≡ Ok y)
bind_ok (Ok x) f y h = (x, refl, h)
bind_ok (Err e) f y h = cc

-- the one of two readings that is no fault
pub else_ok : {A E : Type 0} (b : Bool) (e : E) (r : Result A E) (y : A) → cond b (Err e) r ≡ Ok y → (b ≡ false) × (r ≡ Ok y)
else_ok true e r y h = cc
else_ok false e r y h = (refl, h)

pub then_ok : {A E : Type 0} (b : Bool) (e : E) (r : Result A E) (y : A) → cond b r (Err e) ≡ Ok y → (b ≡ true) × (r ≡ Ok y)
then_ok true e r y h = (refl, h)
then_ok false e r y h = cc

-- which of two was chosen
pub chosen : {A : Type 0} (b : Bool) (x y z : A) → cond b x y ≡ z → ((b ≡ true) × (x ≡ z)) ⊎ ((b ≡ false) × (y ≡ z))
chosen true x y z h = inl (refl, h)
chosen false x y z h = inr (refl, h)

pub ok_is : {A E : Type 0} (r : Result A E) (x y : A) → r ≡ Ok x → r ≡ Ok y → x ≡ y
ok_is r x y g h = cc
