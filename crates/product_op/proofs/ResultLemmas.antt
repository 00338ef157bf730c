-- Facts of the value of a result, if there is one.
use Rattle.std.specs.Prelude.{Result, Ok, Err, IfOk}

pub IfOk-three : {X E : Type 0} (r : Result X E) (P Q R S : X → Type 0) → ((x : X) → P x → Q x → R x → S x) → IfOk r P → IfOk r Q → IfOk r R → IfOk r S
IfOk-three (Ok x) P Q R S gives p q r = gives x p q r
IfOk-three (Err e) P Q R S gives p q r = tt

pub IfOk-two : {X E : Type 0} (r : Result X E) (P Q R : X → Type 0) → ((x : X) → P x → Q x → R x) → IfOk r P → IfOk r Q → IfOk r R
IfOk-two (Ok x) P Q R gives p q = gives x p q
IfOk-two (Err e) P Q R gives p q = tt
