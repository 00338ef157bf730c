-- What cycles and places say of a language, as an answer.
use Rattle.std.proofs.Common.{◌≡◌, Bool, true, false, Result, Ok, Err, ◌↔◌, IsTrue, IfOk, refl}
use Rattle.std.proofs.lemmas.Bool.{false≢true}

pub decided : {E : Type 0} (R P F : Type 0) (r : Result Bool E) → IfOk r (λ is. is ≡ true → R) → IfOk r (λ is. is ≡ false → P) → (R → F) → (P → ¬ F) → IfOk r (λ is. IsTrue is ↔ F)
decided R P F (Ok true) round places forth back = ((λ t. forth (round refl)), (λ f. refl))
decided R P F (Ok false) round places forth back = ((λ t. absurd (false≢true t)), (λ f. absurd (back (places refl) f)))
decided R P F (Err e) round places forth back = tt
