-- The bytes of a script that a source gave, and those that may still come.
use Rattle.std.proofs.Common.{◌≡◌, ℕ, Bool, true, false, List, [], ◌++◌, Option, None, Some, IfSome, refl, sym, ◌∙◌, ap}
use Rattle.std.specs.Io.KnownBytes.{Consumes, IsAtEnd as HasGivenAll}
use Rattle.script_cut.specs.Cutting.{MayCome}

-- there are some that may come
pub some_more : (over : Bool) (reported : Option (List ℕ)) → (more : List ℕ) × MayCome over reported more
some_more true reported = ([], refl)
some_more false None = ([], tt)
some_more false (Some left) = (left, refl)

-- what may come now might have come before, after what was given since then
pub may_come_before : (over : Bool) (reported now : Option (List ℕ)) (given more : List ℕ) → Consumes reported now given → (over ≡ true → HasGivenAll now) → MayCome over now more → MayCome false reported (given ++ more)
may_come_before over None now given more taken ended may = tt
may_come_before over (Some left) None given more taken ended may = absurd taken
may_come_before true (Some left) (Some rest) given more taken ended may = sym (taken ∙ ap (λ (xs : List ℕ). given ++ xs) (ended refl ∙ sym may))
may_come_before false (Some left) (Some rest) given more taken ended may = sym (taken ∙ ap (λ (xs : List ℕ). given ++ xs) (sym may))

-- all that may come is what is reported
pub reported_left : (reported : Option (List ℕ)) (more : List ℕ) → MayCome false reported more → IfSome reported (λ left. more ≡ left)
reported_left None more may = tt
reported_left (Some left) more may = may

pub reported_when : (over : Bool) (reported : Option (List ℕ)) (more : List ℕ) → (over ≡ true → HasGivenAll reported) → MayCome over reported more → IfSome reported (λ left. more ≡ left)
reported_when over None more ended may = tt
reported_when true (Some left) more ended may = may ∙ sym (ended refl)
reported_when false (Some left) more ended may = may
