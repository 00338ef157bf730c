-- Laws of what plans make.
use Rattle.std.specs.Prelude.{◌≡◌, ◌↔◌, ℕ, List, map}
use Rattle.term_plans.specs.Plans.{Plan}
use Rattle.term_plans.specs.Means.{Means}
use Rattle.number_relations.specs.Relations.{RelationValue, IsRelation, RelationHolds}
use Rattle.plan_relations.specs.TrackNames.{numbers_by, AreNamed}
use Rattle.plan_relations.specs.Libraries.{LibraryValue, IsLibrary, meanings_of}
use Rattle.plan_relations.specs.Makings.{Makes, IsReady}

-- a plan makes one relation
abbrev pub OneMade : Type 0
OneMade = (l : LibraryValue) (p : Plan) (c d : RelationValue) → IsLibrary l → Makes l p c → Makes l p d → c ≡ d

-- what it makes holds of the numbers of which the plan says it
abbrev pub PlansHold : Type 0
PlansHold = (l : LibraryValue) (p : Plan) (c : RelationValue) → IsLibrary l → AreNamed p → IsReady l p → Makes l p c
    → IsRelation c × ((number_of : List ℕ → ℕ) → RelationHolds c (map number_of c.names) ↔ Means (meanings_of l) p (numbers_by number_of))
