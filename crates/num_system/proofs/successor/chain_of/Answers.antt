use Rattle.std.proofs.Common.{rules}
use Rattle.std.specs.Result.{IfOk}
use Rattle.std.proofs.lemmas.Result.{IfOk-weaker}
use Rattle.num_system.specs.SuccessorSteps.{IsChain}
use Rattle.num_system.proofs.SuccessorLemmas.{chain_holds}
use Rattle.num_system.proofs.successor.chain_of.Goals as goal

pub returns-clause-relation : goal.returns-clause-relation
returns-clause-relation c =
    let chain : IfOk c.product.result (λ stepped. IsChain c.args.less.now stepped.result) = search rules in
    IfOk-weaker c.product.result _ _ (λ stepped made direction s system order. chain_holds direction s c.args.less.now stepped.result order made) chain
