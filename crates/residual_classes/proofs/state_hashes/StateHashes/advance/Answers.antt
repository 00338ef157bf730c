use Rattle.std.proofs.Common.{List, ℕ, ◌-◌, ◌/◌, ap, sym, subst, arith}
use Rattle.residual_classes.specs.CoarseClasses.{AreCoarseNumbers}
use Rattle.residual_classes.specs.Hashes.{AreHashed}
use Rattle.residual_classes.proofs.HashLemmas.{AreCoarseNumbers-hashed}
use Rattle.residual_classes.proofs.LookLemmas.{round_looks}
use Rattle.residual_classes.proofs.state_hashes.StateHashes.advance.Goals as goal
use Rattle.residual_classes.proofs.state_hashes.StateHashes.advance.Goals.{then-parts, else-parts}

pub returns-clause-coarse : goal.returns-clause-coarse
returns-clause-coarse g c =
    let d = c.args.machine.now.dfa.now in
    let outputs = c.args.machine.now.outputs.now in
    let letters = c.letters-letters.result in
    let old = c.args.self.now.hashes.items in
    let between = c.write_hashes.new.out.items in
    let new = c.write_hashes-2.new.out.items in
    let lower : AreHashed d 0 (letters - letters / 2) old between = subst (λ (hs : List ℕ). AreHashed d 0 (letters - letters / 2) hs between) c.deref-3.ensures.value c.write_hashes.ensures.hashed in
    let upper : AreHashed d (letters - letters / 2) letters between new = subst (λ (hs : List ℕ). AreHashed d (letters - letters / 2) letters hs new) c.deref-8.ensures.value c.write_hashes-2.ensures.hashed in
    let first = AreCoarseNumbers-hashed d outputs c.requires.outputs c.alphabet.ensures.table 0 (letters - letters / 2) old between c.requires.hashes lower in
    let second : AreCoarseNumbers d outputs new = AreCoarseNumbers-hashed d outputs c.requires.outputs c.alphabet.ensures.table (letters - letters / 2) letters between new first upper in
    elim c.if-parts.branch [
      | then-parts w ↦ subst (λ (hs : List ℕ). AreCoarseNumbers d outputs hs) (sym (ap (λ (v : _). v.hashes.items) w.self-is)) second
      | else-parts w ↦ subst (λ (hs : List ℕ). AreCoarseNumbers d outputs hs) (sym (ap (λ (v : _). v.hashes.items) w.self-is)) second
    ]

pub returns-clause-looks : goal.returns-clause-looks
returns-clause-looks g c =
    let d = c.args.machine.now.dfa.now in
    let letters = c.letters-letters.result in
    omega (arith, c.write_hashes.ensures.looks, c.write_hashes-2.ensures.looks, round_looks (letters - letters / 2) letters d)
