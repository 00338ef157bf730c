use Rattle.std.proofs.Common.{◌≡◌, ℕ, List, map, sym, ap, ◌∙◌, subst}
use Rattle.std.specs.Rc.{rc_value}
use Rattle.digit_tuple.specs.Letters.{IsAlphabet}
use Rattle.dfa_reading.specs.Branching.{AreGiven, IsBranching, sizes_in}
use Rattle.numeration.specs.Representation.{sizes_of}
use Rattle.num_system.specs.Tracks.{systems_of}
use Rattle.definitions.proofs.TableSystems.{given_below, sizes_below}
use Rattle.definitions.proofs.table.branching_of.Goals as goal

pub nfa-requires-clause-given : goal.nfa-requires-clause-given
nfa-requires-clause-given c =
    let systems = map rc_value c.args.systems.now in
    let digits : c.deref.result.now ≡ sizes_of (systems_of systems) = c.deref.ensures.value ∙ c.in_ok-digits.ensures in
    subst (AreGiven c.args.listed.now.header) (sym digits) (given_below c.args.listed.now.header systems c.requires.systems)

pub returns-in-Ok : goal.returns-in-Ok
returns-in-Ok c =
    let header = c.args.listed.now.header in
    let systems = map rc_value c.args.systems.now in
    let digits : c.deref.result.now ≡ sizes_of (systems_of systems) = c.deref.ensures.value ∙ c.in_ok-digits.ensures in
    let sizes : sizes_in header c.deref.result.now ≡ sizes_of (systems_of systems) = ap (sizes_in header) digits ∙ sizes_below header systems c.requires.systems in
    record {
      is_branching = subst (λ (ss : List ℕ). IsBranching ss c.args.listed.now c.in-Ok.branching) sizes c.in-Ok.ensures.branching;
      table = c.in-Ok.ensures.table;
      alphabet = subst IsAlphabet sizes c.in-Ok.ensures.fits;
    }
