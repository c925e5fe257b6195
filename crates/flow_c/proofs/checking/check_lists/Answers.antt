-- `check_lists`: the flow has a number for each place of the lists.
use Rattle.std.proofs.Common.{rules, ◌≡◌, ◌∙◌, sym, length, arith}
use Rattle.std.proofs.lemmas.Grind.{common_steps}
use Rattle.flow_c.proofs.ListLemmas.{arcs_of}
use Rattle.flow_c.proofs.checking.check_lists.Goals as goal

pub check_flow-requires : goal.check_flow-requires
check_flow-requires c =
    let count = arcs_of c.in_ok-network.network c.args.lent c.args.cap.now c.in_ok-network.ensures.network in
    let test : length c.args.flow.now ≡ length c.args.lent.src.now =
    first_of (search rules, grind (arith, common_steps)) in
    test ∙ sym count
