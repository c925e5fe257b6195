-- `find_flow`: what the method finds, of the network and its terminals.
use Rattle.flow_tools.proofs.solving.answers.find_flow.Goals as goal

pub returns-clause-solution : goal.returns-clause-solution
returns-clause-solution c =
    let e = c.greatest.ensures in
    let net = c.net-net.ensures.net in let s = c.sources-s.ensures.sources in let t = c.sinks-t.ensures.sinks in
    record {
      value_is = record { greatest = rw (net, s, t) at e.greatest; least = rw (net, s, t) at e.least };
      feasible = rw (net, s, t) at e.feasible;
      valued = rw (net, s) at e.value;
      no_loops = rw net at e.loops;
    }

pub returns-clause-steps : goal.returns-clause-steps
returns-clause-steps c = rw c.net-net.ensures.net at c.greatest.ensures.steps
