-- The sum of a pair's capacities so far: it stays within 128 bits since the sum of all capacities does, and an arc more
-- adds its capacity where it is of the pair.
use Rattle.std.proofs.Common.{◌≡◌, ℕ, ◌+◌, take, sym, subst, arith}
use Rattle.flow_net.specs.Cuts.{cap_over}
use Rattle.flow_tools.specs.checking.ArcShares.{is_pair}
use Rattle.flow_tools.proofs.checking.ArcSums.{cap_over-most, cap_over-take-le, cap_pair_yes, cap_pair_no}
use Rattle.flow_tools.proofs.checking.cap_of_pair.Goals as goal
use Rattle.flow_tools.proofs.checking.cap_of_pair.Goals.{then-arc-src+then-arc-dst, else-arc-src}
use Rattle.flow_tools.proofs.checking.cap_of_pair.Goals.{else-arc-src-via-then-arc-src+else-arc-dst}
use Rattle.flow_tools.proofs.checking.cap_of_pair.Goals.{else-arc-src-via-else-arc-src}

pub overflow_add-sum : goal.overflow_add-sum
overflow_add-sum c =
    let net = c.args.net.now in
    let most = cap_over-most (λ a. is_pair c.args.src c.args.dst a.src a.dst) net c.len-i-end.ensures.is_net in
    let part = cap_over-take-le (λ a. is_pair c.args.src c.args.dst a.src a.dst) net.arcs c.loop-i.i in
    let few = c.len-i-end.ensures.is_net.arcs_most in
    omega arith

pub loop-i-preserved : goal.loop-i-preserved
loop-i-preserved c =
    let net = c.args.net.now in
    let Sum : ℕ → Type 0 =
    λ sum. sum ≡ cap_over (λ a. is_pair c.args.src c.args.dst a.src a.dst) (take (c.loop-i.i + 1) net.arcs) in
    elim c.if-arc-src.branch [
      | then-arc-src+then-arc-dst w ↦
          let more = cap_pair_yes net.arcs c.loop-i.i c.args.src c.args.dst c.arc-arc.result (omega arith)
          c.arc-arc.ensures.arc w.if-arc-src.true w.if-arc-dst.true in
          let next : Sum (c.loop-i.sum + c.arc-arc.result.cap) = omega arith in
          subst Sum (sym w.sum-is) next
      | else-arc-src w ↦
          let other : c.arc-arc.result.src ≡ c.args.src → c.arc-arc.result.dst ≡ c.args.dst → ⊥ =
          λ s d. elim w.else-arc-src.branch [
            | else-arc-src-via-then-arc-src+else-arc-dst v ↦ v.if-arc-dst.false d
            | else-arc-src-via-else-arc-src v ↦ v.if-arc-src.false s
          ] in
          let same = cap_pair_no net.arcs c.loop-i.i c.args.src c.args.dst c.arc-arc.result (omega arith)
          c.arc-arc.ensures.arc other in
          let next : Sum c.loop-i.sum = omega arith in
          subst Sum (sym w.sum-is) next
    ]
