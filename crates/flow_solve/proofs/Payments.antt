-- What is paid in one call after another.
use Rattle.std.proofs.Common.{ℕ, List, refl, ◌∙◌, sym, subst, arith}
use Rattle.flow_net.specs.Flows.{Fits}
use Rattle.flow_net.specs.Nets.{Net}
use Rattle.flow_net.specs.Residual.{Table}
use Rattle.flow_solve.specs.Steps.{PaysLooks, PaysSteps}

pub paid_then : (a b c : Table) (k l m : ℕ) → PaysSteps a k b l → PaysSteps b l c m → PaysSteps a k c m
paid_then a b c k l m one more = record {
  never_lowered = omega (arith, one.never_lowered, more.never_lowered);
  left = omega (arith, one.left, more.left);
  steps = omega (arith, one.steps, more.steps);
}

pub looks_none : (a : Table) (k : ℕ) → PaysLooks a k a k
looks_none a k = record { flows = refl; never_lowered = omega arith; left = omega arith; steps = omega arith }

pub looks_then : (a b c : Table) (k l m : ℕ) → PaysLooks a k b l → PaysLooks b l c m → PaysLooks a k c m
looks_then a b c k l m one more = record {
  flows = more.flows ∙ one.flows;
  never_lowered = omega (arith, one.never_lowered, more.never_lowered);
  left = omega (arith, one.left, more.left);
  steps = omega (arith, one.steps, more.steps);
}

-- what is looked at still fits
pub looked_fits : (net : Net) (a b : Table) (k l : ℕ) → PaysLooks a k b l → Fits net a.flows → Fits net b.flows
looked_fits net a b k l looks fits = subst (λ (xs : List ℕ). Fits net xs) (sym looks.flows) fits
