-- The words of each fault.
use Rattle.std.specs.Prelude.{ℕ, List, codes}
use Rattle.flow_text.specs.declared.faults.FaultCode.{FaultCode}
use Rattle.flow_text.specs.declared.faults.FaultCode.TheVariants.{LineTooLong, UnknownLine, WrongFields, BadNumber}
use Rattle.flow_text.specs.declared.faults.FaultCode.TheVariants.{SecondProblemLine, ProblemLineMissing, NotMax}
use Rattle.flow_text.specs.declared.faults.FaultCode.TheVariants.{NodesOutOfRange, ArcsOutOfRange, NodeLineAfterArcLine}
use Rattle.flow_text.specs.declared.faults.FaultCode.TheVariants.{NodeOutOfRange, NotTerminal, TerminalsMissing}
use Rattle.flow_text.specs.declared.faults.FaultCode.TheVariants.{TooManyArcs, CapacityOutOfRange, TooFewArcs}
use Rattle.flow_text.specs.declared.faults.FaultCode.TheVariants.{AlreadyTerminal, SecondSolutionLine}
use Rattle.flow_text.specs.declared.faults.FaultCode.TheVariants.{SolutionLineMissing, TooManyFlowLines, FlowOutOfRange}
use Rattle.flow_text.specs.declared.faults.FaultCode.TheVariants.{ValueOutOfRange}

-- what is said of a fault, in ASCII bytes
abbrev pub fault_text : FaultCode → List ℕ
fault_text LineTooLong = codes "line too long"
fault_text UnknownLine = codes "unknown line"
fault_text WrongFields = codes "wrong number of fields"
fault_text BadNumber = codes "bad number"
fault_text SecondProblemLine = codes "second problem line"
fault_text ProblemLineMissing = codes "problem line missing"
fault_text NotMax = codes "problem is not max"
fault_text NodesOutOfRange = codes "number of nodes out of range"
fault_text ArcsOutOfRange = codes "number of arcs out of range"
fault_text NodeLineAfterArcLine = codes "node line after an arc line"
fault_text NodeOutOfRange = codes "node out of range"
fault_text NotTerminal = codes "terminal must be s or t"
fault_text TerminalsMissing = codes "terminals missing"
fault_text TooManyArcs = codes "too many arcs"
fault_text CapacityOutOfRange = codes "capacity out of range"
fault_text TooFewArcs = codes "too few arcs"
fault_text AlreadyTerminal = codes "node is already a terminal"
fault_text SecondSolutionLine = codes "second solution line"
fault_text SolutionLineMissing = codes "solution line missing"
fault_text TooManyFlowLines = codes "too many flow lines"
fault_text FlowOutOfRange = codes "flow out of range"
fault_text ValueOutOfRange = codes "value out of range"
