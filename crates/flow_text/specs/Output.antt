-- The bytes that the program writes. Every line has its byte 10, and a number is written in its fewest decimal digits.
use Prim.Native.String.{String}
use Rattle.std.specs.Prelude.{ℕ, Bool, List, [], ◌∷◌, ◌++◌, codes, decimal, filter, if◌then◌else◌}
use Rattle.std.specs.List.{flat_map, zip, range_with_len}
use Rattle.std.specs.Fmt.{signed_decimal}
use Rattle.flow_net.specs.declared.networks.Arc.{Arc}
use Rattle.flow_net.specs.Nets.{Net}
use Rattle.flow_net.specs.Cuts.{leaves}
use Rattle.flow_text.specs.FaultTexts.{fault_text}
use Rattle.flow_text.specs.declared.faults.FaultCode.{FaultCode}
use Rattle.flow_text.specs.declared.verdicts.Verdict.{Verdict}
use Rattle.flow_text.specs.declared.verdicts.Verdict.TheVariants.{Over, Unbalanced, Value, Feasible, NotMaximal}
use Rattle.flow_text.specs.declared.verdicts.Verdict.TheVariants.{Optimal}

-- a word, and each number behind a blank: s VALUE, n NODE, k VALUE, and the lines below
unfoldable pub line_of : String → List ℕ → List ℕ
line_of word numbers = codes word ++ flat_map (λ n. codes " " ++ decimal n) numbers ++ codes "\n"

-- f SRC DST FLOW, of an arc and the flow on it
abbrev pub flow_line : Arc × ℕ → List ℕ
flow_line (arc, flow) = line_of "f" (arc.src ∷ arc.dst ∷ flow ∷ [])

-- the word of the verdict, and its numbers; FOUND alone may be negative, with '-' before its digits
unfoldable pub verdict_line : Verdict → List ℕ
verdict_line (Over src dst flow cap) = line_of "over" (src ∷ dst ∷ flow ∷ cap ∷ [])
verdict_line (Unbalanced node into out) = line_of "unbalanced" (node ∷ into ∷ out ∷ [])
verdict_line (Value given found) = codes "value " ++ decimal given ++ codes " " ++ signed_decimal found ++ codes "\n"
verdict_line (Feasible value) = line_of "feasible" (value ∷ [])
verdict_line (NotMaximal value) = line_of "not-maximal" (value ∷ [])
verdict_line (Optimal value) = line_of "optimal" (value ∷ [])

-- flow: line K: TEXT, or flow: solution line K: TEXT
unfoldable pub fault_line : Bool → ℕ → FaultCode → List ℕ
fault_line solution line code = (if solution then codes "flow: solution line " else codes "flow: line ")
    ++ decimal line ++ codes ": " ++ fault_text code ++ codes "\n"

-- A solve: the value, then, unless it is asked for alone, the flow of every arc in order. Parallel arcs have a line
-- each.
unfoldable pub solve_text : Bool → Net → ℕ → List ℕ → List ℕ
solve_text value_only net value flows =
    line_of "s" (value ∷ []) ++ (if value_only then [] else flat_map flow_line (zip net.arcs flows))

-- A cut: the value, the nodes of its source side, rising, and where they are asked for the arcs that leave it, in
-- order, each as a SRC DST CAP.
unfoldable pub cut_text : Bool → Net → ℕ → (ℕ → Bool) → List ℕ
cut_text arcs net value X =
    line_of "s" (value ∷ []) ++ flat_map (λ v. line_of "n" (v ∷ [])) (filter X (range_with_len 1 net.nodes))
    ++ (if arcs then flat_map (λ a. line_of "a" (a.src ∷ a.dst ∷ a.cap ∷ [])) (filter (leaves X) net.arcs) else [])
