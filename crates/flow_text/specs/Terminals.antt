-- The terminals that the node lines name, as the judge of a problem's lines keeps them.
use Rattle.std.specs.Prelude.{ℕ, Bool, ◌||◌, List, [], ◌∷◌, ◌++◌, length, nat_le, if◌then◌else◌}
use Rattle.flow_net.specs.NodeSets.{one_of}

-- the sources and the sinks, in the order of their lines
pub record Marks : Type 0 where
  pub sources : List ℕ
  pub sinks : List ℕ

-- whether a node is a terminal already
abbrev pub is_marked : Marks → ℕ → Bool
is_marked marks node = one_of marks.sources node || one_of marks.sinks node

-- whether a source or a sink is missing
abbrev pub lacks_one : Marks → Bool
lacks_one marks = nat_le (length marks.sources) 0 || nat_le (length marks.sinks) 0

-- one source or one sink more
abbrev pub with_mark : Marks → ℕ → Bool → Marks
with_mark marks node is_source =
    if is_source then record marks { sources = marks.sources ++ node ∷ [] }
    else record marks { sinks = marks.sinks ++ node ∷ [] }
