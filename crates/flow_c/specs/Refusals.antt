-- Why lists are refused, and the status that tells it.
use Rattle.std.specs.Prelude.{◌≡◌, ℕ, ◌<◌, ◌≤◌, ◌⊎◌, ◌++◌, [], List, length, slice_index}
use Rattle.std.specs.List.{All}
use Rattle.flow_net.specs.declared.limits.TheConstants.{FEWEST_NODES, MOST_NODES, MOST_ARCS_BOTH_WAYS}
use Rattle.flow_net.specs.Limits.{AreDistinct}
use Rattle.flow_c.specs.Lists.{from_one}
use Rattle.flow_c.specs.declared.lists.Lent.{Lent}
use Rattle.flow_c.specs.declared.refusals.Refusal.{Refusal}
use Rattle.flow_c.specs.declared.refusals.Refusal.TheVariants.{Nodes, Lengths, BadEnd, Terminal, Memory}

-- there are too few or too many nodes
abbrev pub IsBadCount : ℕ → Type 0
IsBadCount n = (n < FEWEST_NODES) ⊎ (MOST_NODES < n)

-- the lists of arcs have one length, at most as many as a network's arcs
abbrev pub AreLengths : List ℕ → List ℕ → List ℕ → Type 0
AreLengths src dst cap = (length src ≤ MOST_ARCS_BOTH_WAYS) × (length dst ≡ length src) × (length cap ≡ length src)

-- the same of the lists that are lent
abbrev pub AreLengthsOf : Lent → List ℕ → Type 0
AreLengthsOf lent cap = AreLengths lent.src.now lent.dst.now cap

-- some end of an arc is no node
abbrev pub HasBadEnd : ℕ → List ℕ → List ℕ → Type 0
HasBadEnd n src dst = (i : ℕ) × (i < length src) × ((n ≤ slice_index src i) ⊎ (n ≤ slice_index dst i))

-- a number stands at two places of the list
abbrev pub HasTwice : List ℕ → Type 0
HasTwice xs = (i : ℕ) × (j : ℕ) × (i < j) × (j < length xs) × (slice_index xs i ≡ slice_index xs j)

-- some terminal of a list is no node, or stands there twice, or stands among those before
abbrev pub HasBadTerminal : ℕ → List ℕ → List ℕ → Type 0
HasBadTerminal n before given =
    ((i : ℕ) × (i < length given) × (n ≤ slice_index given i)) ⊎ HasTwice (before ++ from_one given)

-- there is no source or no sink, or one of them is no node, or a node stands twice in the two lists together
abbrev pub HasBadTerminals : ℕ → List ℕ → List ℕ → Type 0
HasBadTerminals n sources sinks = (length sources ≡ 0) ⊎ ((length sinks ≡ 0)
    ⊎ (HasBadTerminal n [] sources ⊎ HasBadTerminal n (from_one sources) sinks))

-- the numbers of a list are nodes
abbrev pub AreWithin : ℕ → List ℕ → Type 0
AreWithin n vs = All (λ v. v < n) vs

-- the lists are a network of nodes 0 to n - 1, and have such lengths
pub record AreArcs (Lens : Type 0) (n : ℕ) (src dst : List ℕ) : Type 0 where
  pub nodes_least : FEWEST_NODES ≤ n
  pub nodes_most : n ≤ MOST_NODES
  pub lengths : Lens
  pub src_within : AreWithin n src
  pub dst_within : AreWithin n dst

-- the reason of a refusal, where the lists ought to have such lengths: all else is tested before memory is asked for,
-- but for which nodes the terminals are
abbrev pub IsReason : Type 0 → ℕ → List ℕ → List ℕ → List ℕ → List ℕ → Refusal → Type 0
IsReason Lens n src dst sources sinks Nodes = IsBadCount n
IsReason Lens n src dst sources sinks Lengths = Lens → ⊥
IsReason Lens n src dst sources sinks BadEnd = HasBadEnd n src dst
IsReason Lens n src dst sources sinks Terminal = (FEWEST_NODES ≤ n) × HasBadTerminals n sources sinks
IsReason Lens n src dst sources sinks Memory = AreArcs Lens n src dst

-- the same of the lists that are lent
abbrev pub IsReasonFor : Type 0 → Lent → Refusal → Type 0
IsReasonFor Lens lent =
    IsReason Lens lent.nodes lent.src.now lent.dst.now lent.sources.now lent.sinks.now

-- the status of a refusal
abbrev pub status_number : Refusal → ℕ
status_number Nodes = 1
status_number Lengths = 2
status_number BadEnd = 3
status_number Terminal = 4
status_number Memory = 5

-- what a status other than 0 tells, where the lists ought to have such lengths and the terminals may be bad so
pub record IsTold (Lens : Type 0) (n : ℕ) (src dst : List ℕ) (BadTerminals : Type 0) (status : ℕ) : Type 0 where
  pub nodes : status ≡ 1 → IsBadCount n
  pub lengths : status ≡ 2 → Lens → ⊥
  pub ends : status ≡ 3 → HasBadEnd n src dst
  pub terminals : status ≡ 4 → BadTerminals
  pub memory : status ≡ 5 → AreArcs Lens n src dst
  pub most : status ≤ 5

-- the lists are terminals of such a network: a source and a sink or more, all of them nodes, and none twice
pub record AreEnds (n : ℕ) (sources sinks : List ℕ) : Type 0 where
  pub some_source : 0 < length sources
  pub some_sink : 0 < length sinks
  pub sources_within : AreWithin n sources
  pub sinks_within : AreWithin n sinks
  pub distinct : AreDistinct (from_one sources ++ from_one sinks)

-- the lists are a network with its terminals, and have such lengths
abbrev pub AreGood : Type 0 → ℕ → List ℕ → List ℕ → List ℕ → List ℕ → Type 0
AreGood Lens n src dst sources sinks = AreArcs Lens n src dst × AreEnds n sources sinks

-- the same of the lists that are lent
abbrev pub AreGoodFor : Type 0 → Lent → Type 0
AreGoodFor Lens lent = AreGood Lens lent.nodes lent.src.now lent.dst.now lent.sources.now lent.sinks.now
