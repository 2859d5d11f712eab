-- Graphs as lists: for each node, counted from 0, the nodes to which an edge leads from it.
use Rattle.std.specs.Prelude.{◌≡◌, ◌<◌, ℕ, suc, List, [], ◌∷◌, length, Bool, true, false, ◌&&◌, nat_eq, nat_lt, nat_le, slice_get, slice_set, get_or, unwrap_or, if◌then◌else◌}
use Rattle.std.specs.List.{list_all, list_any}
use Rattle.rules.specs.link_rules.Cycles.{is_on_cycle}

abbrev pub next_in : List (List ℕ) → ℕ → List ℕ
next_in graph node = unwrap_or (slice_get graph node) []

-- no node is on a cycle
abbrev pub IsAcyclic : List (List ℕ) → Type 0
IsAcyclic graph = (steps node : ℕ) → is_on_cycle nat_eq (next_in graph) steps node ≡ false

-- ---- nodes that were found, with a mark for each node of a graph

abbrev pub marked : List Bool → ℕ → List Bool
marked marks node = if nat_lt node (length marks) then slice_set marks node true else marks

-- the marked nodes are exactly these
abbrev pub AreMarked : List Bool → List ℕ → Type 0
AreMarked marks nodes = (node : ℕ) → node < length marks → get_or marks node false ≡ list_any (nat_eq node) nodes

-- ---- ranks, one for each node

abbrev pub rank_of : List ℕ → ℕ → ℕ
rank_of ranks node = unwrap_or (slice_get ranks node) 0

abbrev pub is_lower : List ℕ → ℕ → ℕ → Bool
is_lower ranks rank node = nat_lt (rank_of ranks node) rank

-- whether all edges of these nodes, of which the first has this number, lead to smaller ranks
abbrev pub goes_down : List ℕ → ℕ → List (List ℕ) → Bool
goes_down ranks node [] = true
goes_down ranks node (led ∷ graph) = list_all (is_lower ranks (rank_of ranks node)) led && goes_down ranks (suc node) graph

-- ---- levels, one for each node

abbrev pub is_within : List ℕ → ℕ → ℕ → Bool
is_within levels level node = nat_le (rank_of levels node) level

-- whether no edge of these nodes, of which the first has this number, leads to a greater level
abbrev pub never_up : List ℕ → ℕ → List (List ℕ) → Bool
never_up levels node [] = true
never_up levels node (led ∷ graph) = list_all (is_within levels (rank_of levels node)) led && never_up levels (suc node) graph

abbrev pub AreLevels : List ℕ → List (List ℕ) → Type 0
AreLevels levels graph = never_up levels 0 graph ≡ true
