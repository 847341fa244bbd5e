-- Which sizes are allowed, and what fits them.
use Rattle.std.specs.Prelude.{ℕ, ◌*◌, Bool, ◌&&◌, List, nat_le, nat_lt}
use Rattle.std.specs.List.{list_all}
use Rattle.automaton.specs.declared.rules.Rule.{Rule}
use Rattle.automaton.specs.declared.sizes.Sizes.{Sizes}
use Rattle.automaton.specs.Pushdown.{symbols}

abbrev pub sizes_allowed : Sizes → Bool
sizes_allowed z =
    nat_le 1 z.controls && (nat_le z.controls 32 && (nat_le z.controls z.states && (nat_le z.states 64
    && (nat_le 1 z.symbols && (nat_le z.symbols 64 && (nat_le 1 z.limit && nat_le z.limit 512))))))

-- how many edges there are: one from each state by each symbol to each state
abbrev pub edge_count : Sizes → ℕ
edge_count z = z.states * z.symbols * z.states

abbrev pub all_below : ℕ → List ℕ → Bool
all_below n xs = list_all (λ x. nat_lt x n) xs

-- a rule that names only controls and symbols of the sizes
abbrev pub rule_fits : Sizes → Rule → Bool
rule_fits z r = nat_lt r.control z.controls && (nat_lt r.target z.controls && (nat_lt r.symbol z.symbols && all_below z.symbols (symbols r.word)))

abbrev pub all_fit : Sizes → List Rule → Bool
all_fit z rs = list_all (rule_fits z) rs

-- sizes that are allowed, and enough places for their edges
abbrev pub edges_fit : Sizes → ℕ → Bool
edges_fit z places = sizes_allowed z && nat_le (edge_count z) places

-- an edge of the sizes
abbrev pub edge_fits : Sizes → ℕ → ℕ → ℕ → Bool
edge_fits z q g q2 = nat_lt q z.states && (nat_lt g z.symbols && nat_lt q2 z.states)

-- a word that can be read from the state q over so many places for edges, finals and scratch
abbrev pub read_fits : Sizes → ℕ → ℕ → ℕ → ℕ → List ℕ → Bool
read_fits z edges finals scratch q w =
    edges_fit z edges && (nat_le z.states finals && (nat_le (2 * z.states) scratch && (nat_lt q z.states && all_below z.symbols w)))
