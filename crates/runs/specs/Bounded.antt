-- Runs whose words never get longer than some room.
use Rattle.std.specs.Prelude.{ℕ, List, [], ◌∷◌, length, Some, Option, nat_le}
use Rattle.std.specs.Bool.{then_some}
use Rattle.automaton.specs.declared.rules.Rule.{Rule}
use Rattle.automaton.specs.Pushdown.{Config, at, then, applied}

-- what the rule of the number n yields, if there is one that fits, and its word has no more symbols than there is room for
abbrev pub step_within : List Rule → ℕ → ℕ → Config → Option Config
step_within rules room n c = then (at rules n) (λ r. then (applied r c.control c.word) (λ d. then_some (nat_le (length d.word) room) d))

-- where a run ends each of whose steps is such a one
abbrev pub ends_within : List Rule → ℕ → List ℕ → Config → Option Config
ends_within rules room [] c = Some c
ends_within rules room (n ∷ ns) c = then (step_within rules room n c) (ends_within rules room ns)
