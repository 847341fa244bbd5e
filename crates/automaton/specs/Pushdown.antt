-- Pushdown systems: rules, configurations and runs.
use Rattle.std.specs.Prelude.{ℕ, Bool, cond, ◌&&◌, List, [], ◌∷◌, ◌++◌, Some, None, Option, ◌==◌, slice_get, slice_index_or}
use Rattle.std.specs.List.{list_any}
use Rattle.std.specs.Option.{option_and_then}
use Rattle.scale.specs.Semiring.{Semiring}
use Rattle.automaton.specs.declared.rules.Word.{Word}
use Rattle.automaton.specs.declared.rules.Word.TheVariants.{Pop, Swap, Push}
use Rattle.automaton.specs.declared.rules.Rule.{Rule}

-- the symbols of a rule's word, its top first
abbrev pub symbols : Word → List ℕ
symbols Pop = []
symbols (Swap a) = a ∷ []
symbols (Push a b) = a ∷ (b ∷ [])

-- a word of no symbol, one or two as a rule has it; a longer one is no rule's word
abbrev pub word_of : List ℕ → Word
word_of [] = Pop
word_of (a ∷ []) = Swap a
word_of (a ∷ (b ∷ w)) = Push a b

-- whether a word has a symbol
abbrev pub has : List ℕ → ℕ → Bool
has w g = list_any (λ a. a == g) w

-- a control, and a word with its top first
pub record Config : Type 0 where
  pub control : ℕ
  pub word : List ℕ

-- what a rule makes of a configuration that it fits; by `cond`, since `then` has a meaning of its own below
abbrev pub applied : Rule → ℕ → List ℕ → Option Config
applied r p [] = None
applied r p (g ∷ w) = cond (r.control == p && r.symbol == g) (Some (record { control = r.target; word = symbols r.word ++ w })) None

-- what a list has at a number, if it is so long
abbrev pub at : {A : Type 0} → List A → ℕ → Option A
at xs n = slice_get xs n

abbrev pub then : {A B : Type 0} → Option A → (A → Option B) → Option B
then o f = option_and_then f o

-- where a run ends; None where a number names no rule, or its rule does not fit what the one before yielded
abbrev pub ends : List Rule → List ℕ → Config → Option Config
ends rules [] c = Some c
ends rules (n ∷ ns) c = then (at rules n) (λ r. then (applied r c.control c.word) (ends rules ns))

-- the weights of a run's rules, extended in order
abbrev pub run_weight : {V : Type 0} → Semiring V → List V → List ℕ → V
run_weight s ws [] = s.one
run_weight s ws (n ∷ ns) = s.extend (slice_index_or ws n s.none) (run_weight s ws ns)
