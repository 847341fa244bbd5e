-- Weighted automata: edges, paths and the value of a rule.
use Rattle.std.specs.Prelude.{ℕ, zero, suc, Bool, if◌then◌else◌, List, [], ◌∷◌, ◌++◌, map, ◌==◌}
use Rattle.scale.specs.Semiring.{Semiring, combined}
use Rattle.automaton.specs.declared.rules.Word.{Word}
use Rattle.automaton.specs.declared.rules.Word.TheVariants.{Pop, Swap, Push}

-- the weight of the edge from q by g to q2
abbrev pub Edges : Type 0 → Type 0
Edges V = ℕ → ℕ → ℕ → V

-- f at each number below n, in rising order
abbrev pub below : {A : Type 0} → ℕ → (ℕ → A) → List A
below zero f = []
below (suc n) f = below n f ++ (f n ∷ [])

abbrev pub joined : {A : Type 0} → List (List A) → List A
joined [] = []
joined (xs ∷ xss) = xs ++ joined xss

-- the weights of the paths from q that read a word and end in a final state
abbrev pub path_weights : {V : Type 0} → Semiring V → Edges V → ℕ → (ℕ → Bool) → ℕ → List ℕ → List V
path_weights s e n final q [] = if final q then s.one ∷ [] else []
path_weights s e n final q (g ∷ w) = joined (below n (λ m. map (s.extend (e q g m)) (path_weights s e n final m w)))

-- what an automaton of n states gives to the word read from the state q: the combine over those paths
abbrev pub answer : {V : Type 0} → Semiring V → Edges V → ℕ → (ℕ → Bool) → ℕ → List ℕ → V
answer s e n final q w = combined s (path_weights s e n final q w)

-- the value at the state q of a rule that leads to the control p with a word and the weight f
abbrev pub rule_value : {V : Type 0} → Semiring V → Edges V → ℕ → ℕ → Word → V → ℕ → V
rule_value s e n p Pop f q = if q == p then f else s.none
rule_value s e n p (Swap a) f q = s.extend f (e p a q)
rule_value s e n p (Push a b) f q = combined s (below n (λ m. s.extend (s.extend f (e p a m)) (e m b q)))
