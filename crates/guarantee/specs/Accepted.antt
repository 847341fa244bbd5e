-- What the accepted calls of a list said and reported.
use Rattle.std.specs.Prelude.{ℕ, ◌+◌, Bool, true, false, if◌then◌else◌, not, ◌&&◌, ◌||◌, List, [], ◌∷◌, ◌++◌, is_ok, Some, None, Ok, Err, Option, ◌==◌}
use Rattle.scale.specs.Semiring.{Semiring}
use Rattle.automaton.specs.declared.rules.Rule.{Rule}
use Rattle.automaton.specs.Automaton.{Edges}
use Rattle.checker.specs.declared.answers.Report.{Report}
use Rattle.checker.specs.Calls.{new_rule}
use Rattle.checker.specs.Did.{Event, rule, edge, final, settle, question, released_question, release, withdraw}

-- an answer for a configuration: its weight, and whether it is sure, settled or given after release
pub record Answer (V : Type 0) : Type 0 where
  pub control : ℕ
  pub word : List ℕ
  pub weight : V
  pub sure : Bool

module _ {V : Type 0} where
  abbrev pub answer_of : Event V → Option (Answer V)
  answer_of (rule p a p2 w f r) = None
  answer_of (edge from a to f r) = None
  answer_of (final n r) = None
  answer_of (settle n r) = None
  answer_of (question p w n (Ok x)) = Some (record { control = p; word = w; weight = x.0; sure = x.1 })
  answer_of (question p w n (Err e)) = None
  answer_of (released_question p w n (Ok x)) = Some (record { control = p; word = w; weight = x; sure = true })
  answer_of (released_question p w n (Err e)) = None
  answer_of (release r) = None
  answer_of (withdraw r) = None

  -- an accepted rule or edge call
  abbrev pub adds : Event V → Bool
  adds (rule p a p2 w f r) = is_ok r
  adds (edge from a to f r) = is_ok r
  adds (final n r) = false
  adds (settle n r) = false
  adds (question p w n r) = false
  adds (released_question p w n r) = false
  adds (release r) = false
  adds (withdraw r) = false

  abbrev pub no_addition : List (Event V) → Bool
  no_addition [] = true
  no_addition (e ∷ es) = not (adds e) && no_addition es

  -- ---- settles

  -- the budget and the report of an accepted settle
  abbrev pub settle_of : Event V → Option (ℕ × Report)
  settle_of (rule p a p2 w f r) = None
  settle_of (edge from a to f r) = None
  settle_of (final n r) = None
  settle_of (settle n (Ok r)) = Some (n, r)
  settle_of (settle n (Err e)) = None
  settle_of (question p w n r) = None
  settle_of (released_question p w n r) = None
  settle_of (release r) = None
  settle_of (withdraw r) = None

  abbrev pub settles : List (Event V) → List (ℕ × Report)
  settles [] = []
  settles (e ∷ es) = elim (settle_of e) [ None ↦ settles es | Some r ↦ r ∷ settles es ]

abbrev pub total_raises : List (ℕ × Report) → ℕ
total_raises [] = 0
total_raises (r ∷ rs) = r.1.raises + total_raises rs

abbrev pub total_steps : List (ℕ × Report) → ℕ
total_steps [] = 0
total_steps (r ∷ rs) = r.1.steps + total_steps rs

abbrev pub total_budget : List (ℕ × Report) → ℕ
total_budget [] = 0
total_budget (r ∷ rs) = r.0 + total_budget rs

module _ {V : Type 0} where
  -- ---- rules, in the order in which they were accepted, and their weights

  abbrev pub rules_in : Event V → List Rule
  rules_in (rule p g p2 w f (Ok n)) = new_rule p g p2 w ∷ []
  rules_in (rule p g p2 w f (Err x)) = []
  rules_in (edge from a to f r) = []
  rules_in (final n r) = []
  rules_in (settle n r) = []
  rules_in (question p w n r) = []
  rules_in (released_question p w n r) = []
  rules_in (release r) = []
  rules_in (withdraw r) = []

  abbrev pub weights_in : Event V → List V
  weights_in (rule p g p2 w f (Ok n)) = f ∷ []
  weights_in (rule p g p2 w f (Err x)) = []
  weights_in (edge from a to f r) = []
  weights_in (final n r) = []
  weights_in (settle n r) = []
  weights_in (question p w n r) = []
  weights_in (released_question p w n r) = []
  weights_in (release r) = []
  weights_in (withdraw r) = []

  abbrev pub ruled : List (Event V) → List Rule
  ruled [] = []
  ruled (e ∷ es) = rules_in e ++ ruled es

  abbrev pub weighed : List (Event V) → List V
  weighed [] = []
  weighed (e ∷ es) = weights_in e ++ weighed es

  -- ---- final states

  abbrev pub marks : Event V → ℕ → Bool
  marks (rule p g p2 w f r) q = false
  marks (edge from a to f r) q = false
  marks (final n (Ok x)) q = q == n
  marks (final n (Err x)) q = false
  marks (settle n r) q = false
  marks (question p w n r) q = false
  marks (released_question p w n r) q = false
  marks (release r) q = false
  marks (withdraw r) q = false

  abbrev pub final_in : List (Event V) → ℕ → Bool
  final_in [] q = false
  final_in (e ∷ es) q = marks e q || final_in es q

module _ {V : Type 0} (s : Semiring V) where
  -- ---- the weights that accepted edge calls gave, combined where several fell on one edge

  abbrev pub given : List (Event V) → Edges V
  given [] q g q2 = s.none
  given (rule p a p2 w f r ∷ es) q g q2 = given es q g q2
  given (edge from a to f r ∷ es) q g q2 =
      s.combine (if is_ok r && (from == q && (a == g && to == q2)) then f else s.none) (given es q g q2)
  given (final n r ∷ es) q g q2 = given es q g q2
  given (settle n r ∷ es) q g q2 = given es q g q2
  given (question p w n r ∷ es) q g q2 = given es q g q2
  given (released_question p w n r ∷ es) q g q2 = given es q g q2
  given (release r ∷ es) q g q2 = given es q g q2
  given (withdraw r ∷ es) q g q2 = given es q g q2
