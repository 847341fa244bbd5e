-- The worked table: surveys (symbol 0), posts (1) and purges (2), where control 1 means unposted.
use Rattle.std.specs.Prelude.{◌≡◌, ℕ, true, false, List, [], ◌∷◌, map, replicate, Some, None, Option}
use Rattle.automaton.specs.declared.sizes.Sizes.{Sizes}
use Rattle.scale.specs.Semiring.{Semiring}
use Rattle.scale.specs.WithNone.{with_none}
use Rattle.scale.specs.Minutes.{Time, time, minute_values}
use Rattle.scale.specs.Flags.{Words, words, flag_values}
use Rattle.checker.specs.Session.{Session}
use Rattle.checker.specs.Calls.{opened}
use Rattle.worked.specs.Performed.{Call, rule, edge, final, settle, question, replay, Said, report, answer, ran, stopped, added, row}

abbrev sizes : Sizes
sizes = record { controls = 2; states = 3; symbols = 3; limit = 8 }

-- a fresh session over a mark table
abbrev fresh : {V : Type 0} → Semiring V → Session V
fresh s = opened s sizes (replicate 27 s.none) (replicate 8 s.none) 512

-- the four rules by their weights, the target edge and the final state
abbrev setup : {V : Type 0} → Semiring V → V → V → V → V → List (Call V)
setup s f0 f1 f2 f3 =
    rule 0 0 1 (0 ∷ (1 ∷ [])) f0
    ∷ (rule 1 0 1 [] f1
    ∷ (rule 1 1 0 [] f2
    ∷ (rule 0 1 0 [] f3
    ∷ (edge 0 2 2 s.one
    ∷ (final 2
    ∷ [])))))

-- ---- minutes

abbrev minutes : Semiring (Option Time)
minutes = with_none minute_values

abbrev minutes_shown : Option Time → List ℕ
minutes_shown None = []
minutes_shown (Some t) = t.count ∷ []

abbrev ask : {V : Type 0} → Call V
ask = question 0 (0 ∷ (2 ∷ []))

-- calls after the setup, and what they answer
abbrev minute_rows : List (List (Call (Option Time)) × List Said)
minute_rows =
    (settle 100 ∷ [], report 8 4 true ∷ [])
    ∷ ((settle 100 ∷ (ask ∷ []), report 8 4 true ∷ (answer (10 ∷ []) true ∷ []))
    ∷ ((settle 100 ∷ (question 1 (0 ∷ (2 ∷ [])) ∷ []), report 8 4 true ∷ (answer [] true ∷ []))
    ∷ ((settle 100 ∷ (question 0 [] ∷ (question 0 (2 ∷ []) ∷ [])), report 8 4 true ∷ (answer [] true ∷ (answer (0 ∷ []) true ∷ [])))
    ∷ ((settle 5 ∷ (ask ∷ []), report 5 3 false ∷ (answer (10 ∷ []) false ∷ []))
    ∷ ((
      settle 100 ∷ (rule 0 0 0 [] (Some (time 4)) ∷ (settle 100 ∷ (ask ∷ []))),
      report 8 4 true ∷ (added 4 ∷ (report 2 1 true ∷ (answer (4 ∷ []) true ∷ []))),
    )
    ∷ ((replay (0 ∷ (1 ∷ (2 ∷ []))) 0 (2 ∷ (0 ∷ [])) 3 ∷ [], ran 0 1 (10 ∷ []) ∷ [])
    ∷ ((replay (0 ∷ (1 ∷ (2 ∷ []))) 0 (2 ∷ (0 ∷ [])) 2 ∷ [], stopped 12 (0 ∷ (0 ∷ (2 ∷ []))) ∷ [])
    ∷ [])))))))

-- ---- flags

abbrev flags : Semiring (Option Words)
flags = with_none flag_values

abbrev flags_shown : Option Words → List ℕ
flags_shown None = []
flags_shown (Some w) = w.keep ∷ (w.set ∷ [])

abbrev flag_rows : List (List (Call (Option Words)) × List Said)
flag_rows = (settle 100 ∷ (ask ∷ []), report 8 4 true ∷ (answer (0xfffffffe ∷ (0 ∷ [])) true ∷ [])) ∷ []

-- ---- the theorem

-- every row answers what it should
abbrev Answers : {V : Type 0} → Semiring V → (V → List ℕ) → List (Call V) → List (List (Call V) × List Said) → Type 0
Answers s shown before rows = map (λ r. row s shown (fresh s) before r.0) rows ≡ map (λ r. r.1) rows

abbrev pub RowsHold : Type 0
RowsHold =
    Answers minutes minutes_shown (setup minutes (Some (time 5)) (Some (time 2)) (Some (time 3)) (Some (time 1))) minute_rows
    × Answers flags flags_shown (setup flags (Some (words 0xffffffff 1)) flags.one (Some (words 0xfffffffe 0)) flags.one) flag_rows
