-- Calls on a session, each with what it was given and what it answered, and what they do.
use Rattle.std.specs.Prelude.{◌≡◌, ℕ, ◌↔◌, Bool, List, length, Some, None, Err, IsTrue, Result, MatchResult}
use Rattle.scale.specs.Semiring.{Semiring}
use Rattle.worklist.specs.Sets.{Set, empty}
use Rattle.checker.specs.declared.answers.Report.{Report}
use Rattle.checker.specs.declared.stages.Stage.TheVariants.{Editing, Released}
use Rattle.checker.specs.Refusals.{Reason}
use Rattle.checker.specs.Session.{Table, Session, blank}
use Rattle.checker.specs.Checks.{refused_or, left_or, is_open, is_released, final_refusal, release_refusal, released_refusal, rule_refusal, edge_refusal, settle_refusal, question_refusal}
use Rattle.checker.specs.Calls.{marked, in_stage, in_table, rule_added, changes, edge_added, Ran, counted, asked}

pub data Event (V : Type 0) : Type 0 where
  rule : (control symbol target : ℕ) (word : List ℕ) (weight : V) → Result ℕ Reason → Event V
  edge : (from symbol to : ℕ) (weight : V) → Result Bool Reason → Event V
  final : (state : ℕ) → Result (Unit {0}) Reason → Event V
  settle : (budget : ℕ) → Result Report Reason → Event V
  question : (control : ℕ) (word : List ℕ) (scratch : ℕ) → Result (V × Bool) Reason → Event V
  released_question : (control : ℕ) (word : List ℕ) (scratch : ℕ) → Result V Reason → Event V
  release : Result (Unit {0}) Reason → Event V
  withdraw : Result (Unit {0}) Reason → Event V

-- marking a state final answered r and took the table t to u
abbrev pub Marked : Table → ℕ → Result (Unit {0}) Reason → Table → Type 0
Marked t q r u =
    let refusal = final_refusal t q in
    (r ≡ refused_or refusal tt) × (u ≡ left_or refusal t (marked t q))

-- a release answered r and took the table t, while the numbers of w waited, to u
abbrev pub ReleasedTo : Table → Set → Result (Unit {0}) Reason → Table → Type 0
ReleasedTo t w r u =
    (idle : Bool) × (IsTrue idle ↔ (w ≡ empty)) × (r ≡ refused_or (release_refusal t idle) tt) × (u ≡ left_or (release_refusal t idle) t (in_stage t Released))

-- a withdrawal answered r and took the table t to u
abbrev pub WithdrawnTo : Table → Result (Unit {0}) Reason → Table → Type 0
WithdrawnTo t r u =
    let refusal = released_refusal t in
    (r ≡ refused_or refusal tt) × (u ≡ left_or refusal t (in_stage t Editing))

-- a tally answered r and took the table t to u
abbrev pub Tallied : Table → Result ℕ Reason → Table → Type 0
Tallied t r u =
    let refusal = released_refusal t in
    (r ≡ refused_or refusal t.total) × (u ≡ left_or refusal t blank)

module _ {V : Type 0} (s : Semiring V) where
  -- an accepted settle made some list of steps, and its raises were counted
  abbrev pub Settles : Session V → ℕ → Report → Session V → Type 0
  Settles c budget r d = (last : Session V) × Ran s c budget r last × (d ≡ counted last r.raises)

  -- the call took the session c to d
  abbrev pub Did : Session V → Event V → Session V → Type 0
  Did c (rule p g p2 w f r) d =
      let refusal = rule_refusal c p g p2 w in
      (r ≡ refused_or refusal (length c.table.rules)) × (d ≡ left_or refusal c (rule_added c p g p2 w f))
  Did c (edge q g q2 f r) d =
      let refusal = edge_refusal c q g q2 in
      (r ≡ refused_or refusal (changes s c q g q2 f)) × (d ≡ left_or refusal c (edge_added s c q g q2 f))
  Did c (final q r) d = Marked c.table q r d.table × (d ≡ in_table c d.table)
  Did c (settle n r) d =
      elim (settle_refusal c) [
        | Some e ↦ (r ≡ Err e) × (d ≡ c)
        | None ↦ MatchResult r (λ x. Settles c n x d) (λ _. ⊥)
      ]
  Did c (question p w n r) d =
      let refusal = question_refusal (is_open c.table.stage) c n p w in
      (d ≡ c) × MatchResult r (λ x. (refusal ≡ None) × (x.0 ≡ asked s c p w) × (IsTrue x.1 ↔ (c.waiting ≡ empty))) (λ e. refusal ≡ Some e)
  Did c (released_question p w n r) d =
      let refusal = question_refusal (is_released c.table.stage) c n p w in
      (d ≡ c) × (r ≡ refused_or refusal (asked s c p w))
  Did c (release r) d = ReleasedTo c.table c.waiting r d.table × (d ≡ in_table c d.table)
  Did c (withdraw r) d = WithdrawnTo c.table r d.table × (d ≡ in_table c d.table)
