-- Refused calls and accepted ones: what each leaves, and what an accepted one knows.
use Rattle.std.proofs.Common.{◌≡◌, ℕ, ◌<◌, ◌≤◌, Bool, true, false, List, [], ◌∷◌, length, Some, None, Ok, Err, Option, Result, sym, refl, subst, arith, MatchResult}
use Rattle.std.proofs.lemmas.Bool.{both_ways}
use Rattle.std.proofs.lemmas.Bool.Decides.{nat_tests}
use Rattle.scale.specs.Semiring.{Semiring}
use Rattle.automaton.specs.declared.sizes.Sizes.{Sizes}
use Rattle.automaton.specs.Pushdown.{symbols, word_of}
use Rattle.automaton.specs.Limits.{sizes_allowed}
use Rattle.checker.specs.declared.answers.Report.{Report}
use Rattle.checker.specs.declared.stages.Stage.{Stage}
use Rattle.checker.specs.declared.stages.Stage.TheVariants.{Blank, Editing, Released}
use Rattle.checker.specs.Refusals.{Reason}
use Rattle.checker.specs.Session.{Table, Session}
use Rattle.checker.specs.Checks.{refused_or, left_or, is_editing, is_released, open_refusal, final_refusal, release_refusal, rule_refusal, edge_refusal, question_refusal}
use Rattle.checker.specs.Did.{Settles}

-- what holds of a refused call and of one that is not, for an answer and what was left
pub by_refusal : {A L : Type 0} (P : Result A Reason → L → Type 0) (o : Option Reason) (x : A) (before after d : L) (r : Result A Reason)
    → r ≡ refused_or o x → d ≡ left_or o before after → ((e : Reason) → P (Err e) before) → (o ≡ None → P (Ok x) after) → P r d
by_refusal P None x before after d r is left refused accepted = subst (λ y. P y d) (sym is) (subst (P (Ok x)) (sym left) (accepted refl))
by_refusal P (Some e) x before after d r is left refused accepted = subst (λ y. P y d) (sym is) (subst (P (Err e)) (sym left) (refused e))

-- an accepted settle settled, and a refused one left what stood
pub by_settle : {V : Type 0} (s : Semiring V) (c d : Session V) (n : ℕ) (r : Result Report Reason) (o : Option Reason)
    → elim o as (λ _. Type 0) [ Some e ↦ (r ≡ Err e) × (d ≡ c) | None ↦ MatchResult r (λ x. Settles s c n x d) (λ _. ⊥) ]
    → MatchResult r (λ x. Settles s c n x d) (λ _. d ≡ c)
by_settle s c d n (Ok x) None did = did
by_settle s c d n (Err x) None did = absurd did
by_settle s c d n (Ok x) (Some e) did = let is = did.0 in let z : ◌≡◌ {A = ℕ} 0 1 = cc in absurd (omega arith)
by_settle s c d n (Err x) (Some e) did = did.1

pub editing_or_released : (t : Stage) → is_editing t ≡ true → is_released t ≡ true → ⊥
editing_or_released Blank a b = both_ways false refl a
editing_or_released Editing a b = both_ways false refl b
editing_or_released Released a b = both_ways false refl a

pub open_allowed : (z : Sizes) (edges room : ℕ) → open_refusal z edges room ≡ None → sizes_allowed z ≡ true
open_allowed z edges room accepted = grind (arith, nat_tests)

pub final_within : (t : Table) (q : ℕ) → final_refusal t q ≡ None → q < t.sizes.states
final_within t q accepted = grind (arith, nat_tests)

pub release_idle : (t : Table) (idle : Bool) → release_refusal t idle ≡ None → idle ≡ true
release_idle t idle accepted = grind (arith, nat_tests)

module _ {V : Type 0} (c : Session V) where
  pub rule_editing : (p g p2 : ℕ) (w : List ℕ) → rule_refusal c p g p2 w ≡ None → is_editing c.table.stage ≡ true
  rule_editing p g p2 w accepted = grind (arith, nat_tests)

  pub rule_word : (p g p2 : ℕ) (w : List ℕ) → rule_refusal c p g p2 w ≡ None → symbols (word_of w) ≡ w
  rule_word p g p2 w accepted = short w (grind (arith, nat_tests))
    where
      short : (w : List ℕ) → length w ≤ 2 → symbols (word_of w) ≡ w
      short [] h = refl
      short (a ∷ []) h = refl
      short (a ∷ (b ∷ [])) h = refl
      short (a ∷ (b ∷ (x ∷ w))) h = absurd (omega arith)

  pub edge_editing : (q g q2 : ℕ) → edge_refusal c q g q2 ≡ None → is_editing c.table.stage ≡ true
  edge_editing q g q2 accepted = grind (arith, nat_tests)

  pub edge_outside : (q g q2 : ℕ) → edge_refusal c q g q2 ≡ None → c.table.sizes.controls ≤ q2
  edge_outside q g q2 accepted = grind (arith, nat_tests)

  pub question_staged : (staged : Bool) (n p : ℕ) (w : List ℕ) → question_refusal staged c n p w ≡ None → staged ≡ true
  question_staged staged n p w accepted = grind (arith, nat_tests)
