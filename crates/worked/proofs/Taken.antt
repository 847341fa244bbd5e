-- Settling with the smallest number first is one of the ways to settle.
use Rattle.std.proofs.Common.{◌≡◌, ℕ, zero, suc, ◌+◌, ◌<◌, ◌≤◌, Bool, true, false, not, eqb, List, [], ◌∷◌, length, Some, None, Decides, Option, sym, refl, ap, ◌∙◌, subst, ⊎_elim, add-zero, add_assoc, zero-add, arith}
use mathlib.Core.Path.{fun_ext}
use Rattle.std.proofs.lemmas.Bool.{cases_Bool, cases_lt, and_parts, both_ways}
use Rattle.scale.specs.Semiring.{Semiring}
use Rattle.worklist.specs.Sets.{Set, empty, without}
use Rattle.automaton.specs.declared.rules.Rule.{Rule}
use Rattle.automaton.specs.Pushdown.{at}
use Rattle.checker.specs.declared.answers.Report.{Report}
use Rattle.checker.specs.Session.{Session}
use Rattle.checker.specs.Calls.{stepped, looked, with_waiting, Steps, done, next as and_then}
use Rattle.checker.proofs.Looking.{looked_none, looked_some}
use Rattle.checker.proofs.Woken.{woken_low}
use Rattle.worked.specs.Smallest.{smallest, next, is_none, run, HoldsAll, MaySettleSo}

-- ---- the smallest number

abbrev smallest_by : Bool → Set → ℕ → ℕ → Option ℕ
smallest_by b w n k = elim b [ true ↦ Some k | false ↦ smallest w n (suc k) ]

found_by : (b : Bool) (w : Set) (n k m : ℕ) → w k ≡ b → (smallest w n (suc k) ≡ Some m → w m ≡ true) → smallest_by b w n k ≡ Some m → w m ≡ true
found_by true w n k m is rest e = let same : k ≡ m = cc in ap w (sym same) ∙ is
found_by false w n k m is rest e = rest e

-- a number that is found waits
found : (w : Set) (n k m : ℕ) → smallest w n k ≡ Some m → w m ≡ true
found w zero k m e = let z : ◌≡◌ {A = ℕ} 0 1 = cc in absurd (omega arith)
found w (suc n) k m e = found_by (w k) w n k m refl (found w n (suc k) m) e

missed_by : (b : Bool) (w : Set) (n k : ℕ) → w k ≡ b → smallest_by b w n k ≡ None → (w k ≡ false) × (smallest w n (suc k) ≡ None)
missed_by true w n k is e = let z : ◌≡◌ {A = ℕ} 0 1 = cc in absurd (omega arith)
missed_by false w n k is e = (is, e)

-- where none is found, none waits
missed : (w : Set) (n k : ℕ) → smallest w n k ≡ None → (m : ℕ) → k ≤ m → m < k + n → w m ≡ false
missed w zero k e m l h = absurd (omega arith)
missed w (suc n) k e m l h =
    let parts = missed_by (w k) w n k refl e in
    ⊎_elim
    (λ (more : k < m). missed w n (suc k) parts.1 m (omega arith) (omega arith))
    (λ (less : m ≤ k). let same : m ≡ k = omega arith in ap w same ∙ parts.0)
    (cases_lt k m)

module _ {V : Type 0} where
  none_waits : (c : Session V) → HoldsAll c → next c ≡ None → c.waiting ≡ empty
  none_waits c h e =
      fun_ext (λ m. ⊎_elim (λ (t : c.waiting m ≡ true). missed c.waiting c.room 0 e m (omega arith) (let l = h.waiting m t in omega arith)) (λ (t : c.waiting m ≡ false). t) (cases_Bool (c.waiting m)))

  settled_by : (o : Option ℕ) (c : Session V) → next c ≡ o → HoldsAll c → Decides (is_none o) (c.waiting ≡ empty)
  settled_by None c e h = (λ t. none_waits c h e, λ t. refl)
  settled_by (Some m) c e h =
      let waits : c.waiting m ≡ true = found c.waiting c.room 0 m e in
      (λ t. absurd (both_ways false refl t), λ t. absurd (both_ways (c.waiting m) (ap (λ w. w m) t) waits))

-- ---- the worklist goes on having room

module _ {V : Type 0} (s : Semiring V) where
  holds_looked : (o : Option Rule) (c : Session V) (n : ℕ) → at c.table.rules n ≡ o → HoldsAll c → HoldsAll (looked s c n).0
  holds_looked None c n e h = subst HoldsAll (looked_none s c n e).0 h
  holds_looked (Some r) c n e h =
      subst HoldsAll (looked_some s c n r _ _ _ _ _ e refl refl refl refl refl).0
      (record { waiting = woken_low _ c.waiting c.table.rules r.symbol c.room h.waiting h.rules; rules = h.rules })

  holds_step : (c : Session V) (n : ℕ) → HoldsAll c → HoldsAll (stepped s c n).0
  holds_step c n h =
      holds_looked (at c.table.rules n) (with_waiting c (without c.waiting (Some n))) n refl
      (record { waiting = λ i e. h.waiting i (and_parts (c.waiting i) (not (eqb i n)) e).0; rules = h.rules })

  -- ---- the steps

  -- what was reported after some steps and raises, and left, comes from a list of steps on c
  record ComesFrom (budget : ℕ) (c : Session V) (steps raises : ℕ) (x : Report × Session V) : Type 0 where
    taken : List ℕ
    more : ℕ
    made : Steps s c taken x.1 more
    raised : x.0.raises ≡ raises + more
    counted : x.0.steps ≡ steps + length taken
    within : length taken ≤ budget
    settled : Decides x.0.settled (x.1.waiting ≡ empty)
    spent : x.0.settled ≡ false → length taken ≡ budget

  unmoved : (n : ℕ) (c : Session V) (steps raises : ℕ) (b : Bool) → Decides b (c.waiting ≡ empty) → (b ≡ false → 0 ≡ n)
      → ComesFrom n c steps raises (record { steps = steps; raises = raises; settled = b }, c)
  unmoved n c steps raises b settled spent = record {
    taken = [];
    more = 0;
    made = done;
    raised = sym (add-zero raises);
    counted = sym (add-zero steps);
    within = omega arith;
    settled = settled;
    spent = spent;
  }

  abbrev run_by : Option ℕ → ℕ → Session V → ℕ → ℕ → Report × Session V
  run_by o n c steps raises =
      elim o [
        | None ↦ (record { steps = steps; raises = raises; settled = true }, c)
        | Some m ↦ run s n (stepped s c m).0 (steps + 1) (raises + (stepped s c m).1)
      ]

  comes_by : (o : Option ℕ) (n : ℕ) (c : Session V) (steps raises : ℕ) → next c ≡ o → HoldsAll c
      → ((m : ℕ) → ComesFrom n (stepped s c m).0 (steps + 1) (raises + (stepped s c m).1) (run s n (stepped s c m).0 (steps + 1) (raises + (stepped s c m).1)))
      → ComesFrom (suc n) c steps raises (run_by o n c steps raises)
  comes_by None n c steps raises e h rest = unmoved (suc n) c steps raises true (λ t. none_waits c h e, λ t. refl) (λ t. absurd (both_ways true t refl))
  comes_by (Some m) n c steps raises e h rest =
      let x = rest m in
      record {
        taken = m ∷ x.taken;
        more = (stepped s c m).1 + x.more;
        made = and_then (found c.waiting c.room 0 m e) x.made;
        raised = x.raised ∙ add_assoc raises (stepped s c m).1 x.more;
        counted = let a = x.counted in omega arith;
        within = let a = x.within in omega arith;
        settled = x.settled;
        spent = λ t. let a = x.spent t in omega arith;
      }

  comes_from : (n : ℕ) (c : Session V) (steps raises : ℕ) → HoldsAll c → ComesFrom n c steps raises (run s n c steps raises)
  comes_from zero c steps raises h = unmoved 0 c steps raises (is_none (next c)) (settled_by (next c) c refl h) (λ t. refl)
  comes_from (suc n) c steps raises h =
      comes_by (next c) n c steps raises refl h (λ m. comes_from n (stepped s c m).0 (steps + 1) (raises + (stepped s c m).1) (holds_step c m h))

  pub may_settle_so : MaySettleSo s
  may_settle_so c budget h =
      let x = comes_from budget c 0 0 h in
      let steps : (run s budget c 0 0).0.steps ≡ length x.taken = x.counted ∙ zero-add (length x.taken) in
      record {
        taken = x.taken;
        made = subst (Steps s c x.taken (run s budget c 0 0).1) (sym (x.raised ∙ zero-add x.more)) x.made;
        steps = steps;
        within = let a = x.within in omega (arith, steps);
        settled = x.settled;
        spent = λ t. steps ∙ x.spent t;
      }
