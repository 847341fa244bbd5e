-- Each call keeps what sessions keep, and does what it said.
use Rattle.std.proofs.Common.{◌≡◌, ℕ, ◌+◌, ◌-◌, ◌^◌, ◌≤◌, min, Bool, true, false, cond, ◌&&◌, ◌||◌, eqb, ◌⊎◌, List, [], ◌∷◌, length, get_or, set, Some, None, Ok, Err, Option, sym, refl, ap, ◌∙◌, subst, inl, inr, ⊎_elim, arith}
use mathlib.Core.Bool.{or-false}
use Rattle.std.proofs.lemmas.List.{length-set, get_or-set_same, get_or-set_other}
use Rattle.std.proofs.lemmas.Bool.{cases_eq, both_ways, eq-eqb, ne_eqb, or_right}
use Rattle.scale.specs.Semiring.{Semiring}
use Rattle.worklist.specs.Sets.{empty}
use Rattle.automaton.specs.Automaton.{Edges}
use Rattle.automaton.proofs.Bounds.{edge_bounds}
use Rattle.checker.specs.declared.answers.Report.{Report}
use Rattle.checker.specs.declared.stages.Stage.{Stage}
use Rattle.checker.specs.declared.stages.Stage.TheVariants.{Editing, Released}
use Rattle.checker.specs.Session.{Table, Session}
use Rattle.checker.specs.Checks.{is_released, final_refusal, release_refusal, released_refusal, rule_refusal, edge_refusal, settle_refusal}
use Rattle.checker.specs.Calls.{marked, in_stage, in_table, new_rule, rule_added, changes, edge_added, counted, is_final}
use Rattle.checker.specs.Did.{Event, rule, edge, final, settle, question, released_question, release, withdraw, Settles, Did}
use Rattle.checker.proofs.Refusing.{rule_weights, rule_count, rule_fitting, edge_fitting}
use Rattle.guarantee.specs.Accepted.{settle_of, adds, rules_in, weights_in, marks}
use Rattle.guarantee.proofs.Order.{Laws}
use Rattle.guarantee.proofs.Ranks.{ranks_grow}
use Rattle.guarantee.proofs.Places.{edge_raised}
use Rattle.guarantee.proofs.Kept.{is_formed, kept_rule, kept_edge}
use Rattle.guarantee.proofs.Admitted.{by_refusal, by_settle, editing_or_released, final_within, release_idle, rule_editing, edge_editing, edge_outside}
use Rattle.guarantee.proofs.Moves.{Good, grown_none, calm_none, Said, nothing_said, ranked, Went, went_ruleless}
use Rattle.guarantee.proofs.Settling.{all_steps}

-- a number of the settle that a call was, if it was an accepted one
abbrev pub of_settle : (ℕ × Report → ℕ) → Option (ℕ × Report) → ℕ
of_settle f None = 0
of_settle f (Some r) = f r

abbrev pub said_in : {V : Type 0} → Event V → Said V
said_in e = record {
  rules = rules_in e;
  weights = weights_in e;
  marks = marks e;
  adds = adds e;
  steps = of_settle (λ r. r.1.steps) (settle_of e);
  budget = of_settle (λ r. r.0) (settle_of e);
  raises = of_settle (λ r. r.1.raises) (settle_of e);
}

-- the target with what a call gave
abbrev pub more : {V : Type 0} → Semiring V → Edges V → Event V → Edges V
more s target (rule p a p2 w f r) = target
more s target (edge from a to f (Ok b)) = λ q g m. s.combine (target q g m) (cond (eqb from q && (eqb a g && eqb to m)) f s.none)
more s target (edge from a to f (Err e)) = target
more s target (final n r) = target
more s target (settle n r) = target
more s target (question p w n r) = target
more s target (released_question p w n r) = target
more s target (release r) = target
more s target (withdraw r) = target

module _ {V : Type 0} {s : Semiring V} (laws : Laws s) (target : Edges V) (c : Session V) (good : Good s target c) where
  -- the call took c to d, which is as good, and did what it said
  abbrev pub After : Event V → Session V → Type 0
  After e d = Good s (more s target e) d × Went s c (said_in e) d

  -- ---- calls that change the table alone

  abbrev with_finals : Stage → List Bool → Table
  with_finals g fs = record { stage = g; sizes = c.table.sizes; rules = c.table.rules; finals = fs; total = c.table.total }

  retabled : (g : Stage) (fs : List Bool) (ms : ℕ → Bool) → (is_released g ≡ true → c.waiting ≡ empty) → length fs ≡ length c.table.finals
      → ((q : ℕ) → get_or fs q false ≡ (is_final c q || ms q))
      → Good s target (in_table c (with_finals g fs))
      × Went s c (record { rules = []; weights = []; marks = ms; adds = false; steps = 0; budget = 0; raises = 0 }) (in_table c (with_finals g fs))
  retabled g fs ms rests long finals =
      let room = good.room in
      let small = good.small in (
        record { kept = good.kept; rests = rests; room = omega arith; small = small },
        went_ruleless c (in_table c (with_finals g fs)) ms false 0 0 0 refl refl refl finals (omega arith)
            (grown_none laws (ranked c.table.sizes) c.edges) (λ e. calm_none (length c.table.rules) c.waiting),
      )

  restaged : (g : Stage) → (is_released g ≡ true → c.waiting ≡ empty)
      → Good s target (in_table c (in_stage c.table g)) × Went s c nothing_said (in_table c (in_stage c.table g))
  restaged g rests = retabled g c.table.finals (λ q. false) rests refl (λ q. sym (or-false (is_final c q)))

  -- nothing changed
  pub still : Good s target c × Went s c nothing_said c
  still = restaged c.table.stage good.rests

  after_final : (n : ℕ) → final_refusal c.table n ≡ None → After (final n (Ok tt)) (in_table c (marked c.table n))
  after_final n accepted =
      let low = final_within c.table n accepted in
      let room = good.room in
      let fs = c.table.finals in
      retabled c.table.stage (set fs n true) (λ q. eqb q n) good.rests (length-set fs n true)
      (λ q. ⊎_elim
      (λ (e : q ≡ n). ap (λ i. get_or (set fs n true) i false) e ∙ (get_or-set_same fs n true false (omega arith) ∙ sym (or_right (get_or fs q false) (eqb q n) (eq-eqb q n e))))
      (λ (ne : q ≡ n → ⊥). get_or-set_other fs n q true false ne ∙ (sym (or-false (get_or fs q false)) ∙ ap (λ t. get_or fs q false || t) (sym (ne_eqb q n ne))))
      (cases_eq q n))

  -- ---- a rule, an edge

  after_rule : (p g p2 : ℕ) (w : List ℕ) (f : V) → rule_refusal c p g p2 w ≡ None → After (rule p g p2 w f (Ok (length c.table.rules))) (rule_added c p g p2 w f)
  after_rule p g p2 w f accepted =
      let R = length c.table.rules in
      let long = rule_weights c p g p2 w accepted in
      let few = rule_count c p g p2 w accepted in (
        record {
          kept = kept_rule laws c.table.sizes c.table.rules c.edges c.weights c.waiting target good.kept (new_rule p g p2 w) f
              (is_formed c.table.sizes (new_rule p g p2 w) (rule_fitting c p g p2 w accepted));
          rests = λ e. absurd (editing_or_released c.table.stage (rule_editing c p g p2 w accepted) e);
          room = good.room;
          small = good.small;
        },
        record {
          sizes = refl;
          rules = refl;
          many = refl;
          old = λ m h. get_or-set_other c.weights R m f s.none (omega arith);
          new = λ m h.
              let first : m ≡ 0 = omega arith in
              let here : R + m ≡ R = omega arith in
              ap (λ i. get_or (set c.weights R f) i s.none) here
              ∙ (get_or-set_same c.weights R f s.none (omega arith) ∙ ap (λ i. get_or (f ∷ []) i s.none) (sym first));
          finals = λ q. sym (or-false (is_final c q));
          total = let small = good.small in omega arith;
          grown = grown_none laws (ranked c.table.sizes) c.edges;
          same_rules = λ e. absurd (both_ways true e refl);
          calm = λ e. absurd (both_ways true e refl);
        },
      )

  after_edge : (q g q2 : ℕ) (f : V) → edge_refusal c q g q2 ≡ None → After (edge q g q2 f (Ok (changes s c q g q2 f))) (edge_added s c q g q2 f)
  after_edge q g q2 f accepted =
      let z = c.table.sizes in
      let in_sizes = edge_bounds z q g q2 (edge_fitting c q g q2 accepted) in
      let grows = (edge_raised laws z c.edges q g q2 f in_sizes.0 in_sizes.1 in_sizes.2 good.kept.long).grows in
      let small = good.small in (
        record {
          kept = kept_edge laws z c.table.rules c.edges c.weights c.waiting target good.kept q g q2 f in_sizes.0 in_sizes.1 in_sizes.2
              (edge_outside c q g q2 accepted);
          rests = λ e. absurd (editing_or_released c.table.stage (edge_editing c q g q2 accepted) e);
          room = good.room;
          small = small;
        },
        went_ruleless {s = s} c (edge_added s c q g q2 f) (λ q. false) true 0 0 0 refl refl refl (λ i. sym (or-false (is_final c i))) (omega arith)
            (record { edges = grows; rise = let h = ranks_grow laws (ranked z) c.edges (edge_added s c q g q2 f).edges grows in omega arith })
            (λ e. absurd (both_ways true e refl)),
      )

  -- ---- a settle

  after_settle : (d : Session V) (n : ℕ) (x : Report) → Settles s c n x d → After (settle n (Ok x)) d
  after_settle d n x did =
      let last = did.0 in
      let ran = did.1 in
      let all = all_steps laws target ran.made good in
      let end = all.good in
      let calm = all.calm in
      subst (After (settle n (Ok x))) (sym did.2) (
        record { kept = end.kept; rests = end.rests; room = end.room; small = omega arith },
        went_ruleless c (counted last x.raises) (λ q. false) false x.steps n x.raises
            (ap (λ (t : Table). t.sizes) all.table) (ap (λ (t : Table). t.rules) all.table) all.weights
            (λ q. ap (λ (t : Table). get_or t.finals q false) all.table ∙ sym (or-false (is_final c q)))
            (ap (λ (t : Table). min (t.total + x.raises) (2 ^ 64 - 1)) all.table)
            all.grown
            (λ e. record {
              took = let t = calm.took in let u = ran.steps in omega arith;
              rests = calm.rests;
              spent = by x.settled refl did;
            }),
      )
    where
      by : (t : Bool) → x.settled ≡ t → (did : Settles s c n x d) → (did.0.waiting ≡ empty) ⊎ (n ≤ x.steps)
      by true e did = inl (did.1.settled.0 e)
      by false e did = let h = did.1.spent e in inr (omega arith)

  -- ---- all calls

  pub after : (e : Event V) (d : Session V) → Did s c e d → After e d
  after (rule p g p2 w f r) d did =
      by_refusal (λ r d. After (rule p g p2 w f r) d) (rule_refusal c p g p2 w) (length c.table.rules) c (rule_added c p g p2 w f) d r did.0 did.1
      (λ e. still) (after_rule p g p2 w f)
  after (edge q g q2 f r) d did =
      by_refusal (λ r d. After (edge q g q2 f r) d) (edge_refusal c q g q2) (changes s c q g q2 f) c (edge_added s c q g q2 f) d r did.0 did.1
      (λ e. still) (after_edge q g q2 f)
  after (final q r) d did =
      subst (After (final q r)) (sym did.1)
      (by_refusal (λ r t. After (final q r) (in_table c t)) (final_refusal c.table q) tt c.table (marked c.table q) d.table r did.0.0 did.0.1
      (λ e. still) (after_final q))
  after (settle n (Ok x)) d did = after_settle d n x (by_settle s c d n (Ok x) (settle_refusal c) did)
  after (settle n (Err x)) d did = subst (After (settle n (Err x))) (sym (by_settle s c d n (Err x) (settle_refusal c) did)) still
  after (question p w n r) d did = subst (After (question p w n r)) (sym did.0) still
  after (released_question p w n r) d did = subst (After (released_question p w n r)) (sym did.0) still
  after (release r) d did =
      let idle = did.0.0 in
      subst (After (release r)) (sym did.1)
      (by_refusal (λ r t. After (release r) (in_table c t)) (release_refusal c.table idle) tt c.table (in_stage c.table Released) d.table r did.0.2 did.0.3
      (λ e. still) (λ accepted. restaged Released (λ e. did.0.1.0 (release_idle c.table idle accepted))))
  after (withdraw r) d did =
      subst (After (withdraw r)) (sym did.1)
      (by_refusal (λ r t. After (withdraw r) (in_table c t)) (released_refusal c.table) tt c.table (in_stage c.table Editing) d.table r did.0.0 did.0.1
      (λ e. still) (λ accepted. restaged Editing (λ e. absurd (both_ways false refl e))))
