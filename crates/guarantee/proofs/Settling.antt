-- What the steps of a settle keep, raise and take.
use Rattle.std.proofs.Common.{◌≡◌, ℕ, ◌+◌, ◌*◌, ◌<◌, ◌≤◌, Bool, true, false, ltb, List, length, get_or, Some, refl, ap, ◌∙◌, subst, inr, le-mul_of_pos_right, arith}
use Rattle.std.proofs.lemmas.Bool.{both_ways, ltb-true}
use Rattle.scale.specs.Semiring.{Semiring}
use Rattle.worklist.specs.Sets.{Set, without}
use Rattle.automaton.specs.declared.rules.Rule.{Rule}
use Rattle.automaton.specs.Automaton.{Edges}
use Rattle.automaton.specs.Layout.{saturated}
use Rattle.checker.specs.Session.{Session}
use Rattle.checker.specs.Calls.{with_waiting, stepped, Steps, done, next}
use Rattle.checker.proofs.Looking.{looked_some}
use Rattle.guarantee.proofs.Order.{Laws}
use Rattle.guarantee.proofs.Runs.{at_within}
use Rattle.guarantee.proofs.Rows.{row_raised, row_ranks}
use Rattle.guarantee.proofs.Waits.{count, count_le, count_without, woken}
use Rattle.guarantee.proofs.Kept.{kept_step}
use Rattle.guarantee.proofs.Moves.{Good, Grown, Calm, grown_none, grown_then, calm_none, calm_then, ranked}

-- n steps led from c to d, with k raises
pub record Settled {V : Type 0} (s : Semiring V) (target : Edges V) (c d : Session V) (n k : ℕ) : Type 0 where
  pub good : Good s target d
  pub table : d.table ≡ c.table
  pub weights : d.weights ≡ c.weights
  pub grown : Grown s (ranked c.table.sizes) c.edges d.edges k
  pub calm : Calm (length c.table.rules) c.waiting d.waiting n 0 k

-- a step takes one number, and if it has a raise at most all wait after it
fewer : (n R k : ℕ) (w : Set) (rules : List Rule) (g : ℕ) (b : Bool) → n < R → w n ≡ true → ltb 0 k ≡ b
    → 1 + count R (woken b (without w (Some n)) rules g) ≤ count R w + R * k
fewer n R k w rules g false h t e = let a = count_without R w n h t in omega arith
fewer n R k w rules g true h t e =
    let a = count_without R w n h t in
    let b = count_le R (woken true (without w (Some n)) rules g) in
    let p = ltb-true 0 k e in
    let m = le-mul_of_pos_right R p in
    omega arith

module _ {V : Type 0} {s : Semiring V} (laws : Laws s) (target : Edges V) where
  one_step : (c : Session V) (n : ℕ) → Good s target c → c.waiting n ≡ true → Settled s target c (stepped s c n).0 1 (stepped s c n).1
  one_step c n good w =
      let z = c.table.sizes in
      let rules = c.table.rules in
      let kept = good.kept in
      let there = at_within rules n (kept.waits n w) in
      let r = there.0 in
      let is = there.1 in
      let own = kept.formed n r is in
      let f = get_or c.weights n s.none in
      let fits = kept.fits in
      let low = own.control in
      let in_states : r.control < z.states = omega arith in
      let row = saturated s z r f c.edges z.states in
      let left = woken (ltb 0 row.1) (without c.waiting (Some n)) rules r.symbol in
      let after : Session V = record { table = c.table; edges = row.0; weights = c.weights; waiting = left; room = c.room } in
      let all : Settled s target c after 1 row.1 = record {
        good = record {
          kept = kept_step laws z rules c.edges c.weights c.waiting target kept n r is;
          rests = λ e. absurd (both_ways (c.waiting n) (ap (λ (v : Set). v n) (good.rests e)) w);
          room = good.room;
          small = good.small;
        };
        table = refl;
        weights = refl;
        grown = record {
          edges = (row_raised laws z r f c.edges in_states own.symbol kept.long z.states (omega arith)).grows;
          rise = row_ranks laws z r f c.edges in_states own.symbol kept.long z.controls low z.states (omega arith);
        };
        calm = record {
          took = fewer n (length rules) row.1 c.waiting rules r.symbol (ltb 0 row.1) (kept.waits n w) w refl;
          rests = λ e. absurd (both_ways (c.waiting n) (ap (λ (v : Set). v n) e) w);
          spent = inr (omega arith);
        };
      } in
      let same = looked_some s (with_waiting c (without c.waiting (Some n))) n r f row.0 row.1 left c.room is refl refl refl refl refl in
      subst (Settled s target c (stepped s c n).0 1) same.1 (subst (λ (d : Session V). Settled s target c d 1 row.1) same.0 all)

  pub all_steps : {c d : Session V} {ns : List ℕ} {k : ℕ} → Steps s c ns d k → Good s target c → Settled s target c d (length ns) k
  all_steps {c} done good = record {
    good = good;
    table = refl;
    weights = refl;
    grown = grown_none laws (ranked c.table.sizes) c.edges;
    calm = calm_none (length c.table.rules) c.waiting;
  }
  all_steps {d = d} (next {c} {n = n} {k = k} {ns = ns} w rest) good =
      let mid = (stepped s c n).0 in
      let j = (stepped s c n).1 in
      let one = one_step c n good w in
      let more = all_steps rest one.good in
      let R = length c.table.rules in
      record {
        good = more.good;
        table = more.table ∙ one.table;
        weights = more.weights ∙ one.weights;
        grown = grown_then laws (ranked c.table.sizes) c.edges mid.edges d.edges j k one.grown
            (subst (λ t. Grown s (ranked t.sizes) mid.edges d.edges k) one.table more.grown);
        calm = subst (λ (m : ℕ). Calm R c.waiting d.waiting m 0 (j + k)) (omega arith)
            (calm_then R c.waiting mid.waiting d.waiting 1 (length ns) 0 0 j k one.calm
            (subst (λ t. Calm (length t.rules) mid.waiting d.waiting (length ns) 0 k) one.table more.calm));
      }
