-- Lists of calls: what they leave and did, by recursion on the list, and from a fresh session.
use Rattle.std.proofs.Common.{◌≡◌, ℕ, zero, suc, ◌+◌, ◌-◌, ◌^◌, ◌<◌, min, Bool, true, false, not, ◌&&◌, ◌||◌, List, [], ◌∷◌, ◌++◌, length, get_or, replicate, Some, None, Ok, Err, Option, sym, refl, ap, ◌∙◌, subst, arith}
use mathlib.Core.Path.{fun_ext}
use Rattle.std.proofs.lemmas.List.{length-replicate}
use Rattle.scale.specs.Semiring.{Semiring}
use Rattle.automaton.specs.declared.rules.Rule.{Rule}
use Rattle.automaton.specs.Automaton.{Edges}
use Rattle.automaton.proofs.Bounds.{controls_bound, states_bound}
use Rattle.checker.specs.declared.answers.Report.{Report}
use Rattle.checker.specs.Session.{Session}
use Rattle.checker.specs.Calls.{is_final}
use Rattle.checker.specs.Did.{Event, rule, edge, final, settle, question, released_question, release, withdraw}
use Rattle.guarantee.specs.Histories.{History, nothing, and_then, Fresh}
use Rattle.guarantee.specs.Accepted.{settle_of, adds, no_addition, settles, total_raises, total_steps, total_budget, ruled, weighed, final_in, given}
use Rattle.guarantee.proofs.Order.{Laws, none_right}
use Rattle.guarantee.proofs.Kept.{kept_open}
use Rattle.guarantee.proofs.Admitted.{open_allowed}
use Rattle.guarantee.proofs.Moves.{Good, Said, said_then, Went, went_then}
use Rattle.guarantee.proofs.Calls.{of_settle, said_in, more, still, after}

-- what a list of calls said
abbrev pub said : {V : Type 0} → List (Event V) → Said V
said es = record {
  rules = ruled es;
  weights = weighed es;
  marks = final_in es;
  adds = not (no_addition es);
  steps = total_steps (settles es);
  budget = total_budget (settles es);
  raises = total_raises (settles es);
}

-- a number of the first call, if it is a settle, and that of the settles after it
first_of : (f : ℕ × Report → ℕ) (total : List (ℕ × Report) → ℕ) → ((r : ℕ × Report) (rs : List (ℕ × Report)) → total (r ∷ rs) ≡ f r + total rs)
    → (o : Option (ℕ × Report)) (rs : List (ℕ × Report)) → of_settle f o + total rs ≡ total (elim o [ None ↦ rs | Some r ↦ r ∷ rs ])
first_of f total adds None rs = omega arith
first_of f total adds (Some r) rs = sym (adds r rs)

or_not : (a b : Bool) → (a || not b) ≡ not (not a && b)
or_not true b = refl
or_not false b = refl

said_more : {V : Type 0} (e : Event V) (es : List (Event V)) → said_then (said_in e) (said es) ≡ said (e ∷ es)
said_more e es =
    let addition = or_not (adds e) (no_addition es) in
    let steps = first_of (λ r. r.1.steps) total_steps (λ r rs. refl) (settle_of e) (settles es) in
    let budget = first_of (λ r. r.0) total_budget (λ r rs. refl) (settle_of e) (settles es) in
    let raises = first_of (λ r. r.1.raises) total_raises (λ r rs. refl) (settle_of e) (settles es) in
    λ i. record {
      rules = ruled (e ∷ es);
      weights = weighed (e ∷ es);
      marks = final_in (e ∷ es);
      adds = addition i;
      steps = steps i;
      budget = budget i;
      raises = raises i;
    }

-- the target with what a list of calls gave
abbrev pub given_after : {V : Type 0} → Semiring V → Edges V → List (Event V) → Edges V
given_after s target [] = target
given_after s target (e ∷ es) = given_after s (more s target e) es

module _ {V : Type 0} {s : Semiring V} (laws : Laws s) where
  more_given : (target : Edges V) (e : Event V) (es : List (Event V)) (q g m : ℕ)
      → s.combine (more s target e q g m) (given s es q g m) ≡ s.combine (target q g m) (given s (e ∷ es) q g m)
  more_given target (rule p a p2 w f r) es q g m = refl
  more_given target (edge from a to f (Ok b)) es q g m = laws.combines.assoc _ _ _
  more_given target (edge from a to f (Err x)) es q g m = ap (s.combine (target q g m)) (sym (laws.combines.none_left _))
  more_given target (final n r) es q g m = refl
  more_given target (settle n r) es q g m = refl
  more_given target (question p w n r) es q g m = refl
  more_given target (released_question p w n r) es q g m = refl
  more_given target (release r) es q g m = refl
  more_given target (withdraw r) es q g m = refl

  given_with : (target : Edges V) (es : List (Event V)) (q g m : ℕ) → given_after s target es q g m ≡ s.combine (target q g m) (given s es q g m)
  given_with target [] q g m = sym (none_right laws (target q g m))
  given_with target (e ∷ es) q g m = given_with (more s target e) es q g m ∙ more_given target e es q g m

  given_from_none : (es : List (Event V)) → given_after s (λ q g m. s.none) es ≡ given s es
  given_from_none es = fun_ext (λ q. fun_ext (λ g. fun_ext (λ m. given_with (λ q g m. s.none) es q g m ∙ laws.combines.none_left _)))

  module _ {L : Type 0} (view : L → Session V) where
    pub past : {c d : L} {es : List (Event V)} → History s view c es d → (target : Edges V) → Good s target (view c)
        → Good s (given_after s target es) (view d) × Went s (view c) (said es) (view d)
    past {c} nothing target good = still laws target (view c) good
    past {d = f} (and_then {c} {d} {e = e} {es = es} did rest) target good =
        let one = after laws target (view c) good e (view d) did in
        let later = past rest (more s target e) one.0 in
        (later.0, subst (λ x. Went s (view c) x (view f)) (said_more e es) (went_then laws (view c) (view d) (view f) (said_in e) (said es) one.1 later.1))

-- ---- from a fresh session

-- a session that holds nothing yet
record Begun {V : Type 0} (s : Semiring V) (c : Session V) : Type 0 where
  good : Good s (λ q g m. s.none) c
  rules : c.table.rules ≡ []
  finals : (q : ℕ) → is_final c q ≡ false
  total : c.table.total ≡ 0

-- a session that holds what a list of calls said
pub record Since {V : Type 0} (s : Semiring V) (c : Session V) (es : List (Event V)) (d : Session V) : Type 0 where
  pub good : Good s (given s es) d
  pub went : Went s c (said es) d
  pub rules : d.table.rules ≡ ruled es
  pub weights : (n : ℕ) → n < length (ruled es) → get_or d.weights n s.none ≡ get_or (weighed es) n s.none
  pub finals : (q : ℕ) → is_final d q ≡ final_in es q
  pub total : d.table.total ≡ min (total_raises (settles es)) (2 ^ 64 - 1)

unmarked : (n q : ℕ) → get_or (replicate n false) q false ≡ false
unmarked zero q = refl
unmarked (suc n) zero = refl
unmarked (suc n) (suc q) = unmarked n q

module _ {V : Type 0} {s : Semiring V} (laws : Laws s) {L : Type 0} (view : L → Session V) where
  begun : (c : L) → Fresh s view c → Begun s (view c)
  begun c fresh =
      let z = fresh.sizes in
      let allowed = open_allowed z (length fresh.edges) fresh.room fresh.accepted in
      let few = states_bound z allowed in
      let many = length-replicate 64 false in
      subst (Begun s) (sym fresh.is) (record {
        good = record { kept = kept_open laws z fresh.edges fresh.weights (controls_bound z allowed); rests = λ e. refl; room = omega arith; small = omega arith };
        rules = refl;
        finals = unmarked 64;
        total = refl;
      })

  pub since : {c d : L} {es : List (Event V)} → Fresh s view c → History s view c es d → Since s (view c) es (view d)
  since {c} {d} {es} fresh history =
      let start = begun c fresh in
      let both = past laws view history (λ q g m. s.none) start.good in
      let went = both.1 in
      let none_yet = ap (λ (rs : List Rule). length rs) start.rules in
      record {
        good = subst (λ t. Good s t (view d)) (given_from_none laws es) both.0;
        went = went;
        rules = went.rules ∙ ap (λ (rs : List Rule). rs ++ ruled es) start.rules;
        weights = λ n h.
            let here : n ≡ length (view c).table.rules + n = omega arith in
            ap (λ i. get_or (view d).weights i s.none) here ∙ went.new n h;
        finals = λ q. went.finals q ∙ ap (λ t. t || final_in es q) (start.finals q);
        total = let t = went.total in let u = start.total in omega arith;
      }
