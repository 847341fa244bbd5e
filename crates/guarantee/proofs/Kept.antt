-- What every call keeps of the rules, the edges and the worklist.
use Rattle.std.proofs.Common.{◌≡◌, ℕ, ◌<◌, ◌≤◌, Bool, true, false, cond, ◌&&◌, eqb, ltb, ◌⊎◌, List, [], ◌∷◌, ◌++◌, length, get_or, drop, set, replicate, Some, sym, refl, ap, ◌∙◌, subst, ap₂, inl, inr, ⊎_elim, arith, length-append}
use Rattle.std.proofs.lemmas.List.{get_or_append_left, get_or-replicate, length-replicate, get_or-set_other}
use Rattle.std.proofs.lemmas.Bool.{cases_eq, eq-eqb, ne_eqb, eqb-true, eqb-false, ltb-true, ltb-false, both_ways, or_cases, or_parts, and_parts, and_from, and_right}
use Rattle.std.proofs.lemmas.Bool.Decides.{nat_tests}
use Rattle.scale.specs.Semiring.{Semiring, Covers}
use Rattle.worklist.specs.Sets.{Set, empty, adding, without}
use Rattle.automaton.specs.declared.rules.Rule.{Rule}
use Rattle.automaton.specs.declared.sizes.Sizes.{Sizes}
use Rattle.automaton.specs.Pushdown.{symbols, has, at}
use Rattle.automaton.specs.Automaton.{Edges}
use Rattle.automaton.specs.Limits.{edge_count, all_below, rule_fits}
use Rattle.automaton.specs.Layout.{place, edge_at, edge_changes, edge_set, saturated}
use Rattle.checker.proofs.Woken.{woken_low}
use Rattle.guarantee.proofs.Order.{Laws, covers_trans, covers_left, covers_right, covers_both, covers_none, same_covered, same_covering}
use Rattle.guarantee.proofs.Runs.{some_same, none_some, at_push}
use Rattle.guarantee.proofs.Values.{Ranged, value_off}
use Rattle.guarantee.proofs.Sound.{Sound, sound_none, sound_combine, sound_target, sound_above, sound_rules, sound_rule}
use Rattle.guarantee.proofs.Places.{place_lt, EachEdge, Raised, edge_still, edge_here, edge_raised, edge_each}
use Rattle.guarantee.proofs.Rows.{Closed, row_still, row_raised, row_each, row_closed}
use Rattle.guarantee.proofs.Waits.{without_other, without_within, woken, not_woken}

-- a rule whose controls and symbols are those of the sizes
pub record Formed (z : Sizes) (r : Rule) : Type 0 where
  pub control : r.control < z.controls
  pub symbol : r.symbol < z.symbols
  pub target : r.target < z.controls
  pub word : Ranged z.symbols (symbols r.word)

pub ranged : (n : ℕ) (w : List ℕ) → all_below n w ≡ true → Ranged n w
ranged n [] e = tt
ranged n (x ∷ xs) e =
    let parts = and_parts (ltb x n) (all_below n xs) e in
    (ltb-true x n parts.0, ranged n xs parts.1)

pub is_formed : (z : Sizes) (r : Rule) → rule_fits z r ≡ true → Formed z r
is_formed z r fits = record {
  control = grind (arith, nat_tests);
  symbol = grind (arith, nat_tests);
  target = grind (arith, nat_tests);
  word = ranged z.symbols (symbols r.word) (grind (arith, nat_tests));
}

pub record Kept {V : Type 0} (s : Semiring V) (z : Sizes) (rules : List Rule) (edges weights : List V) (waiting : Set) (target : Edges V) : Type 0 where
  pub fits : z.controls ≤ z.states
  pub long : edge_count z ≤ length edges
  pub formed : (n : ℕ) (r : Rule) → at rules n ≡ Some r → Formed z r
  pub waits : (n : ℕ) → waiting n ≡ true → n < length rules
  pub into : (q g m : ℕ) → m < z.controls → target q g m ≡ s.none
  pub above : (q g m : ℕ) → Covers s (edge_at s z edges q g m) (target q g m)
  pub sound : EachEdge s z (Sound s rules weights target z.states) edges
  pub closed : (n : ℕ) (r : Rule) → at rules n ≡ Some r → waiting n ≡ false → Closed s z edges (get_or weights n s.none) r

module _ {V : Type 0} {s : Semiring V} (laws : Laws s) where
  -- a closed rule stays closed while edges by g are raised, if none was or its word has not g
  closed_more : (z : Sizes) (vs us : List V) (f : V) (r : Rule) (g : ℕ) (b : Bool) → z.controls ≤ z.states → Formed z r → Raised s z g vs us
      → (b ≡ false → us ≡ vs) → (b ≡ true → has (symbols r.word) g ≡ false) → Closed s z vs f r → Closed s z us f r
  closed_more z vs us f r g false fits form raised still lacks closed m hm = subst (λ ts. Closed s z ts f r) (sym (still refl)) closed m hm
  closed_more z vs us f r g true fits form raised still lacks closed m hm =
      let t = form.target in
      subst (Covers s (edge_at s z us r.control r.symbol m))
      (value_off laws (edge_at s z vs) (edge_at s z us) z.states r.target f r.word m z.symbols g (omega arith) hm form.word (lacks refl)
      (λ q a i hq ha hi ne. sym (raised.off q a i ha hi ne)))
      (covers_trans laws (closed m hm) (raised.grows (place z r.control r.symbol m)))

  -- ---- open

  pub kept_open : (z : Sizes) (edges weights : List V) → z.controls ≤ z.states
      → Kept s z [] (replicate (edge_count z) s.none ++ drop (edge_count z) edges) weights empty (λ q g m. s.none)
  kept_open z edges weights fits = record {
    fits = fits;
    long = omega (arith, length-append (replicate (edge_count z) s.none) (drop (edge_count z) edges), length-replicate (edge_count z) s.none);
    formed = λ n r e. absurd (none_some e);
    waits = λ n e. absurd (both_ways false refl e);
    into = λ q g m h. refl;
    above = λ q g m. covers_none laws _;
    sound = λ q g m hq hg hm.
        let l = place_lt z z.states q g m hq hg hm in
        let n = length-replicate (edge_count z) s.none in
        subst (Sound s [] weights (λ q g m. s.none) z.states q g m)
        (sym (get_or_append_left (replicate (edge_count z) s.none) (drop (edge_count z) edges) s.none (place z q g m) (omega arith)
        ∙ get_or-replicate (edge_count z) (place z q g m) s.none s.none l))
        (sound_none laws [] weights (λ q g m. s.none) z.states q g m);
    closed = λ n r e. absurd (none_some e);
  }

  -- ---- one step

  module _ (z : Sizes) (rules : List Rule) (vs ws : List V) (waiting : Set) (target : Edges V) (kept : Kept s z rules vs ws waiting target)
      (n : ℕ) (r : Rule) (is : at rules n ≡ Some r) where
    abbrev row : List V × ℕ
    row = saturated s z r (get_or ws n s.none) vs z.states

    abbrev gone : Set
    gone = without waiting (Some n)

    in_states : r.control < z.states
    in_states = let a = (kept.formed n r is).control in let b = kept.fits in omega arith

    step_raised : Raised s z r.symbol vs row.0
    step_raised = row_raised laws z r (get_or ws n s.none) vs in_states (kept.formed n r is).symbol kept.long z.states (omega arith)

    step_sound : EachEdge s z (Sound s rules ws target z.states) row.0
    step_sound =
        let own = kept.formed n r is in
        row_each laws z r (get_or ws n s.none) vs in_states own.symbol kept.long (Sound s rules ws target z.states)
        (λ us sound k hk.
        sound_combine laws rules ws target z.states r.control r.symbol k _ _
        (sound r.control r.symbol k in_states own.symbol hk)
        (sound_rule laws rules ws target (edge_at s z us) z.states z.controls z.symbols
        (λ j x e. ((kept.formed j x e).control, (kept.formed j x e).target)) kept.fits kept.into sound n r is own.word k hk))
        kept.sound z.states (omega arith)

    -- the rule that was taken
    step_own : (b : Bool) → ltb 0 row.1 ≡ b → (b ≡ true → has (symbols r.word) r.symbol ≡ false) → Closed s z row.0 (get_or ws n s.none) r
    step_own b e lacks =
        let own = kept.formed n r is in
        let a = own.target in
        let c = kept.fits in
        row_closed laws z r (get_or ws n s.none) vs in_states own.symbol kept.long (omega arith) own.word (why b e lacks)
      where
        why : (b : Bool) → ltb 0 row.1 ≡ b → (b ≡ true → has (symbols r.word) r.symbol ≡ false) → (row.1 ≡ 0) ⊎ (has (symbols r.word) r.symbol ≡ false)
        why true e lacks = inr (lacks refl)
        why false e lacks = let l = ltb-false 0 row.1 e in inl (omega arith)

    step_closed : (j : ℕ) (x : Rule) → at rules j ≡ Some x → woken (ltb 0 row.1) gone rules r.symbol j ≡ false → Closed s z row.0 (get_or ws j s.none) x
    step_closed j x at_j h =
        let b = ltb 0 row.1 in
        let parts = not_woken b gone rules r.symbol j x at_j h in
        ⊎_elim
        (λ (e : j ≡ n).
        let same : x ≡ r = some_same x r (sym at_j ∙ (ap (at rules) e ∙ is)) in
        subst (λ i. Closed s z row.0 (get_or ws i s.none) x) (sym e)
        (subst (Closed s z row.0 (get_or ws n s.none)) (sym same)
        (step_own b refl (subst (λ (y : Rule). b ≡ true → has (symbols y.word) r.symbol ≡ false) same parts.1))))
        (λ (ne : j ≡ n → ⊥).
        closed_more z vs row.0 (get_or ws j s.none) x r.symbol b kept.fits (kept.formed j x at_j) step_raised
        (λ e. let l = ltb-false 0 row.1 e in row_still laws z r (get_or ws n s.none) vs z.states (omega arith))
        parts.1 (kept.closed j x at_j (sym (without_other waiting n j ne) ∙ parts.0)))
        (cases_eq j n)

    pub kept_step : Kept s z rules row.0 ws (woken (ltb 0 row.1) gone rules r.symbol) target
    kept_step = record {
      fits = kept.fits;
      long = let e = step_raised.long in let h = kept.long in omega arith;
      formed = kept.formed;
      waits = woken_low (ltb 0 row.1) gone rules r.symbol (length rules) (λ i e. kept.waits i (without_within waiting n i e)) (omega arith);
      into = kept.into;
      above = λ q g m. covers_trans laws (kept.above q g m) (step_raised.grows (place z q g m));
      sound = step_sound;
      closed = step_closed;
    }

  -- ---- a rule more

  pub kept_rule : (z : Sizes) (rules : List Rule) (vs ws : List V) (waiting : Set) (target : Edges V) → Kept s z rules vs ws waiting target
      → (r : Rule) (f : V) → Formed z r
      → Kept s z (rules ++ (r ∷ [])) vs (set ws (length rules) f) (adding waiting (length rules)) target
  kept_rule z rules vs ws waiting target kept r f form = record {
    fits = kept.fits;
    long = kept.long;
    formed = λ j x e. ⊎_elim (λ h. kept.formed j x h) (λ h. subst (Formed z) (sym h.1) form) (at_push rules r j x e);
    waits = λ j e.
        let total = length-append rules (r ∷ []) in
        ⊎_elim (λ (h : waiting j ≡ true). let l = kept.waits j h in omega arith) (λ (h : eqb j (length rules) ≡ true). let q = eqb-true j (length rules) h in omega arith)
        (or_cases (waiting j) (eqb j (length rules)) e);
    into = kept.into;
    above = kept.above;
    sound = λ q g m hq hg hm.
        sound_rules laws rules ws target z.states (r ∷ []) (set ws (length rules) f) (λ i h. get_or-set_other ws (length rules) i f s.none (omega arith))
        q g m _ (kept.sound q g m hq hg hm);
    closed = λ j x e h.
        let parts = or_parts (waiting j) (eqb j (length rules)) h in
        ⊎_elim
        (λ (old : at rules j ≡ Some x).
        subst (λ y. Closed s z vs y x) (sym (get_or-set_other ws (length rules) j f s.none (eqb-false j (length rules) parts.1))) (kept.closed j x old parts.0))
        (λ (new : (j ≡ length rules) × (x ≡ r)). absurd (eqb-false j (length rules) parts.1 new.0))
        (at_push rules r j x e);
  }

  -- ---- an edge more

  module _ (z : Sizes) (rules : List Rule) (vs ws : List V) (waiting : Set) (target : Edges V) (kept : Kept s z rules vs ws waiting target)
      (from by to : ℕ) (f : V) (hf : from < z.states) (hb : by < z.symbols) (ht : to < z.states) (out : z.controls ≤ to) where
    abbrev pub target_more : Edges V
    target_more q g m = s.combine (target q g m) (cond (eqb from q && (eqb by g && eqb to m)) f s.none)

    abbrev edges_more : List V
    edges_more = edge_set s z vs from by to f

    raised : Raised s z by vs edges_more
    raised = edge_raised laws z vs from by to f hf hb ht kept.long

    on_target : (q g m : ℕ) (b : Bool) → (eqb from q && (eqb by g && eqb to m)) ≡ b → Covers s (edge_at s z edges_more q g m) (cond b f s.none)
    on_target q g m false e = covers_none laws _
    on_target q g m true e =
        let one = and_parts (eqb from q) (eqb by g && eqb to m) e in
        let two = and_parts (eqb by g) (eqb to m) one.1 in
        subst (λ x. Covers s (edge_at s z edges_more x g m) f) (eqb-true from q one.0)
        (subst (λ x. Covers s (edge_at s z edges_more from x m) f) (eqb-true by g two.0)
        (subst (λ x. Covers s (edge_at s z edges_more from by x) f) (eqb-true to m two.1)
        (same_covering laws (covers_right laws (edge_at s z vs from by to) f) (sym (edge_here laws z vs from by to f hf hb ht kept.long)))))

    out_of : (q g m : ℕ) → m < z.controls → (eqb from q && (eqb by g && eqb to m)) ≡ false
    out_of q g m h = and_right (eqb from q) _ (and_right (eqb by g) (eqb to m) (ne_eqb to m (omega arith)))

    itself : cond (eqb from from && (eqb by by && eqb to to)) f s.none ≡ f
    itself = ap (λ b. cond b f s.none) (and_from _ _ (eq-eqb from from refl) (and_from _ _ (eq-eqb by by refl) (eq-eqb to to refl)))

    sound_more : EachEdge s z (Sound s rules ws target_more z.states) vs
    sound_more q g m hq hg hm = sound_above laws rules ws target z.states target_more (λ a b c. covers_left laws _ _) q g m _ (kept.sound q g m hq hg hm)

    pub kept_edge : Kept s z rules edges_more ws (woken (edge_changes s z vs from by to f) waiting rules by) target_more
    kept_edge = record {
      fits = kept.fits;
      long = let e = raised.long in let h = kept.long in omega arith;
      formed = kept.formed;
      waits = woken_low (edge_changes s z vs from by to f) waiting rules by (length rules) kept.waits (omega arith);
      into = λ q g m h.
          ap₂ s.combine (kept.into q g m h) (ap (λ b. cond b f s.none) (out_of q g m h)) ∙ laws.combines.idem s.none;
      above = λ q g m. covers_both laws (covers_trans laws (kept.above q g m) (raised.grows (place z q g m))) (on_target q g m _ refl);
      sound = edge_each laws z vs from by to f hf hb ht kept.long (Sound s rules ws target_more z.states) sound_more
          (sound_combine laws rules ws target_more z.states from by to _ f (sound_more from by to hf hb ht)
          (sound_target laws rules ws target_more z.states from by to f ht (same_covered laws (sym itself) (covers_right laws (target from by to) _))));
      closed = λ j x at_j h.
          let parts = not_woken (edge_changes s z vs from by to f) waiting rules by j x at_j h in
          closed_more z vs edges_more (get_or ws j s.none) x by (edge_changes s z vs from by to f) kept.fits (kept.formed j x at_j) raised
          (edge_still laws z vs from by to f) parts.1 (kept.closed j x at_j parts.0);
    }
