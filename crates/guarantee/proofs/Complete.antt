-- Closed edges cover every run.
use Rattle.std.proofs.Common.{◌≡◌, ℕ, ◌<◌, List, [], ◌∷◌, ◌++◌, get_or, Some, sym, ap, subst, ap₂}
use Rattle.scale.specs.Semiring.{Semiring, Covers}
use Rattle.automaton.specs.declared.rules.Rule.{Rule}
use Rattle.automaton.specs.Pushdown.{symbols, Config, at, ends, run_weight}
use Rattle.automaton.specs.Automaton.{Edges, rule_value}
use Rattle.guarantee.proofs.Order.{Laws, covers_self, covers_trans, extend_left, extend_right, assoc, same_covered, same_covering}
use Rattle.guarantee.proofs.Sums.{gives, gives_append, gives_more, sum_covers}
use Rattle.guarantee.proofs.Values.{covers_word}
use Rattle.guarantee.proofs.Runs.{config, some_same, begins}

module _ {V : Type 0} {s : Semiring V} (laws : Laws s) (rules : List Rule) (ws : List V) (target e : Edges V) (n : ℕ) (last : ℕ → V)
    (low : (j : ℕ) (r : Rule) → at rules j ≡ Some r → r.target < n)
    (above : (q g m : ℕ) → Covers s (e q g m) (target q g m))
    (closed : (j : ℕ) (r : Rule) → at rules j ≡ Some r → (m : ℕ) → m < n
    → Covers s (e r.control r.symbol m) (rule_value s e n r.target r.word (get_or ws j s.none) m))
  where
    rule_step : (j : ℕ) (r : Rule) (v : List ℕ) → at rules j ≡ Some r
        → Covers s (gives s e n last r.control (r.symbol ∷ v)) (s.extend (get_or ws j s.none) (gives s e n last r.target (symbols r.word ++ v)))
    rule_step j r v is =
        same_covered laws (ap (s.extend (get_or ws j s.none)) (gives_append laws e n last (symbols r.word) v r.target))
        (covers_word laws e n (λ m. gives s e n last m v) r.target (get_or ws j s.none) r.word (gives s e n last r.control (r.symbol ∷ v)) (low j r is) (λ m l.
        covers_trans laws (extend_left laws (gives s e n last m v) (closed j r is m l))
        (sum_covers laws n (λ i. s.extend (e r.control r.symbol i) (gives s e n last i v)) m l)))

    pub complete : (ns : List ℕ) (p : ℕ) (w : List ℕ) (end : Config) → ends rules ns (config p w) ≡ Some end
        → Covers s (gives s e n last p w) (s.extend (run_weight s ws ns) (gives s target n last end.control end.word))
    complete [] p w end h =
        same_covered laws (laws.extends.one_left (gives s target n last end.control end.word))
        (subst (λ (c : Config). Covers s (gives s e n last p w) (gives s target n last c.control c.word)) (some_same (config p w) end h)
        (gives_more laws target e n last last above (λ m. covers_self laws (last m)) w p))
    complete (j ∷ ns) p w end h =
        let b = begins rules j ns p w end h in
        let r = b.rule in
        let f = get_or ws j s.none in
        let t = gives s target n last end.control end.word in
        same_covered laws (assoc laws f (run_weight s ws ns) t)
        (covers_trans laws
        (extend_right laws f (complete ns r.target (symbols r.word ++ b.below) end b.rest))
        (same_covering laws (rule_step j r b.below b.is) (ap₂ (λ q v. gives s e n last q v) b.control (sym b.top))))
