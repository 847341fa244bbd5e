-- Ranks of rows of values: a value that changes has its rank lifted.
use Rattle.std.proofs.Common.{◌≡◌, ℕ, ◌+◌, ◌*◌, ◌<◌, ◌≤◌, Bool, true, false, cond, not, List, length, get_or, set, refl, ap, arith}
use Rattle.std.proofs.lemmas.List.{get_or-set_same, get_or-set_other}
use Rattle.std.proofs.lemmas.Bool.{both_ways}
use Rattle.scale.specs.Semiring.{Semiring, Covers}
use Rattle.guarantee.proofs.Order.{Laws}
use Rattle.guarantee.proofs.Totals.{total, total_le, total_more, total_but_one}

abbrev rank_at : {V : Type 0} → Semiring V → List V → ℕ → ℕ
rank_at s vs i = s.rank (get_or vs i s.none)

-- the ranks of the first n values, added up
abbrev pub ranks : {V : Type 0} → Semiring V → ℕ → List V → ℕ
ranks s n vs = total n (rank_at s vs)

module _ {V : Type 0} {s : Semiring V} (laws : Laws s) where
  pub ranks_le : (n : ℕ) (vs : List V) → ranks s n vs ≤ n * s.height
  ranks_le n vs = total_le n s.height (rank_at s vs) (λ i. laws.bounded.within (get_or vs i s.none))

  pub ranks_set : (n : ℕ) (vs : List V) (i : ℕ) (v : V) → i < n → i < length vs
      → ranks s n (set vs i v) + s.rank (get_or vs i s.none) ≡ ranks s n vs + s.rank v
  ranks_set n vs i v h l =
      let a = total_but_one n i (rank_at s (set vs i v)) (rank_at s vs) h (λ k ne. ap s.rank (get_or-set_other vs i k v s.none ne)) in
      let b = ap s.rank (get_or-set_same vs i v s.none l) in
      omega arith

  -- a value that is covered has no larger rank, and a smaller one unless it is the same
  pub rank_rises : (a b : V) → Covers s b a → cond (not (s.same a b)) 1 0 + s.rank a ≤ s.rank b
  rank_rises a b h = by (s.same a b) refl
    where
      by : (t : Bool) → s.same a b ≡ t → cond (not t) 1 0 + s.rank a ≤ s.rank b
      by true e = let r = ap s.rank ((laws.tells a b).0 e) in omega arith
      by false e = let r = laws.bounded.rises a b h (λ q. both_ways (s.same a b) e ((laws.tells a b).1 q)) in omega arith

  pub ranks_grow : (n : ℕ) (vs us : List V) → ((i : ℕ) → Covers s (get_or us i s.none) (get_or vs i s.none)) → ranks s n vs ≤ ranks s n us
  ranks_grow n vs us h =
      total_more n (rank_at s vs) (rank_at s us) (λ i. let r = rank_rises (get_or vs i s.none) (get_or us i s.none) (h i) in omega arith)
