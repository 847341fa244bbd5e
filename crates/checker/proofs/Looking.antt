-- What the rule of a number makes of a session.
use Rattle.std.proofs.Common.{◌≡◌, ◌<◌, ℕ, cond, ltb, List, length, get_or, Some, None, sym, refl, ap, ◌∙◌}
use Rattle.std.proofs.lemmas.Option.{slice_get-get_or}
use Rattle.scale.specs.Semiring.{Semiring}
use Rattle.worklist.specs.Sets.{Set, union}
use Rattle.automaton.specs.declared.rules.Rule.{Rule}
use Rattle.automaton.specs.Pushdown.{at}
use Rattle.automaton.specs.Layout.{saturated}
use Rattle.checker.specs.Session.{Session, readers}
use Rattle.checker.specs.Calls.{looked}

-- what was read below a list's length stands there
pub read_at : {X : Type 0} (xs : List X) (n : ℕ) (x : X) → n < length xs → x ≡ get_or xs n x → at xs n ≡ Some x
read_at xs n x within is = slice_get-get_or xs n x within ∙ ap Some (sym is)

module _ {V : Type 0} (s : Semiring V) (c : Session V) (n : ℕ) where
  pub looked_none : at c.table.rules n ≡ None → (c ≡ (looked s c n).0) × (0 ≡ (looked s c n).1)
  looked_none e = (rw (e, looked) refl, rw (e, looked) refl)

  pub looked_some : (r : Rule) (f : V) (ys : List V) (k : ℕ) (w : Set) (m : ℕ) → at c.table.rules n ≡ Some r → f ≡ get_or c.weights n s.none
      → ys ≡ (saturated s c.table.sizes r f c.edges c.table.sizes.states).0
      → k ≡ (saturated s c.table.sizes r f c.edges c.table.sizes.states).1
      → w ≡ cond (ltb 0 k) (union c.waiting (readers c.table.rules r.symbol)) c.waiting
      → m ≡ c.room
      → (◌≡◌ {A = Session V} (record { table = c.table; edges = ys; weights = c.weights; waiting = w; room = m }) (looked s c n).0) × (k ≡ (looked s c n).1)
  looked_some r f ys k w m e ef ey ek ew em = (rw (e, looked) (cc), rw (e, looked) (cc))
