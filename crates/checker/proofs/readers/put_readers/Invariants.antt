use Rattle.std.proofs.Common.{◌≡◌, ℕ, ◌&&◌, ◌||◌, nat_lt}
use Rattle.checker.specs.Session.{readers}
use Rattle.checker.proofs.readers.put_readers.Given as goal

-- of the rules that the loop has passed those with the symbol wait, besides what waited
abbrev pub invariant-loop-number : goal.invariant-loop-number
invariant-loop-number g l =
    let k = g.K.Worklist in
    record {
      woken : (n : ℕ) → k.waiting l.worklist n ≡ (k.waiting l.initial.worklist n || (nat_lt n l.number && readers l.rules l.symbol n));
      kept : k.room l.worklist ≡ k.room l.initial.worklist;
    }
