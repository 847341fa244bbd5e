-- A run's answer promises the same where a stop is told by its reason.
use Rattle.std.proofs.Common.{◌≡◌, ℕ, Bool, true, false, List, Ok, Err, Result}
use Rattle.std.specs.Bool.{OnTrue}
use Rattle.scale.specs.Semiring.{Semiring}
use Rattle.automaton.specs.declared.rules.Rule.{Rule}
use Rattle.runs.specs.declared.replay.Stop.{Stop}
use Rattle.runs.specs.Stacks.{Point, Replays}
use Rattle.checker.specs.Refusals.{Reason}
use Rattle.checker.specs.Replay.{stopped}

module _ {V : Type 0} (s : Semiring V) (rules : List Rule) (weights : List V) (ns : List ℕ) (p n : ℕ) (b after : List ℕ) where
  by_reason : (r : Result (Point V) Stop) → Replays s rules weights ns p n b r after → Replays s rules weights ns p n b (stopped r) after
  by_reason (Ok x) h = record { accepted = h.accepted; run = h.run; length_kept = h.length_kept }
  by_reason (Err e) h = record { accepted = h.accepted; run = tt; length_kept = h.length_kept }

  -- of a run of the rules, under another name, that could be begun
  pub retold : (live : List Rule) (can : Bool) (r : Result (Point V) Stop) (q : Result (Point V) Reason) → OnTrue can (Replays s live weights ns p n b r after)
      → can ≡ true → live ≡ rules → q ≡ stopped r → Replays s rules weights ns p n b q after
  retold live true r q run holds same is = rw is (by_reason r (rw same at run))
  retold live false r q run holds same is = cc
