-- Lists of calls on one session.
use Rattle.std.specs.Prelude.{◌≡◌, ℕ, List, [], ◌∷◌, length, None}
use Rattle.scale.specs.Semiring.{Semiring}
use Rattle.worklist.specs.Sets.{Set}
use Rattle.automaton.specs.declared.sizes.Sizes.{Sizes}
use Rattle.checker.specs.declared.record.Record.{Record}
use Rattle.checker.specs.Session.{Session}
use Rattle.checker.specs.Checks.{open_refusal}
use Rattle.checker.specs.Calls.{opened}
use Rattle.checker.specs.Did.{Event, Did}
use Rattle.checker.specs.Views.{lent}

-- what the calls on a session are lent: a record, the weights of edges and of rules, and a worklist
pub record Lent (X K : Type 0) : Type 0 where
  pub kept : Record
  pub edges : List X
  pub weights : List X
  pub worklist : K

-- the session that they hold
abbrev pub held : {X V K : Type 0} → (X → V) → (K → Set) → (K → ℕ) → Lent X K → Session V
held value waiting room l = lent value waiting room l.kept l.edges l.weights l.worklist

module _ {V L : Type 0} (s : Semiring V) (view : L → Session V) where
  -- calls follow one another, each on what the one before left
  pub data History : L → List (Event V) → L → Type 0 where
    nothing : {c : L} → History c [] c
    and_then : {c d f : L} {e : Event V} {es : List (Event V)} → Did s (view c) e (view d) → History d es f → History c (e ∷ es) f

  -- an accepted open has just made it
  pub record Fresh (c : L) : Type 0 where
    pub sizes : Sizes
    pub edges : List V
    pub weights : List V
    pub room : ℕ
    pub accepted : open_refusal sizes (length edges) room ≡ None
    pub is : view c ≡ opened s sizes edges weights room
