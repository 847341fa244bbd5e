-- What a record, and the slices and the worklist that a call is lent, say of a session.
use Rattle.std.specs.Prelude.{ℕ, Bool, List, map, take, Ok, Err, Result, slice_set}
use Rattle.worklist.specs.Sets.{Set}
use Rattle.checker.specs.declared.answers.Answer.{Answer}
use Rattle.checker.specs.declared.passes.HandedBack.{HandedBack}
use Rattle.checker.specs.declared.record.Record.{Record}
use Rattle.checker.specs.declared.refusals.Refusal.{Refusal}
use Rattle.checker.specs.Session.{Table, Session}

-- the rules from the record's count on are no part of it
abbrev pub table_of : Record → Table
table_of r = record { stage = r.stage; sizes = r.sizes; rules = take r.count r.rules; finals = r.finals; total = r.total }

abbrev pub session_of : {V : Type 0} → Record → List V → List V → Set → ℕ → Session V
session_of r edges weights waiting room = record { table = table_of r; edges = edges; weights = weights; waiting = waiting; room = room }

-- the same, from the weights and the worklist themselves
abbrev pub lent : {X V K : Type 0} → (X → V) → (K → Set) → (K → ℕ) → Record → List X → List X → K → Session V
lent value waiting room r edges weights worklist = session_of r (map value edges) (map value weights) (waiting worklist) (room worklist)

-- the values that an answer stands for
abbrev pub answered : {S V : Type 0} → (S → V) → Result (Answer S) Refusal → Result (V × Bool) Refusal
answered value (Ok a) = Ok (value a.weight, a.settled)
answered value (Err e) = Err e

-- a weight is written at the number that was answered, and nowhere where the call was refused
abbrev pub written : {X : Type 0} → Result ℕ Refusal → List X → X → List X
written (Ok n) xs x = slice_set xs n x
written (Err e) xs x = xs

-- the value that a weight stands for
abbrev pub valued : {S V : Type 0} → (S → V) → Result S Refusal → Result V Refusal
valued value (Ok x) = Ok (value x)
valued value (Err e) = Err e

-- what a call answered that hands its pass back with a refusal
abbrev pub refusal_of : {A P : Type 0} → Result A (HandedBack P) → Result A Refusal
refusal_of (Ok x) = Ok x
refusal_of (Err b) = Err b.refusal

-- the same, where the answer is a new pass
abbrev pub passed : {A P : Type 0} → Result A (HandedBack P) → Result (Unit {0}) Refusal
passed (Ok x) = Ok tt
passed (Err b) = Err b.refusal
