-- A ring stays as its ghost fields and its invariant say, and its queue is as it should be, when a number is put or taken.
use Rattle.std.proofs.Common.{◌≡◌, ℕ, ◌+◌, ◌-◌, ◌<◌, ◌≤◌, false, true, nat_lt, List, [], ◌∷◌, ◌++◌, length, slice_index, slice_set, replicate, Some, IsTrue, sym, ap, ◌∙◌, arith}
use Rattle.std.proofs.lemmas.Bool.{and_parts, ltb-true}
use Rattle.std.proofs.lemmas.Bool.Decides.{nat_tests}
use Rattle.worklist.specs.declared.ring.Ring.TheInside.{Inside}
use Rattle.worklist.specs.Sets.{without}
use Rattle.worklist.specs.Rings.{used, around, queue, member, all_below, distinct, IsLaid}
use Rattle.worklist.proofs.Distinct.{member_push, all_below_push, distinct_push, room_for_new}
use Rattle.worklist.proofs.Marks.{marked-set, all_clear}
use Rattle.worklist.proofs.Ordering.{take_set}
use Rattle.worklist.proofs.Queue.{around_within, length_round, used_set, queue-set_behind, queue_push, queue_front}

-- a ring's invariant, over its fields
abbrev pub Laid : Inside → Type 0
Laid r = IsLaid r.slots.now r.head r.len r.marks

-- the numbers that wait, over a ring's fields
abbrev pub waiting_in : Inside → List ℕ
waiting_in r = queue r.slots.now r.head r.len

pub laid_empty : (slots : List ℕ) (head : ℕ) → head ≤ used slots - 1 → IsLaid slots head 0 (replicate 512 false)
laid_empty slots head starts = record { starts = starts; few = omega arith; noted = λ n. ap (λ s. s n) all_clear }

-- what the ghost fields say
pub record IsSound (slots : List ℕ) (head len : ℕ) : Type 0 where
  pub low : IsTrue (all_below (used slots) (queue slots head len))
  pub once : IsTrue (distinct (queue slots head len))

-- a new number is written behind the others, counted and marked
pub record Put (r : Inside) (at n : ℕ) : Type 0 where
  pub written : IsSound (slice_set r.slots.now at n) r.head r.len
  pub counted : IsSound (slice_set r.slots.now at n) r.head (r.len + 1)
  pub marked : IsLaid (slice_set r.slots.now at n) r.head (r.len + 1) (slice_set r.marks n true)
  pub order : queue (slice_set r.slots.now at n) r.head (r.len + 1) ≡ waiting_in r ++ n ∷ []

module _ (r : Inside) (laid : Laid r) (full : length r.marks ≡ 512) (at n : ℕ) (place : at ≡ around (used r.slots.now) (r.head + r.len)) (within : n < used r.slots.now) (new : member (waiting_in r) n ≡ false) where
  sound : (len : ℕ) (numbers : List ℕ) → queue (slice_set r.slots.now at n) r.head len ≡ numbers → all_below (used r.slots.now) numbers ≡ true → distinct numbers ≡ true → IsSound (slice_set r.slots.now at n) r.head len
  sound len numbers is low once =
      record { low = ap (λ c. all_below c (queue (slice_set r.slots.now at n) r.head len)) (used_set r.slots.now at n) ∙ ap (all_below (used r.slots.now)) is ∙ low; once = ap distinct is ∙ once }

  pub put : Put r at n
  put =
      let before : List ℕ = waiting_in r in
      let room = room_for_new (used r.slots.now) before n r.low r.once new within in
      let fits : r.len < used r.slots.now = omega (arith, length_round (used r.slots.now) r.slots.now r.head r.len) in
      let size = used_set r.slots.now at n in
      let behind = queue-set_behind r.slots.now r.head r.len at n place laid.starts fits in
      let after = queue_push r.slots.now r.head r.len at n place laid.starts fits in
      record {
        written = sound r.len before behind r.low r.once;
        counted = sound (r.len + 1) (before ++ n ∷ []) after (all_below_push (used r.slots.now) before n within r.low) (distinct_push before n new r.once);
        marked = record {
          starts = omega (arith, laid.starts);
          few = omega arith;
          noted = λ m. grind (arith, nat_tests, marked-set r.marks n m true full (omega arith), laid.noted m, member_push before n m, ap (λ q. member q m) after);
        };
        order = after;
      }

-- the first number is passed over, and its mark cleared
pub record Take (r : Inside) (next : ℕ) : Type 0 where
  pub laid : IsLaid r.slots.now next (r.len - 1) (slice_set r.marks (slice_index r.slots.now r.head) false)
  pub left : member (queue r.slots.now next (r.len - 1)) ≡ without (member (waiting_in r)) (Some (slice_index r.slots.now r.head))

pub take : (r : Inside) → Laid r → length r.marks ≡ 512 → (next : ℕ) → next ≡ around (used r.slots.now) (r.head + 1) → 0 < r.len → Take r next
take r laid full next place some =
    let first : ℕ = slice_index r.slots.now r.head in
    let rest : List ℕ = queue r.slots.now next (r.len - 1) in
    let front = queue_front r.slots.now r.head r.len next place some in
    let left = take_set (waiting_in r) rest first r.once front in
    let low = and_parts (nat_lt first (used r.slots.now)) (all_below (used r.slots.now) rest) (ap (all_below (used r.slots.now)) (sym front) ∙ r.low) in
    let within = ltb-true first (used r.slots.now) low.0 in
    record {
      laid = record {
        starts = omega (arith, around_within (used r.slots.now) (r.head + 1) (omega (arith, laid.starts, laid.few)), laid.starts, laid.few);
        few = omega (arith, laid.few);
        noted = λ m. grind (arith, nat_tests, marked-set r.marks first m false full (omega arith), laid.noted m, ap (λ s. s m) left);
      };
      left = left;
    }
