-- The queue of a ring: one more at its end, one less at its front.
use Rattle.std.proofs.Common.{◌≡◌, ℕ, zero, suc, ◌+◌, ◌-◌, ◌<◌, ◌≤◌, min, ◌==◌, ◌↔◌, ◌≢◌, List, [], ◌∷◌, ◌++◌, length, slice_index, slice_set, IsTrue, sym, refl, ap, ap₂, ◌∙◌, add-one, arith}
use Rattle.std.proofs.lemmas.List.{get_or-set_same, get_or-set_other, length-set}
use Rattle.std.proofs.lemmas.Bool.{or_left, eqb-true, eq-eqb, false≢true}
use Rattle.std.proofs.lemmas.Bool.Decides.{nat_tests}
use Rattle.worklist.specs.Sets.{empty}
use Rattle.worklist.specs.Rings.{used, around, round, queue, member}

pub around_within : (c p : ℕ) → p < c + c → around c p < c
around_within c p l = grind (arith, nat_tests)

-- a step round, and then some more, is one more
around_step : (c h i : ℕ) → h < c → i < c → around c (h + suc i) ≡ around c (around c (h + 1) + i)
around_step c h i l k = grind (arith, nat_tests)

-- fewer steps than a whole round lead to another place
around_other : (c h i : ℕ) → h < c → suc i < c → h ≢ around c (h + suc i)
around_other c h i l k = grind (arith, nat_tests)

around_here : (c h : ℕ) → h < c → around c (h + 0) ≡ h
around_here c h l = grind (arith, nat_tests)

pub length_round : (c : ℕ) (slots : List ℕ) (h count : ℕ) → length (round c slots h count) ≡ count
length_round c slots h zero = refl
length_round c slots h (suc k) = ap suc (length_round c slots (around c (h + 1)) k)

-- one more slot, at the end
round_last : (c : ℕ) (slots : List ℕ) (h count : ℕ) → h < c → count < c → round c slots h (suc count) ≡ round c slots h count ++ slice_index slots (around c (h + count)) ∷ []
round_last c slots h zero l k = ap (λ p. slice_index slots p ∷ []) (sym (around_here c h l))
round_last c slots h (suc i) l k =
    ap (λ xs. slice_index slots h ∷ xs) (round_last c slots (around c (h + 1)) i (around_within c (h + 1) (omega arith)) (omega arith)
    ∙ ap (λ p. round c slots (around c (h + 1)) i ++ slice_index slots p ∷ []) (sym (around_step c h i l (omega arith))))

-- a write behind the slots leaves what stands in them
round-set_behind : (c : ℕ) (slots : List ℕ) (h count i n : ℕ) → h < c → count ≤ i → i < c → round c (slice_set slots (around c (h + i)) n) h count ≡ round c slots h count
round-set_behind c slots h zero i n l few k = refl
round-set_behind c slots h (suc count) zero n l few k = absurd (omega arith)
round-set_behind c slots h (suc count) (suc i) n l few k =
    let next : ℕ = around c (h + 1) in
    let first = get_or-set_other slots (around c (h + suc i)) h n 0 (around_other c h i l k) in
    let moved = ap (λ p. round c (slice_set slots p n) next count) (around_step c h i l (omega arith)) in
    let rest = round-set_behind c slots next count i n (around_within c (h + 1) (omega arith)) (omega arith) (omega arith) in
    ap (λ x. x ∷ round c (slice_set slots (around c (h + suc i)) n) next count) first ∙ ap (λ xs. slice_index slots h ∷ xs) (moved ∙ rest)

-- what stands first, and the others from the next place on
round_front : (c : ℕ) (slots : List ℕ) (h count : ℕ) → 0 < count → round c slots h count ≡ slice_index slots h ∷ round c slots (around c (h + 1)) (count - 1)
round_front c slots h zero l = absurd (omega arith)
round_front c slots h (suc k) l = ap (λ j. slice_index slots h ∷ round c slots (around c (h + 1)) j) (omega arith)

-- a queue is empty exactly when it has no slot
pub no_slot : (c : ℕ) (slots : List ℕ) (h count : ℕ) → IsTrue (count == 0) ↔ (member (round c slots h count) ≡ empty)
no_slot c slots h zero = (λ _. refl, λ _. refl)
no_slot c slots h (suc k) =
    let first : ℕ = slice_index slots h in
    let rest : List ℕ = round c slots (around c (h + 1)) k in
    let found = or_left (first == first) (member rest first) (eq-eqb first first refl) in
    (λ e. absurd (omega (arith, eqb-true (suc k) 0 e)), λ e. absurd (false≢true (sym (ap (λ s. s first) e) ∙ found)))

pub used_set : (slots : List ℕ) (at n : ℕ) → used (slice_set slots at n) ≡ used slots
used_set slots at n = ap (λ k. min k 512) (length-set slots at n)

module _ (slots : List ℕ) (head len at n : ℕ) (place : at ≡ around (used slots) (head + len)) (starts : head ≤ used slots - 1) (few : len < used slots) where
  behind : round (used slots) (slice_set slots at n) head len ≡ queue slots head len
  behind =
      ap (λ p. round (used slots) (slice_set slots p n) head len) place
      ∙ round-set_behind (used slots) slots head len len n (omega arith) (omega arith) few

  -- a number that is written behind the last one leaves those before it
  pub queue-set_behind : queue (slice_set slots at n) head len ≡ queue slots head len
  queue-set_behind = ap (λ c. round c (slice_set slots at n) head len) (used_set slots at n) ∙ behind

  -- and goes last
  pub queue_push : queue (slice_set slots at n) head (len + 1) ≡ queue slots head len ++ n ∷ []
  queue_push =
      let within = around_within (used slots) (head + len) (omega arith) in
      let last = ap (λ p. slice_index (slice_set slots at n) p) (sym place) ∙ get_or-set_same slots at n 0 (omega arith) in
      ap (λ k. queue (slice_set slots at n) head k) (add-one len)
      ∙ ap (λ c. round c (slice_set slots at n) head (suc len)) (used_set slots at n)
      ∙ round_last (used slots) (slice_set slots at n) head len (omega arith) few
      ∙ ap₂ (λ xs m. xs ++ m ∷ []) behind last

pub queue_front : (slots : List ℕ) (head len next : ℕ) → next ≡ around (used slots) (head + 1) → 0 < len → queue slots head len ≡ slice_index slots head ∷ queue slots next (len - 1)
queue_front slots head len next place some =
    round_front (used slots) slots head len some
    ∙ ap (λ p. slice_index slots head ∷ round (used slots) slots p (len - 1)) (sym place)
