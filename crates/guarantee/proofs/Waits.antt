-- Numbers that wait: how many are below n, and which rules a raised edge wakes.
use Rattle.std.proofs.Common.{◌≡◌, ℕ, zero, suc, ◌+◌, ◌<◌, ◌≤◌, Bool, true, false, cond, not, ◌&&◌, eqb, List, [], ◌∷◌, Some, sym, refl, ap, ◌∙◌, ⊎_elim, arith}
use mathlib.Core.Path.{fun_ext}
use mathlib.Core.Bool.{and-true}
use Rattle.std.proofs.lemmas.Bool.{cases_Bool, eq-eqb, ne_eqb, both_ways, and_parts, and_right, or_parts}
use Rattle.worklist.specs.Sets.{Set, empty, without, union}
use Rattle.automaton.specs.declared.rules.Rule.{Rule}
use Rattle.automaton.specs.Pushdown.{symbols, has, at}
use Rattle.checker.specs.Session.{readers}
use Rattle.guarantee.proofs.Totals.{total, total_le, total_zero, total_but_one}
use Rattle.guarantee.proofs.Runs.{some_same, none_some}

abbrev one_if : Bool → ℕ
one_if b = cond b 1 0

-- how many numbers below n are in a set
abbrev pub count : ℕ → Set → ℕ
count n w = total n (λ i. one_if (w i))

one_at_most : (b : Bool) → one_if b ≤ 1
one_at_most true = omega arith
one_at_most false = omega arith

pub count_le : (n : ℕ) (w : Set) → count n w ≤ n
count_le n w = let a = total_le n 1 (λ i. one_if (w i)) (λ i. one_at_most (w i)) in omega arith

pub without_other : (w : Set) (m i : ℕ) → (i ≡ m → ⊥) → without w (Some m) i ≡ w i
without_other w m i h = ap (λ t. w i && not t) (ne_eqb i m h) ∙ and-true (w i)

pub without_within : (w : Set) (m i : ℕ) → without w (Some m) i ≡ true → w i ≡ true
without_within w m i h = (and_parts (w i) (not (eqb i m)) h).0

pub count_without : (n : ℕ) (w : Set) (m : ℕ) → m < n → w m ≡ true → 1 + count n (without w (Some m)) ≡ count n w
count_without n w m h t =
    let a = total_but_one n m (λ i. one_if (without w (Some m) i)) (λ i. one_if (w i)) h (λ k ne. ap one_if (without_other w m k ne)) in
    let b : ◌≡◌ {A = ℕ} (one_if (without w (Some m) m)) 0 = ap one_if (and_right (w m) (not (eqb m m)) (ap not (eq-eqb m m refl))) in
    let c : ◌≡◌ {A = ℕ} (one_if (w m)) 1 = ap one_if t in
    omega arith

none_if : (b : Bool) → one_if b ≡ 0 → b ≡ false
none_if true e = absurd (omega arith)
none_if false e = refl

pub nothing_waits : (n : ℕ) (w : Set) → ((i : ℕ) → w i ≡ true → i < n) → count n w ≡ 0 → w ≡ empty
nothing_waits n w low e =
    fun_ext (λ i. ⊎_elim (λ (t : w i ≡ true). none_if (w i) (total_zero n (λ k. one_if (w k)) e i (low i t))) (λ (t : w i ≡ false). t) (cases_Bool (w i)))

readers_at : (rules : List Rule) (g n : ℕ) (r : Rule) → at rules n ≡ Some r → readers rules g n ≡ has (symbols r.word) g
readers_at [] g n r e = absurd (none_some e)
readers_at (x ∷ xs) g zero r e = ap (λ (y : Rule). has (symbols y.word) g) (some_same x r e)
readers_at (x ∷ xs) g (suc n) r e = readers_at xs g n r e

-- if b, the rules whose word has g wait too
abbrev pub woken : Bool → Set → List Rule → ℕ → Set
woken b w rules g = cond b (union w (readers rules g)) w

pub not_woken : (b : Bool) (w : Set) (rules : List Rule) (g n : ℕ) (r : Rule) → at rules n ≡ Some r → woken b w rules g n ≡ false
    → (w n ≡ false) × (b ≡ true → has (symbols r.word) g ≡ false)
not_woken true w rules g n r is e =
    let parts = or_parts (w n) (readers rules g n) e in
    (parts.0, λ t. sym (readers_at rules g n r is) ∙ parts.1)
not_woken false w rules g n r is e = (e, λ t. absurd (both_ways false refl t))
