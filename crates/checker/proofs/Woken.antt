-- The rules that have a symbol, put on a worklist one by one.
use Rattle.std.proofs.Common.{◌≡◌, ℕ, zero, suc, ◌<◌, ◌≤◌, Bool, true, false, cond, ◌&&◌, ◌||◌, ltb, List, [], ◌∷◌, length, get_or, refl, arith}
use mathlib.Core.Path.{fun_ext}
use Rattle.std.proofs.lemmas.Bool.Decides.{nat_tests}
use Rattle.worklist.specs.Sets.{Set, union}
use Rattle.automaton.specs.declared.rules.Rule.{Rule}
use Rattle.automaton.specs.Pushdown.{symbols, has}
use Rattle.checker.specs.Session.{readers}

pub readers_at : (rs : List Rule) (g n : ℕ) (d : Rule) → n < length rs → readers rs g n ≡ has (symbols (get_or rs n d).word) g
readers_at [] g n d h = absurd (omega arith)
readers_at (r ∷ rs) g zero d h = refl
readers_at (r ∷ rs) g (suc n) d h = readers_at rs g n d (omega arith)

readers_past : (rs : List Rule) (g n : ℕ) → length rs ≤ n → readers rs g n ≡ false
readers_past [] g n h = refl
readers_past (r ∷ rs) g zero h = absurd (omega arith)
readers_past (r ∷ rs) g (suc n) h = readers_past rs g n (omega arith)

readers_low : (rs : List Rule) (g n : ℕ) → readers rs g n ≡ true → n < length rs
readers_low rs g n e = grind (arith, readers_past rs g n)

-- what waits, and if b the rules that have the symbol g too, is below a number that no rule reaches
pub woken_low : (b : Bool) (w : Set) (rs : List Rule) (g m : ℕ) → ((i : ℕ) → w i ≡ true → i < m) → length rs ≤ m
    → (i : ℕ) → cond b (union w (readers rs g)) w i ≡ true → i < m
woken_low true w rs g m low few i e = grind (arith, low i, readers_low rs g i)
woken_low false w rs g m low few i e = low i e

-- where the rules below n that have the symbol g wait besides what waited, and there are no others, all of them do
pub woken_all : (w v : Set) (rs : List Rule) (g n : ℕ) → ((k : ℕ) → v k ≡ (w k || (ltb k n && readers rs g k))) → length rs ≤ n → v ≡ union w (readers rs g)
woken_all w v rs g n before all = fun_ext (λ k. grind (arith, nat_tests, before k, readers_past rs g k))
