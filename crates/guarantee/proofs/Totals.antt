-- Numbers added up over those below n.
use Rattle.std.proofs.Common.{◌≡◌, ℕ, zero, suc, ◌+◌, ◌*◌, ◌<◌, ◌≤◌, refl, ap, ap₂, ⊎_elim, suc-mul, arith}
use Rattle.std.proofs.lemmas.Bool.{cases_lt}

abbrev pub total : ℕ → (ℕ → ℕ) → ℕ
total zero f = 0
total (suc n) f = total n f + f n

pub total_le : (n h : ℕ) (f : ℕ → ℕ) → ((i : ℕ) → f i ≤ h) → total n f ≤ n * h
total_le zero h f low = omega arith
total_le (suc n) h f low = let a = total_le n h f low in let b = low n in rw suc-mul (omega arith)

pub total_more : (n : ℕ) (f g : ℕ → ℕ) → ((i : ℕ) → f i ≤ g i) → total n f ≤ total n g
total_more zero f g h = omega arith
total_more (suc n) f g h = let a = total_more n f g h in let b = h n in omega arith

pub total_zero : (n : ℕ) (f : ℕ → ℕ) → total n f ≡ 0 → (i : ℕ) → i < n → f i ≡ 0
total_zero zero f e i h = absurd (omega arith)
total_zero (suc n) f e i h =
    ⊎_elim
    (λ (lt : i < n). total_zero n f (omega arith) i lt)
    (λ (le : n ≤ i). let last : i ≡ n = omega arith in let a = ap f last in omega arith)
    (cases_lt i n)

total_same : (n : ℕ) (f g : ℕ → ℕ) → ((i : ℕ) → i < n → f i ≡ g i) → total n f ≡ total n g
total_same zero f g h = refl
total_same (suc n) f g h = ap₂ ◌+◌ (total_same n f g (λ i l. h i (omega arith))) (h n (omega arith))

-- f and g are the same but at i
pub total_but_one : (n i : ℕ) (f g : ℕ → ℕ) → i < n → ((k : ℕ) → (k ≡ i → ⊥) → f k ≡ g k) → total n f + g i ≡ total n g + f i
total_but_one zero i f g h same = absurd (omega arith)
total_but_one (suc n) i f g h same =
    ⊎_elim
    (λ (lt : i < n). let a = total_but_one n i f g lt same in let b = same n (omega arith) in omega arith)
    (λ (le : n ≤ i).
    let last : i ≡ n = omega arith in
    let a = total_same n f g (λ k l. same k (omega arith)) in
    let b = ap f last in
    let c = ap g last in
    omega arith)
    (cases_lt i n)
