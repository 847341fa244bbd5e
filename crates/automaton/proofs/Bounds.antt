-- What sizes that are allowed, and what fits them, bound.
use Rattle.std.proofs.Common.{◌≡◌, ℕ, ◌*◌, ◌<◌, ◌≤◌, true, List, arith}
use Rattle.std.proofs.lemmas.Bool.Decides.{nat_tests}
use Rattle.automaton.specs.declared.sizes.Sizes.{Sizes}
use Rattle.automaton.specs.Limits.{sizes_allowed, edge_count, all_below, edges_fit, edge_fits, read_fits}

module _ (z : Sizes) where
  pub states_bound : sizes_allowed z ≡ true → z.states ≤ 64
  states_bound h = grind (arith, nat_tests)

  pub controls_bound : sizes_allowed z ≡ true → z.controls ≤ z.states
  controls_bound h = grind (arith, nat_tests)

  pub limit_bound : sizes_allowed z ≡ true → z.limit ≤ 512
  limit_bound h = grind (arith, nat_tests)

  pub edge_bounds : (q g q2 : ℕ) → edge_fits z q g q2 ≡ true → (q < z.states) × (g < z.symbols) × (q2 < z.states)
  edge_bounds q g q2 h = (grind (arith, nat_tests), grind (arith, nat_tests), grind (arith, nat_tests))

  pub fit_from : (n : ℕ) → sizes_allowed z ≡ true → edge_count z ≤ n → edges_fit z n ≡ true
  fit_from n allowed enough = grind (arith, nat_tests)

  pub read_within : (edges finals scratch q : ℕ) (w : List ℕ) → edges_fit z edges ≡ true → z.states ≤ finals → 2 * z.states ≤ scratch → q < z.states → all_below z.symbols w ≡ true
      → read_fits z edges finals scratch q w ≡ true
  read_within edges finals scratch q w fit f s h below = grind (arith, nat_tests)
