use Rattle.std.proofs.Common.{◌≡◌, ℕ, Bool, true, false, not, ◌&&◌, eqb, Decides, refl, ap}
use mathlib.Core.Path.{fun_ext}
use Rattle.std.proofs.lemmas.Bool.{true≢false, false≢true, and_right}
use Rattle.worklist.specs.Sets.{empty}
use Rattle.trials.proofs.single.SingleWorklist.is_empty.Goals as goal

empties : (w : Bool) → Decides (not w) ((λ (n : ℕ). eqb n 0 && w) ≡ empty)
empties true = (λ e. absurd (false≢true e), λ e. absurd (true≢false (ap (λ f. f 0) e)))
empties false = (λ e. fun_ext (λ n. and_right (eqb n 0) false refl), λ e. refl)

pub returns : goal.returns
returns c = empties c.args.self.now.waits
