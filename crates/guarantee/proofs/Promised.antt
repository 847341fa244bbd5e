-- Every list of calls on a fresh session keeps the promises.
use Rattle.std.proofs.Common.{◌≡◌, ℕ, ◌+◌, ◌*◌, ◌<◌, ◌≤◌, true, false, ◌||◌, List, length, Ok, sym, ap, ◌∙◌, subst, ap₂, ⊎_elim, mul-le-mul_left, mul-add, arith}
use Rattle.std.proofs.lemmas.Bool.{not_from_true}
use Rattle.scale.specs.Semiring.{Semiring}
use Rattle.worklist.specs.Sets.{empty}
use Rattle.automaton.specs.declared.rules.Rule.{Rule}
use Rattle.automaton.specs.declared.sizes.Sizes.{Sizes}
use Rattle.automaton.specs.Automaton.{Edges}
use Rattle.checker.specs.declared.answers.Report.{Report}
use Rattle.checker.specs.Session.{Session}
use Rattle.checker.specs.Checks.{rule_refusal, settle_refusal}
use Rattle.checker.specs.Calls.{asked}
use Rattle.checker.specs.Did.{Event, settle, Did}
use Rattle.checker.proofs.Refusing.{was_accepted}
use Rattle.guarantee.specs.Accepted.{ruled, given}
use Rattle.guarantee.specs.Promises.{most_raises, Promises}
use Rattle.guarantee.proofs.Order.{Laws, same_covered, same_covering}
use Rattle.guarantee.proofs.Ranks.{ranks_le}
use Rattle.guarantee.proofs.Waits.{count, count_le, nothing_waits}
use Rattle.guarantee.proofs.Admitted.{by_settle, rule_word}
use Rattle.guarantee.proofs.Moves.{Good, Said, said_then, ranked, Went, went_then}
use Rattle.guarantee.proofs.Calls.{said_in, after}
use Rattle.guarantee.proofs.Pasts.{said, given_after, past, Since, since}
use Rattle.guarantee.proofs.Answered.{answered, answer_least, answer_covers, asked_more}

module _ {V : Type 0} {s : Semiring V} (laws : Laws s) where
  raises_within : (c d : Session V) (x : Said V) → Went s c x d → x.raises ≤ most_raises s c.table.sizes
  raises_within c d x went =
      let a = went.grown.rise in
      let b = ranks_le laws (ranked c.table.sizes) d.edges in
      omega arith

  -- with no addition, each step and each number that still waits is one of so many
  steps_within : (c d : Session V) (x : Said V) → Went s c x d → x.adds ≡ false
      → x.steps + count (length c.table.rules) d.waiting ≤ length c.table.rules * (1 + most_raises s c.table.sizes)
  steps_within c d x went quiet =
      let R = length c.table.rules in
      let most = most_raises s c.table.sizes in
      let a = (went.calm quiet).took in
      let b = count_le R c.waiting in
      let m = mul-le-mul_left R (raises_within c d x went) in
      let v = mul-add R 1 most in
      omega arith

  -- a settle after which so many steps were paid for leaves nothing waiting
  rests : (d e f : Session V) (target : Edges V) (x : Said V) (n : ℕ) (r : Report) → Good s target e → Went s d x e → x.adds ≡ false
      → Did s e (settle n (Ok r)) f → length d.table.rules * (1 + most_raises s d.table.sizes) ≤ x.budget + n → r.settled ≡ true
  rests d e f target x n r good went quiet did enough =
      let one = after laws target e good (settle n (Ok r)) f did in
      let y = said_then x (said_in (settle n (Ok r))) in
      let both = went_then laws d e f x (said_in (settle n (Ok r))) went one.1 in
      let quiet2 : y.adds ≡ false = ap (λ b. b || false) quiet in
      let within = steps_within d f y both quiet2 in
      let f_rests : f.waiting ≡ empty =
      ⊎_elim
      (λ (h : f.waiting ≡ empty). h)
      (λ (h : x.budget + n ≤ x.steps + r.steps).
      nothing_waits (length d.table.rules) f.waiting
      (λ i t. subst (λ (rs : List Rule). i < length rs) (both.same_rules quiet2) (one.0.kept.waits i t))
      (omega arith))
      (both.calm quiet2).spent in
      let settled = by_settle s e f n (Ok r) (settle_refusal e) did in
      settled.1.settled.1 (sym (ap (λ (v : Session V). v.waiting) settled.2) ∙ f_rests)

  bound_same : (c d : Session V) (es : List (Event V)) → Since s c es d
      → length d.table.rules * (1 + most_raises s d.table.sizes) ≡ length (ruled es) * (1 + most_raises s c.table.sizes)
  bound_same c d es start = ap₂ (λ (rs : List Rule) (z : Sizes). length rs * (1 + most_raises s z)) start.rules start.went.sizes

  pub promised : {L : Type 0} (view : L → Session V) → Promises s view
  promised view = record {
    least = λ c d e es q a fresh history did is.
        let start = since laws view fresh history in
        answer_least laws (view c) (view d) (view e) es a start (answered (view d) (view e) (given s es) q a start.good did is);
    covers = λ c d e es q a fresh history did is.
        let start = since laws view fresh history in
        answer_covers laws (view c) (view d) (view e) es a start (answered (view d) (view e) (given s es) q a start.good did is);
    grows = λ c d e f g es fs q r a b fresh history did history2 did2 is is2 same_control same_word.
        let good = (since laws view fresh history).good in
        let got = answered (view d) (view e) (given s es) q a good did is in
        let later = past laws view history2 (given s es) (subst (Good s (given s es)) (sym got.same) good) in
        let got2 = answered (view f) (view g) (given_after s (given s es) fs) r b later.0 did2 is2 in
        let went = subst (λ (x : Session V). Went s x (said fs) (view f)) got.same later.1 in
        same_covered laws (got.weight ∙ ap₂ (asked s (view d)) same_control same_word)
        (same_covering laws (asked_more laws (view d) (view f) (said fs) went b.control b.word) (sym got2.weight));
    few_raises = λ c d es fresh history. raises_within (view c) (view d) (said es) (since laws view fresh history).went;
    few_steps = λ c d e es fs fresh history history2 calm.
        let start = since laws view fresh history in
        let later = past laws view history2 (given s es) start.good in
        let within = steps_within (view d) (view e) (said fs) later.1 (not_from_true _ calm) in
        let same = bound_same (view c) (view d) es start in
        omega arith;
    comes_to_rest = λ c d e f es fs n r fresh history history2 calm did enough.
        let start = since laws view fresh history in
        let later = past laws view history2 (given s es) start.good in
        let same = bound_same (view c) (view d) es start in
        rests (view d) (view e) (view f) (given_after s (given s es) fs) (said fs) n r later.0 later.1 (not_from_true _ calm) did (omega arith);
    rules = λ c d es fresh history. (since laws view fresh history).rules;
    weights = λ c d es fresh history. (since laws view fresh history).weights;
    finals = λ c d es fresh history. (since laws view fresh history).finals;
    words = λ c d p g p2 w f n did.
        rule_word (view c) p g p2 w (was_accepted (rule_refusal (view c) p g p2 w) (length (view c).table.rules) n did.0).0;
    total = λ c d es fresh history. (since laws view fresh history).total;
  }
