-- Answers: what they say of the session that gave them, and of the runs of what was said to it.
use Rattle.std.proofs.Common.{◌≡◌, ℕ, ◌<◌, Bool, true, false, cond, List, Some, None, Ok, Err, sym, refl, ap, ◌∙◌, subst, ap₂, arith}
use mathlib.Core.Path.{fun_ext}
use Rattle.std.proofs.lemmas.Bool.{or_left}
use Rattle.scale.specs.Semiring.{Semiring, Covers}
use Rattle.worklist.specs.Sets.{Set, empty}
use Rattle.automaton.specs.declared.rules.Rule.{Rule}
use Rattle.automaton.specs.declared.sizes.Sizes.{Sizes}
use Rattle.automaton.specs.Pushdown.{Config, ends, run_weight}
use Rattle.automaton.specs.Automaton.{Edges, answer}
use Rattle.automaton.specs.Layout.{place, edge_at}
use Rattle.checker.specs.Session.{Session}
use Rattle.checker.specs.Checks.{is_open, is_released, question_refusal}
use Rattle.checker.specs.Calls.{is_final, asked}
use Rattle.checker.specs.Did.{Event, rule, edge, final, settle, question, released_question, release, withdraw, Did}
use Rattle.checker.proofs.Refusing.{was_accepted, question_control, question_word}
use Rattle.guarantee.specs.Accepted.{Answer, answer_of, ruled, weighed, given}
use Rattle.guarantee.specs.Promises.{worth, CoversRuns}
use Rattle.guarantee.proofs.Order.{Laws, covers_self, covers_none, same_covered, same_covering}
use Rattle.guarantee.proofs.Sums.{gives, finals, answer_gives, gives_more}
use Rattle.guarantee.proofs.Runs.{config, some_same, none_some, run_weight_same}
use Rattle.guarantee.proofs.Values.{Ranged}
use Rattle.guarantee.proofs.Complete.{complete}
use Rattle.guarantee.proofs.Sound.{sound_gives}
use Rattle.guarantee.proofs.Kept.{ranged}
use Rattle.guarantee.proofs.Admitted.{question_staged}
use Rattle.guarantee.proofs.Moves.{Good, Said, Went}
use Rattle.guarantee.proofs.Pasts.{Since}

-- the session d gave the answer and stands
pub record Answered {V : Type 0} (s : Semiring V) (d e : Session V) (a : Answer V) : Type 0 where
  pub control : a.control < d.table.sizes.controls
  pub word : Ranged d.table.sizes.symbols a.word
  pub weight : a.weight ≡ asked s d a.control a.word
  pub sure : a.sure ≡ true → d.waiting ≡ empty
  pub same : e ≡ d

module _ {V : Type 0} {s : Semiring V} where
  by_question : (d e : Session V) (staged : Bool) (p : ℕ) (w : List ℕ) (n : ℕ) (x : V) (sure : Bool)
      → question_refusal staged d n p w ≡ None → x ≡ asked s d p w → (sure ≡ true → d.waiting ≡ empty) → e ≡ d
      → Answered s d e (record { control = p; word = w; weight = x; sure = sure })
  by_question d e staged p w n x sure accepted is rest same = record {
    control = question_control d staged n p w accepted;
    word = ranged d.table.sizes.symbols w (question_word d staged n p w accepted);
    weight = is;
    sure = rest;
    same = same;
  }

  pub answered : (d e : Session V) (target : Edges V) (q : Event V) (a : Answer V) → Good s target d → Did s d q e → answer_of q ≡ Some a → Answered s d e a
  answered d e target (rule p g p2 w f r) a good did is = absurd (none_some is)
  answered d e target (edge q g q2 f r) a good did is = absurd (none_some is)
  answered d e target (final q r) a good did is = absurd (none_some is)
  answered d e target (settle n r) a good did is = absurd (none_some is)
  answered d e target (question p w n (Ok x)) a good did is =
      subst (Answered s d e) (some_same _ a is)
      (by_question d e (is_open d.table.stage) p w n x.0 x.1 did.1.0 did.1.1 did.1.2.0 did.0)
  answered d e target (question p w n (Err x)) a good did is = absurd (none_some is)
  answered d e target (released_question p w n (Ok x)) a good did is =
      let staged = is_released d.table.stage in
      let got = was_accepted (question_refusal staged d n p w) (asked s d p w) x did.1 in
      subst (Answered s d e) (some_same _ a is)
      (by_question d e staged p w n x true got.0 got.1 (λ t. good.rests (question_staged d staged n p w got.0)) did.0)
  answered d e target (released_question p w n (Err x)) a good did is = absurd (none_some is)
  answered d e target (release r) a good did is = absurd (none_some is)
  answered d e target (withdraw r) a good did is = absurd (none_some is)

module _ {V : Type 0} {s : Semiring V} (laws : Laws s) where
  -- what a run is worth, by what the session holds and by what was said to it
  worth_same : (c d : Session V) (es : List (Event V)) → Since s c es d
      → (p : ℕ) (w : List ℕ) (ns : List ℕ) (end : Config) → ends d.table.rules ns (config p w) ≡ Some end
      → s.extend (run_weight s d.weights ns) (gives s (given s es) d.table.sizes.states (finals s (is_final d)) end.control end.word)
      ≡ worth s c.table.sizes.states es ns end
  worth_same c d es since p w ns end e =
      ap₂ s.extend
      (run_weight_same laws (ruled es) d.weights (weighed es) since.weights ns p w end
      (subst (λ (rs : List Rule). ends rs ns (config p w) ≡ Some end) since.rules e))
      (sym (answer_gives laws (given s es) d.table.sizes.states (is_final d) end.word end.control)
      ∙ ap₂ (λ n final. answer s (given s es) n final end.control end.word)
      (ap (λ (z : Sizes). z.states) since.went.sizes) (fun_ext since.finals))

  module _ (c d e : Session V) (es : List (Event V)) (a : Answer V) (since : Since s c es d) (got : Answered s d e a) where
    weight_gives : a.weight ≡ gives s (edge_at s d.table.sizes d.edges) d.table.sizes.states (finals s (is_final d)) a.control a.word
    weight_gives =
        let z = d.table.sizes in
        got.weight ∙ answer_gives laws (edge_at s z d.edges) z.states (is_final d) a.word a.control

    pub answer_least : (b : V) → CoversRuns s c.table.sizes.states es a.control a.word b → Covers s b a.weight
    answer_least b bound =
        let z = d.table.sizes in
        let kept = since.good.kept in
        let low = got.control in
        let fits = kept.fits in
        same_covered laws (weight_gives ∙ sym (laws.extends.one_left _))
        (sound_gives laws d.table.rules d.weights (given s es) (edge_at s z d.edges) z.states z.controls z.symbols
        (λ j r is. ((kept.formed j r is).control, (kept.formed j r is).target)) fits kept.into kept.sound
        a.word got.word a.control (omega arith) (finals s (is_final d)) s.one b
        (λ ns end r.
        same_covered laws (laws.extends.one_left _ ∙ worth_same c d es since a.control a.word ns end r)
        (bound ns end (subst (λ (rs : List Rule). ends rs ns (config a.control a.word) ≡ Some end) since.rules r))))

    pub answer_covers : a.sure ≡ true → CoversRuns s c.table.sizes.states es a.control a.word a.weight
    answer_covers sure ns end r =
        let z = d.table.sizes in
        let kept = since.good.kept in
        let fits = kept.fits in
        let rest = got.sure sure in
        let here = subst (λ (rs : List Rule). ends rs ns (config a.control a.word) ≡ Some end) (sym since.rules) r in
        same_covered laws (sym (worth_same c d es since a.control a.word ns end here))
        (same_covering laws
        (complete laws d.table.rules d.weights (given s es) (edge_at s z d.edges) z.states (finals s (is_final d))
        (λ j x is. let t = (kept.formed j x is).target in omega arith) kept.above
        (λ j x is. kept.closed j x is (ap (λ (v : Set). v j) rest))
        ns a.control a.word end here)
        (sym weight_gives))

  final_more : (x y : Bool) → (x ≡ true → y ≡ true) → Covers s (cond y s.one s.none) (cond x s.one s.none)
  final_more true y h = subst (λ t. Covers s (cond t s.one s.none) s.one) (sym (h refl)) (covers_self laws s.one)
  final_more false y h = covers_none laws _

  -- a later session answers at least as much
  pub asked_more : (d f : Session V) (x : Said V) → Went s d x f → (p : ℕ) (w : List ℕ) → Covers s (asked s f p w) (asked s d p w)
  asked_more d f x went p w =
      let z = d.table.sizes in
      subst (λ (y : Sizes). Covers s (answer s (edge_at s y f.edges) y.states (is_final f) p w) (asked s d p w)) (sym went.sizes)
      (same_covered laws (answer_gives laws (edge_at s z d.edges) z.states (is_final d) w p)
      (same_covering laws
      (gives_more laws (edge_at s z d.edges) (edge_at s z f.edges) z.states (finals s (is_final d)) (finals s (is_final f))
      (λ q g m. went.grown.edges (place z q g m))
      (λ m. final_more (is_final d m) (is_final f m) (λ t. went.finals m ∙ or_left (is_final d m) (x.marks m) t)) w p)
      (sym (answer_gives laws (edge_at s z f.edges) z.states (is_final f) w p))))
