-- A replay is a run whose words stay within the buffer.
use Rattle.std.proofs.Common.{◌≡◌, ℕ, ◌+◌, ◌≤◌, Bool, true, false, nat_le, List, [], ◌∷◌, length, slice_index_or, Some, None, Ok, Err, Option, Result, sym, refl, ap, ◌∙◌, MatchResult}
use Rattle.std.specs.Bool.{OnTrue}
use Rattle.scale.specs.Semiring.{Semiring, Extends}
use Rattle.automaton.specs.declared.rules.Rule.{Rule}
use Rattle.automaton.specs.Pushdown.{Config, at, then, applied, ends, run_weight}
use Rattle.automaton.proofs.Options.{given_some}
use Rattle.runs.specs.declared.replay.Stop.{Stop}
use Rattle.runs.specs.Bounded.{step_within, ends_within}
use Rattle.runs.specs.Stacks.{Point, word_in, entered, replayed, Replays}
use Rattle.runs.specs.Points.{start}
use Rattle.runs.proofs.Words.{config}
use Rattle.runs.proofs.Steps.{Agrees, entry_steps}

then_some : {A B : Type 0} (o : Option A) (f : A → Option B) (y : B) → then o f ≡ Some y → (x : A) × (o ≡ Some x) × (f x ≡ Some y)
then_some None f y e = cc
then_some (Some x) f y e = (x, refl, e)

-- a run within some room is a run
pub ends_of_within : (rules : List Rule) (room : ℕ) (ns : List ℕ) (c end : Config) → ends_within rules room ns c ≡ Some end → ends rules ns c ≡ Some end
ends_of_within rules room [] c end e = e
ends_of_within rules room (n ∷ ns) c end e =
    let step = then_some (step_within rules room n c) (ends_within rules room ns) end e in
    let found = then_some (at rules n) _ step.0 step.1 in
    let yielded = then_some (applied found.0 c.control c.word) _ step.0 found.2 in
    let same = (given_some (nat_le (length yielded.0.word) room) yielded.0 step.0 (sym yielded.2)).1 in
    rw (found.1, yielded.1, ← same) (ends_of_within rules room ns step.0 end step.2)

module _ {V : Type 0} (s : Semiring V) (laws : Extends s) (rules : List Rule) (weights : List V) where
  -- where a replay from x came to and where the run within the room ends are the same
  abbrev Came : List ℕ → Point V → Result (Point V) Stop → List ℕ → Option Config → Type 0
  Came ns x r after o =
      MatchResult r
      (λ y. (o ≡ Some (config y.control (word_in after y.length))) × (y.weight ≡ s.extend x.weight (run_weight s weights ns)))
      (λ _. o ≡ None)

  abbrev Reached : List ℕ → Point V → List ℕ → Result (Point V) Stop × List ℕ → Option Config → Type 0
  Reached ns x b r o = (length r.1 ≡ length b) × Came ns x r.0 r.1 o

  came_more : (k : ℕ) (ks : List ℕ) (x y : Point V) (r : Result (Point V) Stop) (after : List ℕ) (o o2 : Option Config)
      → o ≡ o2 → y.weight ≡ s.extend x.weight (slice_index_or weights k s.none) → Came ks y r after o2 → Came (k ∷ ks) x r after o
  came_more k ks x y (Ok z) after o o2 same weight came = (
    cc,
    cc (laws.assoc x.weight (slice_index_or weights k s.none) (run_weight s weights ks)),
  )
  came_more k ks x y (Err e) after o o2 same weight came = same ∙ came

  abbrev goes_on : ℕ → List ℕ → List ℕ → Result (Point V × List ℕ) Stop → Result (Point V) Stop × List ℕ
  goes_on place ks b e = elim e [ Err e ↦ (Err e, b) | Ok y ↦ replayed s rules weights (place + 1) ks y.0 y.1 ]

  -- one entry more in front
  one_more : (place k : ℕ) (ks : List ℕ) (x : Point V) (b : List ℕ) (e : Result (Point V × List ℕ) Stop) (o : Option Config)
      → Agrees s rules weights place k x b e o
      → ((y : Point V) (b2 : List ℕ) → y.length ≤ length b2 → Reached ks y b2 (replayed s rules weights (place + 1) ks y b2) (ends_within rules (length b2) ks (config y.control (word_in b2 y.length))))
      → Reached (k ∷ ks) x b (goes_on place ks b e) (then o (ends_within rules (length b) ks))
  one_more place k ks x b (Err e) o agrees after = (refl, rw agrees refl)
  one_more place k ks x b (Ok y) o agrees after =
      let ih = after y.0 y.1 agrees.2 in
      let c = config y.0.control (word_in y.1 y.0.length) in
      let onward : then o (ends_within rules (length b) ks) ≡ ends_within rules (length y.1) ks c = rw (agrees.0, agrees.1) refl in
      (ih.0 ∙ agrees.1, came_more k ks x y.0 (replayed s rules weights (place + 1) ks y.0 y.1).0 _ _ _ onward agrees.3 ih.1)

  reaches : (place : ℕ) (ns : List ℕ) (x : Point V) (b : List ℕ) → x.length ≤ length b
      → Reached ns x b (replayed s rules weights place ns x b) (ends_within rules (length b) ns (config x.control (word_in b x.length)))
  reaches place [] x b room = (refl, (refl, sym (laws.one_right x.weight)))
  reaches place (k ∷ ks) x b room =
      one_more place k ks x b (entered s rules weights place k x b) (step_within rules (length b) k (config x.control (word_in b x.length)))
      (entry_steps s rules weights place k x b room) (λ y b2 h. reaches (place + 1) ks y b2 h)

  -- the promise in the subject's words, from where the replay came to
  told : (ns : List ℕ) (p n : ℕ) (b : List ℕ) (r : Result (Point V) Stop) (after : List ℕ) → length after ≡ length b
      → Came ns (start s p n) r after (ends_within rules (length b) ns (config p (word_in b n))) → Replays s rules weights ns p n b r after
  told ns p n b (Ok y) after long came =
      let end = config y.control (word_in after y.length) in
      record {
        accepted = (λ _. (end, came.0), λ _. refl);
        run = (end, ends_of_within rules (length b) ns _ end came.0, refl, refl, came.1 ∙ laws.one_left (run_weight s weights ns));
        length_kept = long;
      }
  told ns p n b (Err e) after long came = record {
    accepted = (λ h. cc, λ found. let clash : None ≡ Some found.0 = sym came ∙ found.1 in cc);
    run = tt;
    length_kept = long;
  }

  pub replays : (ns : List ℕ) (p n : ℕ) (b : List ℕ) (can : Bool) (r : Result (Point V) Stop) (after : List ℕ) → n ≤ length b
      → (r, after) ≡ replayed s rules weights 0 ns (start s p n) b → OnTrue can (Replays s rules weights ns p n b r after)
  replays ns p n b false r after room is = tt
  replays ns p n b true r after room is =
      let all = reaches 0 ns (start s p n) b room in
      rw (ap (λ q. q.0) is, ap (λ q. q.1) is) (told ns p n b _ _ all.0 all.1)
