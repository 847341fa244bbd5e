-- Rows of weights that are written place by place.
use Rattle.std.proofs.Common.{◌≡◌, ℕ, zero, suc, ◌+◌, ◌<◌, ◌≤◌, Bool, List, [], ◌∷◌, ◌++◌, map, length, slice_index_or, take, drop, slice_set, sym, refl, ap, ◌∙◌, arith, below_more, append_assoc}
use Rattle.std.proofs.lemmas.List.{map-set, map-append, length-map, length-take, get_or-take, get_or_append_left, get_or-set_same, get_or-set_other}
use Rattle.std.proofs.Math.Seq.{drop-append_seam}
use Rattle.std.specs.List.{take-map}
use Rattle.scale.specs.Semiring.{Semiring, Combines, Distributes, Absorbs, combined}
use Rattle.automaton.specs.Automaton.{Edges, below, joined, path_weights, answer}
use Rattle.automaton.specs.Rows.{at_place, onward}
use Rattle.automaton.proofs.Combined.{combined_push}

pub place_same : {X V : Type 0} (s : Semiring V) (value : X → V) (xs : List X) (i : ℕ) (x : X) → i < length xs → at_place s (map value (slice_set xs i x)) i ≡ value x
place_same s value xs i x h =
    let within : i < length (map value xs) = rw length-map h in
    ap (λ vs. slice_index_or vs i s.none) (map-set value xs i x) ∙ get_or-set_same (map value xs) i (value x) s.none within

pub place_other : {X V : Type 0} (s : Semiring V) (value : X → V) (xs : List X) (i k : ℕ) (x : X) → (k ≡ i → ⊥) → at_place s (map value (slice_set xs i x)) k ≡ at_place s (map value xs) k
place_other s value xs i k x h =
    ap (λ vs. slice_index_or vs k s.none) (map-set value xs i x) ∙ get_or-set_other (map value xs) i k (value x) s.none h

-- one place more of a row that is written in rising order
pub written_more : {X V : Type 0} (s : Semiring V) (value : X → V) (xs : List X) (i : ℕ) (x : X) (f : ℕ → V)
    → i < length xs → ((k : ℕ) → k < i → at_place s (map value xs) k ≡ f k) → value x ≡ f i → (k : ℕ) → k < i + 1 → at_place s (map value (slice_set xs i x)) k ≡ f k
written_more s value xs i x f within before is =
    below_more (λ k. at_place s (map value (slice_set xs i x)) k ≡ f k) i (λ k h. place_other s value xs i k x (λ e. omega arith) ∙ before k h) (place_same s value xs i x within ∙ is)

-- the places of a row's first part
pub place_front : {X V : Type 0} (s : Semiring V) (value : X → V) (xs ys : List X) (k : ℕ) → k < length xs → at_place s (map value (xs ++ ys)) k ≡ at_place s (map value xs) k
place_front s value xs ys k h =
    let within : k < length (map value xs) = rw length-map h in
    ap (λ vs. at_place s vs k) (map-append value xs ys) ∙ get_or_append_left (map value xs) (map value ys) s.none k within

pub place_taken : {X V : Type 0} (s : Semiring V) (value : X → V) (xs : List X) (n k : ℕ) → k < n → at_place s (map value (take n xs)) k ≡ at_place s (map value xs) k
place_taken s value xs n k h = ap (λ vs. at_place s vs k) (sym (take-map value n xs)) ∙ get_or-take n (map value xs) k s.none h

pub below_same : {A : Type 0} (n : ℕ) (f g : ℕ → A) → ((k : ℕ) → k < n → f k ≡ g k) → below n f ≡ below n g
below_same zero f g h = refl
below_same (suc n) f g h =
    ap (λ xs. xs ++ (f n ∷ [])) (below_same n f g (λ k l. h k (omega arith))) ∙ ap (λ x. below n g ++ (x ∷ [])) (h n (omega arith))

-- the same row gives the same combine
pub onward_same : {V : Type 0} (s : Semiring V) (e : Edges V) (f g : ℕ → V) (n q a : ℕ) → ((k : ℕ) → k < n → f k ≡ g k) → combined s (below n (onward s e f q a)) ≡ combined s (below n (onward s e g q a))
onward_same s e f g n q a h = ap (combined s) (below_same n (onward s e f q a) (onward s e g q a) (λ k l. ap (s.extend (e q a k)) (h k l)))

module _ {V : Type 0} (s : Semiring V) (c : Combines s) where
  pub combined_one : (v : V) → combined s (v ∷ []) ≡ v
  combined_one v = c.comm v s.none ∙ c.none_left v

  combined_append : (xs ys : List V) → combined s (xs ++ ys) ≡ s.combine (combined s xs) (combined s ys)
  combined_append [] ys = sym (c.none_left (combined s ys))
  combined_append (x ∷ xs) ys = ap (s.combine x) (combined_append xs ys) ∙ sym (c.assoc x (combined s xs) (combined s ys))

  joined_append : (xss yss : List (List V)) → combined s (joined (xss ++ yss)) ≡ s.combine (combined s (joined xss)) (combined s (joined yss))
  joined_append [] yss = sym (c.none_left (combined s (joined yss)))
  joined_append (xs ∷ xss) yss =
      combined_append xs (joined (xss ++ yss))
      ∙ ap (s.combine (combined s xs)) (joined_append xss yss)
      ∙ sym (c.assoc (combined s xs) (combined s (joined xss)) (combined s (joined yss)))
      ∙ ap (λ v. s.combine v (combined s (joined yss))) (sym (combined_append xs (joined xss)))

  joined_below : (n : ℕ) (f : ℕ → List V) → combined s (joined (below n f)) ≡ combined s (below n (λ m. combined s (f m)))
  joined_below zero f = refl
  joined_below (suc n) f =
      joined_append (below n f) (f n ∷ [])
      ∙ ap (s.combine (combined s (joined (below n f)))) (combined_append (f n) [] ∙ c.comm (combined s (f n)) s.none ∙ c.none_left (combined s (f n)))
      ∙ ap (λ v. s.combine v (combined s (f n))) (joined_below n f)
      ∙ sym (combined_push s c (below n (λ m. combined s (f m))) (combined s (f n)))

  module _ (d : Distributes s) (o : Absorbs s) where
    combined_extend : (a : V) (xs : List V) → combined s (map (s.extend a) xs) ≡ s.extend a (combined s xs)
    combined_extend a [] = sym (o.right a)
    combined_extend a (x ∷ xs) = ap (s.combine (s.extend a x)) (combined_extend a xs) ∙ sym (d.left a x (combined s xs))

    -- the answer for a word, by those for the word without its first symbol
    pub answer_more : (e : Edges V) (n : ℕ) (final : ℕ → Bool) (q g : ℕ) (w : List ℕ)
        → answer s e n final q (g ∷ w) ≡ combined s (below n (onward s e (λ m. answer s e n final m w) q g))
    answer_more e n final q g w =
        joined_below n (λ m. map (s.extend (e q g m)) (path_weights s e n final m w))
        ∙ ap (combined s) (below_same n (λ m. combined s (map (s.extend (e q g m)) (path_weights s e n final m w))) (onward s e (λ m. answer s e n final m w) q g)
        (λ m l. combined_extend (e q g m) (path_weights s e n final m w)))

-- one symbol more in front: the next row is made from the row of answers, and then copied over it
pub answers_more : {X V : Type 0} (s : Semiring V) → Combines s → Distributes s → Absorbs s → (value : X → V) (e : Edges V) (n : ℕ) (final : ℕ → Bool) (g : ℕ) (w : List ℕ) (scratch row next kept : List X)
    → row ≡ take n scratch → kept ≡ take n next → n ≤ length next
    → ((k : ℕ) → k < n → at_place s (map value scratch) k ≡ answer s e n final k w)
    → ((k : ℕ) → k < n → at_place s (map value next) k ≡ combined s (below n (onward s e (at_place s (map value row)) k g)))
    → (k : ℕ) → k < n → at_place s (map value (kept ++ next)) k ≡ answer s e n final k (g ∷ w)
answers_more {X = X} s c d o value e n final g w scratch row next kept front copied room was made k h =
    let places = λ (xs : List X). at_place s (map value xs) in
    let within : k < length kept = rw copied (omega (arith, length-take n next)) in
    place_front s value kept next k within
    ∙ ap (λ xs. places xs k) copied
    ∙ place_taken s value next n k h
    ∙ made k h
    ∙ onward_same s e (places row) (λ m. answer s e n final m w) n k g (λ m l. ap (λ xs. places xs m) front ∙ place_taken s value scratch n m l ∙ was m l)
    ∙ sym (answer_more s c d o e n final k g w)

-- a word that is read from its end, and one symbol more
pub read_more : {A : Type 0} (w rest left : List A) (x : A) → w ≡ rest ++ drop (length rest) w → rest ≡ left ++ (x ∷ [])
    → (drop (length left) w ≡ x ∷ drop (length rest) w) × (w ≡ left ++ drop (length left) w)
read_more w rest left x parts last =
    let read = drop (length rest) w in
    let is = parts ∙ ap (λ ys. ys ++ read) last ∙ append_assoc left (x ∷ []) read in
    let more : drop (length left) w ≡ x ∷ read = ap (drop (length left)) is ∙ drop-append_seam left (x ∷ read) in
    (more, is ∙ ap (λ ys. left ++ ys) (sym more))
