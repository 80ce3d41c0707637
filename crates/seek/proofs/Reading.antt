-- A record is one of the steps of a node, word by word, exactly where its bytes are a step's; and then it is read as that step. Rests on the laws of
-- records by value (records, proofs/Read) and on it that a step leads to a node that stands on the floor (going, proofs/Stands). Assumes nothing.
use Prim.Native.Nat.{ℕ, ◌+◌, ◌*◌, ◌≤◌}
use native.Mathlib.Omega.{arith}
use mathlib.Core.Path.{◌≡◌, refl, sym, ap, ◌∙◌}
use mathlib.Core.Bool.{Bool, true, false, cond, ◌&&◌, ◌||◌}
use mathlib.Core.List.Memᴰ
use mathlib.Core.List.{List, [], ◌∷◌}
use lib.Dec.{eqb}
use lib.ListN.{length}
use Rattle.std.specs.Prelude.{Option, Some, None}
use Rattle.counts.specs.Counts.{every}
use Rattle.float.proofs.Tests.{untrue}
use Rattle.word.specs.Word.{Bytes, word_at}
use Rattle.stored.specs.Stored.{Floor, floor_of, floor_in}
use Rattle.edges.specs.Ground.{Ground}
use Rattle.route.specs.declared.Step.{Step}
use Rattle.route.specs.Step.{kind_number, Held}
use Rattle.route.specs.Record.{bits, step_words, step_bytes, record_at}
use Rattle.route.specs.World.{◌∈◌}
use Rattle.route.specs.Judge.{same_bytes, find_step}
use Rattle.route.proofs.Find.{same_true, find_found}
use Rattle.records.specs.Records.{point_stands, interval_stands, step_in}
use Rattle.records.proofs.Stored.{stands}
use Rattle.records.proofs.Read.{step_stands, step_is_read}
use Rattle.steps.specs.declared.Node.{Node}
use Rattle.steps.specs.Steps.{step_of, candidates, steps_from, enter}
use Rattle.walk.proofs.All.{all_turned}
use Rattle.steps.proofs.World.{steps_are_held}
use Rattle.steps.proofs.Made.{yes_tells, every_step_from}
use Rattle.steps.proofs.Held.{HeldSegment, HeldSuccessor, candidates_held, clipped_held}
use Rattle.going.specs.Going.{Stands}
use Rattle.going.proofs.Stands.{enter_stands}
use Rattle.seek.specs.Seek.{is_step_at, is_among}

-- ---- in the code's order, and in the record's

in_order : (a b c d e f g h : Bool) → (c && (d && b)) && (a && ((e && f) && (g && h))) ≡ ((((((a && b) && c) && d) && e) && f) && g) && h
in_order true true true true true true g h = refl
in_order true true true true true false g h = refl
in_order true true true true false f g h = refl
in_order true true true false e f g h = refl
in_order true true false d e f g h = refl
in_order true false true true e f g h = refl
in_order true false true false e f g h = refl
in_order true false false d e f g h = refl
in_order false true true true e f g h = refl
in_order false true true false e f g h = refl
in_order false true false d e f g h = refl
in_order false false true true e f g h = refl
in_order false false true false e f g h = refl
in_order false false false d e f g h = refl

asked_is_stood : (s : Step) (file : List ℕ) (i : ℕ) → is_step_at s file i ≡ every 8 (stands file (i * 32) (step_words s))
unfolding is_step_at interval_stands point_stands every step_words
asked_is_stood s file i =
    let k : i * 32 ≡ i * 32 + 0 = omega arith in
    let y : i * 32 + 16 + 4 ≡ i * 32 + 20 = omega arith in
    let z : i * 32 + 24 + 4 ≡ i * 32 + 28 = omega arith in
    ap (λ (n : ℕ). asked n (i * 32 + 16 + 4) (i * 32 + 24 + 4)) k
    ∙ ap (λ (n : ℕ). asked (i * 32 + 0) n (i * 32 + 24 + 4)) y
    ∙ ap (λ (n : ℕ). asked (i * 32 + 0) (i * 32 + 20) n) z
    ∙ in_order (at 0 (kind_number s.kind)) (at 4 s.polygon) (at 8 s.first) (at 12 s.second) (at 16 (bits s.interval.0.x))
    (at 20 (bits s.interval.0.y)) (at 24 (bits s.interval.1.x)) (at 28 (bits s.interval.1.y))
  where
    at : ℕ → ℕ → Bool
    at k w = eqb (word_at file (i * 32 + k)) w

    asked : ℕ → ℕ → ℕ → Bool
    asked kind right left =
        (at 8 s.first && (at 12 s.second && at 4 s.polygon))
        && (eqb (word_at file kind) (kind_number s.kind)
        && ((at 16 (bits s.interval.0.x) && eqb (word_at file right) (bits s.interval.0.y))
        && (at 24 (bits s.interval.1.x) && eqb (word_at file left) (bits s.interval.1.y))))

-- ---- a record holds every step out of a node that stands on an accepted floor

module _ {plan vs ps : List ℕ} (g : Ground plan vs ps) (goal : ℕ) (node : Node) (h : Stands plan vs ps node) where
  abbrev f : Floor
  f = floor_in plan vs ps

  ends_held : (t : Step) → t ∈ steps_from f goal node → HeldSegment t.interval
  ends_held =
      every_step_from f node (λ t. HeldSegment t.interval) goal
      (all_turned HeldSuccessor (λ c. (t : Step) → step_of f node c ≡ Some t → HeldSegment t.interval) (candidates f node)
      (λ c k t e. clipped_held f node c.part.kind c.part.interval t.interval k (yes_tells f node c t e).seen) (candidates_held f node))

  pub step_held : (t : Step) → t ∈ steps_from f goal node → Held t
  unfolding enter
  step_held t m =
      let there = enter_stands plan vs ps g goal node h t m in
      let ends = ends_held t m in
      let polygons = g.polygons_planned in
      let vertices = g.vertices_planned in
      record {
        polygon_held = omega (arith, there.listed.listed, polygons.counted, polygons.few);
        first_held = omega (arith, there.first_listed, vertices.few);
        second_held = omega (arith, there.second_listed, vertices.few);
        right_held = ends.0;
        left_held = ends.1;
      }

-- ---- among the steps

module _ (file : List ℕ) (b : Bytes file) (i : ℕ) (inside : (i + 1) * 32 ≤ length file) where
  step_asked : (s : Step) → Held s → is_step_at s file i ≡ same_bytes (record_at file i) (step_bytes s)
  step_asked s h = asked_is_stood s file i ∙ step_stands s h file b i inside

  found_among : (steps : List Step) → ((s : Step) → s ∈ steps → Held s) → is_among steps file i ≡ true
      → find_step steps (record_at file i) ≡ Some (step_in file i)
  unfolding is_among find_step
  found_among [] held e = untrue e
  found_among (s ∷ steps) held e =
      let h = held s (Memᴰ.head refl) in
      go (is_step_at s file i) (sym (step_asked s h)) (λ t. step_is_read s h file b i inside (same_true (record_at file i) (step_bytes s) t))
      (found_among steps (λ t m. held t (Memᴰ.tail m))) e
    where
      go : (a : Bool) → same_bytes (record_at file i) (step_bytes s) ≡ a → (same_bytes (record_at file i) (step_bytes s) ≡ true → step_in file i ≡ s)
          → (is_among steps file i ≡ true → find_step steps (record_at file i) ≡ Some (step_in file i))
          → a || is_among steps file i ≡ true → cond (same_bytes (record_at file i) (step_bytes s)) (Some s) (find_step steps (record_at file i))
          ≡ Some (step_in file i)
      go true t read below e = rw t (ap Some (sym (read t)))
      go false t read below e = rw t (below e)

  missing_among : (steps : List Step) → ((s : Step) → s ∈ steps → Held s) → is_among steps file i ≡ false
      → find_step steps (record_at file i) ≡ None
  unfolding is_among find_step
  missing_among [] held e = refl
  missing_among (s ∷ steps) held e =
      go (is_step_at s file i) (sym (step_asked s (held s (Memᴰ.head refl)))) (missing_among steps (λ t m. held t (Memᴰ.tail m))) e
    where
      go : (a : Bool) → same_bytes (record_at file i) (step_bytes s) ≡ a → (is_among steps file i ≡ false → find_step steps (record_at file i) ≡ None)
          → a || is_among steps file i ≡ false → cond (same_bytes (record_at file i) (step_bytes s)) (Some s) (find_step steps (record_at file i)) ≡ None
      go true t below e = untrue (sym e)
      go false t below e = rw t (below e)

  -- one that is known to be among them is read as the step that it is
  read_among : (steps : List Step) → ((s : Step) → s ∈ steps → Held s) → (find_step steps (record_at file i) ≡ None → ⊥)
      → find_step steps (record_at file i) ≡ Some (step_in file i)
  read_among steps held some = go (find_step steps (record_at file i)) refl
    where
      go : (x : Option Step) → find_step steps (record_at file i) ≡ x → x ≡ Some (step_in file i)
      go (Some t) e =
          let found = find_found steps (record_at file i) t e in
          ap Some (sym (step_is_read t (held t found.0) file b i inside found.1))
      go None e = absurd (some e)

  module _ (s : ℕ) (vs ps : List ℕ) (floor : Bytes ps) (goal : ℕ) (node : Node) where
    -- the record that was found to be a step is read as that step
    pub is_found : is_among (steps_from (floor_of s vs ps) goal node) file i ≡ true
        → find_step (steps_from (floor_of s vs ps) goal node) (record_at file i) ≡ Some (step_in file i)
    is_found = found_among (steps_from (floor_of s vs ps) goal node) (steps_are_held s vs ps floor goal node)

    pub is_missing : is_among (steps_from (floor_of s vs ps) goal node) file i ≡ false
        → find_step (steps_from (floor_of s vs ps) goal node) (record_at file i) ≡ None
    is_missing = missing_among (steps_from (floor_of s vs ps) goal node) (steps_are_held s vs ps floor goal node)

    -- so is one that is known to be a step
    pub is_read : (find_step (steps_from (floor_of s vs ps) goal node) (record_at file i) ≡ None → ⊥)
        → find_step (steps_from (floor_of s vs ps) goal node) (record_at file i) ≡ Some (step_in file i)
    is_read = read_among (steps_from (floor_of s vs ps) goal node) (steps_are_held s vs ps floor goal node)

  -- the same of a node that stands on an accepted floor, whose polygon list nobody has to know to be bytes
  module _ {plan vs ps : List ℕ} (g : Ground plan vs ps) (goal : ℕ) (node : Node) (h : Stands plan vs ps node) where
    pub found_standing : is_among (steps_from (floor_in plan vs ps) goal node) file i ≡ true
        → find_step (steps_from (floor_in plan vs ps) goal node) (record_at file i) ≡ Some (step_in file i)
    found_standing = found_among (steps_from (floor_in plan vs ps) goal node) (step_held g goal node h)

    pub missing_standing : is_among (steps_from (floor_in plan vs ps) goal node) file i ≡ false
        → find_step (steps_from (floor_in plan vs ps) goal node) (record_at file i) ≡ None
    missing_standing = missing_among (steps_from (floor_in plan vs ps) goal node) (step_held g goal node h)

    pub read_standing : (find_step (steps_from (floor_in plan vs ps) goal node) (record_at file i) ≡ None → ⊥)
        → find_step (steps_from (floor_in plan vs ps) goal node) (record_at file i) ≡ Some (step_in file i)
    read_standing = read_among (steps_from (floor_in plan vs ps) goal node) (step_held g goal node h)
