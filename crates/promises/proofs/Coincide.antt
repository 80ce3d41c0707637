-- "Prove that any two permitted answers coincide": one statement for each function that users, programs or C call, over its contract itself
-- (specs/Permits). `Post` is what the contract permits; z is the answer and e the arguments at exit. Assumes nothing.
use Prim.Native.Nat.{ℕ}
use mathlib.Core.Path.{◌≡◌, sym, ap, ◌∙◌}
use mathlib.Core.List.{List}
use lib.Ieee.{Float}
use Rattle.std.specs.Prelude.{Result}
use Rattle.floor.specs.declared.Refusal.{Refusal}
use Rattle.readout.specs.declared.Unlisted.{Unlisted}
use Rattle.search.specs.Whole.{Searched}
use Rattle.cart_c.specs.Handed.{Handed}
use Rattle.promises.specs.Permits.{Coincide, SeenOfSearch, SeenInC, DefaultIs4096}
use Rattle.told.proofs.Told.number.Reads as told-number
use Rattle.search.proofs.search.Reads as search
use Rattle.search.proofs.search_default.Reads as search-default
use Rattle.places.proofs.places_in.Reads as places-in
use Rattle.writing.proofs.ToldFromAnswer.from.Reads as answer-told
use Rattle.writing.proofs.Answer.steps.Reads as answer-steps
use Rattle.judge.proofs.judge.Reads as judge
use Rattle.judge.proofs.told.Reads as verdict-told
use Rattle.readout.proofs.read_out.Reads as read_out
use Rattle.readout.proofs.told.Reads as readout-told
use Rattle.floor.proofs.look_at_floor.Reads as look-at-floor
use Rattle.floor.proofs.look_at.Reads as look_at
use Rattle.floor.proofs.ToldFromRefusal.from.Reads as refusal-told
use Rattle.says.proofs.words.Reads as words
use Rattle.cart_c.proofs.cart_judge.Reads as cart-judge
use Rattle.cart_c.proofs.cart_read_out.Reads as cart-read-out
use Rattle.cart_c.proofs.cart_words.Reads as cart-words
use Rattle.cart_c.proofs.cart_search.Reads as cart-search
use Rattle.floor_c.proofs.floor_look.Reads as floor-look
use Rattle.floor_c.proofs.floor_turn.Reads as floor-turn
use Rattle.steps_c.proofs.steps_step.Reads as steps-step
use Rattle.geometry_c.proofs.geometry_root.Reads as geometry-root
use Rattle.geometry_c.proofs.geometry_min.Reads as geometry-min
use Rattle.geometry_c.proofs.geometry_max.Reads as geometry-max
use Rattle.geometry_c.proofs.geometry_side.Reads as geometry-side
use Rattle.geometry_c.proofs.geometry_on_segment.Reads as geometry-on-segment
use Rattle.geometry_c.proofs.geometry_in_bounding_box.Reads as geometry-in-bounding-box
use Rattle.geometry_c.proofs.geometry_heuristic.Reads as geometry-heuristic
use Rattle.geometry_c.proofs.geometry_intersection_time.Reads as geometry-intersection-time
use Rattle.geometry_c.proofs.geometry_distance.Reads as geometry-distance
use Rattle.geometry_c.proofs.geometry_length.Reads as geometry-length
use Rattle.geometry_c.proofs.geometry_dot.Reads as geometry-dot
use Rattle.geometry_c.proofs.geometry_perp_dot.Reads as geometry-perp-dot
use Rattle.geometry_c.proofs.geometry_mirror.Reads as geometry-mirror
use Rattle.geometry_c.proofs.geometry_project_onto.Reads as geometry-project-onto
use Rattle.geometry_c.proofs.geometry_turning_point.Reads as geometry-turning-point
use Rattle.geometry_c.proofs.geometry_line_intersect_segment.Reads as geometry-line-intersect-segment
use Rattle.cone_c.proofs.geometry_clip_to_cone.Reads as geometry-clip-to-cone
use Rattle.cone_c.proofs.geometry_lands_on.Reads as geometry-lands-on
use Rattle.walk_c.proofs.geometry_walk_edge.Reads as geometry-walk-edge

-- ---- answers of several parts

pair : {Z U : Type 0} {z y : Z} {u v : U} → z ≡ y → u ≡ v → ◌≡◌ {A = Z × U} (z, u) (y, v)
pair h k = rw (h, k)

triple : {Z U W : Type 0} {z y : Z} {u v : U} {s t : W} → z ≡ y → u ≡ v → s ≡ t → ◌≡◌ {A = Z × U × W} (z, u, s) (y, v, t)
triple h k l = rw (h, k, l)

abbrev seen_of : Searched → SeenOfSearch
seen_of s = (s.answer, s.lent.work.floats, s.lent.work.words, s.lent.work.queue, s.lent.table, s.out)

-- ---- the search

pub search_coincides : Coincide {S = SeenOfSearch} search.Post
    (λ z e. (
      z,
      e.1.1.1.1.0.now,
      e.1.1.1.1.1.0.now,
      e.1.1.1.1.1.1.0.now,
      e.1.1.1.1.1.1.1.0.now,
      e.1.1.1.1.1.1.1.1.0.now,
    ))
search_coincides κs a z y e f p q = ap seen_of (p ∙ sym q)

pub search_default_coincides : Coincide {S = SeenOfSearch} search-default.Post
    (λ z e. (
      z,
      e.1.1.1.0.now,
      e.1.1.1.1.0.now,
      e.1.1.1.1.1.0.now,
      e.1.1.1.1.1.1.0.now,
      e.1.1.1.1.1.1.1.0.now,
    ))
search_default_coincides κs a z y e f p q = ap seen_of (p ∙ sym q)

pub places_in_coincides : Coincide places-in.Post (λ z e. z)
places_in_coincides κs a z y e f p q = p ∙ sym q

pub answer_told_coincides : Coincide answer-told.Post (λ z e. z)
answer_told_coincides κs a z y e f p q = p ∙ sym q

pub answer_steps_coincides : Coincide answer-steps.Post (λ z e. z)
answer_steps_coincides κs a z y e f p q = p ∙ sym q

-- ---- the judge and the read_out

pub judge_coincides : Coincide judge.Post (λ z e. z)
judge_coincides κs a z y e f p q = p ∙ sym q

pub verdict_told_coincides : Coincide verdict-told.Post (λ z e. z)
verdict_told_coincides κs a z y e f p q = p ∙ sym q

pub read_out_coincides : Coincide {S = Result ℕ Unlisted × List Float} read_out.Post (λ z e. (z, e.1.1.1.1.0.now))
read_out_coincides κs a z y e f p q = pair (p.0 ∙ sym q.0) (p.1 ∙ sym q.1)

pub readout_told_coincides : Coincide readout-told.Post (λ z e. z)
readout_told_coincides κs a z y e f p q = p ∙ sym q

-- ---- the floor

pub look_at_floor_coincides : Coincide {S = Result Unit Refusal × List ℕ} look-at-floor.Post (λ z e. (z, e.1.1.0.now))
look_at_floor_coincides κs a z y e f p q = pair (p.0 ∙ sym q.0) (p.1 ∙ sym q.1)

pub look_at_coincides : Coincide look_at.Post (λ z e. z)
look_at_coincides κs a z y e f p q = p ∙ sym q

pub refusal_told_coincides : Coincide refusal-told.Post (λ z e. z)
refusal_told_coincides κs a z y e f p q = p ∙ sym q

-- ---- the number and the words

pub told_number_coincides : Coincide told-number.Post (λ z e. z)
told_number_coincides κs a z y e f p q = p ∙ sym q

pub words_coincides : Coincide {S = ℕ × List ℕ} words.Post (λ z e. (z, e.1.0.now))
words_coincides κs a z y e f p q = pair (p.0 ∙ sym q.0) (p.1.0 ∙ sym q.1.0)

-- ---- for C: the cart

pub cart_judge_coincides : Coincide {S = ℕ × ℕ} cart-judge.Post (λ z e. (z, e.1.1.1.1.0.now))
cart_judge_coincides κs a z y e f p q = pair (p.0 ∙ sym q.0) (p.1 ∙ sym q.1)

pub cart_read_out_coincides : Coincide {S = ℕ × List Float × ℕ} cart-read-out.Post (λ z e. (z, e.1.1.1.1.0.now, e.1.1.1.1.1.0.now))
cart_read_out_coincides κs a z y e f p q = triple (p.0 ∙ sym q.0) (p.1.0 ∙ sym q.1.0) (p.1.1 ∙ sym q.1.1)

pub cart_words_coincides : Coincide {S = ℕ × List ℕ} cart-words.Post (λ z e. (z, e.1.0.now))
cart_words_coincides κs a z y e f p q = pair (p.0 ∙ sym q.0) (p.1 ∙ sym q.1)

abbrev seen_in_c : Handed → SeenInC
seen_in_c h = (h.number, h.lent.work.floats, h.lent.work.words, h.lent.work.queue, h.lent.table, h.out, h.steps, h.value)

pub cart_search_coincides : Coincide {S = SeenInC} cart-search.Post
    (λ z e. (
      z,
      e.1.1.1.1.0.now,
      e.1.1.1.1.1.0.now,
      e.1.1.1.1.1.1.0.now,
      e.1.1.1.1.1.1.1.0.now,
      e.1.1.1.1.1.1.1.1.0.now,
      e.1.1.1.1.1.1.1.1.1.0.now,
      e.1.1.1.1.1.1.1.1.1.1.0.now,
    ))
cart_search_coincides κs a z y e f p q = ap seen_in_c (p ∙ sym q)

-- ---- for C: the floor and the steps

pub floor_look_coincides : Coincide floor-look.Post (λ z e. z)
floor_look_coincides κs a z y e f p q = p ∙ sym q

pub floor_turn_coincides : Coincide floor-turn.Post (λ z e. z)
floor_turn_coincides κs a z y e f p q = p ∙ sym q

pub steps_step_coincides : Coincide {S = ℕ × List ℕ} steps-step.Post (λ z e. (z, e.1.1.1.1.1.0.now))
steps_step_coincides κs a z y e f p q = pair (p.0 ∙ sym q.0) (p.1 ∙ sym q.1)

-- ---- for C: the geometry

pub geometry_root_coincides : Coincide geometry-root.Post (λ z e. z)
geometry_root_coincides κs a z y e f p q = p ∙ sym q

pub geometry_min_coincides : Coincide geometry-min.Post (λ z e. z)
geometry_min_coincides κs a z y e f p q = p ∙ sym q

pub geometry_max_coincides : Coincide geometry-max.Post (λ z e. z)
geometry_max_coincides κs a z y e f p q = p ∙ sym q

pub geometry_side_coincides : Coincide geometry-side.Post (λ z e. z)
geometry_side_coincides κs a z y e f p q = p ∙ sym q

pub geometry_on_segment_coincides : Coincide geometry-on-segment.Post (λ z e. z)
geometry_on_segment_coincides κs a z y e f p q = p ∙ sym q

pub geometry_in_bounding_box_coincides : Coincide geometry-in-bounding-box.Post (λ z e. z)
geometry_in_bounding_box_coincides κs a z y e f p q = p ∙ sym q

pub geometry_heuristic_coincides : Coincide geometry-heuristic.Post (λ z e. z)
geometry_heuristic_coincides κs a z y e f p q = p ∙ sym q

pub geometry_intersection_time_coincides : Coincide geometry-intersection-time.Post (λ z e. z)
geometry_intersection_time_coincides κs a z y e f p q = p ∙ sym q

pub geometry_distance_coincides : Coincide geometry-distance.Post (λ z e. z)
geometry_distance_coincides κs a z y e f p q = p ∙ sym q

pub geometry_length_coincides : Coincide geometry-length.Post (λ z e. z)
geometry_length_coincides κs a z y e f p q = p ∙ sym q

pub geometry_dot_coincides : Coincide geometry-dot.Post (λ z e. z)
geometry_dot_coincides κs a z y e f p q = p ∙ sym q

pub geometry_perp_dot_coincides : Coincide geometry-perp-dot.Post (λ z e. z)
geometry_perp_dot_coincides κs a z y e f p q = p ∙ sym q

pub geometry_mirror_coincides : Coincide geometry-mirror.Post (λ z e. e.1.1.1.1.1.1.0.now)
geometry_mirror_coincides κs a z y e f p q = p ∙ sym q

pub geometry_project_onto_coincides : Coincide geometry-project-onto.Post (λ z e. e.1.1.1.1.0.now)
geometry_project_onto_coincides κs a z y e f p q = p ∙ sym q

pub geometry_turning_point_coincides : Coincide {S = ℕ × List ℕ} geometry-turning-point.Post (λ z e. (z, e.1.1.1.1.1.1.1.1.0.now))
geometry_turning_point_coincides κs a z y e f p q = pair (p.0 ∙ sym q.0) (p.1 ∙ sym q.1)

pub geometry_line_intersect_segment_coincides : Coincide {S = ℕ × List ℕ} geometry-line-intersect-segment.Post
    (λ z e. (z, e.1.1.1.1.1.1.1.1.0.now))
geometry_line_intersect_segment_coincides κs a z y e f p q = pair (p.0 ∙ sym q.0) (p.1 ∙ sym q.1)

pub geometry_clip_to_cone_coincides : Coincide {S = ℕ × List ℕ} geometry-clip-to-cone.Post (λ z e. (z, e.1.1.1.1.1.1.1.1.1.1.0.now))
geometry_clip_to_cone_coincides κs a z y e f p q = pair (p.0 ∙ sym q.0) (p.1 ∙ sym q.1)

pub geometry_lands_on_coincides : Coincide geometry-lands-on.Post (λ z e. z)
geometry_lands_on_coincides κs a z y e f p q = p ∙ sym q

pub geometry_walk_edge_coincides : Coincide {S = ℕ × List ℕ} geometry-walk-edge.Post (λ z e. (z, e.1.1.1.1.1.1.1.1.1.1.1.0.now))
geometry_walk_edge_coincides κs a z y e f p q = pair (p.0 ∙ sym q.0) (p.1 ∙ sym q.1)

-- ---- the entry without a budget

pub default_is_4096 : DefaultIs4096
default_is_4096 κs ιs a z y e f p q = ap seen_of (p ∙ sym q)
