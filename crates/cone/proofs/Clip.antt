-- What document 01 says of the cone clip, each sentence as a law beside the definition. Assumes nothing.
use mathlib.Core.Path.{◌≡◌, refl, sym, ◌∙◌}
use mathlib.Core.Bool.{Bool, true, false, cond, or-true}
use mathlib.Core.Logic.{◌⊎◌, inl, inr, ◌↔◌}
use lib.Ieee.{Float, nan, inf, fin, lt}
use Rattle.std.specs.Prelude.{Option, Some, None}
use Rattle.point.specs.declared.Point.{Point}
use Rattle.point.specs.declared.Segment.{Segment}
use Rattle.point.specs.Point.{zero, one, slack, minus_of, plus_of, times_of}
use Rattle.cone.specs.declared.Cone.{Cone}
use Rattle.cone.specs.declared.Part.{Part}
use Rattle.cone.specs.Cone.{ray_of, cone_of, has_short_ray_of, from_right_of, from_left_of, both_outside_of, raised_of, lowered_of, cut_of, if_kept}
use Rattle.cone.specs.Cone.{part_inside_of, part_of, clip_of, clip_to_cone_of}
use Rattle.cone.specs.Sight.{right_length, left_length, Unseen, outside_right, outside_left, crossed, ClipEnds}

-- ---- one cone for many segments

-- Whoever makes the cone once and keeps it gets the same answer for every segment.
pub kept_cone_clips_the_same : (root : Point) (cone segment : Segment) → clip_of (cone_of root cone) segment ≡ clip_to_cone_of root cone segment
unfolding clip_to_cone_of
kept_cone_clips_the_same root cone segment = refl

-- ---- short rays

-- 01, Geometry: "Cone clip: either ray shorter than 0.01 gives the segment back;"
pub clip_short_ray : (root : Point) (cone segment : Segment)
    → (lt (right_length root cone) slack ≡ true) ⊎ (lt (left_length root cone) slack ≡ true) → clip_to_cone_of root cone segment ≡ Some segment
unfolding clip_to_cone_of clip_of has_short_ray_of cone_of ray_of
clip_short_ray root cone segment (inl short) = rw short
clip_short_ray root cone segment (inr short) = rw (short, or-true (lt (right_length root cone) slack))

-- ---- NaN

-- "a NaN fraction moves neither lo nor hi;"
pub nan_raises_nothing : (lo : Float) → raised_of lo nan ≡ lo
unfolding raised_of lt
nan_raises_nothing nan = refl
nan_raises_nothing (inf s) = refl
nan_raises_nothing (fin s m e) = refl

pub nan_lowers_nothing : (hi : Float) → lowered_of hi nan ≡ hi
unfolding lowered_of lt
nan_lowers_nothing hi = refl

-- ---- one ray

away_by : (x y z : Part) (p q r : Bool) → cond p None (cond q (Some x) (cond r (Some y) (Some z))) ≡ None → p ≡ true
away_by x y z true q r e = refl
away_by x y z false true r e = cc
away_by x y z false false true e = cc
away_by x y z false false false e = cc

-- A ray takes all away where both ends are outside it, and nowhere else.
pub cut_away : (part : Part) (start end : Float) → cut_of part start end ≡ None ↔ both_outside_of start end ≡ true
unfolding cut_of
cut_away part start end = (away_by _ _ _ (both_outside_of start end) (lt start zero) (lt end zero), λ e. rw e)

-- ---- both rays

crossed_by : (b : Bool) (s : Segment) → cond b None (Some s) ≡ None → b ≡ true
crossed_by true s e = refl
crossed_by false s e = cc

seen_by : (b : Bool) {s seen : Segment} → cond b None (Some s) ≡ Some seen → (b ≡ false) × (s ≡ seen)
seen_by true e = cc
seen_by false e = (refl, cc)

-- the answer, once the rays are long enough
abbrev seen_part : Segment → Part → Option Segment
seen_part segment part = cond (lt part.hi part.lo) None (Some (part_of part segment))

module _ (cone : Cone) (segment : Segment) where
  abbrev by_left : Part → Option Part
  by_left part = cut_of part (from_left_of cone segment.0) (from_left_of cone segment.1)

  outside : (first : Option Part) → cut_of (record { lo = zero; hi = one }) (from_right_of cone segment.0) (from_right_of cone segment.1) ≡ first
      → if_kept first by_left None ≡ None → Unseen cone segment
  outside (Some part) e h = outside_left ((cut_away part _ _).0 h)
  outside None e h = outside_right ((cut_away _ _ _).0 e)

  away_left : (first : Option Part) → both_outside_of (from_left_of cone segment.0) (from_left_of cone segment.1) ≡ true → if_kept first by_left None ≡ None
  away_left (Some part) h = (cut_away part _ _).1 h
  away_left None h = refl

  unseen : (cut : Option Part) → part_inside_of cone segment ≡ cut → if_kept cut (seen_part segment) None ≡ None → Unseen cone segment
  unfolding part_inside_of
  unseen (Some part) e h = crossed e (crossed_by (lt part.hi part.lo) _ h)
  unseen None e h = outside _ refl e

  nothing : Unseen cone segment → if_kept (part_inside_of cone segment) (seen_part segment) None ≡ None
  unfolding part_inside_of
  nothing (outside_right h) = rw ((cut_away _ _ _).1 h)
  nothing (outside_left h) = rw (away_left _ h)
  nothing (crossed e h) = rw (e, h)

  ends : (seen : Segment) (cut : Option Part) → part_inside_of cone segment ≡ cut → if_kept cut (seen_part segment) None ≡ Some seen
      → ClipEnds cone segment seen
  unfolding part_of plus_of times_of minus_of
  ends seen (Some part) e h =
      let told = seen_by (lt part.hi part.lo) h in
      rw (← told.1) record { part = part; inside = e; in_order = told.0; start_x = refl; start_y = refl; end_x = refl; end_y = refl }
  ends seen None e h = cc

-- ---- what is seen where neither ray is shorter than 0.01

module _ (root : Point) (cone segment : Segment) (right : lt (right_length root cone) slack ≡ false) (left : lt (left_length root cone) slack ≡ false) where
  past_the_rays : clip_to_cone_of root cone segment ≡ if_kept (part_inside_of (cone_of root cone) segment) (seen_part segment) None
  unfolding clip_to_cone_of clip_of has_short_ray_of cone_of ray_of
  past_the_rays = rw (right, left)

  -- "both ends outside one ray, or lo > hi, gives none."
  pub clip_nothing : clip_to_cone_of root cone segment ≡ None ↔ Unseen (cone_of root cone) segment
  clip_nothing = rw past_the_rays (unseen (cone_of root cone) segment _ refl, nothing (cone_of root cone) segment)

  -- "Else segment.0 plus the difference times lo and times hi, even at 0 and 1."
  pub clip_ends : (seen : Segment) → clip_to_cone_of root cone segment ≡ Some seen → ClipEnds (cone_of root cone) segment seen
  clip_ends seen e = ends (cone_of root cone) segment seen _ refl (sym past_the_rays ∙ e)
