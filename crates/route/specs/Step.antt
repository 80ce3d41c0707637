-- Document 01, "The route file": a step's kind as a number, and which steps a record can hold. Assumes nothing.
use Rattle.std.specs.Prelude.{ℕ, ◌<◌, ◌^◌, T, cond, eqb}
use Rattle.std.specs.Float.{binary32}
use Rattle.std.specs.Float.Ieee.{fits}
use Rattle.point.specs.declared.Point.{Point}
use Rattle.cut.specs.declared.SuccessorType.{SuccessorType}
use Rattle.cut.specs.declared.SuccessorType.TheVariants.{LeftNonObservable, Observable, RightNonObservable}
use Rattle.route.specs.declared.Step.{Step}

-- "Observable is kind 2, .. RightNonObservable is kind 3, LeftNonObservable kind 4"
unfoldable pub kind_number : SuccessorType → ℕ
kind_number Observable = 2
kind_number RightNonObservable = 3
kind_number LeftNonObservable = 4

-- the kind that a number stands for; 4, and what stands for none, is read as LeftNonObservable
unfoldable pub kind_of : ℕ → SuccessorType
kind_of number = cond (eqb number 2) Observable (cond (eqb number 3) RightNonObservable LeftNonObservable)

-- A point whose coordinates are f32.
pub record HeldPoint (p : Point) : Type 0 where
  pub x_held : T (fits binary32 p.x)
  pub y_held : T (fits binary32 p.y)

-- A step that a record holds whole: its numbers are u32, its coordinates f32.
pub record Held (s : Step) : Type 0 where
  pub polygon_held : s.polygon < 2 ^ 32
  pub first_held : s.first < 2 ^ 32
  pub second_held : s.second < 2 ^ 32
  pub right_held : HeldPoint s.interval.0
  pub left_held : HeldPoint s.interval.1
