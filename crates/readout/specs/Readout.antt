-- Document 01: "A read-out judges, then lists the points into a lent f32 slice, 13 if it is too short"; "the read-out returns on 0 the number of
-- points"; "Other than 0, nothing in the output changes." Definitions only. Assumes nothing.
use Rattle.std.specs.Prelude.{ℕ, ◌+◌, ◌*◌, cond, Result, Ok, Err, List, [], ◌∷◌, ltb, Float, length, set}
use Rattle.std.proofs.lemmas.List.Edits.{sets}
use Rattle.told.specs.declared.Told.{Told}
use Rattle.told.specs.declared.Told.TheVariants.{Alone, WithCount}
use Rattle.told.specs.Told.{number_of, values_of}
use Rattle.point.specs.declared.Point.{Point}
use Rattle.point.specs.Point.{same_of}
use Rattle.stored.specs.Stored.{Floor, floor_of, question_of}
use Rattle.steps.specs.declared.Node.{Node}
use Rattle.steps.specs.World.{world_of}
use Rattle.judge.specs.declared.Unaccepted.{Unaccepted}
use Rattle.readout.specs.declared.Unlisted.{Unlisted}
use Rattle.readout.specs.declared.Unlisted.TheVariants.{Unaccepted as NotAccepted, Short}
use Rattle.judge.specs.Verdict.{verdict_of, unaccepted_told}
use Rattle.readout.specs.Points.{points_of}

-- ---- points in a slice: x, y of each

unfoldable pub floats_of : List Point → List Float
floats_of [] = []
floats_of (point ∷ points) = point.x ∷ point.y ∷ floats_of points

-- point k in its places
unfoldable pub put_point : List Float → ℕ → Point → List Float
put_point out k point = set (set out (k * 2) point.x) (k * 2 + 1) point.y

-- the new root, where it is another one: behind the points that the node has already
unfoldable pub put_root : List Float → Node → Node → List Float
put_root out node next = cond (same_of next.root node.root) out (put_point out node.points next.root)

-- ---- what is answered, and what the slice holds then

-- "13 if it is too short"
unfoldable pub listed : List Point → List Float → Result ℕ Unlisted
listed points out = cond (ltb (length out) (length points * 2)) (Err Short) (Ok (length points))

unfoldable pub listing : List Point → List Float → List Float
listing points out = cond (ltb (length out) (length points * 2)) out (sets out 0 (floats_of points))

abbrev pub answer_if : Result Unit Unaccepted → List Point → List Float → Result ℕ Unlisted
answer_if (Ok tt) points out = listed points out
answer_if (Err unaccepted) points out = Err (NotAccepted unaccepted)

abbrev pub out_if : Result Unit Unaccepted → List Point → List Float → List Float
out_if (Ok tt) points out = listing points out
out_if (Err unaccepted) points out = out

-- the points of the route in the floor's world
unfoldable pub route_points : Floor → List ℕ → List ℕ → List Point
route_points f question route = points_of (world_of f (question_of question)) (question_of question).goal route

module _ (slots : ℕ) (vertices polygons question route : List ℕ) (out : List Float) where
  unfoldable pub readout_of : Result ℕ Unlisted
  readout_of = answer_if (verdict_of slots vertices polygons question route) (route_points (floor_of slots vertices polygons) question route) out

  unfoldable pub written_of : List Float
  written_of = out_if (verdict_of slots vertices polygons question route) (route_points (floor_of slots vertices polygons) question route) out

-- ---- what is told of each answer: the table's number, and "the read-out returns on 0 the number of points"

unfoldable pub unlisted_told : Unlisted → Told
unlisted_told (NotAccepted unaccepted) = unaccepted_told unaccepted
-- "output too short"
unlisted_told Short = Alone 13

unfoldable pub readout_told : Result ℕ Unlisted → Told
-- "found, or accepted"
readout_told (Ok count) = WithCount 0 count
readout_told (Err unlisted) = unlisted_told unlisted

abbrev pub readout_number : Result ℕ Unlisted → ℕ
readout_number readout = number_of (readout_told readout)

-- the record at fault, or the number of points
abbrev pub readout_values : Result ℕ Unlisted → List ℕ
readout_values readout = values_of (readout_told readout)
