-- What the functions that come after a look cite of it: an accepted floor, and a question's length. Assumes nothing.
use Prim.Native.Nat.{ℕ, ◌*◌}
use mathlib.Core.Path.{◌≡◌}
use mathlib.Core.Bool.{true}
use mathlib.Core.List.{List}
use mathlib.Core.Logic.{◌↔◌}
use lib.ListN.{length}
use Rattle.std.specs.Prelude.{Ok}
use Rattle.stored.specs.Stored.{floor_of}
use Rattle.faults.specs.Tests.{length_right, question_right}
use Rattle.faults.specs.Accepted.{Accepted}
use Rattle.floor.specs.Look.{floor_look_of}
use Rattle.floor.proofs.Exact.{whole_decided, asked_decided, floor_exactly}

-- the lists' lengths as the tests have them
pub look_accepts : (s : ℕ) (vs ps : List ℕ)
    → (floor_look_of s vs ps ≡ Ok tt) ↔ ((length_right 8 1024 vs ≡ true) × ((length_right (s * 8) 512 ps ≡ true) × Accepted (floor_of s vs ps)))
look_accepts s vs ps =
    let vertices = whole_decided 8 1024 vs in
    let polygons = whole_decided (s * 8) 512 ps in (
      (λ e. let h = (floor_exactly s vs ps (Ok tt)).0 e in (vertices.1 h.0.vertices_whole, (polygons.1 h.0.polygons_whole, h.1))),
      (λ h. (floor_exactly s vs ps (Ok tt)).1 (record { vertices_whole = vertices.0 h.0; polygons_whole = polygons.0 h.1.0 }, h.1.1)),
    )

pub question_length : (question : List ℕ) → question_right question ≡ true → length question ≡ 16
question_length question h = ((asked_decided question).0 h).long
