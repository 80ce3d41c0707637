-- What `edges::polygon_of` has found out by a polygon, on each way out of its loop. Assumes nothing.
use Prim.Native.Nat.{ℕ, ◌+◌, ◌≤◌, ◌<◌}
use native.Mathlib.Nat.{le_of_lt}
use native.Mathlib.Omega.{arith}
use mathlib.Core.Path.{◌≡◌, sym, ◌∙◌}
use mathlib.Core.Bool.{Bool, true, false}
use mathlib.Core.List.{List}
use borrow.Author.Count.{below_more}
use borrow.Author.Tests.{lt-ltb, le-ltb}
use lib.ListN.{length}
use Rattle.std.specs.Prelude.{Some, None}
use Rattle.counts.specs.Counts.{below}
use Rattle.counts.proofs.Laws.{first_is}
use Rattle.point.specs.declared.Point.{Point}
use Rattle.plan.specs.Plan.{polygon_count_in}
use Rattle.stored.specs.Stored.{Floor, Polygon, floor_in, polygon}
use Rattle.stored.proofs.Records.{polygons_counted}
use Rattle.edges.specs.Where.{contains_in, contains, polygon_of}
use Rattle.edges.specs.Ground.{Ground}

module _ {plan vs ps : List ℕ} (g : Ground plan vs ps) (point : Point) where
  abbrev f : Floor
  f = floor_in plan vs ps

  counted : {n : ℕ} → n ≡ polygon_count_in plan → n ≡ length f.polygons
  counted e = e ∙ sym (polygons_counted g.polygons_planned)

  module _ {p n : ℕ} (all : n ≡ polygon_count_in plan) (before : (k : ℕ) → k < p → contains f point k ≡ false) where
    -- it was the first
    pub found_here : p < n → {q : Polygon} → q ≡ polygon f p → {r : Bool} → r ≡ contains_in f.vertices q point → r ≡ true
        → Some p ≡ below (length f.polygons) (polygon_of f point)
    unfolding polygon_of contains
    found_here l read asked e =
        rw (← counted all, first_is n (contains f point) p (le_of_lt l) before (λ h. rw (← read) (sym asked ∙ e)), lt-ltb p n l)

    -- nor is it this one
    pub none_more : {q : Polygon} → q ≡ polygon f p → {r : Bool} → r ≡ contains_in f.vertices q point → r ≡ false
        → (k : ℕ) → k < p + 1 → contains f point k ≡ false
    unfolding contains
    none_more read asked e = below_more _ _ before (rw (← read) (sym asked ∙ e))

    -- it was none
    pub found_none : n ≤ p → p ≤ n → None ≡ below (length f.polygons) (polygon_of f point)
    unfolding polygon_of
    found_none l m = rw (← counted all, first_is n (contains f point) p m before (λ h. absurd (omega arith)), le-ltb p n l)
