-- What a step is made of: the edge of a polygon with a neighbour across, and an interval that its candidate gave. Assumes nothing.
use Prim.Native.Nat.{ℕ}
use mathlib.Core.Path.{◌≡◌, refl, sym, ap, ◌∙◌}
use mathlib.Core.Bool.{Bool, true, false, not, cond}
use mathlib.Core.List.{List, [], ◌∷◌}
use borrow.Author.Tests.{eqb-false}
use lib.Dec.{eqb}
use Rattle.std.specs.Prelude.{Option, Some, None}
use Rattle.std.proofs.lemmas.Option.{none-some, same_Some}
use Rattle.point.specs.declared.Segment.{Segment}
use Rattle.walk.specs.declared.Successor.{Successor}
use Rattle.stored.specs.Stored.{Floor, unused, corner, neighbour, corner_after, polygon}
use Rattle.edges.specs.Where.{is_turn}
use Rattle.route.specs.declared.Step.{Step}
use Rattle.route.specs.World.{◌∈◌}
use Rattle.steps.specs.declared.Node.{Node}
use Rattle.steps.specs.Steps.{is_interval, is_allowed, clipped, if_seen, step_of, candidates, and_then, steps_over, steps_from}
use Rattle.walk.proofs.All.{All, all_in}

-- ---- one candidate

-- the step over a candidate
pub record Over (f : Floor) (node : Node) (s : Successor) (t : Step) : Type 0 where
  pub used : neighbour (polygon f node.polygon) s.edge ≡ unused → ⊥
  pub its_kind : t.kind ≡ s.part.kind
  pub its_polygon : t.polygon ≡ neighbour (polygon f node.polygon) s.edge
  pub its_first : t.first ≡ corner (polygon f node.polygon) s.edge
  pub its_second : t.second ≡ corner_after (polygon f node.polygon) s.edge
  pub allowed : is_allowed f.vertices (is_turn f) node s.part.kind ≡ true
  pub seen : clipped f.vertices node s.part.kind s.part.interval ≡ Some t.interval
  pub interval : is_interval t.interval ≡ true

module _ (f : Floor) (node : Node) (s : Successor) (t : Step) where
  abbrev made : Segment → Step
  made interval = record {
    kind = s.part.kind;
    polygon = neighbour (polygon f node.polygon) s.edge;
    first = corner (polygon f node.polygon) s.edge;
    second = corner_after (polygon f node.polygon) s.edge;
    interval = interval;
  }

  over : (interval : Segment) → eqb (neighbour (polygon f node.polygon) s.edge) unused ≡ false
      → is_allowed f.vertices (is_turn f) node s.part.kind ≡ true
      → clipped f.vertices node s.part.kind s.part.interval ≡ Some interval → is_interval interval ≡ true
      → Some (made interval) ≡ Some t → Over f node s t
  over interval u a c i e =
      let k : made interval ≡ t = same_Some _ t e in
      record {
        used = eqb-false _ _ u;
        its_kind = ap (λ (x : Step). x.kind) (sym k);
        its_polygon = ap (λ (x : Step). x.polygon) (sym k);
        its_first = ap (λ (x : Step). x.first) (sym k);
        its_second = ap (λ (x : Step). x.second) (sym k);
        allowed = a;
        seen = c ∙ ap (λ (x : Step). Some x.interval) k;
        interval = sym (ap (λ (x : Step). is_interval x.interval) k) ∙ i;
      }

  pub yes_tells : step_of f node s ≡ Some t → Over f node s t
  unfolding step_of
  yes_tells e =
      go (eqb (neighbour (polygon f node.polygon) s.edge) unused) refl (is_allowed f.vertices (is_turn f) node s.part.kind) refl
      (clipped f.vertices node s.part.kind s.part.interval) refl e
    where
      last : (interval : Segment) (b : Bool) → is_interval interval ≡ b → eqb (neighbour (polygon f node.polygon) s.edge) unused ≡ false
          → is_allowed f.vertices (is_turn f) node s.part.kind ≡ true
          → clipped f.vertices node s.part.kind s.part.interval ≡ Some interval → cond (not b) None (Some (made interval)) ≡ Some t
          → Over f node s t
      last interval true i u a c e = over interval u a c i e
      last interval false i u a c e = absurd (none-some t e)

      go : (b : Bool) → eqb (neighbour (polygon f node.polygon) s.edge) unused ≡ b → (a : Bool)
          → is_allowed f.vertices (is_turn f) node s.part.kind ≡ a → (c : Option Segment)
          → clipped f.vertices node s.part.kind s.part.interval ≡ c
          → cond b None (cond (not a) None (if_seen c (λ interval. cond (not (is_interval interval)) None (Some (made interval))))) ≡ Some t → Over f node s t
      go true u a d c k e = absurd (none-some t e)
      go false u false d c k e = absurd (none-some t e)
      go false u true d None k e = absurd (none-some t e)
      go false u true d (Some interval) k e = last interval (is_interval interval) refl u d k e

-- ---- all of them

-- what holds of the step over each candidate holds of every step
module _ (f : Floor) (node : Node) (P : Step → Type 0) where
  pub every_step : (cs : List Successor) → All (λ s. (t : Step) → step_of f node s ≡ Some t → P t) cs → All P (steps_over f node cs)
  unfolding steps_over
  every_step [] a = tt
  every_step (c ∷ cs) a = go (step_of f node c) refl (every_step cs a.1)
    where
      go : (p : Option Step) → step_of f node c ≡ p → All P (steps_over f node cs) → All P (and_then p (steps_over f node cs))
      go (Some t) e b = (a.0 t e, b)
      go None e b = b

  pub every_step_from : (goal : ℕ) → All (λ s. (t : Step) → step_of f node s ≡ Some t → P t) (candidates f node) → (t : Step)
      → t ∈ steps_from f goal node → P t
  unfolding steps_from
  every_step_from goal a t m = go (eqb node.polygon goal) m
    where
      go : (b : Bool) → t ∈ cond b [] (steps_over f node (candidates f node)) → P t
      go true m = all_in P [] t tt m
      go false m = all_in P (steps_over f node (candidates f node)) t (every_step (candidates f node) a) m
