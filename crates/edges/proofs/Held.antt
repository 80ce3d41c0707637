-- What an accepted floor holds: its ground. The type says only that there is one, and each of its facts is a test's or has one proof. Assumes nothing.
use Prim.Native.Nat.{ℕ, ◌<◌}
use mathlib.Core.List.{List}
use mathlib.Core.Logic.{∥∥₁_elim}
use lib.ListN.{length}
use Rattle.std.proofs.Props.{props}
use Rattle.stored.specs.Stored.{Floor, floor_in}
use Rattle.faults.specs.Accepted.{Links}
use Rattle.faults.proofs.Decided.{links_decided}
use Rattle.edges.specs.Ground.{Ground}

module _ {plan vs ps : List ℕ} (there : ∥ Ground plan vs ps ∥₁) where
  abbrev f : Floor
  f = floor_in plan vs ps

  links : (p : ℕ) → p < length f.polygons → Links f p
  links p l = (links_decided f p).0 (∥∥₁_elim there (Prim.hlevel props) (λ g. (links_decided f p).1 (g.accepted.links p l)))

  pub ground : Ground plan vs ps
  ground = record {
    vertices_planned = ∥∥₁_elim there (Prim.hlevel props) (λ g. g.vertices_planned);
    polygons_planned = ∥∥₁_elim there (Prim.hlevel props) (λ g. g.polygons_planned);
    accepted = record {
      vertices = ∥∥₁_elim there (Prim.hlevel props) (λ g. g.accepted.vertices);
      corners = ∥∥₁_elim there (Prim.hlevel props) (λ g. g.accepted.corners);
      links = links;
    };
    turns_are_marked = ∥∥₁_elim there (Prim.hlevel props) (λ g. g.turns_are_marked);
  }
