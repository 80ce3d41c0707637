-- `steps_c::node_of` meets its contract. Assumes nothing.
use Rattle.std.proofs.Common.{◌≡◌, ℕ, List, get_or, nat_eq}
use Rattle.point.specs.declared.Point.{Point}
use Rattle.point.specs.Point.{zero, from_bits_of}
use Rattle.steps_c.specs.Ask.{node_of}
use Rattle.steps_c.proofs.node_of.Goals as goal

-- the node is made of what the words say
module _ (words : List ℕ) {right left root : Point} where
  of_words : right ≡ from_bits_of (get_or words 4 0) (get_or words 5 0) → left ≡ from_bits_of (get_or words 6 0) (get_or words 7 0)
      → root ≡ from_bits_of (get_or words 8 0) (get_or words 9 0)
      → record {
        seed = nat_eq (get_or words 0 0) 1;
        left = get_or words 1 0;
        polygon = get_or words 1 0;
        first = get_or words 2 0;
        second = get_or words 3 0;
        interval = (right, left);
        root = root;
        length = zero;
        points = 0;
      } ≡ node_of words
  unfolding node_of
  of_words r l k = rw (r, l, k)

pub returns : goal.returns
returns c = of_words _ c.from_bits-right.ensures c.from_bits-left.ensures c.from_bits-root.ensures
