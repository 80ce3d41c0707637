-- Rows of the lent buffers: what is put is read back, and every other cell stays. Rests on specs/Layout. Assumes nothing.
use Prim.Native.Nat.{ℕ, zero, suc, ◌+◌, ◌*◌, ◌≤◌, ◌<◌}
use native.Mathlib.Decide.{dec_lt}
use native.Mathlib.Omega.{arith}
use mathlib.Core.Path.{◌≡◌, refl, ap, ◌∙◌}
use mathlib.Core.Bool.{Bool}
use mathlib.Core.List.{List, [], ◌∷◌}
use mathlib.Core.Logic.{◌⊎◌, inl, inr, ⊎_elim}
use lib.Dec.{eqb}
use lib.Ieee.{Float, nan}
use lib.ListN.{length, get_or, set, length-set}
use lib.Seq.{get_or-set_same, get_or-set_other}
use Rattle.point.specs.declared.Point.{Point}
use Rattle.point.specs.Point.{point_of}
use Rattle.route.specs.declared.Step.{Step}
use Rattle.route.specs.Step.{kind_number}
use Rattle.route.proofs.Bytes.{kind_back}
use Rattle.steps.specs.declared.Node.{Node}
use Rattle.queue.specs.Words.{column}
use Rattle.places.specs.Layout.{floats_per_place, words_per_place, right_xcell, right_ycell, left_xcell, left_ycell, root_xcell, root_ycell, length_cell, f_cell}
use Rattle.places.specs.Layout.{record_xcell, distance_cell, kind_cell, polygon_cell, first_cell, second_cell, parent_cell, points_cell, depth_cell, number_cell}
use Rattle.places.specs.Layout.{seed_kind}
use Rattle.places.specs.Layout.{Work, Room, places_in, puts, float_at, word_at, interval_in, left_in, node_in, step_in, parent_in, depth_in, number_in}
use Rattle.places.specs.Layout.{put_floats, put_words, record_put, distance_put}

-- ---- cells

module _ {A : Type 0} where
  pub puts_length : (l : List A) (row k : ℕ) (xs : List A) → length (puts l row k xs) ≡ length l
  unfolding puts
  puts_length l row k [] = refl
  puts_length l row k (x ∷ xs) = puts_length (set l (row + k) x) row (suc k) xs ∙ length-set l (row + k) x

  -- a cell before the first that is put or behind the last
  pub puts_other : (l : List A) (row k : ℕ) (xs : List A) (c : ℕ) (d : A) → (c < row + k) ⊎ (row + k + length xs ≤ c)
      → get_or (puts l row k xs) c d ≡ get_or l c d
  unfolding puts
  puts_other l row k [] c d o = refl
  puts_other l row k (x ∷ xs) c d o =
      puts_other (set l (row + k) x) row (suc k) xs c d (⊎_elim (λ h. inl (omega arith)) (λ h. inr (omega arith)) o)
      ∙ get_or-set_other l (row + k) c x d (⊎_elim (λ h e. omega arith) (λ h e. omega arith) o)

  -- one that is put
  pub puts_same : (l : List A) (row k : ℕ) (xs : List A) (j : ℕ) (d : A) → row + k + length xs ≤ length l → j < length xs
      → get_or (puts l row k xs) (row + (k + j)) d ≡ get_or xs j d
  unfolding puts
  puts_same l row k [] j d r h = absurd (omega arith)
  puts_same l row k (x ∷ xs) zero d r h =
      let e : row + (k + 0) ≡ row + k = omega arith in
      rw e
      (puts_other (set l (row + k) x) row (suc k) xs (row + k) d (inl (omega arith)) ∙ get_or-set_same l (row + k) x d (omega arith))
  puts_same l row k (x ∷ xs) (suc j) d r h =
      let e : row + (k + suc j) ≡ row + (suc k + j) = omega arith in
      rw e
      (puts_same (set l (row + k) x) row (suc k) xs j d (rw (length-set l (row + k) x) (omega arith)) (omega arith))

-- ---- rows

-- before it, it, or behind it
pub which : (i j : ℕ) → (j < i) ⊎ ((j ≡ i) ⊎ (i < j))
which i j = go (dec_lt j i) (dec_lt i j)
  where
    go : Dec (j < i) → Dec (i < j) → (j < i) ⊎ ((j ≡ i) ⊎ (i < j))
    go (yes l) d = inl l
    go (no l) (yes d) = inr (inr d)
    go (no l) (no d) = inr (inl (omega arith))

-- ---- the same row in two buffers

-- the cells of a node in a row of floats, and those in a row of words
abbrev pub SameFloats : List Float → List Float → ℕ → Type 0
SameFloats new old i = (k : ℕ) → k < record_xcell → float_at new i k ≡ float_at old i k

abbrev pub SameWords : List ℕ → List ℕ → ℕ → Type 0
SameWords new old i = (k : ℕ) → k < words_per_place → word_at new i k ≡ word_at old i k

module _ (words was : List ℕ) (i : ℕ) (kept : SameWords words was i) where
  pub parent_same : parent_in words i ≡ parent_in was i
  unfolding parent_in
  parent_same = kept parent_cell (omega arith)

  pub depth_same : depth_in words i ≡ depth_in was i
  unfolding depth_in
  depth_same = kept depth_cell (omega arith)

  pub number_same : number_in words i ≡ number_in was i
  unfolding number_in
  number_same = kept number_cell (omega arith)

module _ (new old : List Float) (i : ℕ) (same : SameFloats new old i) where
  interval_same : interval_in new i ≡ interval_in old i
  unfolding interval_in
  interval_same = rw (same right_xcell (omega arith), same right_ycell (omega arith), same left_xcell (omega arith), same left_ycell (omega arith))

  pub f_same : column new floats_per_place f_cell i ≡ column old floats_per_place f_cell i
  unfolding column float_at
  f_same = same f_cell (omega arith)

  module _ (words was : List ℕ) (kept : SameWords words was i) where
    -- its parent's polygon too
    pub node_same : word_at words (parent_in was i) polygon_cell ≡ word_at was (parent_in was i) polygon_cell → node_in new words i ≡ node_in old was i
    unfolding node_in left_in
    node_same left =
        rw (
          interval_same,
          same root_xcell (omega arith),
          same root_ycell (omega arith),
          same length_cell (omega arith),
          kept kind_cell (omega arith),
          kept polygon_cell (omega arith),
          kept first_cell (omega arith),
          kept second_cell (omega arith),
          kept points_cell (omega arith),
          parent_same words was i kept,
          left,
        )

    pub step_same : step_in new words i ≡ step_in old was i
    unfolding step_in
    step_same = rw (interval_same, kept kind_cell (omega arith), kept polygon_cell (omega arith), kept first_cell (omega arith), kept second_cell (omega arith))

-- ---- a node put at a place

module _ (floats : List Float) (i : ℕ) (node : Node) (f : Float) where
  pub put_floats_length : length (put_floats floats i node f) ≡ length floats
  unfolding put_floats
  put_floats_length = puts_length floats (i * floats_per_place) right_xcell _

  -- other rows stay, and so do this one's three cells of a distance record
  pub floats_elsewhere : (j k : ℕ) → k < floats_per_place → ((j ≡ i → ⊥) ⊎ (record_xcell ≤ k))
      → float_at (put_floats floats i node f) j k ≡ float_at floats j k
  unfolding put_floats float_at
  floats_elsewhere j k h o = puts_other floats (i * floats_per_place) right_xcell _ (j * floats_per_place + k) nan (go (which i j) o)
    where
      go : (j < i) ⊎ ((j ≡ i) ⊎ (i < j)) → (j ≡ i → ⊥) ⊎ (record_xcell ≤ k)
          → (j * floats_per_place + k < i * floats_per_place + right_xcell) ⊎ (i * floats_per_place + right_xcell + record_xcell ≤ j * floats_per_place + k)
      go (inl l) o = inl (omega arith)
      go (inr (inr l)) o = inr (omega arith)
      go (inr (inl e)) (inl d) = absurd (d e)
      go (inr (inl e)) (inr l) = inr (omega arith)

  module _ (room : (i + 1) * floats_per_place ≤ length floats) where
    abbrev cells : List Float
    cells =
        node.interval.0.x ∷ node.interval.0.y ∷ node.interval.1.x ∷ node.interval.1.y ∷ node.root.x ∷ node.root.y ∷ node.length ∷ f ∷ []

    row_cell : (k : ℕ) → k < record_xcell → float_at (put_floats floats i node f) i k ≡ get_or cells k nan
    unfolding put_floats float_at
    row_cell k h =
        let e : 0 + k ≡ k = omega arith in
        rw e at (puts_same floats (i * floats_per_place) right_xcell cells k nan (omega arith) h)

    pub f_put : column (put_floats floats i node f) floats_per_place f_cell i ≡ f
    unfolding column float_at
    f_put = row_cell f_cell (omega arith)

    interval_put : interval_in (put_floats floats i node f) i ≡ node.interval
    unfolding interval_in point_of
    interval_put =
        rw (row_cell right_xcell (omega arith), row_cell right_ycell (omega arith), row_cell left_xcell (omega arith), row_cell left_ycell (omega arith))

    pub root_put : point_of (float_at (put_floats floats i node f) i root_xcell) (float_at (put_floats floats i node f) i root_ycell) ≡ node.root
    unfolding point_of
    root_put = rw (row_cell root_xcell (omega arith), row_cell root_ycell (omega arith))

    length_put : float_at (put_floats floats i node f) i length_cell ≡ node.length
    length_put = row_cell length_cell (omega arith)

module _ (words : List ℕ) (i kind : ℕ) (node : Node) (parent depth number : ℕ) where
  abbrev after : List ℕ
  after = put_words words i kind node parent depth number

  pub put_words_length : length after ≡ length words
  unfolding put_words
  put_words_length = puts_length words (i * words_per_place) kind_cell _

  pub words_elsewhere : (j k : ℕ) → k < words_per_place → (j ≡ i → ⊥) → word_at after j k ≡ word_at words j k
  unfolding put_words word_at
  words_elsewhere j k h d = puts_other words (i * words_per_place) kind_cell _ (j * words_per_place + k) 0 (go (which i j))
    where
      go : (j < i) ⊎ ((j ≡ i) ⊎ (i < j))
          → (j * words_per_place + k < i * words_per_place + kind_cell) ⊎ (i * words_per_place + kind_cell + words_per_place ≤ j * words_per_place + k)
      go (inl l) = inl (omega arith)
      go (inr (inr l)) = inr (omega arith)
      go (inr (inl e)) = absurd (d e)

  module _ (room : (i + 1) * words_per_place ≤ length words) where
    abbrev words_cells : List ℕ
    words_cells = kind ∷ node.polygon ∷ node.first ∷ node.second ∷ parent ∷ node.points ∷ depth ∷ number ∷ []

    word_cell : (k : ℕ) → k < words_per_place → word_at after i k ≡ get_or words_cells k 0
    unfolding put_words word_at
    word_cell k h =
        let e : 0 + k ≡ k = omega arith in
        rw e at (puts_same words (i * words_per_place) kind_cell words_cells k 0 (omega arith) h)

    pub parent_put : parent_in after i ≡ parent
    unfolding parent_in
    parent_put = word_cell parent_cell (omega arith)

    pub depth_put : depth_in after i ≡ depth
    unfolding depth_in
    depth_put = word_cell depth_cell (omega arith)

    pub number_put : number_in after i ≡ number
    unfolding number_in
    number_put = word_cell number_cell (omega arith)

    module _ (floats : List Float) (f : Float) (space : (i + 1) * floats_per_place ≤ length floats) where
      -- where its parent's polygon is the one that it left
      pub node_put : eqb kind seed_kind ≡ node.seed → word_at after parent polygon_cell ≡ node.left → node_in (put_floats floats i node f) after i ≡ node
      unfolding node_in left_in
      node_put e left =
          rw (
            interval_put floats i node f space,
            root_put floats i node f space,
            length_put floats i node f space,
            parent_put,
            left,
            word_cell kind_cell (omega arith),
            word_cell polygon_cell (omega arith),
            word_cell first_cell (omega arith),
            word_cell second_cell (omega arith),
            word_cell points_cell (omega arith),
          )
          (ap (λ (b : Bool). record {
            seed = b;
            left = node.left;
            polygon = node.polygon;
            first = node.first;
            second = node.second;
            interval = node.interval;
            root = node.root;
            length = node.length;
            points = node.points;
          }) e)

      -- the polygon stands where another's parent finds it
      pub polygon_put : word_at after i polygon_cell ≡ node.polygon
      polygon_put = word_cell polygon_cell (omega arith)

      pub step_put : (step : Step) → kind ≡ kind_number step.kind → node.polygon ≡ step.polygon → node.first ≡ step.first
          → node.second ≡ step.second → node.interval ≡ step.interval
          → step_in (put_floats floats i node f) after i ≡ step
      unfolding step_in
      step_put step a b c d e =
          rw (
            interval_put floats i node f space,
            word_cell kind_cell (omega arith),
            word_cell polygon_cell (omega arith),
            word_cell first_cell (omega arith),
            word_cell second_cell (omega arith),
            a,
            kind_back step.kind,
            b,
            c,
            d,
            e,
          )

-- ---- distance records lie beside the nodes

module _ (floats : List Float) (r : ℕ) (root : Point) (distance : Float) where
  pub record_length : length (record_put floats r root distance) ≡ length floats
  unfolding record_put
  record_length = puts_length floats (r * floats_per_place) record_xcell _

  pub record_beside : (i : ℕ) → SameFloats (record_put floats r root distance) floats i
  unfolding record_put float_at
  record_beside i k h = puts_other floats (r * floats_per_place) record_xcell _ (i * floats_per_place + k) nan (go (which r i))
    where
      go : (i < r) ⊎ ((i ≡ r) ⊎ (r < i))
          → (i * floats_per_place + k < r * floats_per_place + record_xcell) ⊎ (r * floats_per_place + record_xcell + 3 ≤ i * floats_per_place + k)
      go (inl l) = inl (omega arith)
      go (inr (inl e)) = inl (omega arith)
      go (inr (inr l)) = inr (omega arith)

module _ (floats : List Float) (r : ℕ) (distance : Float) where
  pub distance_length : length (distance_put floats r distance) ≡ length floats
  unfolding distance_put
  distance_length = length-set floats (r * floats_per_place + distance_cell) distance

  pub distance_beside : (i : ℕ) → SameFloats (distance_put floats r distance) floats i
  unfolding distance_put float_at
  distance_beside i k h = get_or-set_other floats (r * floats_per_place + distance_cell) (i * floats_per_place + k) distance nan (λ e. go (which r i) e)
    where
      go : (i < r) ⊎ ((i ≡ r) ⊎ (r < i)) → i * floats_per_place + k ≡ r * floats_per_place + distance_cell → ⊥
      go (inl l) e = omega arith
      go (inr (inl x)) e = omega arith
      go (inr (inr l)) e = omega arith

-- ---- how many places

pub places_room : (w : Work) {n : ℕ} → n ≡ places_in w → Room n w
unfolding places_in
places_room w e = record { floats_room = omega (arith, e); words_room = omega (arith, e); queue_room = omega (arith, e); few = omega (arith, e) }
