-- The judge turn by turn, as a loop over the middle records goes: how it begins, what one record does, and how it ends. Assumes nothing.
use Prim.Native.Nat.{ℕ, suc, ◌+◌, ◌-◌, ◌*◌, ◌/◌, ◌%◌, ◌≤◌, ◌<◌}
use native.Mathlib.Omega.{arith}
use mathlib.Core.Path.{◌≡◌, refl, ap, ◌∙◌}
use mathlib.Core.Bool.{true, false, ◌&&◌}
use mathlib.Core.List.{List}
use borrow.Author.Tests.{eqb-true, leb-true}
use lib.Dec.{eqb, leb}
use lib.ListN.{length}
use Rattle.std.specs.Prelude.{Some, None, Ok, Err}
use Rattle.float.proofs.Tests.{and_true}
use Rattle.route.specs.declared.Step.{Step}
use Rattle.route.specs.declared.Fault.TheVariants.{Length, NotSeed, NotStep, NotEnd}
use Rattle.route.specs.World.{World}
use Rattle.route.specs.Record.{record_at, records}
use Rattle.route.specs.Judge.{same_bytes, length_right, find_step, onwards, judge_end, judge_from, judge_of}

-- a right length is whole records, of which the first and the last are two
pub length_gives : (file : List ℕ) → length_right file ≡ true
    → (2 ≤ length file / 32) × (length file / 32 ≤ 4097) × (length file ≡ length file / 32 * 32)
unfolding length_right records
length_gives file h =
    let a = and_true (eqb (length file % 32) 0) (leb 2 (length file / 32) && leb (length file / 32) 4097) h in
    let b = and_true (leb 2 (length file / 32)) (leb (length file / 32) 4097) a.1 in
    let z : length file % 32 ≡ 0 = eqb-true (length file % 32) 0 a.0 in
    (leb-true 2 (length file / 32) b.0, leb-true (length file / 32) 4097 b.1, omega arith)

module _ {Node : Type 0} (w : World Node) (file : List ℕ) where
  -- ---- how it begins

  pub begins_length : length_right file ≡ false → judge_of w file ≡ Err Length
  unfolding judge_of
  begins_length h = rw h

  pub begins_wrong : length_right file ≡ true → same_bytes (record_at file 0) w.seed_bytes ≡ false → judge_of w file ≡ Err NotSeed
  unfolding judge_of
  begins_wrong h k = rw (h, k)

  pub begins : length_right file ≡ true → same_bytes (record_at file 0) w.seed_bytes ≡ true → (last : ℕ) → length file / 32 ≡ last + 1
      → judge_of w file ≡ judge_from w file w.seed 1 (last - 1)
  unfolding judge_of records
  begins h k last e = let n : length file / 32 - 2 ≡ last - 1 = omega arith in rw (h, k, n)

  -- ---- one middle record

  pub goes_on : (node : Node) (i left : ℕ) (s : Step) → find_step (w.steps_from node) (record_at file i) ≡ Some s
      → judge_from w file node i (suc left) ≡ judge_from w file (w.enter node s) (i + 1) left
  unfolding judge_from onwards
  goes_on node i left s h = rw h

  pub stops : (node : Node) (i left : ℕ) → find_step (w.steps_from node) (record_at file i) ≡ None → judge_from w file node i (suc left) ≡ Err (NotStep i)
  unfolding judge_from onwards
  stops node i left h = rw h

  -- the same with the last record's number in place of what is left
  pub goes_on_to : (node : Node) (i last : ℕ) (s : Step) → i < last → find_step (w.steps_from node) (record_at file i) ≡ Some s
      → judge_from w file node i (last - i) ≡ judge_from w file (w.enter node s) (i + 1) (last - (i + 1))
  goes_on_to node i last s h e =
      let n : last - i ≡ suc (last - (i + 1)) = omega arith in ap (judge_from w file node i) n ∙ goes_on node i (last - (i + 1)) s e

  pub stops_at : (node : Node) (i last : ℕ) → i < last → find_step (w.steps_from node) (record_at file i) ≡ None
      → judge_from w file node i (last - i) ≡ Err (NotStep i)
  stops_at node i last h e = let n : last - i ≡ suc (last - (i + 1)) = omega arith in ap (judge_from w file node i) n ∙ stops node i (last - (i + 1)) e

  -- ---- the last record

  pub ends : (node : Node) (i : ℕ) → judge_from w file node i 0 ≡ judge_end w file node i
  unfolding judge_from
  ends node i = refl

  pub ends_at : (node : Node) (i last : ℕ) → last ≤ i → judge_from w file node i (last - i) ≡ judge_end w file node i
  ends_at node i last h = let n : last - i ≡ 0 = omega arith in ap (judge_from w file node i) n ∙ ends node i

  pub end_accepted : (node : Node) (i : ℕ) → w.in_goal node ≡ true → same_bytes (record_at file i) (w.end_bytes node) ≡ true
      → judge_end w file node i ≡ Ok tt
  unfolding judge_end
  end_accepted node i g e = simp (g, e)

  pub end_outside : (node : Node) (i : ℕ) → w.in_goal node ≡ false → judge_end w file node i ≡ Err (NotEnd i)
  unfolding judge_end
  end_outside node i g = simp g

  pub end_wrong : (node : Node) (i : ℕ) → w.in_goal node ≡ true → same_bytes (record_at file i) (w.end_bytes node) ≡ false
      → judge_end w file node i ≡ Err (NotEnd i)
  unfolding judge_end
  end_wrong node i g e = simp (g, e)
