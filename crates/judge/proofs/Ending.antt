-- The last record, test by test. Rests on the end record's bytes. Assumes nothing.
use Prim.Native.Nat.{ℕ}
use mathlib.Core.Path.{◌≡◌, refl, ap, ◌∙◌}
use mathlib.Core.Bool.{Bool, true, false}
use mathlib.Core.List.{List}
use borrow.Author.Tests.{eq-eqb, ne_eqb}
use Rattle.records.specs.declared.Record.{Record}
use Rattle.std.specs.Prelude.{Ok, Err}
use Rattle.route.specs.declared.Fault.TheVariants.{NotEnd}
use Rattle.route.specs.Record.{record_at, end_bytes}
use Rattle.records.specs.Records.{record_bytes, end_record}
use Rattle.route.specs.Judge.{same_bytes, judge_end}
use Rattle.records.proofs.Stored.{end_tested}
use Rattle.stored.specs.Stored.{Floor}
use Rattle.steps.specs.declared.Node.{Node}
use Rattle.steps.specs.declared.Trip.{Trip}
use Rattle.steps.specs.declared.Ending.{Ending}
use Rattle.steps.specs.World.{ending_of, is_in_goal, world_in}
use Rattle.judge.specs.Verdict.{end_of}

module _ (trip : Trip) (node : Node) (file : List ℕ) (i : ℕ) where
  abbrev last : Ending
  last = ending_of trip.goal node

  pub end_outside : (node.polygon ≡ trip.to → ⊥) → end_of trip node file i ≡ Err (NotEnd i)
  unfolding end_of is_in_goal
  end_outside n = rw (ne_eqb node.polygon trip.to n)

  module _ (inside : node.polygon ≡ trip.to) {ending : Ending} {end : Record} {b : Bool} (e : ending ≡ last)
      (r : end ≡ end_record ending.points trip.goal ending.length) (t : b ≡ same_bytes (record_at file i) (record_bytes end)) where
    tested : same_bytes (record_at file i) (end_bytes last.points trip.goal last.length) ≡ b
    tested =
        end_tested (record_at file i) last.points trip.goal last.length
        (r ∙ ap (λ (x : Ending). end_record x.points trip.goal x.length) e) t

    pub end_is : b ≡ true → end_of trip node file i ≡ Ok tt
    unfolding end_of is_in_goal
    end_is h = rw (eq-eqb node.polygon trip.to inside, tested, h)

    pub end_is_not : b ≡ false → end_of trip node file i ≡ Err (NotEnd i)
    unfolding end_of is_in_goal
    end_is_not h = rw (eq-eqb node.polygon trip.to inside, tested, h)

  -- it is the judge's, in the world of any floor
  pub end_in_world : (f : Floor) → judge_end (world_in f trip) file node i ≡ end_of trip node file i
  unfolding judge_end world_in end_of
  end_in_world f = refl
