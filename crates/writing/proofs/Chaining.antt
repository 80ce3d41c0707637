-- Walking the chain of parents from its end: what is left to write after each record. Rests on specs/Writing. Assumes nothing.
use Prim.Native.Nat.{ℕ, zero, suc, ◌+◌, ◌-◌, ◌*◌, ◌≤◌, ◌<◌}
use native.Mathlib.Omega.{arith}
use mathlib.Core.Path.{◌≡◌, refl, sym, ap, ◌∙◌}
use mathlib.Core.List.{List}
use lib.Ieee.{Float}
use lib.ListN.{length}
use Rattle.records.specs.declared.Record.{Record}
use Rattle.route.specs.declared.Step.{Step}
use Rattle.route.specs.Record.{step_bytes, put_record}
use Rattle.records.specs.Records.{step_record, record_bytes}
use Rattle.records.proofs.Stored.{step_record_bytes, put_keeps_length}
use Rattle.places.specs.Layout.{step_in, parent_in}
use Rattle.writing.specs.Writing.{put_chain, Row, ChainLies}

module _ (floats : List Float) (words : List ℕ) where
  pub row_of : (k place : ℕ) → 0 < k → ChainLies floats words k place → Row floats words place
  row_of zero place l h = absurd (omega arith)
  row_of (suc k) place l h = h.0

  lies_on : (k place : ℕ) → 0 < k → ChainLies floats words k place → ChainLies floats words (k - 1) (parent_in words place)
  lies_on zero place l h = absurd (omega arith)
  lies_on (suc k) place l h = let e : suc k - 1 ≡ k = omega arith in rw e h.1

  chain_turn : (k place : ℕ) (out : List ℕ) → 0 < k
      → put_chain floats words k place out ≡ put_chain floats words (k - 1) (parent_in words place) (put_record out k (step_bytes (step_in floats words place)))
  unfolding put_chain
  chain_turn zero place out l = absurd (omega arith)
  chain_turn (suc k) place out l = let e : suc k - 1 ≡ k = omega arith in rw e

  chain_done : (k place : ℕ) (out : List ℕ) → k ≤ 0 → put_chain floats words k place out ≡ out
  unfolding put_chain
  chain_done zero place out l = refl
  chain_done (suc k) place out l = absurd (omega arith)

  -- after some records of the chain that ends at i
  pub record Chaining (depth i : ℕ) (first : List ℕ) (out : List ℕ) (place k : ℕ) : Type 0 where
    pub left : put_chain floats words depth i first ≡ put_chain floats words k place out
    pub lies : ChainLies floats words k place
    pub room : (k + 1) * 32 ≤ length out
    pub same : length out ≡ length first

  module _ (depth i : ℕ) (first : List ℕ) where
    pub chaining_begins : ChainLies floats words depth i → (depth + 1) * 32 ≤ length first → Chaining depth i first first i depth
    chaining_begins h r = record { left = refl; lies = h; room = r; same = refl }

    pub chaining_goes_on : (out : List ℕ) (place k : ℕ) → Chaining depth i first out place k → 0 < k
        → {step : Step} {put : Record} {after : List ℕ} {parent : ℕ} → step ≡ step_in floats words place → put ≡ step_record step
        → after ≡ put_record out k (record_bytes put) → parent ≡ parent_in words place → Chaining depth i first after parent (k - 1)
    chaining_goes_on out place k h l {step} {put} {after} {parent} a b c d =
        let bytes : record_bytes put ≡ step_bytes (step_in floats words place) = ap record_bytes b ∙ step_record_bytes step ∙ ap step_bytes a in
        let now : after ≡ put_record out k (step_bytes (step_in floats words place)) = c ∙ ap (put_record out k) bytes in
        let long : length after ≡ length out = ap length c ∙ put_keeps_length out k (record_bytes put) in
        record {
          left = h.left ∙ rw (now, d) (chain_turn k place out l);
          lies = rw d (lies_on k place l h.lies);
          room = omega (arith, long, h.room, l);
          same = long ∙ h.same;
        }

    pub chaining_ends : (out : List ℕ) (place k : ℕ) → Chaining depth i first out place k → k ≤ 0 → out ≡ put_chain floats words depth i first
    chaining_ends out place k h l = sym (h.left ∙ chain_done k place out l)
