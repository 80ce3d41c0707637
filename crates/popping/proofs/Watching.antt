-- How a pop is noticed: each way through the code is the definition's. Assumes nothing.
use Prim.Native.Nat.{ℕ, ◌+◌}
use mathlib.Core.Path.{◌≡◌, sym, ap, ◌∙◌}
use mathlib.Core.Bool.{Bool, true, false, cond}
use mathlib.Core.List.{List}
use lib.Dec.{ltb}
use lib.Ieee.{Float, lt}
use Rattle.seen.specs.Table.{laid_out}
use Rattle.machine.specs.declared.Stall.{Stall}
use Rattle.machine.specs.Search.{patience, noticed, table_after}

module _ (s : Stall) (value : Float) where
  abbrev risen : Stall
  risen = record { last_f = value; count = 0; recording = false }

  abbrev patient : Stall
  patient = record { last_f = s.last_f; count = s.count + 1; recording = ltb patience (s.count + 1) }

  pub notices_nothing : s.recording ≡ true → s ≡ noticed s value
  unfolding noticed
  notices_nothing e = ap (λ (b : Bool). cond b s (cond (lt s.last_f value) risen patient)) (sym e)

  module _ (e : s.recording ≡ false) where
    notices : cond (lt s.last_f value) risen patient ≡ noticed s value
    unfolding noticed
    notices = ap (λ (b : Bool). cond b s (cond (lt s.last_f value) risen patient)) (sym e)

    pub notices_rise : lt s.last_f value ≡ true → risen ≡ noticed s value
    notices_rise d = ap (λ (b : Bool). cond b risen patient) (sym d) ∙ notices

    pub notices_stay : lt s.last_f value ≡ false → patient ≡ noticed s value
    notices_stay d = ap (λ (b : Bool). cond b risen patient) (sym d) ∙ notices

-- ---- the table

module _ (before after : Stall) (table : List ℕ) where
  pub table_recorded : before.recording ≡ true → table ≡ table_after before after table
  unfolding table_after
  table_recorded e = ap (λ (b : Bool). cond b table (cond after.recording (laid_out table) table)) (sym e)

  module _ (e : before.recording ≡ false) where
    begins : cond after.recording (laid_out table) table ≡ table_after before after table
    unfolding table_after
    begins = ap (λ (b : Bool). cond b table (cond after.recording (laid_out table) table)) (sym e)

    pub table_laid : after.recording ≡ true → laid_out table ≡ table_after before after table
    table_laid d = ap (λ (b : Bool). cond b (laid_out table) table) (sym d) ∙ begins

    pub table_waits : after.recording ≡ false → table ≡ table_after before after table
    table_waits d = ap (λ (b : Bool). cond b (laid_out table) table) (sym d) ∙ begins
