-- The start of an accepted task, with the rows of its actions, is a state within the bounds of the task.
-- Assumes nothing.
use mathlib.Core.Path.{◌≡◌, ap, ◌∙◌}
use Prim.Native.Nat.{ℕ}
use mathlib.Core.Bool.{true}
use mathlib.Core.List.{List}
use lib.ListN.{length, take}
use lib.IntN.{ℤ}
use Rattle.answers.specs.Answer.{given}
use Rattle.model.specs.Tasks.{SourceTask}
use Rattle.model.specs.TaskOk.{SourceTaskOk}
use Rattle.model.specs.Decoding.{read_source}
use Rattle.model.specs.Steps.{integer_at, lower_bounds, upper_bounds, sizes_of, source_start, sound_source}
use Rattle.model.specs.Judging.{declared_part}
use Rattle.model.proofs.GuardedPairing.{within-bounds-is-sound}
use Rattle.model.proofs.AcceptedSource.{accepted}
use Rattle.file_declarations.specs.declared.Declared.{Declared}
use Rattle.file_declarations.specs.Holding.{HoldsSource}
use Rattle.source_step.specs.Step.{state, Shaped}
use Rattle.source_step.specs.Ready.{Ready, Prepared, Standing}

module _ {t : SourceTask} {d : Declared} {lower upper start : List ℤ} {sizes values : List ℕ} (H : HoldsSource t d lower upper start sizes values) where
  pub start-shaped : Shaped d.variables d.modes start values sizes
  start-shaped = record { variables_few = H.variables_few; modes_few = H.modes_few; values_long = H.room.start_long; modes_long = H.room.values_long; sizes_long = H.room.sizes_long }

  start-sound : SourceTaskOk t → sound_source (integer_at (take d.variables lower)) (integer_at (take d.variables upper)) (take d.modes sizes) (declared_part d.variables d.modes (state start values)) ≡ true
  start-sound ok =
      let A = accepted t ok in
      rw (H.lowers_are, H.uppers_are, H.sizes_are)
      (ap (sound_source (lower_bounds t) (upper_bounds t) (sizes_of t.modes)) H.start_is
      ∙ within-bounds-is-sound (length t.variables) (length t.modes) (lower_bounds t) (upper_bounds t) (sizes_of t.modes) (source_start t) (A.values_length, A.modes_length, A.good, A.below))

  pub starts : {count : ℕ} {marks : List (List ℕ)} {numbers : List (List ℤ)} → Ready t count marks numbers d.variables lower upper d.modes sizes → Standing count marks numbers d.variables lower upper d.modes sizes start values
  starts R = record { task = t; ready = R; shaped = start-shaped; sound = start-sound R.ok }

  pub prepared-starts : {file : List ℕ} {count : ℕ} {marks : List (List ℕ)} {numbers : List (List ℤ)} → read_source file ≡ given t → Prepared file count d.variables lower upper d.modes sizes marks numbers
      → Standing count marks numbers d.variables lower upper d.modes sizes start values
  prepared-starts e P = starts (P.ready t e)
