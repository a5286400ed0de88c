-- What is read of an accepted file is its task: the actions, the goal, what is declared.
-- Assumes nothing.
use mathlib.Core.Path.{◌≡◌, refl, sym, ap, ◌∙◌, subst}
use Prim.Native.Nat.{ℕ, ◌≤◌}
use native.Mathlib.Omega.{arith}
use mathlib.Core.List.{List}
use lib.ListN.{length, replicate, length-replicate, length-map}
use lib.IntN.{ℤ, pos}
use Rattle.integers.specs.Numbers.{Bytes}
use Rattle.answers.specs.Answer.{given}
use Rattle.model.specs.Tasks.{SourceTask}
use Rattle.model.specs.Limits.{source_limits}
use Rattle.model.specs.Reading.{Verdict as FileVerdict, Accepted, Rejected, verdict_of, commands_of}
use Rattle.model.specs.Decoding.{actions_of, source_action_of, source_task_of, on_verdict, read_source}
use Rattle.model.proofs.AcceptedTrail.{Is}
use Rattle.model.proofs.AcceptedOk.{accepted-source-ok}
use Rattle.model.proofs.ActionsAndGoal.{verdict-counts-actions}
use Rattle.file_actions.specs.Places.{BytesOfAction}
use Rattle.file_actions.proofs.Refusals.{given-of}
use Rattle.file_declarations.specs.declared.Declared.{Declared}
use Rattle.file_declarations.specs.Stored.{SourceStored}
use Rattle.file_declarations.specs.Holding.{SourceRoom}
use Rattle.file_declarations.proofs.Accepted.{source-variables, source-modes}
use Rattle.source_step.specs.Step.{Kept}
use Rattle.source_step.specs.Accepted.{AcceptedWith}

-- an accepted file has a task, with so many actions
module _ (file : List ℕ) (count : ℕ) where
  abbrev pub task-of : SourceTask
  task-of = source_task_of (commands_of source_limits file)

  pub accepted-task : AcceptedWith (verdict_of source_limits file) count → read_source file ≡ given task-of
  accepted-task = go (verdict_of source_limits file)
    where
      go : (v : FileVerdict) → AcceptedWith v count → on_verdict v task-of ≡ given task-of
      go (Accepted a b c) h = refl
      go (Rejected a b) h = absurd h

  pub counted-task : Bytes file → AcceptedWith (verdict_of source_limits file) count → (t : SourceTask) → read_source file ≡ given t → count ≡ length t.actions
  counted-task bytes h t e = go (verdict_of source_limits file) refl h
    where
      same : task-of ≡ t
      same = cc (accepted-task h, e)

      go : (v : FileVerdict) → verdict_of source_limits file ≡ v → AcceptedWith v count → count ≡ length t.actions
      go (Accepted a b c) q k =
          sym k ∙ verdict-counts-actions source_limits file bytes (subst Is (sym q) tt) a b c q
          ∙ sym (length-map (actions_of (commands_of source_limits file)) source_action_of) ∙ ap (λ (u : SourceTask). length u.actions) same
      go (Rejected a b) q k = absurd k

  pub few-actions : Bytes file → AcceptedWith (verdict_of source_limits file) count → count ≤ 32
  few-actions bytes h =
      let e = accepted-task h in
      omega (arith, counted-task bytes h task-of e, (accepted-source-ok file task-of e).actions_few)

-- a file one of whose actions has these bytes is accepted
module _ (file : List ℕ) (k : ℕ) {bytes : List ℕ} (of : BytesOfAction source_limits file k bytes) where
  pub accepted-by : AcceptedWith (verdict_of source_limits file) (given-of source_limits file k of).actions
  accepted-by = let g = given-of source_limits file k of in subst (λ (v : FileVerdict). AcceptedWith v g.actions) g.accepted refl

  pub task-by : read_source file ≡ given (task-of file 0)
  task-by = accepted-task file (given-of source_limits file k of).actions accepted-by

-- ---- what is declared, read into arrays of zeros
pub equal-room : (a b c : ℤ) (d e : ℕ) → SourceRoom (replicate 8 a) (replicate 8 b) (replicate 8 c) (replicate 4 d) (replicate 4 e)
equal-room a b c d e = record { lower_long = length-replicate 8 a; upper_long = length-replicate 8 b; start_long = length-replicate 8 c; sizes_long = length-replicate 4 d; values_long = length-replicate 4 e }

pub zero_room : SourceRoom (replicate 8 (pos 0)) (replicate 8 (pos 0)) (replicate 8 (pos 0)) (replicate 4 0) (replicate 4 0)
zero_room = equal-room (pos 0) (pos 0) (pos 0) 0 0

pub zeros-kept : {file : List ℕ} {r : Declared} {lower upper start : List ℤ} {sizes modes : List ℕ} → SourceStored file (replicate 8 (pos 0)) (replicate 8 (pos 0)) (replicate 8 (pos 0)) (replicate 4 0) (replicate 4 0) r lower upper start sizes modes
    → Kept r.variables r.modes (replicate 8 (pos 0)) (replicate 4 0) start modes
zeros-kept s = record { values_kept = (source-variables zero_room s).all_starts.rest; modes_kept = (source-modes zero_room s).all_values.rest }
