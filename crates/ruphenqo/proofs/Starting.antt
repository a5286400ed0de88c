-- What is read of an accepted file into zeros: what its task declares, in front of zeros.
-- Assumes nothing.
use mathlib.Core.Path.{◌≡◌, refl, sym, ap, ap₂, ◌∙◌}
use Prim.Native.Nat.{ℕ, ◌≤◌}
use native.Mathlib.Omega.{arith}
use mathlib.Core.List.{List, map, ◌++◌}
use lib.ListN.{length, drop, replicate, length-map, take-append-drop}
use lib.IntN.{ℤ, pos}
use Rattle.answers.specs.Answer.{given, refused}
use Rattle.model.specs.Tasks.{SourceVariable, SourceTask, RestrictedTask}
use Rattle.model.specs.Limits.{source_limits, restricted_limits}
use Rattle.model.specs.Reading.{Verdict, Accepted, Rejected, verdict_of, commands_of}
use Rattle.model.specs.Decoding.{on_verdict, source_task_of, restricted_task_of, read_source, read_restricted}
use Rattle.model.specs.Steps.{restricted_start}
use Rattle.model.specs.TaskOk.{SourceTaskOk, RestrictedTaskOk}
use Rattle.model.proofs.AcceptedOk.{accepted-source-ok, accepted-restricted-ok}
use Rattle.file_declarations.specs.declared.Declared.{Declared}
use Rattle.file_declarations.specs.Stored.{Column, SourceStored, RestrictedStored}
use Rattle.file_declarations.proofs.Column.{Filled, column-all}
use Rattle.file_declarations.proofs.Declarations.{source-declares, restricted-declares}
use Rattle.ruphenqo.specs.Told.{over, state_of, state_over}
use Rattle.ruphenqo.specs.Start.{declares_of, declared_by, declares_over, start_source, start_restricted}

-- ---- a file that is refused, and one that is accepted
module _ (file : List ℕ) where
  pub source-start-refused : {number place : ℕ} → Rejected number place ≡ verdict_of source_limits file → start_source file ≡ refused number place
  source-start-refused e = rw (← e) refl

  pub restricted-start-refused : {number place : ℕ} → Rejected number place ≡ verdict_of restricted_limits file
      → start_restricted file ≡ refused number place
  restricted-start-refused e = rw (← e) refl

  abbrev pub source_task : SourceTask
  source_task = source_task_of (commands_of source_limits file)

  abbrev pub restricted_task : RestrictedTask
  restricted_task = restricted_task_of (commands_of restricted_limits file)

  source-read : {v m a : ℕ} → Accepted v m a ≡ verdict_of source_limits file → read_source file ≡ given source_task
  source-read e = sym (ap (λ (v : Verdict). on_verdict v source_task) e)

  restricted-read : {v m a : ℕ} → Accepted v m a ≡ verdict_of restricted_limits file → read_restricted file ≡ given restricted_task
  restricted-read e = sym (ap (λ (v : Verdict). on_verdict v restricted_task) e)

  pub source-started : {v m a : ℕ} → Accepted v m a ≡ verdict_of source_limits file → start_source file ≡ given (declared_by source_task)
  source-started e = rw (source-read e) refl

  pub restricted-started : {v m a : ℕ} → Accepted v m a ≡ verdict_of restricted_limits file → start_restricted file ≡ given (restricted_start restricted_task)
  restricted-started e = rw (restricted-read e) refl

-- ---- an array from the front of which no more was stored than it has room for
laid : {A : Type 0} {old xs : List A} {n : ℕ} {after : List A} → Column old 0 xs n after → (ys : List A) → xs ≡ ys → length ys ≤ length old
    → after ≡ over old ys
laid {A} {old} {xs} {n} {after} c ys e few =
    let f : Filled n ys old after = column-all c e few in
    sym (take-append-drop n after) ∙ ap₂ (λ (front rest : List A). front ++ rest) f.front (f.rest ∙ ap (λ (k : ℕ). drop k old) f.count)

each_laid : {X A : Type 0} (f : X → A) {old : List A} {xs : List X} {n : ℕ} {after : List A} → Column old 0 (map f xs) n after
    → (ys : List X) → xs ≡ ys → length ys ≤ length old → after ≡ over old (map f ys)
each_laid f c ys e few = laid c (map f ys) (ap (map f) e) (omega (arith, few, length-map ys f))

module _ (file : List ℕ) {v m a : ℕ} (accepted : Accepted v m a ≡ verdict_of source_limits file)
    {r : Declared} {lower upper start : List ℤ} {sizes modes : List ℕ}
    (s : SourceStored file (replicate 8 (pos 0)) (replicate 8 (pos 0)) (replicate 8 (pos 0)) (replicate 4 0) (replicate 4 0)
    r lower upper start sizes modes) where
  abbrev t : SourceTask
  t = source_task file

  ok : SourceTaskOk t
  ok = accepted-source-ok file t (source-read file accepted)

  pub source-laid : declares_of (state_of start modes) lower upper sizes
      ≡ declares_over (state_of (replicate 8 (pos 0)) (replicate 4 0)) (declared_by (source_task file))
  source-laid =
      let (vs, ms) = source-declares file t (source-read file accepted) in
      let values-are = each_laid (λ (v : SourceVariable). v.start) s.all.starts_are t.variables vs ok.variables_few in
      let modes-are = each_laid (λ (m : ℕ × ℕ). m.1) s.all.values_are t.modes ms ok.modes_few in
      let lowers-are = each_laid (λ (v : SourceVariable). v.lower) (s.all.lowers_are refl) t.variables vs ok.variables_few in
      let uppers-are = each_laid (λ (v : SourceVariable). v.upper) (s.all.uppers_are refl) t.variables vs ok.variables_few in
      let sizes-are = each_laid (λ (m : ℕ × ℕ). m.0) s.all.sizes_are t.modes ms ok.modes_few in
      λ i. declares_of (state_of (values-are i) (modes-are i)) (lowers-are i) (uppers-are i) (sizes-are i)

module _ (file : List ℕ) {v m a : ℕ} (accepted : Accepted v m a ≡ verdict_of restricted_limits file)
    {r : Declared} {start : List ℤ} {sizes modes : List ℕ}
    (s : RestrictedStored file (replicate 64 (pos 0)) (replicate 8 0) (replicate 8 0) r start sizes modes) where
  pub restricted-laid : state_of start modes ≡ state_over (state_of (replicate 64 (pos 0)) (replicate 8 0)) (restricted_start (restricted_task file))
  restricted-laid =
      let ok : RestrictedTaskOk (restricted_task file) = accepted-restricted-ok file (restricted_task file) (restricted-read file accepted) in
      let (zs, ms) = restricted-declares file (restricted_task file) (restricted-read file accepted) in
      ap₂ state_of (laid s.all.starts_are (restricted_task file).starts zs ok.starts_few)
      (each_laid (λ (m : ℕ × ℕ). m.1) s.all.values_are (restricted_task file).modes ms ok.modes_few)
