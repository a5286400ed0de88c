-- The loop over a file's commands: the answer to the whole file is the answer from the state and the offset reached. How many commands are
-- allowed for is left open but for being enough, so nothing has to be said of how long they are.
-- Assumes nothing.
use mathlib.Core.Path.{◌≡◌, refl, sym, ap, ◌∙◌}
use mathlib.Core.List.{List}
use Prim.Native.Nat.{ℕ, zero, suc, ◌+◌, ◌-◌, ◌<◌, ◌≤◌}
use native.Mathlib.Omega.{arith}
use lib.ListN.{length, get_or, take, drop, drop_of_length-le, length-drop}
use lib.Seq.{drop-drop, take_all}
use Rattle.commands.specs.Table.{size_of_byte}
use Rattle.model.specs.Limits.{Limits}
use Rattle.model.specs.ReadingState.{ReadingState, Taken, Going, Ended, Stopped, begin}
use Rattle.model.specs.Rules.{take_of}
use Rattle.model.specs.Reading.{verdict_from, verdict_of, refused_at, ended_at, verdict_along, remainders}

abbrev pub Runs : Limits → List ℕ → ReadingState → ℕ → Type 0
Runs l file p at = (most : ℕ) × (length file < most + at) × (verdict_of l file ≡ verdict_from l (length file) most p at (drop at file))

pub runs-begin : (l : Limits) (file : List ℕ) → Runs l file begin 0
unfolding verdict_of
runs-begin l file = (suc (length file), omega arith, refl)

pub runs-out : (l : Limits) (file : List ℕ) (p : ReadingState) (at : ℕ) → length file ≤ at → Runs l file p at
    → refused_at 2 at (length file) ≡ verdict_of l file
unfolding remainders verdict_along take_of
runs-out l file p at h (zero, b, e) = sym e
runs-out l file p at h (suc most, b, e) = sym (e ∙ rw (drop_of_length-le file h))

-- what `&s[a..]` holds
pub tail : (s : List ℕ) (a : ℕ) → take (length s - a) (drop a s) ≡ drop a s
tail s a = take_all (length s - a) (drop a s) (omega (arith, length-drop a s))

-- t comes of the command at the front of what remains
module _ (l : Limits) (file : List ℕ) (p : ReadingState) (at : ℕ) (h : at < length file) {rest : List ℕ} (r : rest ≡ drop at file) {t : Taken}
    (s : t ≡ take_of l p rest) where
  taken : t ≡ take_of l p (drop at file)
  taken = s ∙ ap (take_of l p) r

  pub runs-next : (n : ℕ) → n ≡ size_of_byte (get_or rest 0 0) → 0 < n → t.progress ≡ Going → Runs l file p at → Runs l file t.state (at + n)
  unfolding remainders verdict_along
  runs-next n z d o (zero, b, e) = absurd (omega arith)
  runs-next n z d o (suc most, b, e) =
      let size : n ≡ size_of_byte (get_or (drop at file) 0 0) = z ∙ ap (λ (x : List ℕ). size_of_byte (get_or x 0 0)) r in
      (most, omega arith, e ∙ rw (← taken, o, ← size, drop-drop n at file))

  pub runs-ended : t.progress ≡ Ended → Runs l file p at → ended_at t.state at (length rest) ≡ verdict_of l file
  unfolding remainders verdict_along
  runs-ended o (zero, b, e) = absurd (omega arith)
  runs-ended o (suc most, b, e) = sym (e ∙ rw (← taken, o, ← r))

  pub runs-stopped : (n : ℕ) → t.progress ≡ Stopped n → Runs l file p at → refused_at n at (length file) ≡ verdict_of l file
  unfolding remainders verdict_along
  runs-stopped n o (zero, b, e) = absurd (omega arith)
  runs-stopped n o (suc most, b, e) = sym (e ∙ rw (← taken, o))
