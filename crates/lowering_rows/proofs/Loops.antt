-- Loops that write the bytes of n elements of which element i is g i, f of each.
-- Assumes nothing.
use mathlib.Core.Path.{◌≡◌, sym, ap}
use Prim.Native.Nat.{ℕ, ◌+◌, ◌≤◌, ◌<◌}
use native.Mathlib.Omega.{arith}
use mathlib.Core.List.{List, flat_map}
use lib.ListN.{length}
use Rattle.lists.specs.Each.{tabulate}
use Rattle.lists.specs.Writing.{Room, Wrote}
use Rattle.lists.proofs.Each.{length-tabulate, get_or-tabulate, take-tabulate}
use Rattle.lists.proofs.Loops.{there-all}
use Rattle.lists.proofs.Writing.{room_as, wrote_as}
use Rattle.lists.proofs.WritingLoops.{Going, going_start, going-room, going_next, going_end, going-long}

-- into `old` from index `at` on: the output is `out`, the next byte goes to `place`, and the next element is the one numbered i
pub record Writing {A : Type 0} (f : A → List ℕ) (g : ℕ → A) (n : ℕ) (old : List ℕ) (at : ℕ) (out : List ℕ) (place i : ℕ) : Type 0 where
  pub going : Going f n (tabulate n g) n old at out place i

module _ {A : Type 0} {f : A → List ℕ} {g : ℕ → A} {n : ℕ} {old : List ℕ} {at : ℕ} where
  pub writing_start : Writing f g n old at old at 0
  writing_start = record { going = going_start (there-all n (tabulate n g) (omega (arith, length-tabulate n g))) }

  module _ {out : List ℕ} {place i : ℕ} where
    -- what the writer of element i requires
    pub writing-room : Writing f g n old at out place i → i < n → Room old at (flat_map f (tabulate n g)) → Room out place (f (g i))
    writing-room w h r = room_as (ap f (get_or-tabulate n g i (g i) h)) (going-room (g i) w.going h (room_as (ap (flat_map f) (sym (take-tabulate n g))) r))

    pub writing-next : {after : List ℕ} {next : ℕ} → Writing f g n old at out place i → i < n → Wrote out place (f (g i)) after next → Writing f g n old at after next (i + 1)
    writing-next w h e = record { going = going_next (g i) w.going h (wrote_as (ap f (sym (get_or-tabulate n g i (g i) h))) e) }

    pub writing-end : Writing f g n old at out place i → n ≤ i → Wrote old at (flat_map f (tabulate n g)) out place
    writing-end w h = wrote_as (ap (flat_map f) (take-tabulate n g)) (going_end w.going h)

    pub writing-long : Writing f g n old at out place i → length out ≡ length old
    writing-long w = going-long w.going
