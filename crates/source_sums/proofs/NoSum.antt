-- Where no byte of a file is a K's none of its commands is one, since a command is read by its first byte; and so its task has no sum.
-- Assumes nothing.
use mathlib.Core.Path.{◌≡◌, refl, sym, ap, ◌∙◌, subst}
use mathlib.Core.Bool.{Bool, true, false, false≢true, cond, ◌||◌}
use mathlib.Core.List.{List, [], ◌∷◌}
use Prim.Native.Nat.{ℕ, zero, suc}
use native.Mathlib.Omega.{arith}
use borrow.Author.Tests.{eq-eqb, ne_eqb}
use lib.Dec.{eqb}
use lib.ListN.{length, get_or, drop}
use Rattle.std.specs.List.{list_any}
use Rattle.commands.specs.Table.{size_of_byte, letter_k}
use Rattle.commands.specs.Encoding.{byte_of, NoRefusal}
use Rattle.commands.specs.Reading.{command_at}
use Rattle.commands.specs.declared.Command.{Command}
use Rattle.commands.proofs.Commands.{row-or-refusal}
use Rattle.commands.proofs.Encoding.{byte-read}
use Rattle.model.specs.Limits.{Limits, source_limits}
use Rattle.model.specs.ReadingState.{ReadingState, Progress, Going, Ended, Stopped, begin}
use Rattle.model.specs.Rules.{take_of}
use Rattle.model.specs.Reading.{remainders, gather, commands_along, commands_of}
use Rattle.model.specs.Decoding.{those}
use Rattle.model.specs.Sums.{sums_of_source}
use Rattle.model.proofs.SumsAccepted.{task-sums}
use Rattle.source_sums.specs.Found.{has_byte, task_of}
use Rattle.source_sums.proofs.Own.{none_of}

-- ---- whether a byte stands among bytes, in the words of a slice's `contains`
pub byte-contained : (b : ℕ) (file : List ℕ) → list_any (λ x. eqb x b) file ≡ has_byte b file
byte-contained b [] = refl
byte-contained b (x ∷ xs) = go (eqb x b) (byte-contained b xs)
  where
    go : (t : Bool) → list_any (λ y. eqb y b) xs ≡ has_byte b xs → (t || list_any (λ y. eqb y b) xs) ≡ cond t true (has_byte b xs)
    go true e = refl
    go false e = e

-- ---- where no byte is a K's the first is not, and none of those behind
not_first : (s : List ℕ) → has_byte letter_k s ≡ false → get_or s 0 0 ≡ letter_k → ⊥
not_first [] h e = omega arith
not_first (x ∷ s) h e = false≢true (sym (rw (eq-eqb x letter_k e) at h))

behind : (n : ℕ) (s : List ℕ) → has_byte letter_k s ≡ false → has_byte letter_k (drop n s) ≡ false
behind zero s h = h
behind (suc n) [] h = h
behind (suc n) (x ∷ s) h = behind n s (by (eqb x letter_k) h)
  where
    by : (b : Bool) → cond b true (has_byte letter_k s) ≡ false → has_byte letter_k s ≡ false
    by true k = absurd (false≢true (sym k))
    by false k = k

-- so no K is read there, and none is among the commands of a file
no-sum-read : (s : List ℕ) → has_byte letter_k s ≡ false → eqb (byte_of (command_at s)) letter_k ≡ false
no-sum-read s h =
    row-or-refusal (λ (c : Command). c ≡ command_at s → eqb (byte_of c) letter_k ≡ false)
    (λ c r e. ne_eqb (byte_of c) letter_k (λ b. not_first s h (sym (byte-read s (subst NoRefusal e r)) ∙ ap byte_of (sym e) ∙ b)))
    (λ number e. refl) (command_at s) refl

none-along : (l : Limits) (p : ReadingState) (most : ℕ) (rest : List ℕ) → has_byte letter_k rest ≡ false
    → those letter_k (commands_along l p (remainders most rest)) ≡ []
unfolding commands_along remainders
none-along l p zero rest h = refl
none-along l p (suc most) rest h =
    let next = drop (size_of_byte (get_or rest 0 0)) rest in
    go (λ q. commands_along l q (remainders most next)) (take_of l p rest).state (take_of l p rest).progress
    (none-along l (take_of l p rest).state most next (behind (size_of_byte (get_or rest 0 0)) rest h))
  where
    go : (more : ReadingState → List Command) (q : ReadingState) (g : Progress) → those letter_k (more q) ≡ []
        → those letter_k (gather more (command_at rest) q g) ≡ []
    go more q Going k = rw (no-sum-read rest h) k
    go more q Ended k = refl
    go more q (Stopped number) k = refl

-- THE LAW
pub no-sum-in-file : (file : List ℕ) → has_byte letter_k file ≡ false → sums_of_source (task_of file) ≡ []
unfolding commands_of
no-sum-in-file file h =
    none_of (sums_of_source (task_of file))
    (omega (arith, task-sums (commands_of source_limits file), ap length (none-along source_limits begin (suc (length file)) file h)))
