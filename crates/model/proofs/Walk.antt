-- Commands that may follow one another, written one after another, are read as those commands, and the file is accepted.
-- Assumes nothing.
use mathlib.Core.Path.{◌≡◌, refl, ap, ◌∙◌}
use Prim.Native.Nat.{ℕ, zero, suc, ◌+◌, ◌≤◌, ◌<◌}
use native.Mathlib.Omega.{arith}
use mathlib.Core.Bool.{true}
use mathlib.Core.List.{List, [], ◌∷◌, ◌++◌, append_assoc}
use lib.ListN.{length, length-append}
use borrow.Author.Tests.{ne_eqb, eq-eqb}
use Rattle.integers.specs.All.{All}
use Rattle.commands.specs.Table.{size_of_byte}
use Rattle.commands.specs.declared.Command.{Command}
use Rattle.commands.specs.declared.Command.TheVariants.{End}
use Rattle.commands.specs.Encoding.{byte_of, encode, encode_all, Fits}
use Rattle.commands.proofs.Encoding.{drop-encode, read-encode}
use Rattle.model.specs.Limits.{Limits}
use Rattle.model.specs.ReadingState.{ReadingState, Going, begin}
use Rattle.model.specs.Rules.{allowed, tests_of, next_of, rule_of, take_of}
use Rattle.model.specs.Reading.{accepted_with, verdict_from, verdict_of, commands_from, commands_of, commands_along, verdict_along, remainders}
use Rattle.model.specs.Trail.{Trail, end_state}

-- ---- from commands to bytes and back
pub take-encode : (l : Limits) (p : ReadingState) (c : Command) (rest : List ℕ) → Fits c → allowed l p (byte_of c) ≡ true → take_of l p (encode c ++ rest) ≡ rule_of l p c
unfolding take_of
take-encode l p c rest o a = rw (ne_eqb (length (encode c ++ rest)) 0 (λ e. omega arith), a, read-encode c rest o) refl

module _ (l : Limits) where
  run-one : (len k : ℕ) (p : ReadingState) (at : ℕ) (c : Command) (rest : List ℕ) → Fits c → allowed l p (byte_of c) ≡ true → (rule_of l p c).progress ≡ Going
      → verdict_from l len (suc k) p at (encode c ++ rest) ≡ verdict_from l len k (rule_of l p c).state (at + size_of_byte (byte_of c)) rest
  unfolding remainders verdict_along
  run-one len k p at c rest o a g = rw (take-encode l p c rest o a, g, drop-encode c rest o) refl

  trace-one : (k : ℕ) (p : ReadingState) (c : Command) (rest : List ℕ) → Fits c → allowed l p (byte_of c) ≡ true → (rule_of l p c).progress ≡ Going
      → commands_from l (suc k) p (encode c ++ rest) ≡ c ∷ commands_from l k (rule_of l p c).state rest
  unfolding remainders commands_along
  trace-one k p c rest o a g = rw (take-encode l p c rest o a, g, drop-encode c rest o, read-encode c rest o) refl

  end-allowed : (p : ReadingState) → p.section ≡ 3 → allowed l p 90 ≡ true
  end-allowed p e = eq-eqb p.section 3 e

  pub run-trail : (cs : List Command) (len k : ℕ) (p : ReadingState) (at : ℕ) → length cs < k → All Fits cs → Trail l p cs
      → verdict_from l len k p at (encode_all cs ++ encode End) ≡ accepted_with (end_state l p cs)
  unfolding remainders verdict_along tests_of next_of
  run-trail [] len zero p at h o t = absurd (omega arith)
  run-trail [] len (suc k) p at h o (t, e) = rw (take-encode l p End [] (tt, tt) (end-allowed p t), e) refl
  run-trail (c ∷ cs) len zero p at h o t = absurd (omega arith)
  run-trail (c ∷ cs) len (suc k) p at h (o, os) (a, g, t) =
      ap (verdict_from l len (suc k) p at) (append_assoc (encode c) (encode_all cs) (encode End))
      ∙ run-one len k p at c (encode_all cs ++ encode End) o a g
      ∙ run-trail cs len k (rule_of l p c).state (at + size_of_byte (byte_of c)) (omega arith) os t

  pub trace-trail : (cs : List Command) (k : ℕ) (p : ReadingState) → length cs < k → All Fits cs → Trail l p cs → commands_from l k p (encode_all cs ++ encode End) ≡ cs
  unfolding remainders commands_along tests_of next_of
  trace-trail [] zero p h o t = absurd (omega arith)
  trace-trail [] (suc k) p h o (t, e) = rw (take-encode l p End [] (tt, tt) (end-allowed p t), e) refl
  trace-trail (c ∷ cs) zero p h o t = absurd (omega arith)
  trace-trail (c ∷ cs) (suc k) p h (o, os) (a, g, t) =
      ap (commands_from l (suc k) p) (append_assoc (encode c) (encode_all cs) (encode End))
      ∙ trace-one k p c (encode_all cs ++ encode End) o a g
      ∙ ap (λ (z : List Command). c ∷ z) (trace-trail cs k (rule_of l p c).state (omega arith) os t)

-- there are no more commands than bytes
pub count : (cs : List Command) → length cs ≤ length (encode_all cs)
count [] = omega arith
count (c ∷ cs) = omega (arith, length-append (encode c) (encode_all cs), count cs)

module _ (l : Limits) (cs : List Command) (o : All Fits cs) (t : Trail l begin cs) where
  few : length cs < suc (length (encode_all cs ++ encode End))
  few = omega (arith, count cs, length-append (encode_all cs) (encode End))

  pub trail-accepted : verdict_of l (encode_all cs ++ encode End) ≡ accepted_with (end_state l begin cs)
  unfolding verdict_of
  trail-accepted = run-trail l cs (length (encode_all cs ++ encode End)) (suc (length (encode_all cs ++ encode End))) begin 0 few o t

  pub trail-commands : commands_of l (encode_all cs ++ encode End) ≡ cs
  unfolding commands_of
  trail-commands = trace-trail l cs (suc (length (encode_all cs ++ encode End))) begin few o t
