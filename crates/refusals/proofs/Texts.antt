-- The text of a number that is none of those with a text.
-- Assumes nothing.
use mathlib.Core.Path.{◌≡◌, sym, ap, ◌∙◌, subst}
use Prim.Native.Nat.{ℕ, ◌≤◌}
use native.Mathlib.Omega.{arith}
use mathlib.Core.List.{List}
use lib.ListN.{length, get_or-eq_default}
use Rattle.std.specs.Prelude.{◌≢◌, Result}
use Rattle.answers.specs.Answer.{given}
use Rattle.answers.specs.Lent.{Lent}
use Rattle.answers.specs.Refusals.{number_of}
use Rattle.answers.specs.declared.Reason.{Reason}
use Rattle.answers.specs.declared.Reason.TheVariants.{NotAllowed, CutShort, BytesBehind, OverLimit, Undeclared, OutOfRange, NamedTwice}
use Rattle.answers.specs.declared.Reason.TheVariants.{OutputShort, OverMillion, PlanLength, NoAction, DoesNotApply, GoalNotMet, SumWithoutTerm}
use Rattle.answers.specs.declared.Refusal.{Refusal}
use Rattle.refusals.specs.Texts.{bytes_of_text, texts, unknown, refusal_text}

-- a number that is not 0 and no reason's is past them all
pub past : (number : ℕ) → number ≢ 0 → ((reason : Reason) → number ≢ number_of reason) → length texts ≤ number
past number zero other =
    omega (
      arith,
      zero,
      other NotAllowed,
      other CutShort,
      other BytesBehind,
      other OverLimit,
      other Undeclared,
      other OutOfRange,
      other NamedTwice,
      other OutputShort,
      other OverMillion,
      other PlanLength,
      other NoAction,
      other DoesNotApply,
      other GoalNotMet,
      other SumWithoutTerm,
    )

pub text-unknown : (number : ℕ) → length texts ≤ number → refusal_text number ≡ bytes_of_text unknown
text-unknown number h = ap bytes_of_text (get_or-eq_default texts unknown h)

-- the text of a reason that is known
pub text-of : {reason known : Reason} → reason ≡ known → refusal_text (number_of known) ≡ refusal_text (number_of reason)
text-of e = ap (λ (r : Reason). refusal_text (number_of r)) (sym e)

-- a text was written that is that of the number
pub said : {old after : List ℕ} {r : Result ℕ Refusal} {text other : List ℕ} → text ≡ other → Lent old (given text) after r → Lent old (given other) after r
said {old} {after} {r} e l = subst (λ (bytes : List ℕ). Lent old (given bytes) after r) e l
