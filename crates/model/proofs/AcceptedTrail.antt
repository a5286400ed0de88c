-- An accepted file's commands may follow one another, and their bytes are the file.
-- Assumes nothing.
use mathlib.Core.Path.{◌≡◌, refl, sym, ap, ◌∙◌, subst}
use Prim.Native.Nat.{ℕ, zero, suc, ◌+◌}
use mathlib.Core.Bool.{cond, Bool, true, false}
use mathlib.Core.List.{List}
use lib.ListN.{length, drop, get_or}
use lib.Dec.{T, eqb, eqb→eq}
use Rattle.commands.specs.Table.{size_of_byte}
use Rattle.commands.specs.declared.Command.{Command}
use Rattle.commands.specs.declared.Command.TheVariants.{End}
use Rattle.commands.specs.Reading.{command_at}
use Rattle.commands.specs.Encoding.{byte_of, NoRefusal}
use Rattle.commands.proofs.Encoding.{byte-read}
use Rattle.model.specs.Limits.{Limits}
use Rattle.model.specs.ReadingState.{ReadingState, Taken, Progress, Going, Ended, Stopped, begin, stop, finish}
use Rattle.model.specs.Rules.{allowed, rule_of, take_of}
use Rattle.model.specs.Reading.{Verdict, Accepted, Rejected, accepted_with, after_command, refused_at, verdict_from, verdict_of, gather, commands_from}
use Rattle.model.specs.Reading.{commands_of, commands_along, verdict_along, remainders}
use Rattle.model.specs.Trail.{Trail, end_state}
use Rattle.model.proofs.ReadingLaws.{Alive, end-taken}
use Rattle.model.proofs.CommandFacts.{alive-is-no-refusal, end-only}

-- ---- what is taken is the command, by its rule
pub take-inv : (l : Limits) (p : ReadingState) (s : List ℕ) → Alive (take_of l p s).progress
    → (allowed l p (byte_of (command_at s)) ≡ true) × (take_of l p s ≡ rule_of l p (command_at s)) × NoRefusal (command_at s)
unfolding take_of
take-inv l p s h = step (eqb (length s) 0) (allowed l p (get_or s 0 0)) refl refl h
  where
    step : (x y : Bool) → eqb (length s) 0 ≡ x → allowed l p (get_or s 0 0) ≡ y
        → Alive (cond x (stop p 2) (cond y (rule_of l p (command_at s)) (stop p 1))).progress
        → (allowed l p (byte_of (command_at s)) ≡ true) × (cond x (stop p 2) (cond y (rule_of l p (command_at s)) (stop p 1)) ≡ rule_of l p (command_at s))
        × NoRefusal (command_at s)
    step true y e₁ e₂ h = absurd h
    step false true e₁ e₂ h = let k : NoRefusal (command_at s) = alive-is-no-refusal l p (command_at s) h in (ap (allowed l p) (byte-read s k) ∙ e₂, refl, k)
    step false false e₁ e₂ h = absurd h

-- ---- the whole walk
abbrev pub Is : Verdict → Type 0
Is (Accepted a b c) = Unit {0}
Is (Rejected n w) = ⊥

abbrev pub Fine : Limits → ReadingState → List Command → Verdict → Type 0
Fine l p cs v = Trail l p cs × (v ≡ accepted_with (end_state l p cs))

pub not-refused : (n at len : ℕ) → Is (refused_at n at len) → ⊥
not-refused n at len h = step (eqb n 2) h
  where
    step : (b : Bool) → Is (cond b (Rejected n len) (Rejected n at)) → ⊥
    step true h = h
    step false h = h

module _ (l : Limits) where
  run-inv : (k len : ℕ) (p : ReadingState) (at : ℕ) (s : List ℕ) → Is (verdict_from l len k p at s)
      → Fine l p (commands_from l k p s) (verdict_from l len k p at s)
  unfolding remainders verdict_along commands_along
  run-inv zero len p at s h = absurd (not-refused 2 at len h)
  run-inv (suc k) len p at s h =
      step (take_of l p s).state (take_of l p s).progress refl refl h
      (λ q g. run-inv k len q (at + size_of_byte (get_or s 0 0)) (drop (size_of_byte (get_or s 0 0)) s) g)
    where
      step : (q : ReadingState) (o : Progress) → (take_of l p s).state ≡ q → (take_of l p s).progress ≡ o
          → Is (after_command (λ q. verdict_from l len k q (at + size_of_byte (get_or s 0 0)) (drop (size_of_byte (get_or s 0 0)) s)) at (length s) len q o)
          → ((q : ReadingState) → Is (verdict_from l len k q (at + size_of_byte (get_or s 0 0)) (drop (size_of_byte (get_or s 0 0)) s))
          → Fine l q (commands_from l k q (drop (size_of_byte (get_or s 0 0)) s))
          (verdict_from l len k q (at + size_of_byte (get_or s 0 0)) (drop (size_of_byte (get_or s 0 0)) s)))
          → Fine l p (gather (λ q. commands_from l k q (drop (size_of_byte (get_or s 0 0)) s)) (command_at s) q o)
          (after_command (λ q. verdict_from l len k q (at + size_of_byte (get_or s 0 0)) (drop (size_of_byte (get_or s 0 0)) s)) at (length s) len q o)
      step q Going e f h rec =
          let (a, b, c) = take-inv l p s (subst Alive (sym f) tt) in
          let e' : q ≡ (rule_of l p (command_at s)).state = sym e ∙ ap (λ (t : Taken). t.state) b in
          let (t, v) = rec q h in (
            (
              a,
              sym (ap (λ (t : Taken). t.progress) b) ∙ f,
              subst (λ (x : ReadingState). Trail l x (commands_from l k q (drop (size_of_byte (get_or s 0 0)) s))) e' t,
            ),
            subst (λ (x : ReadingState). verdict_from l len k q (at + size_of_byte (get_or s 0 0)) (drop (size_of_byte (get_or s 0 0)) s)
                ≡ accepted_with (end_state l x (commands_from l k q (drop (size_of_byte (get_or s 0 0)) s)))) e' v,
          )
      step q Ended e f h rec =
          let (a, b, c) = take-inv l p s (subst Alive (sym f) tt) in
          let z : command_at s ≡ End = end-only l p (command_at s) (sym (ap (λ (t : Taken). t.progress) b) ∙ f) in
          let st : eqb p.section 3 ≡ true = sym (ap (λ (c : Command). allowed l p (byte_of c)) z) ∙ a in
          let is : take_of l p s ≡ rule_of l p End = b ∙ ap (rule_of l p) z in
          let n : rule_of l p End ≡ finish p = end-taken l p (sym (ap (λ (t : Taken). t.progress) is) ∙ f) in (
            (eqb→eq p.section 3 (subst T (sym st) tt), n),
            over-z (eqb (length s) 1) refl h (sym e ∙ ap (λ (t : Taken). t.state) (is ∙ n)),
          )
        where
          over-z : (b : Bool) → eqb (length s) 1 ≡ b → Is (cond b (accepted_with q) (Rejected 3 (at + 1))) → q ≡ p
              → cond b (accepted_with q) (Rejected 3 (at + 1)) ≡ accepted_with p
          over-z true e h w = ap accepted_with w
          over-z false e h w = absurd h
      step q (Stopped n) e f h rec = absurd (not-refused n at len h)

  pub accepted-trail : (file : List ℕ) → Is (verdict_of l file) → Fine l begin (commands_of l file) (verdict_of l file)
  unfolding verdict_of commands_of
  accepted-trail file h = run-inv (suc (length file)) (length file) begin 0 file h
