-- The refusals of a file: their numbers are 1 to 7 and 14, so 0 stands for none; and what a place that is told with its bytes says.
-- Assumes nothing.
use mathlib.Core.Path.{◌≡◌, refl, sym, ap, ◌∙◌}
use Prim.Native.Nat.{ℕ, zero, suc, ◌+◌, ◌≤◌, ◌<◌}
use native.Mathlib.Omega.{arith}
use mathlib.Core.Bool.{Bool, true, false, cond, ◌&&◌}
use mathlib.Core.List.{List, [], ◌∷◌}
use lib.Dec.{eqb, leb, ltb}
use lib.ListN.{length, get_or}
use borrow.Author.Tests.{eqb-true, leb-true, ne_eqb, ltb-true, ltb-false}
use Rattle.std.specs.Prelude.{Ok, Err}
use Rattle.integers.specs.All.{All}
use Rattle.lists.proofs.Loops.{and_left, and_right}
use Rattle.answers.specs.Answer.{Answer, given, refused, then}
use Rattle.answers.specs.Refusals.{number_of, refusal_is}
use Rattle.answers.specs.declared.Reason.{Reason}
use Rattle.answers.specs.declared.Reason.TheVariants.{NotAllowed, CutShort, BytesBehind, OverLimit, Undeclared, OutOfRange, NamedTwice}
use Rattle.answers.specs.declared.Reason.TheVariants.{OutputShort, OverMillion, PlanLength, NoAction, DoesNotApply, GoalNotMet, SumWithoutTerm}
use Rattle.answers.specs.declared.Refusal.{Refusal}
use Rattle.integers.specs.Numbers.{number_at}
use Rattle.commands.specs.Table.{rows, row_of, width_at, size_of_row, size_of_byte, letter_t}
use Rattle.commands.specs.Encoding.{byte_of}
use Rattle.commands.specs.Reading.{commands, read_row, command_at}
use Rattle.commands.specs.declared.Command.{Command}
use Rattle.commands.specs.declared.Command.TheVariants.{Refused}
use Rattle.model.specs.Limits.{Limits}
use Rattle.model.specs.ReadingState.{ReadingState, Taken, Progress, Going, Ended, Stopped, stop, rule, begin}
use Rattle.model.specs.Rules.{is_one_of, allowed, tests_of, next_of, onwards, own_rule_of, sum_tests, rule_of, take_of}
use Rattle.model.specs.Reading.{remainders, Verdict, Accepted, Rejected, accepted_with, after_command, verdict_along, verdict_of}
use Rattle.model.specs.Decoding.{on_verdict}
use Rattle.model.specs.ActionBytes.{edge_of, action_part, of_verdict, action_place, part_at}
use Rattle.file_actions.specs.declared.ActionBytes.{ActionBytes}
use Rattle.file_actions.specs.Places.{bytes_told, told_is, BytesOfAction, step_place}

-- ---- the numbers
abbrev few : ℕ → Bool
few number = cond (eqb number 14) true (leb 1 number && leb number 7)

-- neither 0 nor 11
few-apart : (number : ℕ) → few number ≡ true → (number ≡ 0 → ⊥) × (number ≡ 11 → ⊥)
few-apart number = by (eqb number 14) refl
  where
    by : (b : Bool) → eqb number 14 ≡ b → cond b true (leb 1 number && leb number 7) ≡ true → (number ≡ 0 → ⊥) × (number ≡ 11 → ⊥)
    by true e h = let is : number ≡ 14 = eqb-true number 14 e in (λ z. omega (arith, is), λ z. omega (arith, is))
    by false e h = (
      λ z. omega (arith, leb-true 1 number (and_left (leb 1 number) (leb number 7) h)),
      λ z. omega (arith, leb-true number 7 (and_right (leb 1 number) (leb number 7) h)),
    )

abbrev few_in : List (Bool × ℕ) → Bool
few_in [] = true
few_in (t ∷ ts) = few t.1 && few_in ts

abbrev Numbered : Progress → Type 0
Numbered Going = Unit {0}
Numbered Ended = Unit {0}
Numbered (Stopped number) = few number ≡ true

rule-numbered : (p : ReadingState) (ts : List (Bool × ℕ)) (q : Taken) → few_in ts ≡ true → Numbered q.progress → Numbered (rule p ts q).progress
rule-numbered p [] q o n = n
rule-numbered p (t ∷ ts) q o n = by t.0 (rule-numbered p ts q (and_right (few t.1) (few_in ts) o) n)
  where
    by : (b : Bool) → Numbered (rule p ts q).progress → Numbered (cond b (stop p t.1) (rule p ts q)).progress
    by true m = and_left (few t.1) (few_in ts) o
    by false m = m

module _ (l : Limits) (p : ReadingState) where
  abbrev Ruled : Command → Type 0
  Ruled c = (few_in (tests_of l p c) ≡ true) × Numbered (onwards c (next_of p c)).progress

  all-ruled : (x y z : ℕ) → All Ruled (commands x y z)
  unfolding tests_of
  all-ruled x y z = search (tt)

  get-ruled : (cs : List Command) (i : ℕ) → All Ruled cs → Ruled (get_or cs i (Refused NotAllowed))
  unfolding tests_of
  get-ruled [] i h = (refl, tt)
  get-ruled (c ∷ cs) zero (h, hs) = h
  get-ruled (c ∷ cs) (suc i) (h, hs) = get-ruled cs i hs

  row-ruled : (s : List ℕ) (i : ℕ) → Ruled (read_row s i)
  row-ruled s i =
      let x = number_at s 1 (width_at i 0) in
      let y = number_at s (1 + width_at i 0) (width_at i 1) in
      let z = number_at s (1 + width_at i 0 + width_at i 1) (width_at i 2) in
      get-ruled (commands x y z) i (all-ruled x y z)

  command-ruled : (rest : List ℕ) → Ruled (command_at rest)
  unfolding tests_of command_at
  command-ruled rest =
      let i = row_of (get_or rest 0 0) in
      by (eqb (length rest) 0) (leb rows i) (leb (size_of_row i) (length rest)) (row-ruled rest i)
    where
      by : (x y z : Bool) → Ruled (read_row rest (row_of (get_or rest 0 0)))
          → Ruled (cond x (Refused CutShort) (cond y (Refused NotAllowed) (cond z (read_row rest (row_of (get_or rest 0 0))) (Refused CutShort))))
      by true y z r = (refl, tt)
      by false true z r = (refl, tt)
      by false false true r = r
      by false false false r = (refl, tt)

  sum-ruled : (c : Command) → few_in (sum_tests l p c) ≡ true
  sum-ruled c = by l.restricted (is_one_of (byte_of c) (letter_t ∷ 0 ∷ []))
    where
      by : (x y : Bool) → few_in (cond x [] (cond y [] ((leb 1 p.bare_sum, 14) ∷ []))) ≡ true
      by true y = refl
      by false true = refl
      by false false = refl

  take-numbered : (rest : List ℕ) → Numbered (take_of l p rest).progress
  unfolding take_of
  take-numbered rest = by (eqb (length rest) 0) (allowed l p (get_or rest 0 0))
    where
      by : (x y : Bool) → Numbered (cond x (stop p 2) (cond y (rule_of l p (command_at rest)) (stop p 1))).progress
      by true y = refl
      by false true =
          let c = command_at rest in
          let (tests, goes) = command-ruled rest in
          rule-numbered p (sum_tests l p c) (own_rule_of l p c) (sum-ruled c) (rule-numbered p (tests_of l p c) (onwards c (next_of p c)) tests goes)
      by false false = refl

-- a reason's is not 0
not_zero : (r : Reason) → number_of r ≡ 0 → ⊥
not_zero NotAllowed e = omega arith
not_zero CutShort e = omega arith
not_zero BytesBehind e = omega arith
not_zero OverLimit e = omega arith
not_zero Undeclared e = omega arith
not_zero OutOfRange e = omega arith
not_zero NamedTwice e = omega arith
not_zero OutputShort e = omega arith
not_zero OverMillion e = omega arith
not_zero PlanLength e = omega arith
not_zero NoAction e = omega arith
not_zero DoesNotApply e = omega arith
not_zero GoalNotMet e = omega arith
not_zero SumWithoutTerm e = omega arith

-- ---- of a whole file
abbrev NumberedVerdict : Verdict → Type 0
NumberedVerdict (Accepted variables modes actions) = Unit {0}
NumberedVerdict (Rejected number place) = few number ≡ true

verdict-numbered : (l : Limits) (n : ℕ) (p : ReadingState) (at : ℕ) (rests : List (List ℕ)) → NumberedVerdict (verdict_along l n p at rests)
unfolding verdict_along
verdict-numbered l n p at [] = refl
verdict-numbered l n p at (rest ∷ more) =
    let behind = verdict-numbered l n (take_of l p rest).state (at + size_of_byte (get_or rest 0 0)) more in
    by (take_of l p rest).progress (take-numbered l p rest) behind
  where
    q : ReadingState
    q = (take_of l p rest).state

    ended : (b : Bool) → NumberedVerdict (cond b (accepted_with q) (Rejected 3 (at + 1)))
    ended true = tt
    ended false = refl

    stopped : (number : ℕ) → few number ≡ true → (b : Bool) → NumberedVerdict (cond b (Rejected number n) (Rejected number at))
    stopped number h true = h
    stopped number h false = h

    next : ReadingState → Verdict
    next x = verdict_along l n x (at + size_of_byte (get_or rest 0 0)) more

    by : (g : Progress) → Numbered g → NumberedVerdict (next q) → NumberedVerdict (after_command next at (length rest) n q g)
    by Going h m = m
    by Ended h m = ended (eqb (length rest) 1)
    by (Stopped number) h m = stopped number h (eqb number 2)

module _ (l : Limits) (file : List ℕ) (k : ℕ) where
  file-numbered : NumberedVerdict (verdict_of l file)
  unfolding verdict_of
  file-numbered = verdict-numbered l (length file) begin 0 (remainders (suc (length file)) file)

  -- the place of action k of an accepted file that has one, or not
  abbrev placed : Bool → Answer (ℕ × ℕ)
  placed there = cond there (given (edge_of file k, edge_of file (suc k))) (refused 11 k)

  -- the number of a refusal is not 0
  abbrev NotZero : Answer (ℕ × ℕ) → Type 0
  NotZero (given place) = Unit {0}
  NotZero (refused number place) = number ≡ 0 → ⊥

  place-numbered : NotZero (action_place l file k)
  unfolding action_place
  place-numbered = by (verdict_of l file) file-numbered
    where
      within : (b : Bool) → NotZero (placed b)
      within true = tt
      within false = λ e. omega arith

      by : (v : Verdict) → NumberedVerdict v → NotZero (of_verdict v file k)
      by (Accepted variables modes actions) h = within (ltb k actions)
      by (Rejected number place) h = (few-apart number h).0

  -- ---- what is told: 0 and the bytes
  pub told-given : {number place : ℕ} {bytes : List ℕ} → bytes_told (action_place l file k) file ≡ (number, place, bytes) → number ≡ 0
      → BytesOfAction l file k bytes
  told-given {number} {place} {bytes} = by (action_place l file k) place-numbered
    where
      by : (a : Answer (ℕ × ℕ)) → NotZero a → bytes_told a file ≡ (number, place, bytes) → number ≡ 0
          → then a (λ at. given (part_at file at)) ≡ given bytes
      by (given at) h e z = ap (λ (t : ℕ × ℕ × List ℕ). given t.2) e
      by (refused n at) h e z = absurd (h (ap (λ (t : ℕ × ℕ × List ℕ). t.0) e ∙ z))

  -- or the refusal
  pub told-refused : {number place : ℕ} {bytes : List ℕ} → bytes_told (action_place l file k) file ≡ (number, place, bytes) → (number ≡ 0 → ⊥)
      → action_place l file k ≡ refused number place
  told-refused {number} {place} {bytes} = by (action_place l file k)
    where
      by : (a : Answer (ℕ × ℕ)) → bytes_told a file ≡ (number, place, bytes) → (number ≡ 0 → ⊥) → a ≡ refused number place
      by (given at) e h = absurd (h (sym (ap (λ (t : ℕ × ℕ × List ℕ). t.0) e)))
      by (refused n at) e h = ap (λ (t : ℕ × ℕ × List ℕ). refused t.0 t.1) e

  -- as the code tells it
  pub told-bytes : (a : ActionBytes) → told_is (Ok a) ≡ bytes_told (action_place l file k) file → BytesOfAction l file k a.bytes.now
  told-bytes a e = told-given (sym e) refl

  pub told-refusal : (r : Refusal) → told_is (Err r) ≡ bytes_told (action_place l file k) file → action_place l file k ≡ refusal_is r
  told-refusal r e = told-refused (sym e) (not_zero r.reason)

  -- ---- the file whose action has these bytes is accepted, and they are the action's
  pub record GivenOf (bytes : List ℕ) : Type 0 where
    pub variables : ℕ
    pub modes : ℕ
    pub actions : ℕ
    pub accepted : Accepted variables modes actions ≡ verdict_of l file
    pub below : k < actions
    pub are : bytes ≡ action_part file k

  pub given-of : {bytes : List ℕ} → BytesOfAction l file k bytes → GivenOf bytes
  unfolding action_place
  given-of {bytes} = by (verdict_of l file) refl
    where
      within : (v m a : ℕ) → Accepted v m a ≡ verdict_of l file → (b : Bool) → ltb k a ≡ b
          → then (placed b) (λ at. given (part_at file at)) ≡ given bytes → GivenOf bytes
      within v m a q true b e = record { variables = v; modes = m; actions = a; accepted = q; below = ltb-true k a b; are = cc }
      within v m a q false b e = let z : ◌≡◌ {A = ℕ} 0 1 = cc in absurd (omega arith)

      by : (v : Verdict) → v ≡ verdict_of l file → then (of_verdict v file k) (λ at. given (part_at file at)) ≡ given bytes → GivenOf bytes
      by (Accepted v m a) q e = within v m a q (ltb k a) refl e
      by (Rejected number place) q e = let z : ◌≡◌ {A = ℕ} 0 1 = cc in absurd (omega arith)

  -- ---- a step by itself asks for its action: what `f` makes of the task, where there is no such action, is 11 with place 0
  pub step-refused : {S A : Type 0} (task : S) (f : S → Answer A)
      → ((v m a : ℕ) → Accepted v m a ≡ verdict_of l file → a ≤ k → f task ≡ refused 11 0)
      → {number place : ℕ} → action_place l file k ≡ refused number place
      → then (on_verdict (verdict_of l file) task) f ≡ refused number (step_place number place)
  unfolding action_place
  step-refused {S} {A} task f none {number} {place} = by (verdict_of l file) refl file-numbered
    where
      within : (v m a : ℕ) → Accepted v m a ≡ verdict_of l file → (b : Bool) → ltb k a ≡ b
          → placed b ≡ refused number place → f task ≡ refused number (step_place number place)
      within v m a q true b e = let z : ◌≡◌ {A = ℕ} 0 1 = cc in absurd (omega arith)
      within v m a q false b e = let n : number ≡ 11 = cc in none v m a q (ltb-false k a b) ∙ rw n

      by : (v : Verdict) → v ≡ verdict_of l file → NumberedVerdict v → of_verdict v file k ≡ refused number place
          → then (on_verdict v task) f ≡ refused number (step_place number place)
      by (Accepted v m a) q h e = within v m a q (ltb k a) refl e
      by (Rejected n at) q h e =
          let same : n ≡ number = cc in
          let there : at ≡ place = cc in
          rw (same, there, ne_eqb number 11 (λ z. (few-apart n h).1 (same ∙ z)))
