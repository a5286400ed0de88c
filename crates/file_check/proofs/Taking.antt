-- A command is taken by a row of tests: the first that holds gives its refusal, and where none holds the reading goes on.
-- Assumes nothing.
use mathlib.Core.Path.{◌≡◌, sym, ap, ◌∙◌}
use mathlib.Core.Bool.{Bool, true, false}
use mathlib.Core.List.{List, [], ◌∷◌}
use Prim.Native.Nat.{ℕ, zero, suc, ◌<◌}
use native.Mathlib.Omega.{arith}
use lib.ListN.{length, get_or}
use borrow.Author.Tests.{eq-eqb, ne_eqb}
use Rattle.commands.specs.Table.{table, rows, row_at, size_of_row}
use Rattle.commands.specs.Reading.{command_at, read_row}
use Rattle.commands.specs.declared.Command.{Command}
use Rattle.commands.proofs.Rows.{Apart}
use Rattle.commands.proofs.Known.{whole-as, unknown}
use Rattle.model.specs.Limits.{Limits as ModelLimits}
use Rattle.model.specs.ReadingState.{ReadingState, Taken, rule, stop}
use Rattle.model.specs.Rules.{tests_of, next_of, onwards, own_rule_of, rule_of, allowed, take_of}
use Rattle.model.proofs.ReadingLaws.{Off, rule-go}
use Rattle.file_check.specs.Views.{limits_of, state_of, lacks_term}
use Rattle.file_check.specs.declared.Limits.{Limits}
use Rattle.file_check.specs.declared.Reading.{Reading}
use Rattle.file_check.proofs.Bare.{no-term-missing}

-- the first of the tests that holds is number i
abbrev pub FirstAt : ℕ → List (Bool × ℕ) → Type 0
FirstAt i [] = ⊥
FirstAt zero (t ∷ ts) = t.0 ≡ true
FirstAt (suc i) (t ∷ ts) = (t.0 ≡ false) × FirstAt i ts

-- the refusal of test i
abbrev pub refusal : ℕ → List (Bool × ℕ) → ℕ
refusal i [] = 0
refusal zero (t ∷ ts) = t.1
refusal (suc i) (t ∷ ts) = refusal i ts

rule-stop : (p : ReadingState) (ts : List (Bool × ℕ)) (q : Taken) (i : ℕ) → FirstAt i ts → rule p ts q ≡ stop p (refusal i ts)
rule-stop p [] q i f = absurd f
rule-stop p (t ∷ ts) q zero f = rw f
rule-stop p (t ∷ ts) q (suc i) (o, f) = rw o (rule-stop p ts q i f)

-- x, as it was read, is the command c
module _ (l : Limits) (p : Reading) {x c : Command} (e : x ≡ c) where
  pub reads : {t : Taken} → t ≡ own_rule_of (limits_of l) (state_of p) c → t ≡ own_rule_of (limits_of l) (state_of p) x
  reads h = h ∙ ap (own_rule_of (limits_of l) (state_of p)) (sym e)

  pub stops : (i : ℕ) → FirstAt i (tests_of (limits_of l) (state_of p) c)
      → stop (state_of p) (refusal i (tests_of (limits_of l) (state_of p) c)) ≡ own_rule_of (limits_of l) (state_of p) x
  stops i f = reads (sym (rule-stop (state_of p) (tests_of (limits_of l) (state_of p) c) (onwards c (next_of (state_of p) c)) i f))

  pub goes : Off (tests_of (limits_of l) (state_of p) c) → onwards c (next_of (state_of p) c) ≡ own_rule_of (limits_of l) (state_of p) x
  goes o = reads (sym (rule-go (state_of p) (tests_of (limits_of l) (state_of p) c) (onwards c (next_of (state_of p) c)) o))

-- the command at the front of what remains: 2 where nothing does, 1 where its byte may not stand there, else its rule
module _ (l : ModelLimits) (p : ReadingState) (rest : List ℕ) where
  pub nothing_left : length rest ≡ 0 → stop p 2 ≡ take_of l p rest
  unfolding take_of
  nothing_left h = rw (eq-eqb (length rest) 0 h)

  module _ (there : length rest ≡ 0 → ⊥) where
    pub barred : allowed l p (get_or rest 0 0) ≡ false → stop p 1 ≡ take_of l p rest
    unfolding take_of
    barred n = rw (ne_eqb (length rest) 0 there, n)

    module _ (may : allowed l p (get_or rest 0 0) ≡ true) where
      pub by_rule : {t : Taken} → t ≡ rule_of l p (command_at rest) → t ≡ take_of l p rest
      unfolding take_of
      by_rule h = h ∙ rw (ne_eqb (length rest) 0 there, may)

      -- no T is missing
      module _ (full : lacks_term l.restricted p.bare_sum (get_or rest 0 0) ≡ false) where
        pub by_own_rule : {t : Taken} → t ≡ own_rule_of l p (command_at rest) → t ≡ take_of l p rest
        by_own_rule h = by_rule (h ∙ no-term-missing l p rest full (own_rule_of l p (command_at rest)))

        -- a command of one byte, that of row k
        pub alone : (k : ℕ) → k < rows → size_of_row k ≡ 1 → get_or rest 0 0 ≡ (row_at k).byte
            → {t : Taken} → t ≡ own_rule_of l p (read_row rest k) → t ≡ take_of l p rest
        alone k few one byte h =
            let some : 0 < length rest = omega (arith, there) in
            by_own_rule (h ∙ ap (own_rule_of l p) (sym (whole-as rest k few some byte (omega (arith, one, some)))))

        -- a byte that no command has
        pub unread : Apart (get_or rest 0 0) table (Unit {0}) → stop p 1 ≡ take_of l p rest
        unfolding tests_of
        unread apart = by_own_rule (ap (own_rule_of l p) (sym (unknown rest (omega (arith, there)) apart)))
