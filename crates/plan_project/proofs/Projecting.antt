-- What a plan comes to once it is followed, in lent output: a refusal, or the numbers found.
-- Assumes nothing.
use mathlib.Core.Path.{◌≡◌, refl, sym, ap, ◌∙◌, subst}
use Prim.Native.Nat.{ℕ, ◌*◌, ◌≤◌, ◌<◌}
use native.Mathlib.Omega.{arith}
use mathlib.Core.Bool.{Bool, true, false, cond}
use mathlib.Core.List.{List}
use lib.ListN.{length}
use Rattle.answers.specs.Answer.{given, refused}
use Rattle.lists.specs.Writing.{Room, Wrote}
use Rattle.std.specs.Prelude.{Result, Ok, Err}
use Rattle.answers.specs.declared.Refusal.{Refusal}
use Rattle.answers.specs.declared.Reason.TheVariants.{OutputShort, GoalNotMet}
use Rattle.lists.proofs.Numbers.{length-numbers}
use Rattle.lists.proofs.Writing.{room_by, wrote_as}
use Rattle.answers.proofs.Lent.{refusal, too_short, written}
use Rattle.model.specs.Systems.{keep}
use Rattle.model.specs.Tasks.{State}
use Rattle.model.specs.Plans.{plan_bytes_of}
use Rattle.source_step.specs.Table.{Table, goal_by}
use Rattle.plan_project.specs.Sources.{source_in, OpenedBy}
use Rattle.plan_project.specs.Following.{followed_to, found_in, Notes, PlanFollowed}
use Rattle.plan_project.specs.Projecting.{as_bytes, reached_to, projected, Reached, Kept, Projected}

-- ---- to the goal
module _ {T : Table} {total : ℕ} {sources q : List ℕ} {x : State} {r : Result ℕ Refusal} {x' : State} {noted : List ℕ}
    (F : PlanFollowed T total sources q x r x' noted) where
  pub not-followed : {d : Refusal} → r ≡ Err d → Reached T total sources q x (Err d) noted
  not-followed e = record {
    kept = F.kept;
    notes = F.notes;
    counted = refl;
    few = F.few;
    meets = λ opening O. F.meets opening O ∙ ap (λ (f : Result ℕ Refusal). followed_to f (goal_by T x') (length q) F.kept) e;
  }

  module _ {found : ℕ} (e : r ≡ Ok found) {met : Bool} (is : met ≡ goal_by T x') where
    comes : {b : Bool} → met ≡ b → (opening : ℕ → ℕ) → OpenedBy opening sources
        → projected T total sources q x opening ≡ cond b (given F.kept) (refused 13 (length q))
    comes f opening O =
        F.meets opening O
        ∙ ap (λ (o : Result ℕ Refusal). followed_to o (goal_by T x') (length q) F.kept) e
        ∙ ap (λ (b : Bool). cond b (given F.kept) (refused 13 (length q))) (sym is ∙ f)

    pub goal-met : met ≡ true → Reached T total sources q x (Ok found) noted
    goal-met f = record {
      kept = F.kept;
      notes = F.notes;
      counted = ap (λ (o : Result ℕ Refusal). found_in o (length F.kept)) (sym e) ∙ F.counted;
      few = F.few;
      meets = comes f;
    }

    pub goal-unmet : met ≡ false → {steps : ℕ} → steps ≡ length q
        → Reached T total sources q x (Err (record { reason = GoalNotMet; place = steps })) noted
    goal-unmet f s = record {
      kept = F.kept;
      notes = F.notes;
      counted = refl;
      few = F.few;
      meets = λ opening O. comes f opening O ∙ ap (refused 13) (sym s);
    }

-- ---- into the output
module _ {T : Table} {total : ℕ} {sources q : List ℕ} {x : State} {r : Result ℕ Refusal} {noted : List ℕ}
    (F : Reached T total sources q x r noted) (old : List ℕ) where
  pub when-stopped : {d : Refusal} → r ≡ Err d → Projected T total sources q x old old (Err d)
  when-stopped e = record { meets = λ opening O. refusal (ap as_bytes (F.meets opening O ∙ ap (λ (f : Result ℕ Refusal). reached_to f F.kept) e)) }

  module _ {found : ℕ} (e : r ≡ Ok found) where
    counted : found ≡ length F.kept
    counted = ap (λ (f : Result ℕ Refusal). found_in f (length F.kept)) (sym e) ∙ F.counted

    pub few : found ≤ length q
    few = omega (arith, counted, F.few)

    bytes-needed : 2 * found ≡ length (plan_bytes_of F.kept)
    bytes-needed = omega (arith, counted, length-numbers 2 F.kept)

    reaches : (opening : ℕ → ℕ) → OpenedBy opening sources → projected T total sources q x opening ≡ given F.kept
    reaches opening O = F.meets opening O ∙ ap (λ (f : Result ℕ Refusal). reached_to f F.kept) e

    pub when-short : length old < 2 * found → Projected T total sources q x old old (Err (record { reason = OutputShort; place = 2 * found }))
    when-short s = record { meets = λ opening O. too_short (ap as_bytes (reaches opening O)) bytes-needed s }

    -- what was found is what the table tells of the plan's numbers
    module _ (h : 2 * found ≤ length old) (K : Kept T total sources q x) where
      kept : F.kept ≡ keep (source_in sources) q
      kept = K.keeps F.kept (reaches K.opening K.opens)

      pub puttable : Room old 0 (plan_bytes_of (keep (source_in sources) q))
      puttable = room_by (omega (arith, bytes-needed, ap (λ (l : List ℕ). length (plan_bytes_of l)) kept))

      pub noted-so : Notes noted (keep (source_in sources) q) × (found ≡ length (keep (source_in sources) q))
      noted-so = (subst (Notes noted) kept F.notes, counted ∙ ap length kept)

      pub when-written : {after : List ℕ} {next : ℕ} → Wrote old 0 (plan_bytes_of (keep (source_in sources) q)) after next
          → Projected T total sources q x old after (Ok (2 * found))
      when-written w = record { meets = λ opening O. written (ap as_bytes (reaches opening O)) bytes-needed h (wrote_as (ap plan_bytes_of (sym kept)) w) }
