-- What an accepted file tells before its actions are written: whether some have several effects, which is the first variable that keeps a sum, and that
-- rows stay as they are where there is no K.
-- Assumes nothing.
use mathlib.Core.Path.{◌≡◌, refl, sym, ap, ap₂, ◌∙◌, subst}
use mathlib.Core.Bool.{Bool, true, false, cond}
use mathlib.Core.List.{List, [], ◌∷◌, append-nil, map}
use Prim.Native.Nat.{ℕ, suc, ◌+◌, ◌≤◌, ◌<◌}
use native.Mathlib.Omega.{arith}
use native.Mathlib.Numerals.{add-one}
use borrow.Author.Rules.{rules}
use borrow.Author.Tests.{lt-ltb}
use lib.Dec.{ltb}
use lib.IntN.{ℤ}
use lib.ListN.{length, take, drop}
use lib.Seq.{drop-length}
use Rattle.integers.specs.Numbers.{Bytes}
use Rattle.commands.specs.declared.Command.{Command}
use Rattle.model.specs.Tasks.{NumericCondition, Effect, SourceAction}
use Rattle.model.specs.Limits.{source_limits}
use Rattle.model.specs.TaskOk.{SourceTaskOk}
use Rattle.model.specs.Reading.{verdict_of}
use Rattle.model.specs.Decoding.{effects_of, source_action_of}
use Rattle.model.specs.ActionBytes.{action_part, decode_action}
use Rattle.model.specs.Stages.{several, hold_count}
use Rattle.model.proofs.AcceptedOk.{accepted-source-ok}
use Rattle.model.proofs.LoweredOk.{measuring-starts}
use Rattle.file_parts.specs.Layout.{MARKS, NUMBERS}
use Rattle.file_parts.specs.Row.{row_is}
use Rattle.file_actions.specs.declared.Effects.{Effects}
use Rattle.file_actions.specs.Numeric.{no_sums}
use Rattle.file_actions.specs.Views.{effect_room, effects_is, plain_action_of, fitting_effect, fitting_source, SourceDecoded, SumsDecoded}
use Rattle.source_step.specs.Accepted.{AcceptedWith}
use Rattle.source_step.specs.Sizes.{VARIABLES}
use Rattle.source_sums.specs.Found.{task_of, SumsOf}
use Rattle.lowering_stages.specs.declared.Shape.{Shape}
use Rattle.lowering_stages.proofs.Effects.{effects-length}
use Rattle.lowering_rows.proofs.Staging.{drop_get}
use Rattle.lowering_file.specs.Parts.{holds_of}
use Rattle.lowering_file.specs.Held.{Held, KeptOf, OwnPushed}
use Rattle.lowering_file.proofs.Declared.{actions-counted}
use Rattle.source_sums.proofs.Gathering.{action-at}

-- ---- whether effects are several, by their count
pub several-is : (r : Effects) → r.count ≤ length r.places → ltb 1 r.count ≡ several (effects_is r)
several-is r h =
    let e : r.count ≡ length (effects_is r) = omega (arith, effects-length r) in
    ap (ltb 1) e ∙ by (effects_is r)
  where
    by : (es : List Effect) → ltb 1 (length es) ≡ several es
    by [] = refl
    by (e ∷ []) = refl
    by (e ∷ f ∷ es) = lt-ltb 1 (suc (suc (length es))) (omega arith)

-- those that are decoded are several where those of the action are
decoded-several : (es : List Effect) → several (take effect_room (map fitting_effect es)) ≡ several es
decoded-several [] = refl
decoded-several (e ∷ []) = refl
decoded-several (e ∷ f ∷ es) = refl

-- whether action k or one behind it has several, by what is decoded of its effects
module _ (file : List ℕ) (count : ℕ) (bytes : Bytes file) (accepted : AcceptedWith (verdict_of source_limits file) count) (k : ℕ) (below : k < count) where
  abbrev commands-at : List Command
  commands-at = decode_action (action_part file k)

  holds_at : (marks : List ℕ) (numbers : List ℤ) (r : Effects) → SourceDecoded (fitting_source (plain_action_of commands-at)) marks numbers r
      → hold_count (drop k (task_of file).actions) ≡ cond (several (effects_is r)) 3 (hold_count (drop (k + 1) (task_of file).actions))
  holds_at marks numbers r d =
      ap hold_count (drop_get (task_of file).actions k (source_action_of commands-at) (action-at file count bytes accepted k below))
      ∙ ap₂ (λ (b : Bool) (j : ℕ). cond b 3 (hold_count (drop j (task_of file).actions)))
      (sym (ap several d.effects ∙ decoded-several (effects_of commands-at))) (sym (add-one k))

-- ---- where an action has no K its rows stay as they are
pub none-pushed : {ks : List (NumericCondition ℕ)} {j : ℕ} {marks : List ℕ} {numbers : List ℤ} → ks ≡ [] → length marks ≡ MARKS → length numbers ≡ NUMBERS
    → OwnPushed ks j (row_is marks numbers) marks numbers 0
none-pushed {ks} {j} {marks} {numbers} e m n = record {
  own = no_sums;
  decoded = subst (λ (z : List (NumericCondition ℕ)). SumsDecoded z no_sums) (sym e)
      (record { are = refl; few = omega arith; long = refl; terms_few = search (rules) });
  counted = refl;
  says = record {
    marks_long = m;
    numbers_long = n;
    is = ap (λ (z : List (NumericCondition ℕ)). record {
      mode_conditions = (row_is marks numbers).mode_conditions;
      conditions = z;
      mode_effects = (row_is marks numbers).mode_effects;
      additions = (row_is marks numbers).additions;
    }) (sym (append-nil (row_is marks numbers).conditions));
  };
}

-- ---- whether some of the first k actions have several effects, with what is left, is whether some action has
pub record Seeking (file : List ℕ) (count k : ℕ) (many : Bool) : Type 0 where
  pub bytes : Bytes file
  pub bound : k ≤ count
  pub same : cond many 3 (hold_count (drop k (task_of file).actions)) ≡ hold_count (task_of file).actions

pub seeking-start : {file : List ℕ} {count : ℕ} → Bytes file → Seeking file count 0 false
seeking-start bytes = record { bytes = bytes; bound = omega arith; same = refl }

module _ {file : List ℕ} {count : ℕ} (accepted : AcceptedWith (verdict_of source_limits file) count) {k : ℕ} {many : Bool} (h : Seeking file count k many) where
  pub seeking-next : k < count → (marks : List ℕ) (numbers : List ℤ) (r : Effects)
      → SourceDecoded (fitting_source (plain_action_of (decode_action (action_part file k)))) marks numbers r
      → (more : Bool) → more ≡ cond many true (several (effects_is r)) → Seeking file count (k + 1) more
  seeking-next below marks numbers r d more e = record {
    bytes = h.bytes;
    bound = omega arith;
    same = ap (λ (b : Bool). cond b 3 (hold_count (drop (k + 1) (task_of file).actions))) e
        ∙ joined many (several (effects_is r)) (hold_count (drop (k + 1) (task_of file).actions))
        ∙ ap (λ (n : ℕ). cond many 3 n) (sym (holds_at file count h.bytes accepted k below marks numbers r d))
        ∙ h.same;
  }
    where
      joined : (b c : Bool) (n : ℕ) → cond (cond b true c) 3 n ≡ cond b 3 (cond c 3 n)
      joined true c n = refl
      joined false c n = refl

  pub seeking-end : count ≤ k → holds_of many ≡ hold_count (task_of file).actions
  seeking-end l =
      let e : k ≡ length (task_of file).actions = omega (arith, h.bound, actions-counted file count h.bytes accepted) in
      ap (λ (acts : List SourceAction). cond many 3 (hold_count acts))
      (sym (ap (λ (z : ℕ). drop z (task_of file).actions) e ∙ drop-length (task_of file).actions))
      ∙ h.same

-- ---- the number of the first kept variable
pub holds-low : (several : Bool) → holds_of several ≤ 3
holds-low true = omega arith
holds-low false = omega arith

module _ {file : List ℕ} {count : ℕ} {h : Shape} (held : Held file count h) where
  held-ok : SourceTaskOk (task_of file)
  held-ok = accepted-source-ok file (task_of file) held.is

  pub few-variables : h.variables ≤ VARIABLES
  few-variables = omega (arith, held.variables_are, held-ok.variables_few)

  pub kept_of_lem : {sums : ℕ} {weights : List ℤ} {first : ℕ} → SumsOf file sums weights → first ≤ VARIABLES + 5
      → (0 < sums → first ≡ h.variables + (2 + hold_count (task_of file).actions)) → KeptOf file (record { first = first; count = sums; weights = weights })
  kept_of_lem {sums} {weights} {first} found low is = record {
    sums = found;
    first_is = λ some-sum. let e = is some-sum in omega (arith, held.variables_are, measuring-starts (task_of file) held-ok);
    first_low = low;
  }
