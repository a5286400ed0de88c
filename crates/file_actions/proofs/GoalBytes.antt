-- Where the goal of an accepted file stands: its G is the edge behind its actions, and its bytes give the task's goal, which has no effects. And
-- how many edges there are.
-- Assumes nothing.
use mathlib.Core.Path.{◌≡◌, refl, ◌∙◌, sym, ap, subst, subst⁻¹}
use mathlib.Core.Bool.{Bool, true, false, cond}
use mathlib.Core.List.{List, [], ◌∷◌, ◌++◌, append_assoc}
use Prim.Native.Nat.{ℕ, zero, suc, ◌+◌, ◌-◌, ◌<◌, ◌≤◌}
use native.Mathlib.Nat.{add-zero}
use native.Mathlib.Omega.{arith}
use lib.Dec.{eqb, leb→le}
use lib.ListN.{length, length-append, length-drop, take, drop, get_or}
use lib.Seq.{drop-drop, get_or-drop, take_at}
use borrow.Author.Tests.{ne_eqb}
use Rattle.integers.specs.All.{All}
use Rattle.integers.specs.Numbers.{Bytes}
use Rattle.commands.specs.Table.{letter_a, letter_g, size_of_byte}
use Rattle.commands.specs.declared.Command.{Command}
use Rattle.commands.specs.declared.Command.TheVariants.{Variable, Start, Mode, Action, Condition, ModeCondition, ModeEffect, Add, Linear, Term}
use Rattle.commands.specs.declared.Command.TheVariants.{Quotient, Residue, Goal, End, Sum, Refused}
use Rattle.commands.specs.Encoding.{byte_of, encode, encode_all, Fits}
use Rattle.model.specs.Limits.{Limits}
use Rattle.model.specs.ReadingState.{ReadingState, Taken, Going, begin, go_on}
use Rattle.model.specs.Rules.{allowed, tests_of, next_of, onwards, rule_of}
use Rattle.model.specs.Reading.{verdict_of, commands_of, remainders}
use Rattle.model.specs.Decoding.{up_to, actions_of, goal_of, mode_effects_of, additions_of, effects_of}
use Rattle.model.specs.Trail.{Trail}
use Rattle.model.specs.ActionBytes.{edge_of, commands_in, decode_action, all_along}
use Rattle.commands.proofs.Encoding.{read-encode, drop-encode}
use Rattle.model.proofs.Walk.{count}
use Rattle.model.proofs.ReadingLaws.{clash, holds, rule-none, own-goes, end-never-goes}
use Rattle.model.proofs.AcceptedTrail.{Is, accepted-trail}
use Rattle.model.proofs.FileBytes.{file-is-its-commands}
use Rattle.file_actions.specs.Places.{edges_of, goal_part}
use Rattle.file_actions.specs.Places.{EdgesLeft}
use Rattle.file_actions.proofs.Edges.{all_left, at-goal, at-action, at_other}
use Rattle.file_actions.proofs.Walking.{size-positive}

-- ---- what matters of a command here: a command but A, G and Z changes neither the section, nor the actions, nor the goal
record Plain (c : Command) : Type 0 where
  goes_on : (p : ReadingState) → onwards c (next_of p c) ≡ go_on (next_of p c)
  section : (p : ReadingState) → (next_of p c).section ≡ p.section
  actions : (cs : List Command) → actions_of (c ∷ cs) ≡ actions_of cs
  goal : (cs : List Command) → goal_of (c ∷ cs) ≡ goal_of cs
  no_a : byte_of c ≡ letter_a → ⊥
  no_g : byte_of c ≡ letter_g → ⊥

data Kind (c : Command) : Type 0 where
  plain : Plain c → Kind c
  opens : c ≡ Action → Kind c
  closes : c ≡ Goal → Kind c
  never : ((l : Limits) (p : ReadingState) → allowed l p (byte_of c) ≡ true → (rule_of l p c).progress ≡ Going → ⊥) → Kind c

kind : (c : Command) → Kind c
unfolding tests_of next_of
kind (Variable x y w) = plain (record { goes_on = λ p. refl; section = λ p. refl; actions = λ d. refl; goal = λ d. refl; no_a = λ e. omega (arith, e); no_g = λ e. omega (arith, e) })
kind (Start x) = plain (record { goes_on = λ p. refl; section = λ p. refl; actions = λ d. refl; goal = λ d. refl; no_a = λ e. omega (arith, e); no_g = λ e. omega (arith, e) })
kind (Mode x y) = plain (record { goes_on = λ p. refl; section = λ p. refl; actions = λ d. refl; goal = λ d. refl; no_a = λ e. omega (arith, e); no_g = λ e. omega (arith, e) })
kind Action = opens refl
kind (Condition x y w) = plain (record { goes_on = λ p. refl; section = λ p. refl; actions = λ d. refl; goal = λ d. refl; no_a = λ e. omega (arith, e); no_g = λ e. omega (arith, e) })
kind (ModeCondition x y) = plain (record { goes_on = λ p. refl; section = λ p. refl; actions = λ d. refl; goal = λ d. refl; no_a = λ e. omega (arith, e); no_g = λ e. omega (arith, e) })
kind (ModeEffect x y) = plain (record { goes_on = λ p. refl; section = λ p. refl; actions = λ d. refl; goal = λ d. refl; no_a = λ e. omega (arith, e); no_g = λ e. omega (arith, e) })
kind (Add x y) = plain (record { goes_on = λ p. refl; section = λ p. refl; actions = λ d. refl; goal = λ d. refl; no_a = λ e. omega (arith, e); no_g = λ e. omega (arith, e) })
kind (Linear x y) = plain (record { goes_on = λ p. refl; section = λ p. refl; actions = λ d. refl; goal = λ d. refl; no_a = λ e. omega (arith, e); no_g = λ e. omega (arith, e) })
kind (Term x y) = plain (record { goes_on = λ p. refl; section = λ p. refl; actions = λ d. refl; goal = λ d. refl; no_a = λ e. omega (arith, e); no_g = λ e. omega (arith, e) })
kind (Quotient x y w) = plain (record { goes_on = λ p. refl; section = λ p. refl; actions = λ d. refl; goal = λ d. refl; no_a = λ e. omega (arith, e); no_g = λ e. omega (arith, e) })
kind (Residue x y w) = plain (record { goes_on = λ p. refl; section = λ p. refl; actions = λ d. refl; goal = λ d. refl; no_a = λ e. omega (arith, e); no_g = λ e. omega (arith, e) })
kind Goal = closes refl
kind End = never (λ l p a g. end-never-goes l p g)
kind (Sum x y) = plain (record {
  goes_on = λ p. refl;
  section = λ p. refl;
  actions = λ d. refl;
  goal = λ d. refl;
  no_a = λ e. omega (arith, e);
  no_g = λ e. omega (arith, e);
})
kind (Refused n) = never (λ l p a g. clash (sym a))

-- the commands that follow one that is taken
onward : (l : Limits) (p : ReadingState) (c : Command) (cs : List Command) → onwards c (next_of p c) ≡ go_on (next_of p c) → (rule_of l p c).progress ≡ Going → Trail l (rule_of l p c).state cs → Trail l (next_of p c) cs
onward l p c cs n g t =
    let (goes, own) = own-goes l p c g in
    subst (λ (x : ReadingState). Trail l x cs) (ap (λ (x : Taken). x.state) (own ∙ (rule-none p (tests_of l p c) (onwards c (next_of p c)) goes).1 ∙ n)) t

-- no action follows G
none_after : (l : Limits) (cs : List Command) (p : ReadingState) → p.section ≡ 3 → Trail l p cs → length (actions_of cs) ≡ 0
unfolding tests_of next_of
none_after l [] p s t = refl
none_after l (c ∷ cs) p s (a, g, t) = go (kind c) (λ q s' t'. none_after l cs q s' t')
  where
    go : Kind c → ((q : ReadingState) → q.section ≡ 3 → Trail l q cs → length (actions_of cs) ≡ 0) → length (actions_of (c ∷ cs)) ≡ 0
    go (plain k) f = ap length (k.actions cs) ∙ f (next_of p c) (k.section p ∙ s) (onward l p c cs (k.goes_on p) g t)
    go (opens e) f = absurd (omega (arith, leb→le p.section 2 (holds (subst (λ (d : Command). allowed l p (byte_of d) ≡ true) e a))))
    go (closes e) f = absurd (omega (arith, leb→le p.section 2 (holds (subst (λ (d : Command). allowed l p (byte_of d) ≡ true) e a))))
    go (never n) f = absurd (n l p a g)

-- ---- and no effect: E and the numeric effects stand in an action
abbrev pub Quiet : List Command → Type 0
Quiet cs = (mode_effects_of cs ≡ []) × (effects_of cs ≡ []) × (additions_of cs ≡ [])

module _ (p : ReadingState) (s : p.section ≡ 3) where
  no-effect-here : eqb p.section 2 ≡ true → ⊥
  no-effect-here a = clash (sym (rw s at a))

  no-source-effect-here : (b : Bool) → cond b false (eqb p.section 2) ≡ true → ⊥
  no-source-effect-here true a = clash (sym a)
  no-source-effect-here false a = no-effect-here a

quiet-after : (l : Limits) (cs : List Command) (p : ReadingState) → p.section ≡ 3 → Trail l p cs → Quiet (up_to cs)
unfolding tests_of next_of
quiet-after l [] p s t = (refl, refl, refl)
quiet-after l (Variable x y w ∷ cs) p s (a, g, t) = quiet-after l cs (next_of p (Variable x y w)) s (onward l p (Variable x y w) cs refl g t)
quiet-after l (Start x ∷ cs) p s (a, g, t) = quiet-after l cs (next_of p (Start x)) s (onward l p (Start x) cs refl g t)
quiet-after l (Mode x y ∷ cs) p s (a, g, t) = quiet-after l cs (next_of p (Mode x y)) s (onward l p (Mode x y) cs refl g t)
quiet-after l (Action ∷ cs) p s t = (refl, refl, refl)
quiet-after l (Condition x y w ∷ cs) p s (a, g, t) = quiet-after l cs (next_of p (Condition x y w)) s (onward l p (Condition x y w) cs refl g t)
quiet-after l (ModeCondition x y ∷ cs) p s (a, g, t) = quiet-after l cs (next_of p (ModeCondition x y)) s (onward l p (ModeCondition x y) cs refl g t)
quiet-after l (ModeEffect x y ∷ cs) p s (a, g, t) = absurd (no-effect-here p s a)
quiet-after l (Add x y ∷ cs) p s (a, g, t) = absurd (no-effect-here p s a)
quiet-after l (Linear x y ∷ cs) p s (a, g, t) = absurd (no-source-effect-here p s l.restricted a)
quiet-after l (Term x y ∷ cs) p s (a, g, t) = quiet-after l cs (next_of p (Term x y)) s (onward l p (Term x y) cs refl g t)
quiet-after l (Quotient x y w ∷ cs) p s (a, g, t) = absurd (no-source-effect-here p s l.restricted a)
quiet-after l (Residue x y w ∷ cs) p s (a, g, t) = absurd (no-source-effect-here p s l.restricted a)
quiet-after l (Goal ∷ cs) p s t = (refl, refl, refl)
quiet-after l (End ∷ cs) p s (a, g, t) = absurd (end-never-goes l p g)
quiet-after l (Sum x y ∷ cs) p s (a, g, t) = quiet-after l cs (next_of p (Sum x y)) s (onward l p (Sum x y) cs refl g t)
quiet-after l (Refused n ∷ cs) p s (a, g, t) = absurd (clash (sym a))

-- ---- the walk to G
record Found (file : List ℕ) (left : List Command) (edges : List ℕ) : Type 0 where
  place : ℕ
  body : List Command
  fit : All Fits body
  bytes : drop place file ≡ encode_all (Goal ∷ body) ++ encode End
  last : (d : ℕ) → get_or edges (length (actions_of left)) d ≡ place
  long : length edges ≡ suc (length (actions_of left))
  goal : goal_of left ≡ up_to body
  quiet : Quiet (up_to body)

module _ (l : Limits) (file : List ℕ) where
  find : (left : List Command) (p : ReadingState) (at : ℕ) (edges : List ℕ) → p.section ≤ 2 → Trail l p left → All Fits left → drop at file ≡ encode_all left ++ encode End → EdgesLeft file at edges → Found file left edges
  unfolding tests_of next_of
  find [] p at edges s t o w e = absurd (omega (arith, s, t.0))
  find (c ∷ cs) p at edges s (a, g, t) (o, os) w e = go (kind c) (λ q at' edges' s' t' w' e'. find cs q at' edges' s' t' os w' e')
    where
      w₁ : drop at file ≡ encode c ++ (encode_all cs ++ encode End)
      w₁ = w ∙ append_assoc (encode c) (encode_all cs) (encode End)

      there : at < length file
      there = omega (arith, ap length w₁, length-drop at file)

      byte : get_or file at 0 ≡ byte_of c
      byte = sym (get_or-drop at file 0 0 ∙ ap (λ (i : ℕ). get_or file i 0) (add-zero at)) ∙ ap (λ (z : List ℕ). get_or z 0 0) w₁

      behind : drop (at + size_of_byte (get_or file at 0)) file ≡ encode_all cs ++ encode End
      behind = sym (drop-drop (size_of_byte (get_or file at 0)) at file) ∙ ap (drop (size_of_byte (get_or file at 0))) w₁ ∙ ap (λ (b : ℕ). drop (size_of_byte b) (encode c ++ (encode_all cs ++ encode End))) byte ∙ drop-encode c (encode_all cs ++ encode End) o

      Rest : Type 0
      Rest = (q : ReadingState) (at' : ℕ) (edges' : List ℕ) → q.section ≤ 2 → Trail l q cs → drop at' file ≡ encode_all cs ++ encode End → EdgesLeft file at' edges' → Found file cs edges'

      go : Kind c → Rest → Found file (c ∷ cs) edges
      go (plain k) f =
          let F : Found file cs edges = f (next_of p c) (at + size_of_byte (get_or file at 0)) edges (omega (arith, s, k.section p)) (onward l p c cs (k.goes_on p) g t) behind
          (at_other file at edges there (size_of_byte (get_or file at 0)) refl (size-positive (get_or file at 0)) (λ q. k.no_g (sym byte ∙ q)) (λ q. k.no_a (sym byte ∙ q)) e) in
          record {
            place = F.place;
            body = F.body;
            fit = F.fit;
            bytes = F.bytes;
            last = λ d. ap (λ (n : ℕ). get_or edges n d) (ap length (k.actions cs)) ∙ F.last d;
            long = F.long ∙ ap suc (sym (ap length (k.actions cs)));
            goal = k.goal cs ∙ F.goal;
            quiet = F.quiet;
          }
      go (opens q) f =
          let (more, is, left) = at-action file at edges there (size_of_byte (get_or file at 0)) refl (size-positive (get_or file at 0)) (byte ∙ ap byte_of q) e in
          let F : Found file cs more = f (next_of p Action) (at + size_of_byte (get_or file at 0)) more (omega arith) (onward l p Action cs refl (subst (λ (d : Command). (rule_of l p d).progress ≡ Going) q g) (subst (λ (d : Command). Trail l (rule_of l p d).state cs) q t)) behind left in
          subst⁻¹ (λ (d : Command). Found file (d ∷ cs) edges) q (record {
            place = F.place;
            body = F.body;
            fit = F.fit;
            bytes = F.bytes;
            last = λ d. ap (λ (z : List ℕ). get_or z (suc (length (actions_of cs))) d) is ∙ F.last d;
            long = ap length is ∙ ap suc F.long;
            goal = F.goal;
            quiet = F.quiet;
          })
      go (closes q) f =
          let is : edges ≡ at ∷ [] = at-goal file at edges there (byte ∙ ap byte_of q) e in
          let after : Trail l (next_of p Goal) cs =
          onward l p Goal cs refl (subst (λ (d : Command). (rule_of l p d).progress ≡ Going) q g)
          (subst (λ (d : Command). Trail l (rule_of l p d).state cs) q t) in
          let none : length (actions_of cs) ≡ 0 = none_after l cs (next_of p Goal) refl after in
          subst⁻¹ (λ (d : Command). Found file (d ∷ cs) edges) q (record {
            place = at;
            body = cs;
            fit = os;
            bytes = w ∙ ap (λ (d : Command). encode_all (d ∷ cs) ++ encode End) q;
            last = λ d. ap (λ (z : List ℕ). get_or z (length (actions_of cs)) d) is ∙ ap (λ (n : ℕ). get_or (at ∷ []) n d) none;
            long = ap length is ∙ ap suc (sym none);
            goal = refl;
            quiet = quiet-after l cs (next_of p Goal) refl after;
          })
      go (never n) f = absurd (n l p a g)

-- ---- the bytes of commands are read as those commands
in_all : (cs : List Command) (n : ℕ) → length cs ≤ n → All Fits cs → commands_in n (encode_all cs) ≡ cs
unfolding remainders all_along
in_all [] zero h o = refl
in_all [] (suc n) h o = refl
in_all (c ∷ cs) zero h o = absurd (omega (arith, h))
in_all (c ∷ cs) (suc n) h (o, os) =
    rw (ne_eqb (length (encode c ++ encode_all cs)) 0 (λ e. omega (arith, e)), read-encode c (encode_all cs) o, drop-encode c (encode_all cs) o) (ap (λ (z : List Command). c ∷ z) (in_all cs n (omega (arith, h)) os))

module _ (l : Limits) (file : List ℕ) (b : Bytes file) (h : Is (verdict_of l file)) where
  found : Found file (commands_of l file) (edges_of file)
  found =
      let (w, o) = file-is-its-commands l file b h in
      find l file (commands_of l file) begin 0 (edges_of file) (omega arith) (accepted-trail l file h).0 o w (all_left file)

  -- as many edges as actions, and one more
  pub edges-counted : length (edges_of file) ≡ suc (length (actions_of (commands_of l file)))
  edges-counted = found.long

  -- the bytes from G up to Z give the task's goal
  pub goal-decodes : goal_of (commands_of l file) ≡ decode_action (goal_part file (length (actions_of (commands_of l file))))
  unfolding decode_action edge_of
  goal-decodes =
      let F : Found file (commands_of l file) (edges_of file) = found in
      let all : List ℕ = encode_all (Goal ∷ F.body) in
      let from : edge_of file (length (actions_of (commands_of l file))) ≡ F.place = F.last (length file) in
      let n : length (encode_all (Goal ∷ F.body)) ≡ (length file - 1) - F.place = omega (arith, ap length F.bytes, length-drop F.place file, length-append (encode_all (Goal ∷ F.body)) (encode End)) in
      let part : goal_part file (length (actions_of (commands_of l file))) ≡ encode_all (Goal ∷ F.body)
      = ap (λ (at : ℕ). take ((length file - 1) - at) (drop at file)) from ∙ ap (take ((length file - 1) - F.place)) F.bytes ∙ take_at (encode_all (Goal ∷ F.body)) (encode End) ((length file - 1) - F.place) n in
      F.goal
      ∙ ap (λ (cs : List Command). up_to (drop 1 cs))
      (sym (in_all (Goal ∷ F.body) (suc (length (goal_part file (length (actions_of (commands_of l file)))))) (omega (arith, ap length part, count F.body)) ((tt, tt), F.fit)) ∙ ap (commands_in (suc (length (goal_part file (length (actions_of (commands_of l file))))))) (sym part))

  -- and they have no effects
  pub goal-quiet : Quiet (decode_action (goal_part file (length (actions_of (commands_of l file)))))
  goal-quiet = subst Quiet (sym found.goal ∙ goal-decodes) found.quiet
