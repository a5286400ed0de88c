-- What the rules say of any command, by its byte: the state after it, whether it ends the file, and where it may stand. No clause here is one command's: what
-- holds of the rows is computed over all of them at once.
-- Assumes nothing.
use mathlib.Core.Path.{◌≡◌, refl, sym, ap, ◌∙◌, subst}
use Prim.Native.Nat.{ℕ, ◌+◌, ◌≤◌}
use mathlib.Core.Bool.{Bool, true, false, cond}
use mathlib.Core.List.{List, [], ◌∷◌}
use lib.Dec.{eqb, eqb→eq, leb→le}
use Rattle.commands.specs.Table.{letter_a, letter_t, letter_g, letter_z, letter_k}
use Rattle.commands.specs.declared.Command.{Command}
use Rattle.commands.specs.declared.Command.TheVariants.{End, Refused}
use Rattle.commands.specs.Encoding.{byte_of, NoRefusal}
use Rattle.commands.proofs.Commands.{same, same_row, row-or-refusal, by_byte}
use Rattle.model.specs.Limits.{Limits}
use Rattle.model.specs.ReadingState.{in_action, in_goal, ReadingState, Taken, Progress, Going, Ended, Stopped, rule, stop, finish, go_on}
use Rattle.model.specs.Rules.{allowed, tests_of, next_of, onwards, own_rule_of, rule_of}
use Rattle.model.specs.Decoding.{is_edge}
use Rattle.model.proofs.ReadingLaws.{clash, holds, Off, rule-none, own-alive, own-goes}
pub use Rattle.model.proofs.ReadingLaws.{Alive}

-- ---- a command by its byte
pub has-byte : (c : Command) (b : ℕ) → eqb (byte_of c) b ≡ true → byte_of c ≡ b
has-byte c b e = eqb→eq (byte_of c) b (holds e)

-- neither A nor G
pub no-edge-byte : (c : Command) → is_edge c ≡ false → (eqb (byte_of c) letter_g ≡ false) × (eqb (byte_of c) letter_a ≡ false)
no-edge-byte c e = step (eqb (byte_of c) letter_g) (eqb (byte_of c) letter_a) e
  where
    step : (x y : Bool) → cond x true y ≡ false → (x ≡ false) × (y ≡ false)
    step true y e = absurd (clash e)
    step false y e = (refl, e)

-- A and G stand before the goal
pub edge-stands : (l : Limits) (p : ReadingState) (c : Command) → is_edge c ≡ true → allowed l p (byte_of c) ≡ true → p.section ≤ in_action
edge-stands l p c e a = step (eqb (byte_of c) letter_g) refl e
  where
    step : (x : Bool) → eqb (byte_of c) letter_g ≡ x → cond x true (eqb (byte_of c) letter_a) ≡ true → p.section ≤ in_action
    step true g e = leb→le p.section in_action (holds (sym (ap (allowed l p) (has-byte c letter_g g)) ∙ a))
    step false g e = leb→le p.section in_action (holds (sym (ap (allowed l p) (has-byte c letter_a e)) ∙ a))

-- ---- the state after a command
pub section-after : (p : ReadingState) (c : Command)
    → (next_of p c).section ≡ cond (eqb (byte_of c) letter_g) in_goal (cond (eqb (byte_of c) letter_a) in_action p.section)
unfolding next_of
section-after p = same (λ (c : Command). (next_of p c).section)
    (λ (c : Command). cond (eqb (byte_of c) letter_g) in_goal (cond (eqb (byte_of c) letter_a) in_action p.section))
    (λ x y z. refl) (λ number. refl)

pub actions-after : (p : ReadingState) (c : Command) → (next_of p c).actions ≡ cond (eqb (byte_of c) letter_a) (p.actions + 1) p.actions
unfolding next_of
actions-after p = same (λ (c : Command). (next_of p c).actions) (λ (c : Command). cond (eqb (byte_of c) letter_a) (p.actions + 1) p.actions)
    (λ x y z. refl) (λ number. refl)

pub sums-after : (p : ReadingState) (c : Command) → (next_of p c).sums ≡ cond (eqb (byte_of c) letter_k) (p.sums + 1) p.sums
unfolding next_of
sums-after p = same (λ (c : Command). (next_of p c).sums) (λ (c : Command). cond (eqb (byte_of c) letter_k) (p.sums + 1) p.sums)
    (λ x y z. refl) (λ number. refl)

pub bare-sum-after : (p : ReadingState) (c : Command)
    → (next_of p c).bare_sum ≡ cond (eqb (byte_of c) letter_k) 1 (cond (eqb (byte_of c) letter_t) 0 p.bare_sum)
unfolding next_of
bare-sum-after p = same (λ (c : Command). (next_of p c).bare_sum) (λ (c : Command). cond (eqb (byte_of c) letter_k) 1 (cond (eqb (byte_of c) letter_t) 0 p.bare_sum))
    (λ x y z. refl) (λ number. refl)

-- Z ends the commands; any other goes on
pub onwards-is : (q : ReadingState) (c : Command) → onwards c q ≡ cond (eqb (byte_of c) letter_z) (finish q) (go_on q)
onwards-is q = same (λ (c : Command). onwards c q) (λ (c : Command). cond (eqb (byte_of c) letter_z) (finish q) (go_on q)) (λ x y z. refl) (λ number. refl)

-- a command that is taken: none of its tests holds, and the state after it is the next
pub taken : (l : Limits) (p : ReadingState) (c : Command) → (rule_of l p c).progress ≡ Going → Off (tests_of l p c) × ((rule_of l p c).state ≡ next_of p c)
taken l p c g =
    let (g', own) = own-goes l p c g in
    let (o, e) = rule-none p (tests_of l p c) (onwards c (next_of p c)) g' in
    (o, ap (λ (x : Taken). x.state) (own ∙ e ∙ onwards-is (next_of p c) c) ∙ either_way (eqb (byte_of c) letter_z))
  where
    either_way : (b : Bool) → (cond b (finish (next_of p c)) (go_on (next_of p c))).state ≡ next_of p c
    either_way true = refl
    either_way false = refl

module _ (l : Limits) (p : ReadingState) (c : Command) (g : (rule_of l p c).progress ≡ Going) where
  pub section-taken : (rule_of l p c).state.section ≡ cond (eqb (byte_of c) letter_g) in_goal (cond (eqb (byte_of c) letter_a) in_action p.section)
  section-taken = ap (λ (q : ReadingState). q.section) (taken l p c g).1 ∙ section-after p c

  pub actions-taken : (rule_of l p c).state.actions ≡ cond (eqb (byte_of c) letter_a) (p.actions + 1) p.actions
  actions-taken = ap (λ (q : ReadingState). q.actions) (taken l p c g).1 ∙ actions-after p c

-- ---- a refusal fails the test that it has
pub alive-is-no-refusal : (l : Limits) (p : ReadingState) (c : Command) → Alive (rule_of l p c).progress → NoRefusal c
unfolding tests_of
alive-is-no-refusal l p = row-or-refusal (λ (c : Command). Alive (rule_of l p c).progress → NoRefusal c) (λ c h a. h)
    (λ reason a. subst (λ (x : Taken). Alive x.progress) (own-alive l p (Refused reason) a) a)

-- only a refusal has byte 0
pub has-no-zero : (c : Command) → NoRefusal c → eqb (byte_of c) 0 ≡ false
has-no-zero = same_row (λ (c : Command). eqb (byte_of c) 0) (λ (c : Command). false) (λ x y z. refl)

-- ---- only Z ends
abbrev Ends : Progress → Type 0
Ends Going = ⊥
Ends Ended = Unit {0}
Ends (Stopped n) = ⊥

rule-ends : (p : ReadingState) (ts : List (Bool × ℕ)) (q : Taken) → Ends (rule p ts q).progress → Ends q.progress
rule-ends p [] q h = h
rule-ends p (t ∷ ts) q h = step t.0 h (rule-ends p ts q)
  where
    step : (b : Bool) → Ends (cond b (stop p t.1) (rule p ts q)).progress → (Ends (rule p ts q).progress → Ends q.progress) → Ends q.progress
    step true h f = absurd h
    step false h f = f h

pub end-only : (l : Limits) (p : ReadingState) (c : Command) → (rule_of l p c).progress ≡ Ended → c ≡ End
end-only l p c e = step (eqb (byte_of c) letter_z) refl
    (subst (λ (x : Taken). Ends x.progress) (onwards-is (next_of p c) c) (rule-ends p (tests_of l p c) (onwards c (next_of p c)) own))
  where
    own : Ends (own_rule_of l p c).progress
    own = subst (λ (x : Taken). Ends x.progress) (own-alive l p c (subst Alive (sym e) tt)) (subst Ends (sym e) tt)

    step : (b : Bool) → eqb (byte_of c) letter_z ≡ b → Ends (cond b (finish (next_of p c)) (go_on (next_of p c))).progress → c ≡ End
    step true z h = by_byte c End (alive-is-no-refusal l p c (subst Alive (sym e) tt)) tt (has-byte c letter_z z)
    step false z h = absurd h
