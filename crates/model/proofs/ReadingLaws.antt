-- What the proofs in both directions share, from a task to its file and from a file to its task: rules that go on, the variables and modes that a state
-- knows of, and marks.
-- Assumes nothing.
use mathlib.Core.Path.{◌≡◌, refl, sym, ap, ap₂, ◌∙◌, subst}
use Prim.Native.Nat.{ℕ, zero, suc, ◌+◌, ◌≤◌, ◌<◌}
use native.Mathlib.Omega.{arith}
use mathlib.Core.Bool.{Bool, true, false, cond, not}
use mathlib.Core.List.{List, [], ◌∷◌, ◌++◌}
use lib.ListN.{length, length-append, length-set, get_or, set, replicate, length-map}
use lib.Dec.{T, eqb, leb, ltb, nleb→lt, nltb→le, eqb-zero-suc, eqb-suc-zero, eqb-suc-suc}
use borrow.Author.Tests.{eq-eqb, ne_eqb}
use Rattle.integers.specs.All.{All}
use Rattle.commands.specs.declared.Command.{Command}
use Rattle.commands.specs.declared.Command.TheVariants.{End}
use Rattle.model.specs.Limits.{Limits}
use Rattle.model.specs.Steps.{natural_at}
use Rattle.model.specs.ReadingState.{ReadingState, Taken, Progress, Going, Ended, Stopped, rule, stop, finish, with_mode}
use Rattle.model.specs.Rules.{tests_of, sum_tests, next_of, own_rule_of, rule_of}
use Rattle.model.specs.TaskOk.{keys}
use Rattle.model.proofs.Arrays.{get_set}

-- ---- tests
pub clash : true ≡ false → ⊥
clash e = subst T e tt

no_test : {b : Bool} → b ≡ false → T (not b)
no_test e = subst (λ (x : Bool). T (not x)) (sym e) tt

pub holds : {b : Bool} → b ≡ true → T b
holds e = subst T (sym e) tt

pub over : (a b : ℕ) → leb a b ≡ false → b < a
over a b e = nleb→lt a b (no_test e)

pub up-to : (a b : ℕ) → ltb a b ≡ false → b ≤ a
up-to a b e = nltb→le a b (no_test e)

pub not-zero : (a : ℕ) → eqb a 0 ≡ false → 1 ≤ a
not-zero zero e = absurd (no_test e)
not-zero (suc a) e = omega arith

-- ---- a rule goes on exactly where none of its tests holds
abbrev pub Off : List (Bool × ℕ) → Type 0
Off ts = All (λ (t : Bool × ℕ). t.0 ≡ false) ts

pub rule-go : (p : ReadingState) (ts : List (Bool × ℕ)) (q : Taken) → Off ts → rule p ts q ≡ q
rule-go p [] q o = refl
rule-go p (t ∷ ts) q (o, os) = rw o (rule-go p ts q os)

abbrev pub Goes : Progress → Type 0
Goes Going = Unit {0}
Goes Ended = ⊥
Goes (Stopped n) = ⊥

pub rule-none : (p : ReadingState) (ts : List (Bool × ℕ)) (q : Taken) → (rule p ts q).progress ≡ Going → Off ts × (rule p ts q ≡ q)
rule-none p [] q e = (tt, refl)
rule-none p (t ∷ ts) q e = step t.0 refl e (λ f. rule-none p ts q f)
  where
    step : (b : Bool) → t.0 ≡ b → (cond b (stop p t.1) (rule p ts q)).progress ≡ Going → ((rule p ts q).progress ≡ Going → Off ts × (rule p ts q ≡ q))
        → Off (t ∷ ts) × (cond b (stop p t.1) (rule p ts q) ≡ q)
    step true s f k = absurd (subst Goes (sym f) tt)
    step false s f k = let (o, g) = k f in ((s, o), g)

-- a rule that does not stop is what is taken
abbrev pub Alive : Progress → Type 0
Alive Going = Unit {0}
Alive Ended = Unit {0}
Alive (Stopped n) = ⊥

pub rule-alive : (p : ReadingState) (ts : List (Bool × ℕ)) (q : Taken) → Alive (rule p ts q).progress → rule p ts q ≡ q
rule-alive p [] q h = refl
rule-alive p (t ∷ ts) q h = step t.0 h (rule-alive p ts q)
  where
    step : (b : Bool) → Alive (cond b (stop p t.1) (rule p ts q)).progress → (Alive (rule p ts q).progress → rule p ts q ≡ q)
        → cond b (stop p t.1) (rule p ts q) ≡ q
    step true h k = absurd h
    step false h k = k h

-- ---- a command that is taken is taken by its own rule: no K before it has no T
pub own-alive : (l : Limits) (p : ReadingState) (c : Command) → Alive (rule_of l p c).progress → rule_of l p c ≡ own_rule_of l p c
own-alive l p c = rule-alive p (sum_tests l p c) (own_rule_of l p c)

pub own-goes : (l : Limits) (p : ReadingState) (c : Command) → (rule_of l p c).progress ≡ Going
    → ((own_rule_of l p c).progress ≡ Going) × (rule_of l p c ≡ own_rule_of l p c)
own-goes l p c g = let e : rule_of l p c ≡ own_rule_of l p c = own-alive l p c (subst Alive (sym g) tt) in (sym (ap (λ (t : Taken). t.progress) e) ∙ g, e)

-- Z never goes on: it is taken as the end
pub end-never-goes : (l : Limits) (p : ReadingState) → (rule_of l p End).progress ≡ Going → ⊥
unfolding tests_of next_of
end-never-goes l p g = subst Goes (sym (own-goes l p End g).0) tt

pub end-taken : (l : Limits) (p : ReadingState) → (rule_of l p End).progress ≡ Ended → rule_of l p End ≡ finish p
unfolding tests_of next_of
end-taken l p e = own-alive l p End (subst Alive (sym e) tt)

-- ---- what a state knows of the declarations: n variables, and modes of the sizes
pub record Declared (n : ℕ) (sizes : List ℕ) (count modes : ℕ) (known : List ℕ) : Type 0 where
  pub variables : count ≡ n
  pub mods : modes ≡ length sizes
  pub lengths : length known ≡ 8
  pub sized : (j : ℕ) → natural_at known j ≡ natural_at sizes j

abbrev pub Core : ℕ → List ℕ → ReadingState → Type 0
Core n sizes p = Declared n sizes p.declared.variables p.declared.modes p.declared.sizes

get-snoc : (known : List ℕ) (z j : ℕ) → natural_at (known ++ (z ∷ [])) j ≡ cond (eqb (length known) j) z (natural_at known j)
get-snoc [] z zero = refl
get-snoc [] z (suc j) = rw (eqb-zero-suc j) refl
get-snoc (x ∷ known) z zero = rw (eqb-suc-zero (length known)) refl
get-snoc (x ∷ known) z (suc j) = rw (eqb-suc-suc (length known) j) (get-snoc known z j)

pub core-mode : (n : ℕ) (sizes : List ℕ) (p : ReadingState) (z : ℕ) → length sizes < 8 → Core n sizes p → Core n (sizes ++ (z ∷ [])) (with_mode p z)
core-mode n sizes p z h c = record {
  variables = c.variables;
  mods = ap (λ (k : ℕ). k + 1) c.mods ∙ sym (length-append sizes (z ∷ []));
  lengths = length-set p.declared.sizes p.declared.modes z ∙ c.lengths;
  sized = λ j. get_set p.declared.sizes p.declared.modes j z 0 (omega (arith, h, c.mods, c.lengths)) ∙ ap₂ (λ (m x : ℕ). cond (eqb m j) z x) c.mods (c.sized j) ∙ sym (get-snoc sizes z j);
}

-- ---- marks: what a mark changes, of the numbers that are not marked
abbrev pub Free : List ℕ → List ℕ → Type 0
Free marks ks = All (λ (j : ℕ). get_or marks j 0 ≡ 0) ks

pub zeros : (m k : ℕ) → natural_at (replicate m 0) k ≡ 0
zeros zero k = refl
zeros (suc m) zero = refl
zeros (suc m) (suc k) = zeros m k

pub free-zero : (m : ℕ) (ks : List ℕ) → Free (replicate m 0) ks
free-zero m [] = tt
free-zero m (k ∷ ks) = (zeros m k, free-zero m ks)

flip : (k j : ℕ) → eqb j k ≡ false → eqb k j ≡ false
flip k j e = ne_eqb k j (λ (h : k ≡ j). clash (sym (eq-eqb j k (sym h)) ∙ e))

pub free-set : (marks : List ℕ) (k : ℕ) → k < length marks → (ks : List ℕ) → All (λ (j : ℕ). eqb j k ≡ false) ks → Free marks ks → Free (set marks k 1) ks
free-set marks k h [] a f = tt
free-set marks k h (j ∷ ks) (a, as₁) (f, fs) = (get_set marks k j 1 0 h ∙ ap (λ (b : Bool). cond b 1 (get_or marks j 0)) (flip k j a) ∙ f, free-set marks k h ks as₁ fs)

pub unset : (marks : List ℕ) (k : ℕ) → k < length marks → (ks : List ℕ) → Free (set marks k 1) ks → Free marks ks × All (λ (j : ℕ). eqb j k ≡ false) ks
unset marks k h [] f = (tt, tt)
unset marks k h (j ∷ ks) (f, fs) = let (a, b) = unset marks k h ks fs in let (c, d) = one (eqb k j) refl (sym (get_set marks k j 1 0 h) ∙ f) in ((c, a), (d, b))
  where
    one : (b : Bool) → eqb k j ≡ b → cond b 1 (get_or marks j 0) ≡ 0 → (get_or marks j 0 ≡ 0) × (eqb j k ≡ false)
    one true s e = absurd (omega (arith, e))
    one false s e = (e, flip j k s)

-- ---- lengths
pub length-keys : {A : Type 0} (es : List (ℕ × A)) → length (keys es) ≡ length es
length-keys es = length-map es (λ e. e.0)
