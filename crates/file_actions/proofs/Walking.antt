-- The commands of an action, walked one by one up to the next A or G: what holds of those that are left, from one command to the next.
-- Assumes nothing.
use mathlib.Core.Path.{◌≡◌, refl, ◌∙◌, sym, ap, subst}
use mathlib.Core.Bool.{Bool, true, false, cond}
use mathlib.Core.List.{List, [], ◌∷◌}
use mathlib.Core.Logic.{inl, inr}
use Prim.Native.Nat.{ℕ, zero, suc, ◌+◌, ◌-◌, ◌<◌, ◌≤◌}
use native.Mathlib.Omega.{arith}
use lib.Dec.{ltb, lit<}
use lib.ListN.{length, get_or, take, drop, drop_of_length-le, length-drop}
use lib.Seq.{drop-drop, take_all}
use borrow.Author.Tests.{ne_eqb}
use types.Run.{OneOf}
use Rattle.commands.specs.Table.{rows, row_of, size_of_row, size_of_byte, letter_a, letter_g}
use Rattle.commands.specs.Reading.{command_at}
use Rattle.commands.specs.declared.Command.{Command}
use Rattle.commands.proofs.Known.{whole-as}
use Rattle.model.specs.Reading.{remainders}
use Rattle.model.specs.Decoding.{is_edge, up_to}
use Rattle.model.specs.ActionBytes.{commands_in, decode_action, all_along}
use Rattle.file_actions.specs.Places.{body_start}
use Rattle.file_actions.specs.Taking.{CommandsLeft}

-- ---- the commands in a run of bytes
pub size-positive : (b : ℕ) → 0 < size_of_byte b
unfolding size_of_byte
size-positive b = go (ltb (row_of b) rows)
  where
    go : (t : Bool) → 0 < cond t (size_of_row (row_of b)) 1
    go true = omega arith
    go false = omega arith

-- all but the first
body-left : (s : List ℕ) → CommandsLeft s (body_start s) (drop 1 (commands_in (suc (length s)) s))
unfolding remainders all_along
body-left [] = record { most = 1; enough = omega arith; are = refl }
body-left (b ∷ s) = record { most = suc (length s); enough = omega (arith, size-positive b); are = rw (ne_eqb (suc (length s)) 0 (λ e. omega arith)) }

pub no-command-left : (s : List ℕ) (at : ℕ) (left : List Command) → length s ≤ at → CommandsLeft s at left → left ≡ []
unfolding remainders all_along
no-command-left s at left h e = e.are ∙ nothing e.most
  where
    nothing : (most : ℕ) → commands_in most (drop at s) ≡ []
    nothing zero = refl
    nothing (suc most) = rw (drop_of_length-le s h)

-- what `&s[at..]` holds
tail : (s : List ℕ) (at : ℕ) → take (length s - at) (drop at s) ≡ drop at s
tail s at = take_all (length s - at) (drop at s) (omega (arith, length-drop at s))

-- at a command: `rest` is what remains, and the command there has this size
pub record Turn (s : List ℕ) (at : ℕ) (rest : List ℕ) (size : ℕ) : Type 0 where
  pub inside : at < length s
  pub is : rest ≡ drop at s
  pub sized : size ≡ size_of_byte (get_or rest 0 0)
  pub moves : 0 < size

pub here : {s : List ℕ} {at size : ℕ} → at < length s → size ≡ size_of_byte (get_or (take (length s - at) (drop at s)) 0 0) → 0 < size
    → Turn s at (take (length s - at) (drop at s)) size
here {s} {at} inside sized moves = record { inside = inside; is = tail s at; sized = sized; moves = moves }

-- what is left there is the command, and those that are left behind it
pub next-command : {s : List ℕ} {at : ℕ} {rest : List ℕ} {size : ℕ} → Turn s at rest size → (left : List Command) → CommandsLeft s at left
    → (more : List Command) × (left ≡ command_at rest ∷ more) × CommandsLeft s (at + size) more
unfolding remainders all_along
next-command {s} {at} {rest} {size} t left e = go e.most e.enough e.are
  where
    some : length (drop at s) ≡ 0 → ⊥
    some q = omega (arith, length-drop at s, t.inside)

    sized : size ≡ size_of_byte (get_or (drop at s) 0 0)
    sized = t.sized ∙ ap (λ (l : List ℕ). size_of_byte (get_or l 0 0)) t.is

    go : (most : ℕ) → length s < most + at → left ≡ commands_in most (drop at s)
        → (more : List Command) × (left ≡ command_at rest ∷ more) × CommandsLeft s (at + size) more
    go zero b q = absurd (omega (arith, t.inside))
    go (suc most) b q = (
      commands_in most (drop (at + size) s),
      q ∙ rw (ne_eqb _ 0 some, ← sized, drop-drop size at s, t.is),
      record { most = most; enough = omega (arith, t.moves); are = refl },
    )

-- ---- at an offset, P holds of the commands that are left of the action
pub record Left (s : List ℕ) (at : ℕ) (P : List Command → Type 0) : Type 0 where
  pub left : List Command
  pub there : CommandsLeft s at left
  pub holds : P (up_to left)

pub left-begin : (s : List ℕ) (P : List Command → Type 0) → P (decode_action s) → Left s (body_start s) P
unfolding decode_action
left-begin s P h = record { left = drop 1 (commands_in (suc (length s)) s); there = body-left s; holds = h }

-- after the last command
pub left_end : {s : List ℕ} {at : ℕ} (P : List Command → Type 0) → Left s at P → length s ≤ at → P []
left_end {s} {at} P g h = subst P (ap up_to (no-command-left s at g.left h g.there)) g.holds

module _ {s : List ℕ} {at : ℕ} {rest : List ℕ} {size : ℕ} (t : Turn s at rest size) (P : List Command → Type 0) (g : Left s at P) where
  pub some : 0 < length rest
  some = omega (arith, ap length t.is, length-drop at s, t.inside)

  -- an A or G: nothing more belongs to the action
  ends : is_edge (command_at rest) ≡ true → P []
  ends e =
      let (more, is, there) = next-command t g.left g.there in
      let q : up_to g.left ≡ [] = ap up_to is ∙ ap (λ (b : Bool). cond b [] (command_at rest ∷ up_to more)) e in
      subst P q g.holds

  pub left-edge : OneOf (letter_a ∷ letter_g ∷ []) (get_or rest 0 0) → P []
  left-edge (inl b) = ends (rw (whole-as rest 3 (lit< tt) some b (omega (arith, some))))
  left-edge (inr b) = ends (rw (whole-as rest 12 (lit< tt) some b (omega (arith, some))))

  -- any other command
  pub left-next : is_edge (command_at rest) ≡ false → (Q : List Command → Type 0)
      → ((more : List Command) → CommandsLeft s (at + size) more → P (command_at rest ∷ up_to more) → Q (up_to more)) → Left s (at + size) Q
  left-next inside Q f =
      let (more, is, there) = next-command t g.left g.there in
      let q : up_to g.left ≡ command_at rest ∷ up_to more = ap up_to is ∙ ap (λ (b : Bool). cond b [] (command_at rest ∷ up_to more)) inside in
      record { left = more; there = there; holds = f more there (subst P q g.holds) }
