-- `file_declarations::read` meets its contract: what the commands passed so far declare is stored, and those passed and those
-- from here on are the declarations.
-- Assumes nothing.
use mathlib.Core.Path.{sym, ap, ◌∙◌}
use mathlib.Core.Logic.{◌⊎◌, inl, inr}
use mathlib.Core.Bool.{false≢true}
use Rattle.commands.specs.Table.{size_of_byte}
use Rattle.file_declarations.proofs.Walk.{remains, walk_begins, walk_ends, walk-stops, walk-mode, walk-variable, walk_start}
use Rattle.file_declarations.proofs.Walk.{mode-room, variable-room, start-room}
use Rattle.file_declarations.proofs.read.Goals as goal

neither : {A B : Type 0} → (A → ⊥) → (B → ⊥) → A ⊎ B → ⊥
neither f g (inl a) = f a
neither f g (inr b) = g b

pub loop-at-init : goal.loop-at-init
loop-at-init c = walk_begins _ _ _ _ _ _ _

pub put_mode-modes-requires : goal.put_mode-modes-requires
put_mode-modes-requires c =
    let r = mode-room c.loop-at.invariant c.requires.1 in
    (remains c.args.file.now c.loop-at.at c.loop-at-test.true, c.if-byte-eq77.true, r.0, r.1)

pub loop-at-preserved-then-byte-eq77 : goal.loop-at-preserved-then-byte-eq77
loop-at-preserved-then-byte-eq77 c =
    let size = c.size_of-at.ensures.0 ∙ ap size_of_byte (sym c.if-byte-eq77.true) in
    walk-mode c.loop-at.invariant c.loop-at-test.true size c.size_of-at.ensures.1 c.if-byte-eq77.true c.put_mode-modes.ensures

pub put_variable-variables-requires : goal.put_variable-variables-requires
put_variable-variables-requires c =
    let r = variable-room c.loop-at.invariant c.if-not-restricted.true c.requires.0 in
    (remains c.args.file.now c.loop-at.at c.loop-at-test.true, c.if-byte-eq86.true, r.0, r.1, r.2)

pub loop-at-preserved-then-not-restricted : goal.loop-at-preserved-then-not-restricted
loop-at-preserved-then-not-restricted c =
    let size = c.size_of-at-then-not-restricted.ensures.0 ∙ ap size_of_byte (sym c.if-byte-eq86.true) in
    walk-variable c.loop-at.invariant c.loop-at-test.true size c.size_of-at-then-not-restricted.ensures.1 c.if-not-restricted.true
    c.if-byte-eq86.true c.put_variable-variables.ensures

pub put_start-variables-requires : goal.put_start-variables-requires
put_start-variables-requires c =
    (remains c.args.file.now c.loop-at.at c.loop-at-test.true, c.if-byte-eq85.true, start-room c.loop-at.invariant)

pub loop-at-preserved : goal.loop-at-preserved
loop-at-preserved c =
    let size = c.size_of-at-then-restricted.ensures.0 ∙ ap size_of_byte (sym c.if-byte-eq85.true) in
    walk_start c.loop-at.invariant c.loop-at-test.true size c.size_of-at-then-restricted.ensures.1 c.if-restricted.true c.if-byte-eq85.true
    c.put_start-variables.ensures

pub returns-after-loop-at : goal.returns-after-loop-at
returns-after-loop-at c = walk_ends c.loop-at.invariant c.loop-at-test.false

pub returns-else-byte-eq85 : goal.returns-else-byte-eq85
returns-else-byte-eq85 c =
    walk-stops c.loop-at.invariant c.if-byte-eq77.false
    (λ v e. neither (λ x. false≢true (sym e ∙ x.1)) (λ x. x v) c.else-byte-eq86.either)
    (λ u e. neither (λ x. false≢true (sym x.1 ∙ e)) (λ x. x u) c.else-byte-eq85.either)
