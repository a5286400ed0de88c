-- `source_ready::put_effects` meets its contract: each turn writes one effect more. Assumes nothing.
use native.Mathlib.Omega.{arith}
use mathlib.Core.List.{[]}
use mathlib.Core.Path.{◌≡◌, refl}
use Prim.Native.Nat.{◌≤◌, ◌<◌}
use lib.ListN.{length}
use Rattle.lists.proofs.Loops.{length-mapped}
use Rattle.model.specs.Limits.{source_limits}
use Rattle.model.specs.TaskOk.{EffectOk}
use Rattle.file_actions.specs.declared.Effect.TheVariants.{None}
use Rattle.file_actions.specs.declared.NumericEffect.{NumericEffect}
use Rattle.file_actions.specs.Views.{numeric_is}
use Rattle.source_ready.proofs.Blocks.{said-counted, said_at, said_of, none-put, one-put, all-put}
use borrow.Author.Rules.{rules}
use Rattle.source_ready.proofs.put_effects.Goals as goal

-- what a place says that holds none
abbrev none : NumericEffect
none = record { effect = None; term_count = 0; terms = [] }

pub loop-e-init : goal.loop-e-init
loop-e-init c =
    let long : length c.args.effects.places ≡ 3 = search (rules, length-mapped) in
    let few : c.args.effects.count ≤ length c.args.effects.places = omega (arith, long, c.requires.2) in
    let counted = said-counted numeric_is none c.args.effects.count c.args.effects.places few in
    none-put (omega (arith, counted, c.requires.2)) c.requires.1 c.args.effects.count counted

pub put_effect-requires : goal.put_effect-requires
put_effect-requires c =
    let h : c.loop-e.e < c.args.effects.count = c.loop-e-test.true in
    let long : length c.args.effects.places ≡ 3 = search (rules, length-mapped) in
    let few : c.args.effects.count ≤ length c.args.effects.places = omega (arith, long, c.requires.2) in (
      omega (arith, h, c.requires.2),
      c.requires.0,
      c.loop-e.invariant.blank,
      said_of numeric_is none c.args.effects.count c.args.effects.places few (EffectOk source_limits c.args.n) c.requires.3 c.loop-e.e h,
    )

pub loop-e-preserved : goal.loop-e-preserved
loop-e-preserved c =
    let h : c.loop-e.e < c.args.effects.count = c.loop-e-test.true in
    let long : length c.args.effects.places ≡ 3 = search (rules, length-mapped) in
    let few : c.args.effects.count ≤ length c.args.effects.places = omega (arith, long, c.requires.2) in
    let counted = said-counted numeric_is none c.args.effects.count c.args.effects.places few in
    one-put c.loop-e.invariant (omega (arith, h, counted))
    (rw (said_at numeric_is none c.args.effects.count c.args.effects.places few c.loop-e.e h) c.put_effect.ensures)

pub returns : goal.returns
returns c =
    let long : length c.args.effects.places ≡ 3 = search (rules, length-mapped) in
    let few : c.args.effects.count ≤ length c.args.effects.places = omega (arith, long, c.requires.2) in
    let counted = said-counted numeric_is none c.args.effects.count c.args.effects.places few in
    all-put c.loop-e.invariant c.args.marks.now c.args.effects.count refl (omega (arith, counted, c.loop-e-test.false))
